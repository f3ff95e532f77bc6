-- A node's life behind some of its events beside that of its course: it acts, dies and is cut off in no other beat.
use Rattle.std.proofs.Common.{◌≡◌, ℕ, Bool, true, false, Option, Some, None, refl, ap, sym, ◌∙◌, cond, ⊎_elim}
use Rattle.std.specs.Prelude.{◌==◌, ◌&&◌, ◌||◌, nat_lt, nat_le, not, is_some}
use Rattle.std.proofs.lemmas.Bool.{cases_Bool, eqb-true}
use Rattle.tiger_base.specs.declared.message.Note.{Note}
use Rattle.node_kit.specs.Life.{Lifetime, acts, dies, returns, ends_in, fewer}
use Rattle.node_kit.specs.Steps.{Input, Deed, stamp_of}
use Rattle.run_facts.specs.Events.{NodeEvent, Past, after, after_input, after_cut, event_of}
use Rattle.run_facts.specs.Events.NodeEvent.{Does, Ends, Dies, Returns}
use Rattle.run_facts.proofs.Along.{event-unended}

-- a life as a course has it: its death has not come
abbrev pub life_of : Option ℕ → Option ℕ → Option ℕ → Lifetime
life_of death left back = record { death = death; left = left; back = back; over = false }

-- such a life behind some events: it has the same death and the same return, and the death still is to cut the node
-- off, or it never was
pub record IsLater (death left back : Option ℕ) (now : Lifetime) : Type 0 where
  pub is : now ≡ record { death = death; left = now.left; back = back; over = now.over }
  pub cuts : is_some now.left ≡ is_some left

pub not-later : (death left back : Option ℕ) → IsLater death left back (life_of death left back)
not-later death left back = record { is = refl; cuts = refl }

fewer-some : (n : ℕ) (o : Option ℕ) → is_some (fewer n o) ≡ is_some o
fewer-some n None = refl
fewer-some n (Some k) = refl

spent-by : (death left back : Option ℕ) (now : Lifetime) (n : ℕ) (t : Bool) → IsLater death left back now
    → IsLater death left back (cond t (record now { left = fewer n now.left }) now)
spent-by death left back now n true h = record {
  is = ap (λ (q : Lifetime). record q { left = fewer n now.left }) h.is;
  cuts = fewer-some n now.left ∙ h.cuts;
}
spent-by death left back now n false h = h

-- an event leaves it so
pub after-later : {M S : Type 0} (note : M → Note) (step : S → Input M → Deed M S) (death left back : Option ℕ)
    (e : NodeEvent M) (past : Past S) → IsLater death left back past.life
    → IsLater death left back (after note step e past).life
unfolding after_input after_cut
after-later note step death left back (Does i) past h = spent-by death left back past.life _ _ h
after-later note step death left back (Ends i sends) past h =
    record { is = ap (λ (q : Lifetime). record q { over = true }) h.is; cuts = h.cuts }
after-later note step death left back (Dies stamp) past h = h
after-later note step death left back (Returns stamp) past h = h

acts-part : (before now cuts over from : Bool) → (before || (now && (cuts && not over)) || from) ≡ true
    → (before || (now && (cuts && true)) || from) ≡ true
acts-part true now cuts over from h = refl
acts-part false true true over from h = refl
acts-part false true false over from h = h
acts-part false false cuts over from h = h

idle-part : (before now cuts over from : Bool) → (before || (now && (cuts && not over)) || from) ≡ false
    → (now && not cuts) ≡ true → (before || (now && (cuts && true)) || from) ≡ false
idle-part before true true over from idle dead = absurd (cc)
idle-part before true false over from idle dead = idle
idle-part before false cuts over from idle dead = idle

ends-part : (now over : Bool) (left first : Option ℕ) → is_some left ≡ is_some first
    → is_some (cond (now && not over) left None) ≡ true → is_some (cond (now && true) first None) ≡ true
ends-part true true left first same h = absurd (cc)
ends-part true false left first same h = sym same ∙ h
ends-part false over left first same h = absurd (cc)

-- whether a beat is below that of a death, is that one, or is that of a return or later
abbrev is_before : ℕ → Option ℕ → Bool
is_before beat None = true
is_before beat (Some death) = nat_lt beat death

abbrev is_in : ℕ → Option ℕ → Bool
is_in beat None = false
is_in beat (Some death) = beat == death

abbrev is_from : ℕ → Option ℕ → Bool
is_from beat None = false
is_from beat (Some back) = nat_le back beat

acts-by : (death left first back : Option ℕ) (over : Bool) (b : ℕ) → is_some left ≡ is_some first
    → acts (record { death = death; left = left; back = back; over = over }) b ≡ true
    → acts (life_of death first back) b ≡ true
unfolding acts
acts-by death left first back over b same h = rw (sym same)
    (acts-part (is_before b death) (is_in b death) (is_some left) over (is_from b back) h)

dies-by : (death left first back : Option ℕ) (over : Bool) (b : ℕ) → is_some left ≡ is_some first
    → dies (record { death = death; left = left; back = back; over = over }) b ≡ true
    → dies (life_of death first back) b ≡ true
unfolding dies
dies-by death left first back over b same h = rw (sym same) h

idle-by : (death left first back : Option ℕ) (over : Bool) (b : ℕ) → is_some left ≡ is_some first
    → acts (record { death = death; left = left; back = back; over = over }) b ≡ false
    → dies (record { death = death; left = left; back = back; over = over }) b ≡ true
    → acts (life_of death first back) b ≡ false
unfolding acts dies
idle-by death left first back over b same idle dead = rw (sym same)
    (idle-part (is_before b death) (is_in b death) (is_some left) over (is_from b back) idle dead)

returns-by : (death left first back : Option ℕ) (over : Bool) (b : ℕ)
    → returns (record { death = death; left = left; back = back; over = over }) b ≡ returns (life_of death first back) b
unfolding returns
returns-by death left first back over b = refl

module _ (death left back : Option ℕ) (now : Lifetime) (later : IsLater death left back now) (b : ℕ) where
  -- who acts in a beat behind some events acts in it by its course
  pub acts-later : acts now b ≡ true → acts (life_of death left back) b ≡ true
  acts-later h =
      acts-by death now.left left back now.over b later.cuts (sym (ap (λ (q : Lifetime). acts q b) later.is) ∙ h)

  pub dies-later : dies now b ≡ true → dies (life_of death left back) b ≡ true
  dies-later h =
      dies-by death now.left left back now.over b later.cuts (sym (ap (λ (q : Lifetime). dies q b) later.is) ∙ h)

  pub idle-later : acts now b ≡ false → dies now b ≡ true → acts (life_of death left back) b ≡ false
  idle-later idle dead =
      idle-by death now.left left back now.over b later.cuts (sym (ap (λ (q : Lifetime). acts q b) later.is) ∙ idle)
      (sym (ap (λ (q : Lifetime). dies q b) later.is) ∙ dead)

  pub returns-later : returns now b ≡ true → returns (life_of death left back) b ≡ true
  returns-later h =
      sym (returns-by death now.left left back now.over b)
      ∙ sym (ap (λ (q : Lifetime). returns q b) later.is) ∙ h

  pub ends-later : ends_in now b ≡ true → ends_in (life_of death left back) b ≡ true
  ends-later h = ends-part _ now.over now.left left later.cuts (sym (ap (λ (q : Lifetime). ends_in q b) later.is) ∙ h)

-- whose death comes in an event is to be cut off in its beat
pub ended-later : {M S : Type 0} (step : S → Input M → Deed M S) (death left back : Option ℕ) (i : Input M) (sends : ℕ)
    (past : Past S) → IsLater death left back past.life → event_of step i past ≡ Ends i sends
    → ends_in (life_of death left back) (stamp_of i).beat ≡ true
ended-later {M} step death left back i sends past later h = ⊎_elim
    (λ (t : ends_in past.life (stamp_of i).beat ≡ true). ends-later death left back past.life later (stamp_of i).beat t)
    (λ (f : ends_in past.life (stamp_of i).beat ≡ false).
    let q : ◌≡◌ {A = NodeEvent M} (Does i) (Ends i sends) = sym (event-unended step i past f) ∙ h in absurd (cc))
    (cases_Bool (ends_in past.life (stamp_of i).beat))

-- a death cuts its node off in its own beat, and a node returns in the beat of its return
pub ends-when : (death left back : Option ℕ) (b : ℕ) → ends_in (life_of death left back) b ≡ true → death ≡ Some b
ends-when None left back b h = absurd (cc)
ends-when (Some d) left back b h = ⊎_elim
    (λ (t : (b == d) ≡ true). ap Some (sym (eqb-true b d t)))
    (λ (f : (b == d) ≡ false).
    let none : is_some (cond (b == d && true) left None) ≡ false = rw f refl in
    let q : true ≡ false = sym h ∙ none in absurd (cc))
    (cases_Bool (b == d))

pub returns-when : (death left back : Option ℕ) (b : ℕ) → returns (life_of death left back) b ≡ true → back ≡ Some b
unfolding returns
returns-when death left None b h = absurd (cc)
returns-when death left (Some w) b h = ap Some (sym (eqb-true b w h))
