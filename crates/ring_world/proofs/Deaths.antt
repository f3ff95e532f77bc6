-- The deaths and the return of a node among its events, with one event more.
use Rattle.std.proofs.Common.{◌≡◌, ℕ, suc, ◌+◌, ◌<◌, ◌≤◌, List, [], ◌∷◌, ◌++◌, length, Bool, true, false, Option, Some, None}
use Rattle.std.proofs.Common.{refl, ap, sym, ◌∙◌, subst, arith, ⊎_elim, inl, inr}
use Rattle.std.specs.Prelude.{◌⊎◌}
use Rattle.std.proofs.lemmas.Option.{none-some}
use Rattle.run_facts.specs.Accounts.{AreAlive, event_at}
use Rattle.run_facts.specs.Events.{NodeEvent, stamp_at, is_death, is_return}
use Rattle.run_facts.specs.Events.NodeEvent.{Does, Ends, Dies, Returns}
use Rattle.run_facts.proofs.Indexed.{all-at}
use Rattle.run_facts.proofs.Rows.{all-append}
use Rattle.ring_world.proofs.Lists.{length-more, event-old, event-new, old-or-new}

-- the beat of the event of a number
abbrev pub beat_at : {M : Type 0} → List (NodeEvent M) → ℕ → ℕ
beat_at es i = (stamp_at (event_at es i)).beat

-- the event of number i is a return behind a death, two beats later or more
pub record IsBackAt {M : Type 0} (es : List (NodeEvent M)) (i : ℕ) : Type 0 where
  pub last : ℕ
  pub next : i ≡ suc last
  pub died : is_death (event_at es last) ≡ true
  pub apart : beat_at es last + 2 ≤ beat_at es i

-- an event is a death
pub record IsDeathAt {M : Type 0} (es : List (NodeEvent M)) (i : ℕ) : Type 0 where
  pub low : i < length es
  pub died : is_death (event_at es i) ≡ true

-- a node died once at most, and is dead or not, and died in this beat or in none
pub record HasDied {M : Type 0} (dead : Bool) (death : Option ℕ) (es : List (NodeEvent M)) : Type 0 where
  pub never : death ≡ None → AreAlive es
  pub once : (j i : ℕ) → IsDeathAt es j → IsDeathAt es i → j ≡ i
  pub ended : (i : ℕ) → IsDeathAt es i → (i + 1 ≡ length es) ⊎ (is_return (event_at es (i + 1)) ≡ true)
  pub returned : (i : ℕ) → i < length es → is_return (event_at es i) ≡ true → IsBackAt es i
  pub up : dead ≡ false → (i : ℕ) → IsDeathAt es i → i + 1 < length es
  pub final : dead ≡ true → (i : ℕ) × (i + 1 ≡ length es) × (is_death (event_at es i) ≡ true)
  pub when : (d : ℕ) → death ≡ Some d → (i : ℕ) × IsDeathAt es i × (beat_at es i ≡ d)

-- a return is at its stamp
pub return-is : {M : Type 0} (x : NodeEvent M) → is_return x ≡ true → x ≡ Returns (stamp_at x)
return-is (Does i) h = absurd (cc)
return-is (Ends i sends) h = absurd (cc)
return-is (Dies s) h = absurd (cc)
return-is (Returns s) h = refl

pub died-opens : {M : Type 0} → HasDied {M = M} false None []
died-opens = record {
  never = λ _. tt;
  once = λ j i one other. let low = one.low in absurd (omega (arith, low));
  ended = λ i one. let low = one.low in absurd (omega (arith, low));
  returned = λ i low back. absurd (omega (arith, low));
  up = λ _ i one. let low = one.low in absurd (omega (arith, low));
  final = λ dead. absurd (cc);
  when = λ d is. absurd (none-some d is);
}

module _ {M : Type 0} (es : List (NodeEvent M)) (x : NodeEvent M) where
  long : length (es ++ x ∷ []) ≡ suc (length es)
  long = length-more es x

  -- a death among the first is one with one event more
  death-more : (i : ℕ) → IsDeathAt es i → IsDeathAt (es ++ x ∷ []) i
  death-more i one =
      let low = one.low in
      record { low = omega (arith, low, long); died = ap is_death (event-old es (x ∷ []) i low) ∙ one.died }

  beat-more : (i : ℕ) → i < length es → beat_at (es ++ x ∷ []) i ≡ beat_at es i
  beat-more i low = ap (λ (e : NodeEvent M). (stamp_at e).beat) (event-old es (x ∷ []) i low)

  -- and a death is among the first, or is the last
  death-less : (i : ℕ) → IsDeathAt (es ++ x ∷ []) i → IsDeathAt es i ⊎ ((i ≡ length es) × (is_death x ≡ true))
  death-less i one = ⊎_elim
      (λ (old : i < length es). inl (record { low = old; died = sym (ap is_death (event-old es (x ∷ []) i old)) ∙ one.died }))
      (λ (new : i ≡ length es). inr (new, sym (ap is_death (event-new es x i new)) ∙ one.died))
      (old-or-new es x i one.low)

  death-old : is_death x ≡ false → (i : ℕ) → IsDeathAt (es ++ x ∷ []) i → IsDeathAt es i
  death-old lives i one = ⊎_elim
      (λ (old : IsDeathAt es i). old)
      (λ new. let q : true ≡ false = sym new.1 ∙ lives in absurd (cc))
      (death-less i one)

  back-more : (i : ℕ) → i < length es → IsBackAt es i → IsBackAt (es ++ x ∷ []) i
  back-more i low back =
      let next = back.next in
      let first : back.last < length es = omega (arith, next, low) in
      let apart = back.apart in
      let one = beat-more back.last first in
      let two = beat-more i low in
      record {
        last = back.last;
        next = next;
        died = ap is_death (event-old es (x ∷ []) back.last first) ∙ back.died;
        apart = omega (arith, one, two, apart);
      }

  returns-more : ((i : ℕ) → i < length es → is_return (event_at es i) ≡ true → IsBackAt es i)
      → (is_return x ≡ true → IsBackAt (es ++ x ∷ []) (length es))
      → (i : ℕ) → i < length (es ++ x ∷ []) → is_return (event_at (es ++ x ∷ []) i) ≡ true → IsBackAt (es ++ x ∷ []) i
  returns-more old new i low back = ⊎_elim
      (λ (below : i < length es).
      back-more i below (old i below (sym (ap is_return (event-old es (x ∷ []) i below)) ∙ back)))
      (λ (end : i ≡ length es).
      subst (IsBackAt (es ++ x ∷ [])) (sym end) (new (sym (ap is_return (event-new es x i end)) ∙ back)))
      (old-or-new es x i low)

  ended-more : {dead : Bool} {death : Option ℕ} → HasDied dead death es → dead ≡ false → (i : ℕ) → IsDeathAt es i
      → (i + 1 ≡ length (es ++ x ∷ [])) ⊎ (is_return (event_at (es ++ x ∷ []) (i + 1)) ≡ true)
  ended-more h alive i one =
      let up = h.up alive i one in
      ⊎_elim
      (λ (end : i + 1 ≡ length es). absurd (omega (arith, up, end)))
      (λ (back : is_return (event_at es (i + 1)) ≡ true).
      inr (ap is_return (event-old es (x ∷ []) (i + 1) up) ∙ back))
      (h.ended i one)

  when-more : {death : Option ℕ} → ((d : ℕ) → death ≡ Some d → (i : ℕ) × IsDeathAt es i × (beat_at es i ≡ d))
      → (d : ℕ) → death ≡ Some d → (i : ℕ) × IsDeathAt (es ++ x ∷ []) i × (beat_at (es ++ x ∷ []) i ≡ d)
  when-more old d is =
      let one = old d is in
      (one.0, death-more one.0 one.1, beat-more one.0 one.1.low ∙ one.2)

  -- a step of a node that is up
  pub died-step : (dead : Bool) (death : Option ℕ) → HasDied dead death es → dead ≡ false → is_death x ≡ false
      → is_return x ≡ false → HasDied dead death (es ++ x ∷ [])
  died-step dead death h alive lives here = record {
    never = λ none. all-append (λ (e : NodeEvent M). is_death e ≡ false) es (x ∷ []) (h.never none) (lives, tt);
    once = λ j i one other. h.once j i (death-old lives j one) (death-old lives i other);
    ended = λ i one. ended-more h alive i (death-old lives i one);
    returned = returns-more h.returned (λ back. let q : true ≡ false = sym back ∙ here in absurd (cc));
    up = λ lives_on i one. let q = h.up alive i (death-old lives i one) in omega (arith, q, long);
    final = λ is_dead. let q : true ≡ false = sym is_dead ∙ alive in absurd (cc);
    when = when-more h.when;
  }

  -- a death of a node that has never died
  pub died-dies : (dead : Bool) (death : Option ℕ) → HasDied dead death es → dead ≡ false → death ≡ None
      → is_death x ≡ true → is_return x ≡ false → HasDied true (Some (stamp_at x).beat) (es ++ x ∷ [])
  died-dies dead death h alive none died here = record {
    never = λ is. absurd (none-some (stamp_at x).beat (sym is));
    once = λ j i one other. only j one ∙ sym (only i other);
    ended = λ i one. let q = only i one in inl (omega (arith, q, long));
    returned = returns-more h.returned (λ back. let q : true ≡ false = sym back ∙ here in absurd (cc));
    up = λ lives. absurd (cc);
    final = λ _. (length es, omega (arith, long), ap is_death (event-new es x (length es) refl) ∙ died);
    when = λ d is.
        let q : (stamp_at x).beat ≡ d = cc in (
          length es,
          record { low = omega (arith, long); died = ap is_death (event-new es x (length es) refl) ∙ died },
          ap (λ (e : NodeEvent M). (stamp_at e).beat) (event-new es x (length es) refl) ∙ q,
        );
  }
    where
      only : (i : ℕ) → IsDeathAt (es ++ x ∷ []) i → i ≡ length es
      only i one = ⊎_elim
          (λ (old : IsDeathAt es i).
          let q : true ≡ false = sym old.died ∙ all-at (λ (e : NodeEvent M). is_death e ≡ false) es i old.low (h.never none) in
          absurd (cc))
          (λ new. new.0)
          (death-less i one)

  -- a return of a node that is dead
  pub died-returns : (dead : Bool) (death : Option ℕ) (d : ℕ) → HasDied dead death es → dead ≡ true → death ≡ Some d
      → d + 2 ≤ (stamp_at x).beat → is_death x ≡ false → is_return x ≡ true → HasDied false death (es ++ x ∷ [])
  died-returns dead death d h is_dead is apart lives back = record {
    never = λ none. absurd (none-some d (sym none ∙ is));
    once = λ j i one other. h.once j i (death-old lives j one) (death-old lives i other);
    ended = λ i one. behind i (death-old lives i one);
    returned = returns-more h.returned (λ _. record {
      last = last.0;
      next = let q = last.1 in omega (arith, q);
      died = ap is_death (event-old es (x ∷ []) last.0 last-low) ∙ last.2;
      apart = let one = beat-more last.0 last-low in
          let two = ap (λ (e : NodeEvent M). (stamp_at e).beat) (event-new es x (length es) refl) in
          omega (arith, one, two, last-beat, apart);
    });
    up = λ _ i one. let q = (death-old lives i one).low in omega (arith, q, long);
    final = λ again. absurd (cc);
    when = when-more h.when;
  }
    where
      last : (i : ℕ) × (i + 1 ≡ length es) × (is_death (event_at es i) ≡ true)
      last = h.final is_dead

      last-low : last.0 < length es
      last-low = let q = last.1 in omega (arith, q)

      last-at : (i : ℕ) → IsDeathAt es i → i ≡ last.0
      last-at i one = h.once i last.0 one (record { low = last-low; died = last.2 })

      last-beat : beat_at es last.0 ≡ d
      last-beat =
          let one = h.when d is in
          ap (beat_at es) (sym (last-at one.0 one.1)) ∙ one.2

      behind : (i : ℕ) → IsDeathAt es i
          → (i + 1 ≡ length (es ++ x ∷ [])) ⊎ (is_return (event_at (es ++ x ∷ []) (i + 1)) ≡ true)
      behind i one =
          let q = last-at i one in
          let end = last.1 in
          inr (ap is_return (event-new es x (i + 1) (omega (arith, q, end))) ∙ back)
