-- What the events of a history say of the lives that its course gives the nodes.
use Rattle.std.proofs.Common.{◌≡◌, ℕ, zero, suc, ◌+◌, ◌%◌, ◌<◌, ◌≤◌, List, length, Bool, true, false, ◌&&◌, ◌||◌, Option, Some, None, refl, ap, sym, ◌∙◌, subst, arith, cond, ⊎_elim, inl, inr}
use Rattle.std.specs.Prelude.{nat_lt, ◌==◌, is_some, min}
use Rattle.std.proofs.Math.Nat.{mod-lt}
use Rattle.std.proofs.lemmas.Bool.{cases_Bool, cases_eq}
use Rattle.std.proofs.lemmas.Bool.Decides.{nat_tests}
use Rattle.tiger_base.specs.declared.number.Stamp.{Stamp}
use Rattle.tiger_base.specs.declared.message.Note.{Note}
use Rattle.node_kit.specs.declared.course.Course.{Course}
use Rattle.node_kit.specs.declared.journal.Entry.{Entry}
use Rattle.node_kit.specs.Life.{Lifetime, lifetime_of, death_of, cut_of, back_of, acts, ends_in, returns, left_in, cut_by, cut_to}
use Rattle.node_kit.specs.Outputs.{send_count}
use Rattle.node_kit.specs.Steps.{Input, Deed, stamp_of}
use Rattle.node_kit.specs.Steps.Input.{Take, Tick}
use Rattle.run_facts.specs.Events.{NodeEvent, Past, event_of, event_to, is_tick_input, stamp_at, is_death, is_return}
use Rattle.run_facts.specs.Events.NodeEvent.{Does, Ends, Dies, Returns}
use Rattle.run_facts.specs.Histories.{HaveHistory, History, beat, past}
use Rattle.run_facts.specs.Timed.{DieApart}
use Rattle.run_lives.proofs.Alike.{over-event}
use Rattle.proof_answer.proofs.Lifetimes.{life_of, IsLater, not-later, after-later, acts-later, dies-later, idle-later, returns-later, ended-later}
use Rattle.proof_answer.proofs.Lists.{element-of}
use Rattle.ring_world.specs.Laws.{IsPlace}
use Rattle.kept_worlds.specs.Merges.{LivesThrough, MayHappen}
use Rattle.kept_worlds.proofs.Ends.{IsOfLife, dies-in, cut-in}
use Rattle.run_facts.proofs.Passing.{beats_never_fall}
use Rattle.kept_worlds.proofs.Returning.{one-death}

-- ---- what a life makes of one input

or-true : (b : Bool) → (b || true) ≡ true
or-true true = refl
or-true false = refl

-- a tick that is not cut off is in no beat in which the death is to cut one off
pub uncut-tick : {M S : Type 0} (step : S → Input M → Deed M S) (s : Stamp) (x : Past S) → event_of step (Tick s) x ≡ Does (Tick s)
    → ends_in x.life s.beat ≡ false
unfolding event_of cut_to
uncut-tick {M} step s x e = by-left (left_in x.life s.beat) refl e
  where
    by-left : (o : Option ℕ) → left_in x.life s.beat ≡ o
        → event_to {M = M} (Tick s) (cut_by o true (step x.state (Tick s)).outs) ≡ Does (Tick s) → ends_in x.life s.beat ≡ false
    by-left None q e = ap is_some q
    by-left (Some k) q e =
        let outs = (step x.state (Tick s)).outs in
        let some : cut_by (Some k) true outs ≡ Some (min k (send_count outs)) =
        ap (λ b. cond b (Some (min k (send_count outs))) None) (or-true (nat_lt k (send_count outs))) in
        let z : ◌≡◌ {A = NodeEvent M} (Ends (Tick s) (min k (send_count outs))) (Does (Tick s)) =
        sym (ap (event_to {M = M} (Tick s)) some) ∙ e in absurd (cc)

least : (a b : ℕ) → min a b ≤ b
least a b = grind (arith, nat_tests)

abbrev pub sends_in : {M : Type 0} → NodeEvent M → ℕ
sends_in (Does i) = 0
sends_in (Ends i sends) = sends
sends_in (Dies stamp) = 0
sends_in (Returns stamp) = 0

-- no more messages go out than there are
pub few-sends : {M S : Type 0} (step : S → Input M → Deed M S) (i : Input M) (sends : ℕ) (x : Past S)
    → event_of step i x ≡ Ends i sends → sends ≤ send_count (step x.state i).outs
unfolding event_of cut_to
few-sends {M} step i sends x e = by-left (left_in x.life (stamp_of i).beat) e
  where
    by-test : (k : ℕ) (t : Bool)
        → event_to i (cond t (Some (min k (send_count (step x.state i).outs))) None) ≡ Ends i sends
        → sends ≤ send_count (step x.state i).outs
    by-test k true e =
        let q : min k (send_count (step x.state i).outs) ≡ sends = ap (λ (y : NodeEvent M). sends_in y) e in
        let low = least k (send_count (step x.state i).outs) in
        omega (arith, q, low)
    by-test k false e = absurd (cc)

    by-left : (o : Option ℕ) → event_to i (cut_by o (is_tick_input i) (step x.state i).outs) ≡ Ends i sends
        → sends ≤ send_count (step x.state i).outs
    by-left None e = absurd (cc)
    by-left (Some k) e = by-test k (nat_lt k (send_count (step x.state i).outs) || is_tick_input i) e

-- as long as the death has not come it still is to cut the node off
ends-back : (death left back : Option ℕ) (now : Lifetime) (b : ℕ) → IsLater death left back now → now.over ≡ false
    → ends_in (life_of death left back) b ≡ true → ends_in now b ≡ true
ends-back death left back now b later over h =
    let same : ends_in now b ≡ ends_in (record { death = death; left = now.left; back = back; over = false }) b =
    ap (λ (q : Lifetime). ends_in q b) (later.is ∙ ap (λ (o : Bool). record { death = death; left = now.left; back = back; over = o }) over) in
    same ∙ by-death death h
  where
    some-same : (t : Bool) → is_some (cond t now.left None) ≡ is_some (cond t left None)
    some-same true = later.cuts
    some-same false = refl

    by-death : (d : Option ℕ) → ends_in (life_of d left back) b ≡ true
        → ends_in (record { death = d; left = now.left; back = back; over = false }) b ≡ true
    by-death None h = absurd (cc)
    by-death (Some d) h = some-same (b == d && true) ∙ h

module _ {M S : Type 0} (note : M → Note) (step : S → Input M → Deed M S) (c : Course) (given nodes : List S)
    (journals : List (List Entry))
    (one : HaveHistory note step c.plan.params (lifetime_of c) c.beats given nodes journals) where
  abbrev h : History M S
  h = one.history

  pub life-is : (n : ℕ) → n < length given → h.life n ≡ lifetime_of c n
  life-is n low = let s = element-of given n low in (one.theirs.opens n s.0 s.1).1

  pub later : (n i : ℕ) → n < length given → IsLater (death_of c n) (cut_of c n) (back_of c n) (past note step h n i).life
  later n zero low =
      subst (IsLater (death_of c n) (cut_of c n) (back_of c n)) (sym (life-is n low))
      (not-later (death_of c n) (cut_of c n) (back_of c n))
  later n (suc i) low =
      after-later note step (death_of c n) (cut_of c n) (back_of c n) (h.event n i) (past note step h n i) (later n i low)

  -- who returns does so in the beat of its return
  pub back-at : (n i : ℕ) → n < length given → i < h.count n → is_return (h.event n i) ≡ true
      → returns (lifetime_of c n) (beat h n i) ≡ true
  back-at n i low at back = by_event (h.event n i) refl back
    where
      by_event : (e : NodeEvent M) → h.event n i ≡ e → is_return e ≡ true → returns (lifetime_of c n) (beat h n i) ≡ true
      by_event (Does x) is t = absurd (cc)
      by_event (Ends x sends) is t = absurd (cc)
      by_event (Dies s) is t = absurd (cc)
      by_event (Returns s) is t =
          ap (returns (lifetime_of c n)) (ap (λ (e : NodeEvent M). (stamp_at e).beat) is)
          ∙ returns-later (death_of c n) (cut_of c n) (back_of c n) (past note step h n i).life (later n i low) s.beat
          (one.complete.returning n i s low at is)

  -- behind a death comes nothing in the two beats from it on
  behind-death : (n j i : ℕ) → n < length given → j < i → i < h.count n → is_death (h.event n j) ≡ true
      → beat h n j + 2 ≤ beat h n i
  behind-death n j i low before at died = ⊎_elim
      (λ (end : j + 1 ≡ h.count n). absurd (omega (arith, end, before, at)))
      (λ (back : is_return (h.event n (j + 1)) ≡ true).
      let r = one.run.returned n (j + 1) low (omega (arith, before, at)) back in
      let next = r.next in
      let apart = r.apart in
      let same : beat h n r.last ≡ beat h n j =
      ap (beat h n) (let q : r.last ≡ j = omega (arith, next) in q) in
      let up = beats_never_fall one.run n low (j + 1) i (omega (arith, before)) at in
      omega (arith, apart, same, up))
      (one.run.ended n j low (omega (arith, before, at)) died)

  over-none : (n i : ℕ) → n < length given → ((j : ℕ) → j < i → is_death (h.event n j) ≡ false)
      → (past note step h n i).life.over ≡ false
  over-none n zero low alive = ap (λ (q : Lifetime). q.over) (life-is n low)
  over-none n (suc i) low alive =
      over-event note step (h.event n i) (past note step h n i) (alive i (omega arith))
      ∙ over-none n i low (λ j before. alive j (omega (arith, before)))

  -- a death is as the course has it, in the beat of the death
  of-death : (n i : ℕ) → n < length given → i < h.count n → is_death (h.event n i) ≡ true
      → IsOfLife (lifetime_of c n) (h.event n i) × (death_of c n ≡ Some (beat h n i))
  of-death n i low at died = by_event (h.event n i) refl died
    where
      now : IsLater (death_of c n) (cut_of c n) (back_of c n) (past note step h n i).life
      now = later n i low

      by_event : (e : NodeEvent M) → h.event n i ≡ e → is_death e ≡ true
          → IsOfLife (lifetime_of c n) e × (death_of c n ≡ Some (beat h n i))
      by_event (Does x) is t = absurd (cc)
      by_event (Ends x sends) is t =
          let lives = ended-later step (death_of c n) (cut_of c n) (back_of c n) x sends (past note step h n i) now
          (one.complete.ending n i sends x low at is).1 in (
            lives,
            cut-in c n (stamp_at (Ends x sends)).beat lives ∙ ap (λ (e : NodeEvent M). Some (stamp_at e).beat) (sym is),
          )
      by_event (Dies s) is t =
          let both = one.complete.dying n i s low at is in
          let idle = idle-later (death_of c n) (cut_of c n) (back_of c n) (past note step h n i).life now s.beat both.0 both.1 in
          let dead = dies-later (death_of c n) (cut_of c n) (back_of c n) (past note step h n i).life now s.beat both.1 in (
            (idle, dead),
            (dies-in c n s.beat s.beat dead).0 ∙ ap (λ (e : NodeEvent M). Some (stamp_at e).beat) (sym is),
          )
      by_event (Returns s) is t = absurd (cc)

  pub death-at : (n i : ℕ) → n < length given → i < h.count n → is_death (h.event n i) ≡ true
      → death_of c n ≡ Some (beat h n i)
  death-at n i low at died = (of-death n i low at died).1

  -- in the beat of the death nobody has died before
  none-before : (n i : ℕ) → n < length given → i < h.count n → death_of c n ≡ Some (beat h n i) → (j : ℕ) → j < i
      → is_death (h.event n j) ≡ false
  none-before n i low at now j before = ⊎_elim
      (λ (t : is_death (h.event n j) ≡ true).
      let gap = behind-death n j i low before at t in
      let both : ◌≡◌ {A = Option ℕ} (Some (beat h n j)) (Some (beat h n i)) =
      sym (death-at n j low (omega (arith, before, at)) t) ∙ now in
      let same : beat h n j ≡ beat h n i = some-number (beat h n j) (beat h n i) both in
      absurd (omega (arith, gap, same)))
      (λ (t : is_death (h.event n j) ≡ false). t)
      (cases_Bool (is_death (h.event n j)))
    where
      some-number : (x y : ℕ) → Some x ≡ Some y → x ≡ y
      some-number x y e = cc

  -- each event is as the course has it
  pub of-life : (n i : ℕ) → n < length given → i < h.count n → IsOfLife (lifetime_of c n) (h.event n i)
  of-life n i low at = by_event (h.event n i) refl
    where
      now : IsLater (death_of c n) (cut_of c n) (back_of c n) (past note step h n i).life
      now = later n i low

      by_event : (e : NodeEvent M) → h.event n i ≡ e → IsOfLife (lifetime_of c n) e
      by_event (Does (Take s k m)) is =
          let dated : beat h n i ≡ s.beat = ap (λ (e : NodeEvent M). (stamp_at e).beat) is in
          ap (acts (lifetime_of c n)) (sym dated)
          ∙ acts-later (death_of c n) (cut_of c n) (back_of c n) (past note step h n i).life now (beat h n i)
          (one.complete.acting n i (Take s k m) low at is).0
      by_event (Does (Tick s)) is =
          let dated : beat h n i ≡ s.beat = ap (λ (e : NodeEvent M). (stamp_at e).beat) is in
          let both = one.complete.acting n i (Tick s) low at is in (
            ap (acts (lifetime_of c n)) (sym dated)
                ∙ acts-later (death_of c n) (cut_of c n) (back_of c n) (past note step h n i).life now (beat h n i) both.0,
            ⊎_elim
                (λ (t : ends_in (lifetime_of c n) s.beat ≡ true).
                let death = cut-in c n s.beat t ∙ ap (λ (b : ℕ). Some b) (sym dated) in
                let over = over-none n i low (none-before n i low at death) in
                let a = ends-back (death_of c n) (cut_of c n) (back_of c n) (past note step h n i).life s.beat now over t in
                let b = uncut-tick step s (past note step h n i) both.1 in
                let q : true ≡ false = sym a ∙ b in absurd (cc))
                (λ (t : ends_in (lifetime_of c n) s.beat ≡ false). t)
                (cases_Bool (ends_in (lifetime_of c n) s.beat)),
          )
      by_event (Ends x sends) is =
          subst (IsOfLife (lifetime_of c n)) is (of-death n i low at (ap is_death is)).0
      by_event (Dies s) is = subst (IsOfLife (lifetime_of c n)) is (of-death n i low at (ap is_death is)).0
      by_event (Returns s) is =
          ap (returns (lifetime_of c n)) (sym (ap (λ (e : NodeEvent M). (stamp_at e).beat) is))
          ∙ back-at n i low at (ap is_return is)

  pub cut-sends : (n i sends : ℕ) (x : Input M) → n < length given → i < h.count n → h.event n i ≡ Ends x sends
      → sends ≤ send_count (step (past note step h n i).state x).outs
  cut-sends n i sends x low at is =
      few-sends step x sends (past note step h n i) (one.complete.ending n i sends x low at is).1

  -- and is a cub
  pub mortal-cub : (n b : ℕ) → death_of c n ≡ Some b → n < c.plan.params.cubs
  mortal-cub n b death = ⊎_elim
      (λ (t : nat_lt n c.plan.params.cubs ≡ true). grind (arith, nat_tests, t))
      (λ (t : nat_lt n c.plan.params.cubs ≡ false).
      let none : death_of c n ≡ None = rw t refl in
      let q : ◌≡◌ {A = Option ℕ} None (Some b) = sym none ∙ death in absurd (cc))
      (cases_Bool (nat_lt n c.plan.params.cubs))

  lives-on : (n : ℕ) → n < length given → (lifetime_of c n).death ≡ None → LivesThrough h n
  lives-on n low none i at = ⊎_elim
      (λ (t : is_death (h.event n i) ≡ true).
      let q : ◌≡◌ {A = Option ℕ} None (Some (beat h n i)) = sym none ∙ death-at n i low at t in absurd (cc))
      (λ (t : is_death (h.event n i) ≡ false). t)
      (cases_Bool (is_death (h.event n i)))

  -- who dies apart from any event has had none in that beat
  idle-before : (n j i : ℕ) (s : Stamp) → n < length given → j < i → i < h.count n → h.event n i ≡ Dies s
      → beat h n j < beat h n i
  idle-before n j i s low before at is =
      let dead : IsOfLife {M = M} (lifetime_of c n) (Dies s) = subst (IsOfLife (lifetime_of c n)) is (of-life n i low at) in
      let dated : beat h n i ≡ s.beat = ap (λ (e : NodeEvent M). (stamp_at e).beat) is in
      let death = death-at n i low at (ap is_death is) in
      let alive = none-before n i low at death in
      let live = acts-at (h.event n j) (of-life n j low (omega (arith, before, at))) (alive j before) here in
      let up = beats_never_fall one.run n low j i (omega (arith, before)) at in
      ⊎_elim
      (λ (same : beat h n j ≡ beat h n i).
      let q : true ≡ false = sym live ∙ ap (acts (lifetime_of c n)) (same ∙ dated) ∙ dead.0 in absurd (cc))
      (λ (other : beat h n j ≡ beat h n i → ⊥). omega (arith, other, up))
      (cases_eq (beat h n j) (beat h n i))
    where
      acts-at : (e : NodeEvent M) → IsOfLife (lifetime_of c n) e → is_death e ≡ false → is_return e ≡ false
          → acts (lifetime_of c n) (stamp_at e).beat ≡ true
      acts-at (Does (Take s k m)) lives t f = lives
      acts-at (Does (Tick s)) lives t f = lives.0
      acts-at (Ends x sends) lives t f = absurd (cc)
      acts-at (Dies s) lives t f = absurd (cc)
      acts-at (Returns s) lives t f = absurd (cc)

      here : is_return (h.event n j) ≡ false
      here = ⊎_elim
          (λ (t : is_return (h.event n j) ≡ true).
          let one_more = one-death note step c.plan.params (length given) one.history one.run n low i j at (omega (arith, before, at))
          (ap is_death is) t in
          absurd (omega (arith, one_more, before)))
          (λ (f : is_return (h.event n j) ≡ false). f)
          (cases_Bool (is_return (h.event n j)))

  -- so the history may happen
  pub may-happen : IsPlace c.plan.params (length given) c.beats → DieApart c.plan.params (lifetime_of c)
      → MayHappen c.plan.params (length given) c.beats h
  may-happen place apart = record {
    early = one.complete.early;
    cubs = λ n i low at died. mortal-cub n (beat h n i) (death-at n i low at died);
    idle = λ n j i stamp low before at is. idle-before n j i stamp low before at is;
    apart = λ cub low.
        let cubs = place.cubs in
        let next : (cub + 1) % c.plan.params.cubs < c.plan.params.cubs = mod-lt (cub + 1) (omega (arith, low)) in
        ⊎_elim
        (λ none. inl (lives-on cub (omega (arith, low, cubs)) none))
        (λ none. inr (lives-on ((cub + 1) % c.plan.params.cubs) (omega (arith, next, cubs)) none))
        (apart cub low);
  }
