-- Which cubs are up in a worked run, and in which life: the laws of the runner are met.
use Rattle.std.proofs.Common.{◌≡◌, ◌≢◌, ℕ, ◌+◌, ◌*◌, ◌<◌, ◌≤◌, refl, sym, ap, subst, ◌∙◌, arith, ⊎_elim, inl, inr}
use Rattle.std.specs.Prelude.{◌⊎◌, List}
use Rattle.std.proofs.lemmas.Bool.{cases_lt, cases_eq}
use Rattle.slot_plan.specs.Times.{cub_of}
use Rattle.proof_schedule.specs.Facts.{Facts, Ended, LivedTo, DiedBy, IsFirstLife, IsSameLife}
use Rattle.proof_schedule.specs.RunLaws.{RunLaws}
use Rattle.proof_schedule.specs.Logs.{Fact, facts_in, Came, Ticked, Got, Reached, Died, Returned}
use Rattle.proof_service.specs.Example.{plan}
use Rattle.proof_service.proofs.ExampleFacts.{IsState, IsOn, IsWorked, IsTimed}
use Rattle.proof_service.proofs.ExamplePlan.{time_is, cub_2}
use Rattle.proof_service.proofs.ExampleTicks.{on_most}

-- A state goes to cub 1 or cub 2, as its number says.
pub one_or_two : {first k m : ℕ} → IsState first k m → (k ≡ 1) ⊎ (k ≡ 2)
one_or_two w = ⊎_elim (λ a. inl a.0) (λ o. ⊎_elim (λ a. inl a.0) (λ a. inr a.0) o) w

module _ (first long back : ℕ) (log : List Fact)
    (at : IsTimed first long back) (is : IsWorked first long back log) where
  abbrev r : Facts
  r = facts_in log

  -- A cub is up in no beat after the last.
  most : (c b : ℕ) → IsOn long back c b → b < long
  most c b on = let high = at.high in on_most long back (omega arith) c b on

  -- Cub 1 is up in its first 20 beats and since its return.
  on_1 : (b : ℕ) → IsOn long back 1 b → (b < 20) ⊎ (back ≤ b)
  on_1 b on = ⊎_elim
      (λ o. ⊎_elim (λ k. inl k.1) (λ k. absurd (k.0 refl)) o)
      (λ k. inr k.1)
      on

  -- Another cub is up in each beat of the run.
  pub on_other : (c b : ℕ) → c ≢ 1 → b < long → IsOn long back c b
  on_other c b other l = inl (inr (other, l))

  -- Cub 1 alone came back, long before the order.
  pub back_is : {c x : ℕ} → r.Returned c x
      → (c ≡ 1) × (x ≡ back) × (back + 1000 ≤ first * 100)
  back_is {c} {x} h =
      let k = is.its (Returned c x) h in
      let l = k.2 in
      let early : back + 1000 ≤ first * 100 = ⊎_elim
      (λ e. let never = e.1 in absurd (omega arith))
      (λ e. e.0)
      at.when in
      (k.0, k.1, early)

  -- So another cub is in its first life.
  pub first_other : (c b : ℕ) → c ≢ 1 → IsFirstLife r c b
  first_other c b other = λ x h. absurd (other (back_is h).0)

  -- And the beats from the order on are of one life.
  pub same_since : (c x b : ℕ) → first * 100 ≤ x → IsSameLife r c x b
  same_since c x b late = λ y h le.
      let when = (back_is h).1 in
      let early = (back_is h).2 in
      omega arith

  -- While the states go out and come each cub is up.
  on_then : (c b : ℕ) → first * 100 ≤ b → b ≤ first * 100 + 2 → IsOn long back c b
  on_then c b low high =
      let more = at.high in
      ⊎_elim
      (λ (one : c ≡ 1). ⊎_elim
      (λ e. let early = e.0 in inl (inl (one, omega arith)))
      (λ e. let early = e.0 in inr (one, omega arith, omega arith))
      at.when)
      (λ other. on_other c b other (omega arith))
      (cases_eq c 1)

  -- A cub that is up was so in each lower beat of that life.
  pub on_before : (c x y b : ℕ) → IsOn long back c b → IsSameLife r c x b → x ≤ y → y ≤ b
      → IsOn long back c y
  on_before c x y b on same low high = ⊎_elim
      (λ o. ⊎_elim
      (λ k. let l = k.1 in inl (inl (k.0, omega arith)))
      (λ k. let l = k.1 in inl (inr (k.0, omega arith)))
      o)
      (λ k.
      let late = k.1 in
      let l = k.2 in
      let returned = subst (λ v. r.Returned v back) (sym k.0) (is.returned (omega arith)) in
      let m = same back returned late in
      inr (k.0, omega arith, omega arith))
      on

  -- A cub that is up ends the beat.
  pub ended : (c b : ℕ) → c < 8 → IsOn long back c b → Ended r c b
  ended c b small on = record { reading = b * 10000; ticked = is.ticked c b small on }

  -- Cub 1 died.
  died_1 : {c : ℕ} (b : ℕ) → c ≡ 1 → 20 ≤ b → DiedBy r c b
  died_1 b one late =
      record { beat = 20; died = rw one (is.few (Died 1 20) (14, omega arith, refl)); by = late }

  -- Each cub has ended each beat of the run in its first life, or has died.
  pub goes_on : (c b : ℕ) → c < 8 → b < long → LivedTo r c b ⊎ DiedBy r c b
  goes_on c b small l = ⊎_elim
      (λ (one : c ≡ 1). ⊎_elim
      (λ (early : b < 20).
      let o = ended c b small (inl (inl (one, early))) in
      let before : IsFirstLife r c b =
      λ x h. let death = at.death in let k = (back_is h).1 in omega arith in
      inl (record { reading = o.reading; ticked = o.ticked; first = before }))
      (λ (late : 20 ≤ b). inr (died_1 b one late))
      (cases_lt b 20))
      (λ other.
      let o = ended c b small (on_other c b other l) in
      inl (record { reading = o.reading; ticked = o.ticked; first = first_other c b other }))
      (cases_eq c 1)

  -- A cub that is up after the death of cub 1, as that, has come back.
  returned_1 : {c a b : ℕ} → r.Came c b → r.Died c a → a < b
      → (c ≡ 1) × r.Returned c back × (a < back) × (back ≤ b)
  returned_1 {c} {a} {b} h d less =
      let k = is.its (Came c b) h in
      let o = is.its (Died c a) d in
      let when = o.1 in
      let death = at.death in
      let on : IsOn long back 1 b = subst (λ v. IsOn long back v b) o.0 k.1 in
      let l = most 1 b on in
      let late : back ≤ b = ⊎_elim (λ e. absurd (omega arith)) (λ e. e) (on_1 b on) in
      let returned = is.returned (omega arith) in
      (o.0, subst (λ v. r.Returned v back) (sym o.0) returned, omega arith, late)

  -- The runner and the clocks.
  pub runs : RunLaws plan r
  runs = record {
    came = λ {c} {b} {l} h. let k = is.its (Ticked c b l) h in is.came c b k.0 k.1;
    up = λ {c} {b} {d} {a} h less small.
        let l = most c b (is.its (Came c b) h).1 in
        goes_on d a small (omega arith);
    last = λ {c} {b} {a} h d always. ⊎_elim
        (λ (less : a < b).
        let k = returned_1 h d less in
        let l = always back k.1 in
        let late = k.3 in
        absurd (omega arith))
        (λ (fine : b ≤ a). fine)
        (cases_lt a b);
    again = λ {c} {b} {a} h d less.
        let k = returned_1 h d less in
        (back, k.1, k.2, k.3);
    returned = λ {c} {w} h.
        let k = back_is h in
        let when = k.1 in
        let death = at.death in
        died_1 w k.0 (omega arith);
    returns = λ c b. ⊎_elim
        (λ (early : b < back). inl (λ x h. let k = (back_is h).1 in omega arith))
        (λ (late : back ≤ b). ⊎_elim
        (λ (one : c ≡ 1). ⊎_elim
        (λ (l : back < long). inr (record {
          beat = back;
          returned = subst (λ v. r.Returned v back) (sym one) (is.returned l);
          by = late;
          last = λ x h le. let k = (back_is h).1 in omega arith;
        }))
        (λ (never : long ≤ back). inl (λ x h.
        let l = (is.its (Returned c x) h).2 in
        absurd (omega arith)))
        (cases_lt back long))
        (λ other. inl (first_other c b other))
        (cases_eq c 1))
        (cases_lt b back);
    apart = λ {c} {d} {a} {b} h k e.
        let one = (is.its (Died c a) h).0 in
        let same = (is.its (Died d b) k).0 in
        let sum : c + 1 ≡ 2 = omega arith in
        let two = ap (λ v. cub_of plan v) sum ∙ cub_2 in
        omega arith;
    got_ended = λ {c} {m} {y} {b} {t} h l same.
        let k = is.its (Got c t m y) h in
        let when = k.1 in
        let which = one_or_two {first = first} k.2 in
        let small : c < 8 = ⊎_elim (λ e. omega arith) (λ e. omega arith) which in
        let on = on_then c y (omega arith) (omega arith) in
        ended c b small (on_before c b b y on same (omega arith) (omega arith));
    reached_ended = λ {c} {v} {y} {b} h l same. absurd (is.its (Reached c v y) h);
    reads = λ {c} {b} {l} h.
        let k = is.its (Ticked c b l) h in
        let reading = k.2 in
        let t = time_is b in
        (omega arith, omega arith);
  }
