-- The facts of the worked run with a return are those of a run of 1950 beats with one in beat 60.
use Rattle.std.proofs.Common.{◌≡◌, ◌≢◌, ℕ, zero, suc, ◌+◌, ◌-◌, ◌*◌, ◌<◌, ◌≤◌, refl, sym, ap, subst, ◌∙◌, arith, ⊎_elim, inl, inr, eq-or-lt_of_le}
use Rattle.std.specs.Prelude.{◌⊎◌, List, [], ◌∷◌, ◌++◌}
use Rattle.std.specs.List.{AllByRecursion, Contains, All}
use Rattle.std.proofs.lemmas.List.Elements.{All-from_recursion, All-append, All-contains, Contains-append_left, Contains-append_right}
use Rattle.slot_plan.specs.Times.{cub_of, disk_of}
use Rattle.proof_schedule.specs.Facts.{Facts}
use Rattle.proof_schedule.specs.Logs.{Fact, facts_in, Came, Ticked, Returned, Beat, Heard}
use Rattle.proof_service.specs.Example.{plan, all_ticks}
use Rattle.proof_service.specs.ReturnExample.{beats_of, heard_of, second_life, few_facts, one_run}
use Rattle.proof_service.proofs.ExampleFacts.{IsAtFirst, IsOn, IsIts, few_from, few_its, IsWorked, IsTimed}
use Rattle.proof_service.proofs.ExamplePlan.{cub_1}
use Rattle.proof_service.proofs.ExampleTicks.{IsUp, AreBeatsOf, ticks_are_its, up_first, hears_first}

-- How long cubs are up in their first lives, and how long they are heard.
beats_are : AreBeatsOf 1950 beats_of heard_of
unfolding beats_of heard_of
beats_are = record { up = up; heard_next = heard_next }
  where
    up : (c : ℕ) → ((c ≡ 1) × (beats_of c ≡ 20)) ⊎ ((c ≢ 1) × (beats_of c ≡ 1950))
    up zero = inr (λ e. omega arith, refl)
    up (suc zero) = inl (refl, refl)
    up (suc (suc c)) = inr (λ e. omega arith, refl)

    heard_next : (c : ℕ) → ((c ≡ 0) × (heard_of c ≡ 19))
        ⊎ (((c ≡ 1) × (heard_of c ≡ 20)) ⊎ ((2 ≤ c) × (heard_of c + 1 ≡ 1950)))
    heard_next zero = inl (refl, refl)
    heard_next (suc zero) = inr (inl (refl, refl))
    heard_next (suc (suc c)) = inr (inr (omega arith, refl))

-- The facts of such a run.
abbrev IsOne : Fact → Type 0
IsOne = IsIts 16 1950 60

-- Each fact of cub 1's second life is one of them.
second_its : (n : ℕ) → n ≤ 1890 → AllByRecursion IsOne (second_life n)
unfolding second_life
second_its zero le = tt
second_its (suc b) le =
    let small : 1 < 8 = omega arith in
    let on : IsOn 1950 60 1 (60 + b) = inr (refl, omega arith, omega arith) in
    let sent : IsAtFirst 1950 0 (59 + b) = inr (λ e. omega arith, omega arith) in
    let heard : IsOne (Heard 1 (60 + b)) =
    (0, 59 + b, omega arith, sent, sym cub_1, omega arith, on) in
    ((small, on), ((small, on, refl), (heard, second_its b (omega arith))))

-- So all facts of the run are.
all_its : All IsOne one_run
unfolding one_run
all_its = All-append IsOne few_facts (second_life 1890 ++ all_ticks beats_of heard_of 8)
    (All-from_recursion IsOne few_facts ((refl, refl, omega arith), few_its 16 1950 60))
    (All-append IsOne (second_life 1890) (all_ticks beats_of heard_of 8)
    (All-from_recursion IsOne (second_life 1890) (second_its 1890 (omega arith)))
    (ticks_are_its 16 1950 60 (omega arith) beats_of heard_of beats_are 8 (omega arith)))

-- In its second life cub 1 comes to its tick in beat b, ends it, and hears of cub 0.
record IsBackUp (log : List Fact) (b : ℕ) : Type 0 where
  came : Contains log (Came 1 b)
  ticked : Contains log (Ticked 1 b (b * 10000))
  hears : Contains log (Heard 1 b)

-- It does so in each of its n beats.
back_in : (n k : ℕ) → k < n → IsBackUp (second_life n) (60 + k)
unfolding second_life
back_in zero k l = absurd (omega arith)
back_in (suc n) k l = ⊎_elim
    (λ (e : k ≡ n). subst (λ v. IsBackUp (second_life (suc n)) (60 + v)) (sym e) (record {
      came = (0, omega arith, refl);
      ticked = (1, omega arith, refl);
      hears = (2, omega arith, refl);
    }))
    (λ (j : k < n).
    let o = back_in n k j in
    let b = 60 + k in
    let head = Came 1 (60 + n) ∷ Ticked 1 (60 + n) ((60 + n) * 10000) ∷ Heard 1 (60 + n) ∷ [] in
    record {
      came = Contains-append_right head (second_life n) (Came 1 b) o.came;
      ticked = Contains-append_right head (second_life n) (Ticked 1 b (b * 10000)) o.ticked;
      hears = Contains-append_right head (second_life n) (Heard 1 b) o.hears;
    })
    (eq-or-lt_of_le (let le : k ≤ n = omega arith in le))

-- So it does in each beat from beat 60 on.
back_up : (b : ℕ) → 60 ≤ b → b < 1950 → IsBackUp (second_life 1890) b
back_up b low high =
    let sum : 60 + (b - 60) ≡ b = omega arith in
    subst (λ v. IsBackUp (second_life 1890) v) sum (back_in 1890 (b - 60) (omega arith))

-- What is among the few facts, in the second life or among the ticks is in the run.
few_in : (f : Fact) → Contains few_facts f → Contains one_run f
unfolding one_run
few_in f h = Contains-append_left few_facts (second_life 1890 ++ all_ticks beats_of heard_of 8) f h

second_in : (f : Fact) → Contains (second_life 1890) f → Contains one_run f
unfolding one_run
second_in f h =
    Contains-append_right few_facts (second_life 1890 ++ all_ticks beats_of heard_of 8) f
    (Contains-append_left (second_life 1890) (all_ticks beats_of heard_of 8) f h)

ticks_in : (f : Fact) → Contains (all_ticks beats_of heard_of 8) f → Contains one_run f
unfolding one_run
ticks_in f h =
    Contains-append_right few_facts (second_life 1890 ++ all_ticks beats_of heard_of 8) f
    (Contains-append_right (second_life 1890) (all_ticks beats_of heard_of 8) f h)

-- In each beat of its first life a cub is up.
up : (c b : ℕ) → c < 8 → IsAtFirst 1950 c b → IsUp (all_ticks beats_of heard_of 8) c b
up c b small at = up_first 16 1950 60 (omega arith) beats_of heard_of beats_are c b small at

-- So the log is that of such a run.
pub worked : IsWorked 16 1950 60 one_run
worked = record {
  its = λ f h. All-contains IsOne one_run f all_its h;
  few = λ f h. few_in f (Contains-append_right (Returned 1 60 ∷ []) (few_from 16) f h);
  came = λ c b small on. ⊎_elim
      (λ at. ticks_in (Came c b) (up c b small at).came)
      (λ k. rw k.0 (second_in (Came 1 b) (back_up b k.1 k.2).came))
      on;
  ticked = λ c b small on. ⊎_elim
      (λ at. ticks_in (Ticked c b (b * 10000)) (up c b small at).ticked)
      (λ k. rw k.0 (second_in (Ticked 1 b (b * 10000)) (back_up b k.1 k.2).ticked))
      on;
  beats = λ c b small at. ticks_in (Beat c b) (up c b small at).beats;
  hears = λ a x small at on. ⊎_elim
      (λ h. ticks_in (Heard (cub_of plan (a + 1)) (x + 1)) h)
      (λ k.
      let heard = second_in (Heard 1 (x + 1)) (back_up (x + 1) k.1 k.2).hears in
      let next : cub_of plan (a + 1) ≡ 1 = ap (λ v. cub_of plan (v + 1)) k.0 ∙ cub_1 in
      subst (λ v. Contains one_run (Heard v (x + 1))) (sym next) heard)
      (hears_first 16 1950 60 (omega arith) beats_of heard_of beats_are a x small at on);
  returned = λ l. few_in (Returned 1 60) (0, omega arith, refl);
}

-- And its numbers are right.
pub timed : IsTimed 16 1950 60
unfolding cub_of disk_of
timed = record {
  first_cub = refl;
  second_cub = refl;
  third_cub = refl;
  disk = refl;
  high = omega arith;
  death = omega arith;
  when = inr (omega arith, omega arith);
}

abbrev pub r : Facts
r = facts_in one_run
