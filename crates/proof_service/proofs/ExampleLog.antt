-- The facts of the worked run with a death are those of a run of 350 beats in which nobody returns.
use Rattle.std.proofs.Common.{◌≡◌, ◌≢◌, ℕ, zero, suc, ◌+◌, ◌*◌, ◌<◌, ◌≤◌, refl, arith, ⊎_elim, inl, inr}
use Rattle.std.specs.Prelude.{◌⊎◌}
use Rattle.std.specs.List.{Contains, All}
use Rattle.std.proofs.lemmas.List.Elements.{All-from_recursion, All-append, All-contains, Contains-append_left, Contains-append_right}
use Rattle.slot_plan.specs.Times.{cub_of, disk_of}
use Rattle.proof_schedule.specs.Facts.{Facts}
use Rattle.proof_schedule.specs.Logs.{Fact, facts_in, Came, Ticked, Beat, Heard}
use Rattle.proof_service.specs.Example.{plan, beats_of, heard_of, all_ticks, few_facts, one_run}
use Rattle.proof_service.proofs.ExampleFacts.{IsAtFirst, IsOn, IsIts, few_its, IsWorked, IsTimed}
use Rattle.proof_service.proofs.ExampleTicks.{IsUp, AreBeatsOf, ticks_are_its, up_first, hears_first}

-- How long cubs are up, and how long they are heard.
beats_are : AreBeatsOf 350 beats_of heard_of
unfolding beats_of heard_of
beats_are = record { up = up; heard_next = heard_next }
  where
    up : (c : ℕ) → ((c ≡ 1) × (beats_of c ≡ 20)) ⊎ ((c ≢ 1) × (beats_of c ≡ 350))
    up zero = inr (λ e. omega arith, refl)
    up (suc zero) = inl (refl, refl)
    up (suc (suc c)) = inr (λ e. omega arith, refl)

    heard_next : (c : ℕ) → ((c ≡ 0) × (heard_of c ≡ 19))
        ⊎ (((c ≡ 1) × (heard_of c ≡ 20)) ⊎ ((2 ≤ c) × (heard_of c + 1 ≡ 350)))
    heard_next zero = inl (refl, refl)
    heard_next (suc zero) = inr (inl (refl, refl))
    heard_next (suc (suc c)) = inr (inr (omega arith, refl))

-- All facts of the run are those of such a run.
all_its : All (IsIts 0 350 350) one_run
unfolding one_run
all_its = All-append (IsIts 0 350 350) few_facts (all_ticks beats_of heard_of 8)
    (All-from_recursion (IsIts 0 350 350) few_facts (few_its 0 350 350))
    (ticks_are_its 0 350 350 (omega arith) beats_of heard_of beats_are 8 (omega arith))

-- What is among the ticks is in the run.
ticks_in : (f : Fact) → Contains (all_ticks beats_of heard_of 8) f → Contains one_run f
unfolding one_run
ticks_in f h = Contains-append_right few_facts (all_ticks beats_of heard_of 8) f h

-- In each beat of its first life a cub is up.
up : (c b : ℕ) → c < 8 → IsAtFirst 350 c b → IsUp (all_ticks beats_of heard_of 8) c b
up c b small at = up_first 0 350 350 (omega arith) beats_of heard_of beats_are c b small at

-- And it has no other life.
only_first : (c b : ℕ) → IsOn 350 350 c b → IsAtFirst 350 c b
only_first c b on = ⊎_elim
    (λ at. at)
    (λ k. let low = k.1 in let high = k.2 in absurd (omega arith))
    on

-- So the log is that of such a run, in which nobody returns.
pub worked : IsWorked 0 350 350 one_run
unfolding one_run
worked = record {
  its = λ f h. All-contains (IsIts 0 350 350) one_run f all_its h;
  few = λ f h. Contains-append_left few_facts (all_ticks beats_of heard_of 8) f h;
  came = λ c b small on. let at = only_first c b on in ticks_in (Came c b) (up c b small at).came;
  ticked = λ c b small on.
      let at = only_first c b on in
      ticks_in (Ticked c b (b * 10000)) (up c b small at).ticked;
  beats = λ c b small at. ticks_in (Beat c b) (up c b small at).beats;
  hears = λ a x small at on. ⊎_elim
      (λ h. ticks_in (Heard (cub_of plan (a + 1)) (x + 1)) h)
      (λ k. let low = k.1 in let high = k.2 in absurd (omega arith))
      (hears_first 0 350 350 (omega arith) beats_of heard_of beats_are a x small at on);
  returned = λ l. absurd (omega arith);
}

-- And its numbers are right.
pub timed : IsTimed 0 350 350
unfolding cub_of disk_of
timed = record {
  first_cub = refl;
  second_cub = refl;
  third_cub = refl;
  disk = refl;
  high = omega arith;
  death = omega arith;
  when = inl (omega arith, refl);
}

abbrev pub r : Facts
r = facts_in one_run
