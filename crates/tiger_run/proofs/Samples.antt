-- What the runs and the answers of the worked rows are, and are not.
use Rattle.std.proofs.Common.{◌≡◌, ℕ, ◌<◌, ◌≤◌, ◌^◌, List, [], refl, sym, subst, ◌∙◌, arith, inl, inr}
use Rattle.std.specs.Prelude.{◌≢◌}
use Rattle.node_kit.specs.declared.course.Kept.{Kept}
use Rattle.outside.specs.Told.{FilesState}
use Rattle.scenario_read.specs.declared.scenario.Scenario.{Scenario}
use Rattle.scenario_make.specs.Made.{made_library}
use Rattle.tiger_input.specs.Samples.{runs, makes, here}
use Rattle.tiger_input.proofs.Samples.{run_is, make_is, run_is_no_make, make_is_no_run, nothing_is_no_run, nothing_is_no_make, some_workers}
use Rattle.tiger_run.specs.Ending.{IsRunOf, IsNamedRun, IsMadeRun, IsAskedRun}
use Rattle.tiger_run.specs.Answers.{AskTheSame, IsTheAnswer}

-- ---- runs

module _ (G : Type 0) (old new : FilesState) (k : Kept) where
  pub asked_by_name : (workers : ℕ) → 1 ≤ workers → workers ≤ 64 → IsNamedRun G old new here k → IsAskedRun G old new (runs here workers) k
  asked_by_name workers some few run = inl (here, workers, some_workers here workers some few, run)

  pub asked_by_number : (number : ℕ) → number < 2 ^ 64 → IsMadeRun G number k → IsAskedRun G old new (makes number) k
  asked_by_number number small run = inr (number, record { form = refl; fits = small }, run)

  pub asks_few : (workers : ℕ) → workers < 2 ^ 64 → IsAskedRun G old new (runs here workers) k → (1 ≤ workers) × (workers ≤ 64)
  asks_few workers small (inl run) =
      let same = (run_is here run.0 workers run.1 run.2 small).1 in
      let some = run.2.some in
      let few = run.2.few in
      (omega (arith, same, some), omega (arith, same, few))
  asks_few workers small (inr make) = absurd (run_is_no_make here workers make.0 make.1)

  pub asks_its_name : (workers : ℕ) → workers < 2 ^ 64 → IsAskedRun G old new (runs here workers) k → IsNamedRun G old new here k
  asks_its_name workers small (inl run) =
      subst (λ (n : List ℕ). IsNamedRun G old new n k) (sym (run_is here run.0 workers run.1 run.2 small).0) run.3
  asks_its_name workers small (inr make) = absurd (run_is_no_make here workers make.0 make.1)

  pub asks_its_number : (number : ℕ) → number < 2 ^ 64 → IsAskedRun G old new (makes number) k → IsMadeRun G number k
  asks_its_number number small (inl run) = absurd (make_is_no_run number run.1 run.0 run.2)
  asks_its_number number small (inr make) =
      subst (λ (n : ℕ). IsMadeRun G n k) (sym (make_is number make.0 make.1 small)) make.2

  pub nothing_asked : IsAskedRun G old new [] k → ⊥
  nothing_asked (inl run) = nothing_is_no_run run.1 run.0 run.2
  nothing_asked (inr make) = nothing_is_no_make make.0 make.1

  -- A run that was asked for is the run of a scenario over files.
  pub run_of : (words : List (List ℕ)) → IsAskedRun G old new words k → (s : Scenario) × (library : List (List ℕ)) × IsRunOf G s library k
  run_of words (inl run) = (run.3.inputs.scenario, run.3.inputs.library, run.3.run)
  run_of words (inr make) = (make.2.scenario, made_library make.0, make.2.run)

-- ---- answers

pub same_number : (m n : ℕ) → m < 2 ^ 64 → n < 2 ^ 64 → AskTheSame (makes m) (makes n) → m ≡ n
same_number m n small few (inl run) = absurd (make_is_no_run m run.1 run.0 run.3)
same_number m n small few (inr make) = make_is m make.0 make.1 small ∙ sym (make_is n make.0 make.2 few)

pub same_name : (name other : List ℕ) (m n : ℕ) → m < 2 ^ 64 → n < 2 ^ 64 → AskTheSame (runs name m) (runs other n) → (name ≡ other) × (n ≤ 64)
same_name name other m n small few (inl run) =
    let first = run_is name run.0 m run.1 run.3 small in
    let second = run_is other run.0 n run.2 run.4 few in
    let number = second.1 in
    let most = run.4.few in
    (first.0 ∙ sym second.0, omega (arith, number, most))
same_name name other m n small few (inr make) = absurd (run_is_no_make name m make.0 make.1)

pub not_both : (name : List ℕ) (m number : ℕ) → AskTheSame (runs name m) (makes number) → ⊥
not_both name m number (inl run) = make_is_no_run number run.2 run.0 run.4
not_both name m number (inr make) = run_is_no_make name m make.0 make.1

pub none_is_the_same : (others : List (List ℕ)) → AskTheSame [] others → ⊥
none_is_the_same others (inl run) = nothing_is_no_run run.1 run.0 run.3
none_is_the_same others (inr make) = nothing_is_no_make make.0 make.1

pub other_answer : (G : Type 0) (old new : FilesState) (k other : Kept) → IsAskedRun G old new (runs here 64) other → other ≢ k
    → IsTheAnswer G old.told (runs here 1) k → ⊥
other_answer G old new k other asked differs answer =
    differs (answer old new (runs here 64) other refl
    (inl (here, 1, 64, some_workers here 1 (omega arith) (omega arith), some_workers here 64 (omega arith) (omega arith))) asked).0
