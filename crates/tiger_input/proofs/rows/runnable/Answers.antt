use Rattle.std.proofs.Common.{◌≤◌, ℕ, List, [], ◌∷◌, map, length, refl, ap, arith}
use Rattle.std.proofs.lemmas.List.Elements.{All-cons, All-nil}
use Rattle.std.proofs.lemmas.List.Sums.{sum_by-cons}
use Rattle.tiger_base.specs.Limits.{most_file}
use Rattle.outside.specs.Told.{bytes, absent}
use Rattle.tiger_input.specs.Samples.{here, tells}
use Rattle.tiger_input.proofs.Samples.{some_workers, run_is, runnable_is, not_empty, not_absent}
use Rattle.tiger_input.proofs.rows.runnable.Goals as goal

pub returns-clause-is : goal.returns-clause-is
returns-clause-is c text said of_film = record {
  scenario = text;
  is_told = refl;
  is_short = of_film.short;
  said = said;
  is_sound = of_film.means;
  files = (1 ∷ []) ∷ [];
  are_told = ap (λ (names : List (List ℕ)). map (tells (bytes (1 ∷ [])) (bytes text)) names) of_film.files;
  are_short = All-cons (λ (file : List ℕ). length file ≤ most_file) (1 ∷ []) [] (omega arith) (All-nil (λ (file : List ℕ). length file ≤ most_file));
  are_few = omega (arith, sum_by-cons (λ (file : List ℕ). length file) (1 ∷ []) []);
  are_filled = All-cons (λ (file : List ℕ). 1 ≤ length file) (1 ∷ []) [] (omega arith) (All-nil (λ (file : List ℕ). 1 ≤ length file));
}

pub returns-clause-empty_file : goal.returns-clause-empty_file
returns-clause-empty_file c text said of_film run =
    not_empty run.files (runnable_is (bytes []) text said of_film run) run.are_filled

pub returns-clause-absent_file : goal.returns-clause-absent_file
returns-clause-absent_file c text said of_film run = not_absent run.files (runnable_is absent text said of_film run)

pub returns-clause-absent_scenario : goal.returns-clause-absent_scenario
returns-clause-absent_scenario c run = let told = run.is_told in absurd (cc)

pub returns-clause-command : goal.returns-clause-command
returns-clause-command c told run =
    record { name = here; workers = 64; asked = some_workers here 64 (omega arith) (omega arith); runnable = run }

pub returns-clause-too_many_workers : goal.returns-clause-too_many_workers
returns-clause-too_many_workers c told command =
    let few = command.asked.few in
    let same = (run_is here command.name 65 command.workers command.asked (omega arith)).1 in
    omega (arith, few, same)
