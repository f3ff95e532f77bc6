use Rattle.std.proofs.Common.{◌≤◌, ℕ, List, [], length, refl, sym, ap, ◌∙◌, arith}
use Rattle.std.specs.List.{slice_get}
use Rattle.std.proofs.lemmas.List.Elements.{All-nil}
use Rattle.std.proofs.lemmas.Option.{none-some}
use Rattle.tiger_base.specs.Limits.{most_file}
use Rattle.outside.specs.Told.{bytes, absent}
use Rattle.scenario_read.specs.Meaning.{Said}
use Rattle.tiger_input.specs.Inputs.{StopsAt, IsMissing, names_of}
use Rattle.tiger_input.specs.Samples.{here, film, tells}
use Rattle.tiger_input.proofs.Samples.{some_workers, run_is, read_is}
use Rattle.tiger_input.proofs.rows.absent_file.Goals as goal

pub returns-clause-is : goal.returns-clause-is
returns-clause-is c text said of_film = (
  here,
  1,
  some_workers here 1 (omega arith) (omega arith),
  (
    refl,
    omega arith,
    record {
      bytes = text;
      read = (refl, of_film.short);
      said = said;
      means = of_film.means;
      holds = record {
        before = [];
        read = record { first = tt; short = All-nil (λ (file : List ℕ). length file ≤ most_file); few = omega arith };
        count = refl;
        name = film;
        named = ap (λ (names : List (List ℕ)). slice_get names 0) of_film.files;
        why = tt;
      };
    },
  ),
)

pub returns-clause-no_second_file : goal.returns-clause-no_second_file
returns-clause-no_second_file c text said of_film cause =
    let named = (run_is here cause.0 1 cause.1 cause.2 (omega arith)).0 in
    let stops = read_is absent text cause.0 said (λ (s : Said). StopsAt (tells absent (bytes text)) (names_of s.files) 1 IsMissing) of_film named cause.3.2 in
    none-some stops.name (sym (ap (λ (names : List (List ℕ)). slice_get names 1) of_film.files) ∙ stops.named)
