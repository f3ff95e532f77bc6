-- What is kept of a run of any nodes.
use Rattle.std.specs.Prelude.{◌≡◌, ℕ, List}
use Rattle.tiger_base.specs.declared.message.Note.{Note}
use Rattle.stripe_layout.specs.declared.catalogue.Catalogue.{Catalogue}
use Rattle.node_kit.specs.declared.course.Course.{Course}
use Rattle.node_kit.specs.declared.course.Kept.{Kept}
use Rattle.node_kit.specs.declared.course.Order.{Order}
use Rattle.node_kit.specs.declared.journal.Entry.{Entry}
use Rattle.node_kit.specs.Steps.{Input, Deed}
use Rattle.ring_workers.specs.Runs.{IsRunOf}
use Rattle.run_report.specs.Outcomes.{outcomes_of}
use Rattle.run_report.specs.Digests.{digests_of}

-- what is kept of a run of which these are the journals: a digest of what the viewers got of each start is added
abbrev pub kept_with : Course → Catalogue → List Order → List (List ℕ) → List (List Entry) → Kept
kept_with course catalogue orders library journals = record {
  course = course;
  catalogue = catalogue;
  orders = orders;
  journals = journals;
  digests = digests_of library (outcomes_of course catalogue orders journals);
}

-- the nodes given lived through a course by their own steps, and this is kept of it
pub record IsKeptRun {M S : Type 0} (note : M → Note) (step : S → Input M → Deed M S) (course : Course) (catalogue : Catalogue)
    (orders : List Order) (library : List (List ℕ)) (given : List S) (k : Kept) : Type 0 where
  pub nodes : List S
  pub journals : List (List Entry)
  pub ran : IsRunOf {M = M} note step course given nodes journals
  pub is : k ≡ kept_with course catalogue orders library journals
