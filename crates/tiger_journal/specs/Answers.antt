-- That a scenario of a name has one run, whoever runs it and with how many workers.
use Rattle.std.specs.Prelude.{◌≡◌, List, ℕ}
use Rattle.node_kit.specs.declared.course.Kept.{Kept}
use Rattle.outside.specs.Told.{Told, FilesState}
-- The words of the contract of `tiger` are passed on with it.
pub use Rattle.tiger_run.specs.Answers.{IsTheAnswer}
pub use Rattle.tiger_run.specs.Ending.{IsAskedRun, IsNamedRun, text_for}

-- whatever else is kept of a run of the scenario of this name, over files of which this is told, is the same
abbrev pub IsTheNamedRun : (G : Type 0) → (List ℕ → Told) → List ℕ → Kept → Type 0
IsTheNamedRun G told name k =
    (old new : FilesState) (other : Kept) → old.told ≡ told → IsNamedRun G old new name other → other ≡ k
