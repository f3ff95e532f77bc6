-- What holds of whatever is kept of the run of a scenario: it is writable, its journals tell its returns, and its readings are
-- those of its course.
use Rattle.std.specs.Prelude.{◌≡◌, ℕ, ◌≤◌, List, Some, length, slice_get}
use Rattle.std.specs.List.{All, AllByRecursion}
use Rattle.tiger_base.specs.Limits.{most_file}
use Rattle.node_kit.specs.declared.course.Kept.{Kept}
use Rattle.node_kit.specs.declared.journal.Entry.{Entry}
use Rattle.node_kit.specs.Courses.{reading_of}
use Rattle.node_kit.specs.Life.{back_of}
use Rattle.run_model.specs.Runs.{TellsReturn, order_in}
use Rattle.scenario_read.specs.declared.scenario.Scenario.{Scenario}
use Rattle.scenario_read.specs.Sound.{IsScenario}
use Rattle.ring_facts.specs.Rings.{IsRingRun}
use Rattle.audit_read.specs.Writable.{IsWritable}
use Rattle.journal_promises.specs.Numbers.{HasNumbers}

-- each entry of a node is at the reading that the course gives the node's clock in the entry's beat
abbrev pub HasReadings : Kept → Type 0
HasReadings k = (n : ℕ) (journal : List Entry) → slice_get k.journals n ≡ Some journal
    → AllByRecursion (λ e. e.stamp.reading ≡ reading_of k.course n e.stamp.beat) journal

-- whatever is kept of a run over files that are not too long is writable, if its numbers lie in their types' ranges
abbrev pub KeptRunsAreWritable : (G : Type 0) → Type 0
KeptRunsAreWritable G =
    (s : Scenario) (library : List (List ℕ)) (k : Kept)
    → IsScenario s → All (λ bytes. length bytes ≤ most_file) library → IsRingRun G s library k
    → HasNumbers k → IsWritable k

-- and the journal of each of its nodes tells the node's return, if it has one
abbrev pub KeptRunsTellReturns : (G : Type 0) → Type 0
KeptRunsTellReturns G =
    (s : Scenario) (library : List (List ℕ)) (k : Kept)
    → IsScenario s → All (λ bytes. length bytes ≤ most_file) library → IsRingRun G s library k
    → (n : ℕ) (journal : List Entry) → slice_get k.journals n ≡ Some journal
    → TellsReturn k.course.beats (back_of k.course n) journal

-- and its readings are those of its course
abbrev pub KeptRunsHaveReadings : (G : Type 0) → Type 0
KeptRunsHaveReadings G =
    (s : Scenario) (library : List (List ℕ)) (k : Kept) → IsRingRun G s library k → HasReadings k

-- and if the journals of a run are so, each entry of its log is
abbrev pub LogsHaveReadings : Type 0
LogsHaveReadings = (k : Kept) → HasReadings k
    → AllByRecursion (λ x. x.entry.stamp.reading ≡ reading_of k.course x.node x.entry.stamp.beat) (order_in k)
