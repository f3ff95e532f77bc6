-- One course and the same opening nodes have one history.
use Rattle.std.specs.Prelude.{◌≡◌, ℕ, ◌<◌, List, length}
use Rattle.tiger_base.specs.declared.message.Note.{Note}
use Rattle.node_kit.specs.declared.course.Course.{Course}
use Rattle.node_kit.specs.declared.journal.Entry.{Entry}
use Rattle.node_kit.specs.Courses.{IsCourse}
use Rattle.node_kit.specs.Steps.{Input, Deed}
use Rattle.run_facts.specs.Histories.{History}
use Rattle.run_facts.specs.Kept.{HaveKept}

-- Two histories are the same up to a number of nodes if each node below it has as many events in both,
-- and the same event of each number.
pub record AreSame {M S : Type 0} (nodes : ℕ) (g h : History M S) : Type 0 where
  pub counts : (n : ℕ) → n < nodes → g.count n ≡ h.count n
  pub events : (n i : ℕ) → n < nodes → i < g.count n → g.event n i ≡ h.event n i

-- If the same opening nodes live through one course twice, by their own steps, then both times they
-- have the same events, write the same journals, and are the same at the end.
abbrev pub RunsAreOne : (M S : Type 0) → Type 0
RunsAreOne M S =
    (note : M → Note) (step : S → Input M → Deed M S) (c : Course) (given nodes others : List S)
    (journals books : List (List Entry)) → IsCourse c
    → (one : HaveKept note step c given nodes journals)
    → (two : HaveKept note step c given others books)
    → AreSame (length given) one.lived.history two.lived.history
    × (journals ≡ books) × (nodes ≡ others)
