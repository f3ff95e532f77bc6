-- What follows of the events and the links' accounts of nodes of any lives: of nodes that die, in the middle of a
-- step or apart from one, and that return.
use Rattle.std.specs.Prelude.{◌≡◌, ℕ, ◌<◌, List, length, Some, slice_get}
use Rattle.tiger_base.specs.declared.message.Note.{Note}
use Rattle.link_timing.specs.Clock.{new_clock}
use Rattle.node_kit.specs.declared.course.Course.{Course}
use Rattle.node_kit.specs.declared.journal.Entry.{Entry}
use Rattle.node_kit.specs.Courses.{IsCourse, stamp_in}
use Rattle.node_kit.specs.Life.{lifetime_of}
use Rattle.node_kit.specs.Steps.{Input, Deed}
use Rattle.run_facts.specs.Accounts.{AreAccounted, history_of}
use Rattle.run_facts.specs.Beats.{opening_of}
use Rattle.run_facts.specs.Carried.{AreCarried}
use Rattle.run_facts.specs.Events.{NodeEvent, written}
use Rattle.run_facts.specs.Histories.{IsRun, IsComplete}
use Rattle.run_facts.specs.Paced.{ArePaced}
use Rattle.run_facts.specs.Timed.{AreTimed}

-- so many nodes of a course are accounted for at its end: the events of each, and each link
abbrev pub IsAccounted : {M S : Type 0} → (M → Note) → (S → Input M → Deed M S) → Course → (nodes : ℕ) → (first : ℕ → S)
    → (lost : ℕ → ℕ) → (events : ℕ → List (NodeEvent M)) → Type 0
IsAccounted note step c nodes first lost events =
    AreAccounted note step c.plan.params (stamp_in c) (lifetime_of c) (λ l. new_clock l c.delay c.plan.params.delay)
    nodes c.beats first lost events

-- the history of such events is a run
abbrev pub AccountsRun : (M S : Type 0) → Type 0
AccountsRun M S =
    (note : M → Note) (step : S → Input M → Deed M S) (c : Course) (nodes : ℕ) (first : ℕ → S) (lost : ℕ → ℕ)
    (events : ℕ → List (NodeEvent M)) → IsCourse c → IsAccounted note step c nodes first lost events
    → IsRun note step c.plan.params nodes (history_of first (lifetime_of c) lost events)

-- and complete
abbrev pub AccountsComplete : (M S : Type 0) → Type 0
AccountsComplete M S =
    (note : M → Note) (step : S → Input M → Deed M S) (c : Course) (nodes : ℕ) (first : ℕ → S) (lost : ℕ → ℕ)
    (events : ℕ → List (NodeEvent M)) → IsCourse c → IsAccounted note step c nodes first lost events
    → IsComplete note step nodes c.beats (history_of first (lifetime_of c) lost events)

-- and the journals that they write are paced, timed and carried
abbrev pub AccountsWrite : (M S : Type 0) → Type 0
AccountsWrite M S =
    (note : M → Note) (step : S → Input M → Deed M S) (c : Course) (nodes : ℕ) (first : ℕ → S) (lost : ℕ → ℕ)
    (events : ℕ → List (NodeEvent M)) (journals : List (List Entry)) → IsCourse c
    → IsAccounted note step c nodes first lost events → length journals ≡ nodes
    → ((n : ℕ) → n < nodes → slice_get journals n ≡ Some (written note step (events n) (opening_of c n (first n))))
    → ArePaced c journals × AreTimed c.plan.params c.beats (lifetime_of c) journals
    × AreCarried c.plan.params c.beats (lifetime_of c) journals
