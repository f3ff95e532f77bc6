-- What follows of one word on runs for another.
use Rattle.std.specs.Prelude.{◌≡◌, ℕ, List, length, Some, slice_get}
use Rattle.tiger_base.specs.declared.number.Stamp.{Stamp}
use Rattle.tiger_base.specs.declared.message.Note.{Note}
use Rattle.link_timing.specs.Clock.{new_clock}
use Rattle.node_kit.specs.declared.course.Course.{Course}
use Rattle.node_kit.specs.declared.journal.Entry.{Entry}
use Rattle.node_kit.specs.Courses.{IsCourse, reading_of}
use Rattle.node_kit.specs.Life.{lifetime_of}
use Rattle.node_kit.specs.Links.{links_of, ends_of}
use Rattle.node_kit.specs.Steps.{Input, Deed}
use Rattle.run_facts.specs.Accounts.{history_of, AreAccounted}
use Rattle.run_facts.specs.Carried.{AreCarriedOn, sent_on, got_on}
use Rattle.run_facts.specs.Events.{NodeEvent}
use Rattle.run_facts.specs.Kept.{HaveKept, KeepsCourse}
use Rattle.run_facts.specs.Paced.{ArePaced}
use Rattle.run_facts.specs.Timed.{AreTimed}

-- journals that are paced and timed as a course has it are carried on each link
abbrev pub PacedIsCarried : Type 0
PacedIsCarried =
    (c : Course) (journals : List (List Entry)) → IsCourse c → ArePaced c journals
    → AreTimed c.plan.params c.beats (lifetime_of c) journals → (l from to : ℕ) (sender receiver : List Entry)
    → ends_of (links_of c.plan.params) l ≡ Some (from, to) → slice_get journals from ≡ Some sender
    → slice_get journals to ≡ Some receiver
    → AreCarriedOn c.plan.params.delay c.beats (lifetime_of c to) (sent_on l sender) (got_on l receiver)

-- If the events of all nodes and each link are accounted for, at the readings of a course's clocks and
-- over its links, then the history that has these events keeps that course.
abbrev pub AccountsKeep : (M S : Type 0) → Type 0
AccountsKeep M S =
    (note : M → Note) (step : S → Input M → Deed M S) (c : Course) (when : ℕ → ℕ → Stamp)
    (nodes : ℕ) (first : ℕ → S) (lost : ℕ → ℕ) (events : ℕ → List (NodeEvent M))
    → ((n beat : ℕ) → (when n beat).reading ≡ reading_of c n beat)
    → AreAccounted note step c.plan.params when (lifetime_of c)
    (λ l. new_clock l c.delay c.plan.params.delay) nodes c.beats first lost events
    → KeepsCourse note step c nodes (history_of first (lifetime_of c) lost events)

-- a run that is kept has a journal for each node, and its history keeps the course
abbrev pub KeptRunsKeep : (M S : Type 0) → Type 0
KeptRunsKeep M S =
    (note : M → Note) (step : S → Input M → Deed M S) (c : Course) (given nodes : List S) (journals : List (List Entry))
    → (kept : HaveKept note step c given nodes journals)
    → (length journals ≡ length given) × KeepsCourse note step c (length given) kept.lived.history
