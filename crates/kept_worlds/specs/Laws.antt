-- What is kept of a run, as events, is accepted by the machine of its nodes, which then has the
-- run's journals.
use Rattle.std.specs.Prelude.{◌≡◌, ℕ, ◌+◌, ◌<◌, ◌≤◌, Bool, false, List, length, Some, slice_get}
use Rattle.tiger_base.specs.declared.message.Note.{Note}
use Rattle.tiger_base.specs.declared.number.LinkNo.{LinkNo}
use Rattle.tiger_base.specs.declared.number.Stamp.{Stamp}
use Rattle.slot_plan.specs.declared.params.Params.{Params}
use Rattle.node_kit.specs.declared.course.Course.{Course}
use Rattle.node_kit.specs.declared.journal.Entry.{Entry}
use Rattle.node_kit.specs.Courses.{ReturnsLater}
use Rattle.node_kit.specs.Life.{back_of, death_of, lifetime_of}
use Rattle.node_kit.specs.Steps.{Input, Deed}
use Rattle.node_kit.specs.Steps.Input.{Take, Tick}
use Rattle.run_facts.specs.Histories.{HaveHistory}
use Rattle.run_facts.specs.Kept.{HaveKept}
use Rattle.run_facts.specs.Timed.{DieApart}
use Rattle.ring_world.specs.declared.event.Event.{Event}
use Rattle.ring_world.specs.Machine.{Machine, opening_machine, journals_of}
use Rattle.ring_world.specs.Faults.{Accepts}
use Rattle.ring_world.specs.Laws.{IsPlace}
use Rattle.ring_world.specs.Merging.{IsMerged}
use Rattle.proof_turns.specs.Laws.{AreToldApart}
use Rattle.kept_worlds.specs.Events.{events_by}

-- The machine that begins with these nodes accepts the events, each in a beat below a number, and
-- then has the journals.
pub record IsWorldOf {M S : Type 0} (note : M → Note) (step : S → Input M → Deed M S)
    (p : Params) (beats : ℕ) (given : List S) (journals : List (List Entry)) (events : List Event) : Type 0 where
  pub machine : Machine M S
  pub accepts : Accepts note step p (length given) beats (opening_machine p given) events machine
  pub writes : journals_of machine ≡ journals

-- If the nodes of a course lived through a history, each to its death or the end of the beats, and again from its return on,
-- and if no two neighbours die, then their machine accepts the history's events in any one list that never falls in beats.
abbrev pub RunsAreAccepted : (M S : Type 0) → Type 0
RunsAreAccepted M S =
    (note : M → Note) (step : S → Input M → Deed M S) (c : Course) (given nodes : List S)
    (journals : List (List Entry)) (events : List Event)
    → IsPlace c.plan.params (length given) c.beats → DieApart c.plan.params (lifetime_of c)
    → (one : HaveHistory note step c.plan.params (lifetime_of c) c.beats given nodes journals)
    → length journals ≡ length given → IsMerged one.history (length given) events
    → IsWorldOf note step c.plan.params c.beats given journals events

-- A node that comes back by a tick does as if it had not ticked in the beat of its death: what it becomes by it and what it
-- puts out are the same. What tells whether it has ticked in a beat or later tells so of it before its first event, and
-- behind a message and a tick.
pub record ForgetsTicks {M S : Type 0} (step : S → Input M → Deed M S) (stands : S → Params → ℕ → Type 0) (p : Params)
    (given : List S) : Type 0 where
  pub since : S → ℕ → Bool
  pub opens : (n : ℕ) (s : S) → n < p.cubs → slice_get given n ≡ Some s → since s 0 ≡ false
  pub takes : (n : ℕ) (s : S) (stamp : Stamp) (link : LinkNo) (msg : M) (beat : ℕ) → stands s p n → since s beat ≡ false
      → since (step s (Take stamp link msg)).state beat ≡ false
  pub ticks : (n : ℕ) (s : S) (stamp : Stamp) (beat : ℕ) → stands s p n → stamp.beat < beat
      → since (step s (Tick stamp)).state beat ≡ false
  pub anew : (n : ℕ) (s : S) (now later : Stamp) → stands s p n → since s now.beat ≡ false → now.beat + 2 ≤ later.beat
      → step (step s (Tick now)).state (Tick later) ≡ step s (Tick later)

-- each of the cubs stands at its number
abbrev pub CubsStand : {S : Type 0} → (S → Params → ℕ → Type 0) → Params → List S → Type 0
CubsStand {S} stands p given = (n : ℕ) (s : S) → n < p.cubs → slice_get given n ≡ Some s → stands s p n

-- If the history keeps the course too, each return comes two beats behind the death or later, who returns forgets the tick
-- of its death, and the entries of a cub's takes are told from those of its ticks, then the events that the journals tell are
-- accepted.
abbrev pub KeptRunsAreAccepted : {M S : Type 0} → (M → Note) → (S → Input M → Deed M S) → (S → Params → ℕ → Type 0) → Type 0
KeptRunsAreAccepted {M} {S} note step stands =
    (c : Course) (given nodes : List S) (journals : List (List Entry))
    → IsPlace c.plan.params (length given) c.beats → DieApart c.plan.params (lifetime_of c)
    → ((n : ℕ) → ReturnsLater (death_of c n) (back_of c n))
    → ((n back : ℕ) → back_of c n ≡ Some back → ForgetsTicks step stands c.plan.params given)
    → AreToldApart note step stands c.plan.params → CubsStand stands c.plan.params given
    → HaveKept note step c given nodes journals
    → IsWorldOf note step c.plan.params c.beats given journals (events_by c journals)
