-- The events of a history, in one list in order of beats, are events that a machine accepts.
use Rattle.std.specs.Prelude.{◌≡◌, ℕ, ◌<◌, ◌⊎◌, true, false, List, length, Some, slice_get}
use Rattle.tiger_base.specs.declared.message.Note.{Note}
use Rattle.tiger_base.specs.declared.number.Stamp.{Stamp}
use Rattle.slot_plan.specs.declared.params.Params.{Params}
use Rattle.node_kit.specs.Steps.{Input, Deed}
use Rattle.run_facts.specs.Events.{is_death}
use Rattle.run_facts.specs.Events.NodeEvent.{Dies}
use Rattle.run_facts.specs.Histories.{History, IsRun, beat, last_of}
use Rattle.ring_world.specs.declared.event.Event.{Event}
use Rattle.ring_world.specs.Machine.{Machine, opening_machine, journals_of, states_of}
use Rattle.ring_world.specs.Faults.{Accepts, cub_after}
use Rattle.ring_world.specs.Laws.{IsPlace}
use Rattle.ring_world.specs.Merging.{IsMerged}

-- node n lives through a history
abbrev pub LivesThrough : {M S : Type 0} → History M S → ℕ → Type 0
LivesThrough h n = (i : ℕ) → i < h.count n → is_death (h.event n i) ≡ false

-- What a machine asks of a history, besides the record of a run: its events are in beats below a number; nobody but a cub
-- dies; who dies apart from any other event does so in a beat in which it has had none; and of two neighbours in the ring
-- at least one lives through it.
pub record MayHappen {M S : Type 0} (p : Params) (nodes beats : ℕ) (h : History M S) : Type 0 where
  pub early : (n i : ℕ) → n < nodes → i < h.count n → beat h n i < beats
  pub cubs : (n i : ℕ) → n < nodes → i < h.count n → is_death (h.event n i) ≡ true → n < p.cubs
  pub idle : (n j i : ℕ) (stamp : Stamp) → n < nodes → j < i → i < h.count n → h.event n i ≡ Dies stamp
      → beat h n j < beat h n i
  pub apart : (cub : ℕ) → cub < p.cubs → LivesThrough h cub ⊎ LivesThrough h (cub_after p cub)

-- The machine of the nodes given accepts the events, and then has what the history makes of the
-- nodes: the journals that it writes, and the states with which it ends.
pub record HasLivedThrough {M S : Type 0} (note : M → Note) (step : S → Input M → Deed M S)
    (p : Params) (beats : ℕ) (given : List S) (h : History M S) (events : List Event) : Type 0 where
  pub machine : Machine M S
  pub accepts : Accepts note step p (length given) beats (opening_machine p given) events machine
  pub each_has_being : length machine.beings ≡ length given
  pub writes : (n : ℕ) → n < length given
      → slice_get (journals_of machine) n ≡ Some (last_of note step h n).journal
  pub ends : (n : ℕ) → n < length given
      → slice_get (states_of machine) n ≡ Some (last_of note step h n).state

-- If the nodes given are the first states of a history of which the record of a run holds and which may happen, then their
-- machine accepts the history's events in any one list that never falls in beats. Of the nodes nothing is asked.
abbrev pub MergesAreAccepted : (M S : Type 0) → Type 0
MergesAreAccepted M S =
    (note : M → Note) (step : S → Input M → Deed M S) (p : Params) (beats : ℕ) (given : List S)
    (h : History M S) (events : List Event) → IsPlace p (length given) beats
    → ((n : ℕ) (s : S) → slice_get given n ≡ Some s → h.first n ≡ s)
    → IsRun note step p (length given) h → MayHappen p (length given) beats h → IsMerged h (length given) events
    → HasLivedThrough note step p beats given h events
