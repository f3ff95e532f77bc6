-- A machine that runs: what is seen of it, what always holds of it, and what a step makes of it.
use Rattle.std.specs.Prelude.{◌≡◌, ℕ, ◌+◌, ◌≤◌, true, false, Bool, List, [], ◌∷◌, ◌++◌, length, Some, None, slice_get}
use Rattle.std.specs.Bool.{OnFalse}
use Rattle.tiger_base.specs.Limits.{most_beats}
use Rattle.tiger_base.specs.declared.message.Note.{Note}
use Rattle.slot_plan.specs.declared.params.Params.{Params}
use Rattle.node_kit.specs.Links.{links_of, link_count, viewers_of}
use Rattle.node_kit.specs.Steps.{Input, Deed}
use Rattle.ring_world.specs.declared.event.Event.{Event}
use Rattle.ring_world.specs.Machine.{Machine, Being, Way, happens, journals_of, opening_machine}
use Rattle.ring_world.specs.Faults.{fault_of}
use Rattle.world.specs.declared.error.StepError.{StepError}
use Rattle.world.specs.declared.error.StepError.TheVariants as error
use Rattle.world.specs.Posting.{IsOrderly}

-- The plan's numbers, how many beats it may run, the machine, and whether it is spoilt, since a step had no memory.
pub record Running (M S : Type 0) : Type 0 where
  pub params : Params
  pub beats : ℕ
  pub machine : Machine M S
  pub spoilt : Bool

-- Before the first event, with these nodes.
abbrev pub fresh : {M S : Type 0} → Params → ℕ → List S → Running M S
fresh p beats given = record { params = p; beats = beats; machine = opening_machine p given; spoilt = false }

-- How many nodes a plan has.
abbrev pub nodes_of : Params → ℕ
nodes_of p = viewers_of (links_of p) + 1

-- There is a link for each number, each node stands at its number, and each link is orderly.
pub record IsSound {M S : Type 0} (stands : S → Params → ℕ → Type 0) (p : Params) (m : Machine M S) : Type 0 where
  pub links : length m.ways ≡ link_count (links_of p)
  pub stand : (n : ℕ) (b : Being S) → slice_get m.beings n ≡ Some b → stands b.past.state p n
  pub orderly : (l : ℕ) (w : Way M) → slice_get m.ways l ≡ Some w → IsOrderly m.beat w

-- What always holds: the beats are within the limit, there is a node for each number, and a machine that is not spoilt is sound.
pub record IsKept {M S : Type 0} (stands : S → Params → ℕ → Type 0) (r : Running M S) : Type 0 where
  pub few : r.beats ≤ most_beats
  pub early : r.machine.beat ≤ most_beats
  pub nodes : length r.machine.beings ≡ nodes_of r.params
  pub sound : OnFalse r.spoilt (IsSound stands r.params r.machine)

-- Why a step is not made: a machine that is spoilt makes none; of another one the event has this fault; and memory may be
-- wanting if it has none.
abbrev pub IsCause : {M S : Type 0} → Running M S → Event → StepError → Type 0
IsCause r e error.Spoilt = r.spoilt ≡ true
IsCause r e (error.Fault fault) = (r.spoilt ≡ false) × (fault_of r.params r.machine e ≡ Some fault)
IsCause r e error.NoMemory = (r.spoilt ≡ false) × (fault_of r.params r.machine e ≡ None)

-- A machine is spoilt, and has the journals and events of another one.
pub record IsSpoiltFrom {M S : Type 0} (old new : Running M S) : Type 0 where
  pub spoilt : new.spoilt ≡ true
  pub params : new.params ≡ old.params
  pub beats : new.beats ≡ old.beats
  pub beat : new.machine.beat ≡ old.machine.beat
  pub journals : journals_of new.machine ≡ journals_of old.machine
  pub events : new.machine.events ≡ old.machine.events

-- A refusal changes nothing; want of memory spoils.
abbrev pub IsLeft : {M S : Type 0} → Running M S → Running M S → StepError → Type 0
IsLeft old new error.Spoilt = new ≡ old
IsLeft old new (error.Fault fault) = new ≡ old
IsLeft old new error.NoMemory = IsSpoiltFrom old new

-- The machine once an event happened.
abbrev pub stepped : {M S : Type 0} → (M → Note) → (S → Input M → Deed M S) → Running M S → Event → Running M S
stepped note step r e =
    record { params = r.params; beats = r.beats; machine = happens note step r.params r.machine e; spoilt = false }

-- A machine that is not spoilt made a step of an event without a fault, which is now the last of its events.
pub record HasStepped {M S : Type 0} (note : M → Note) (step : S → Input M → Deed M S) (old : Running M S) (e : Event)
    (new : Running M S) : Type 0 where
  pub whole : old.spoilt ≡ false
  pub faultless : fault_of old.params old.machine e ≡ None
  pub done : new ≡ stepped note step old e
  pub last : new.machine.events ≡ old.machine.events ++ e ∷ []
