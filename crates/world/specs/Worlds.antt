-- A world: a ring's nodes from their opening on, and the events that happened to them.
use Rattle.std.specs.Prelude.{◌≡◌, ℕ, ◌≤◌, false, List}
use Rattle.tiger_base.specs.Limits.{most_beats}
use Rattle.tiger_base.specs.declared.message.Msg.{Msg}
use Rattle.tiger_base.specs.Notes.{noted}
use Rattle.slot_plan.specs.declared.params.Params.{Params}
use Rattle.slot_plan.specs.Conditions.{IsPlan}
use Rattle.stripe_layout.specs.declared.catalogue.Catalogue.{Catalogue}
use Rattle.node_kit.specs.declared.course.Order.{Order}
use Rattle.node_kit.specs.declared.course.ReadFault.{ReadFault}
use Rattle.ring_nodes.specs.declared.nodes.AnyNode.{AnyNode}
use Rattle.ring_nodes.specs.AllNodes.{any_step, node_count, opening_nodes, images_of}
use Rattle.ring_world.specs.declared.event.Event.{Event}
use Rattle.ring_world.specs.Machine.{Machine, journals_of, opening_machine}
use Rattle.ring_world.specs.Faults.{Accepts}
use Rattle.world.specs.Running.{Running, fresh}

-- What a world opens with: the plan's numbers, how many beats it may run, the read faults, the orders, the catalogue, and
-- the library whose blocks the disks have.
pub record Opening : Type 0 where
  pub params : Params
  pub beats : ℕ
  pub faults : List ReadFault
  pub orders : List Order
  pub catalogue : Catalogue
  pub library : List (List ℕ)

-- And the machine of its nodes, as it is now.
pub record Worldly (G : Type 0) : Type 0 where
  pub opening : Opening
  pub running : Running Msg (AnyNode G)

-- Its nodes.
abbrev pub opening_of : {G : Type 0} → Opening → List (AnyNode G)
opening_of o = opening_nodes o.params o.faults (images_of o.params o.catalogue o.library) o.orders

-- The machine before the first event.
abbrev pub first_machine : {G : Type 0} → Opening → Machine Msg (AnyNode G)
first_machine o = opening_machine o.params (opening_of o)

-- From there a machine accepts these events, and is then this one.
abbrev pub IsAcceptedFrom : {G : Type 0} → Opening → List Event → Machine Msg (AnyNode G) → Type 0
IsAcceptedFrom o events m = Accepts noted any_step o.params (node_count o.params) o.beats (first_machine o) events m

-- The world's plan and beats are in order. Its events are accepted from its opening on, and its journals are what they write. If it is not spoilt, its
-- machine is what they make of the first one.
pub record IsWorld {G : Type 0} (w : Worldly G) : Type 0 where
  pub plan : IsPlan w.opening.params
  pub few : w.opening.beats ≤ most_beats
  pub params : w.running.params ≡ w.opening.params
  pub beats : w.running.beats ≡ w.opening.beats
  pub machine : Machine Msg (AnyNode G)
  pub accepted : IsAcceptedFrom w.opening w.running.machine.events machine
  pub journals : journals_of w.running.machine ≡ journals_of machine
  pub beat : w.running.machine.beat ≡ machine.beat
  pub whole : w.running.spoilt ≡ false → w.running.machine ≡ machine

-- A world before the first event.
abbrev pub new_world : {G : Type 0} → Opening → Worldly G
new_world o = record { opening = o; running = fresh o.params o.beats (opening_of o) }
