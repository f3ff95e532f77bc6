-- What is claimed of every list of events that a machine of a ring's opening nodes accepts.
use Rattle.std.specs.Prelude.{◌≡◌, ℕ, ◌+◌, ◌<◌, ◌≤◌, List, [], ◌∷◌, ◌++◌, Some, slice_get}
use Rattle.tiger_base.specs.Limits.{most_beats}
use Rattle.tiger_base.specs.declared.message.Msg.{Msg}
use Rattle.tiger_base.specs.Notes.{noted}
use Rattle.slot_plan.specs.declared.params.Params.{Params}
use Rattle.slot_plan.specs.Conditions.{IsPlan}
use Rattle.slot_plan.specs.Times.{disk_count, time_of}
use Rattle.stripe_layout.specs.declared.catalogue.Catalogue.{Catalogue}
use Rattle.node_kit.specs.declared.course.Order.{Order}
use Rattle.node_kit.specs.declared.course.ReadFault.{ReadFault}
use Rattle.run_facts.specs.Order.{order_of}
use Rattle.run_claims.specs.Served.{AreServed}
use Rattle.disk_core.specs.State.{DiskState}
use Rattle.ring_nodes.specs.declared.nodes.AnyNode.{AnyNode}
use Rattle.ring_nodes.specs.declared.nodes.AnyNode.TheVariants as node
use Rattle.ring_nodes.specs.AllNodes.{any_step, StandsAny, numbered}
use Rattle.ring_nodes.specs.AllNodes.{opening_cub, opening_controller}
use Rattle.proof_controller.specs.Orders.{AreCounted}
use Rattle.proof_facts.specs.Rings.{node_count, IsDiskOf, IsUpTo}
use Rattle.proof_facts.specs.Rings.{AreOfCatalogue, HaveImages}
use Rattle.proof_journals.specs.Journals.{AreJournalsOf}
use Rattle.proof_ring.specs.ClaimsOfRings.{HaveFaults}
use Rattle.proof_ring.specs.Rings.{IsRing}
use Rattle.proof_ring.specs.Beliefs.{BeliefsAreInTime}
use Rattle.proof_ring.specs.ClaimsOfRings.{HasOneSchedule, IsNeverWronglyServed}
use Rattle.ring_world.specs.declared.event.Act.TheVariants as act
use Rattle.ring_world.specs.declared.event.Event.{Event}
use Rattle.ring_world.specs.Machine.{Machine, journals_of, opening_machine}
use Rattle.ring_world.specs.Faults.{Accepts}
use Rattle.ring_world.specs.Laws.{AreLawful, HasCome}

-- Any node of a ring is lawful.
abbrev pub NodesAreLawful : (G : Type 0) → Type 0
NodesAreLawful G = (p : Params) → AreLawful noted (any_step {G = G}) StandsAny p

-- The nodes of a ring as they open: cubs that keep nothing, these disks, a controller that has the
-- orders, and viewers that have nothing.
abbrev pub opening_ring : {G : Type 0} → Params → List Order → (ℕ → DiskState) → List (AnyNode G)
opening_ring p orders disk_at =
    numbered (opening_cub p) p.cubs
    ++ numbered (λ d. node.Disk (disk_at d)) (disk_count p)
    ++ opening_controller p orders
    ∷ node.Viewers []
    ∷ []

-- A machine of such nodes accepts the events, each in a beat below a number, and is then this one. Cubs die in them in the
-- middle of another event or apart from any, and may return. Its numbers are a plan's, its orders can be given, and each
-- disk has its own number.
pub record IsAccepted {G : Type 0} (p : Params) (orders : List Order) (disk_at : ℕ → DiskState)
    (beats : ℕ) (events : List Event) (m : Machine Msg (AnyNode G)) : Type 0 where
  pub plan : IsPlan p
  pub counted : AreCounted p orders
  pub disks : (d : ℕ) → d < disk_count p → IsDiskOf p d (disk_at d)
  pub few : beats ≤ most_beats
  pub accepts : Accepts noted any_step p (node_count p) beats
      (opening_machine p (opening_ring p orders disk_at)) events m

-- By these events a machine has come through a history of a ring, in which each node ended each
-- beat before the machine's, if it is up; and the machine has the journals of the history.
pub record HasComeAsRing {G : Type 0} (p : Params) (orders : List Order) (disk_at : ℕ → DiskState)
    (events : List Event) (m : Machine Msg (AnyNode G)) : Type 0 where
  pub come : HasCome noted any_step p (opening_ring p orders disk_at) events m
  pub ring : IsRing p orders disk_at come.history
  pub written : AreJournalsOf any_step p come.history (journals_of m)
  pub up_to : IsUpTo p m.beat come.history

-- Every list that is accepted is such a history.
abbrev pub AcceptedListsAreRings : (G : Type 0) → Type 0
AcceptedListsAreRings G =
    (p : Params) (orders : List Order) (disk_at : ℕ → DiskState) (beats : ℕ)
    (events : List Event) (m : Machine Msg (AnyNode G))
    → IsAccepted p orders disk_at beats events m → HasComeAsRing p orders disk_at events m

-- The tick of a cub in a beat below a number, at a reading, is one of the events.
pub record IsTickIn (events : List Event) (top cub beat reading : ℕ) : Type 0 where
  pub below : beat < top
  pub at : ℕ
  pub is : slice_get events at ≡ Some (record {
    stamp = record { beat = beat; reading = reading };
    act = act.Tick (record { 0 = cub });
  })

-- At the moments of such a list there is one schedule, over the entries of any number of beats.
abbrev pub AcceptedListsHaveOneSchedule : (G : Type 0) → Type 0
AcceptedListsHaveOneSchedule G =
    (p : Params) (orders : List Order) (disk_at : ℕ → DiskState) (beats : ℕ)
    (events : List Event) (m : Machine Msg (AnyNode G)) (top : ℕ)
    → IsAccepted p orders disk_at beats events m
    → HasOneSchedule p orders (IsTickIn events top) (order_of top (journals_of m))

-- Whoever dies in it is believed dead in time, by the next cub if that one lives, over the entries of
-- any number of beats.
abbrev pub AcceptedListsBelieveInTime : (G : Type 0) → Type 0
AcceptedListsBelieveInTime G =
    (p : Params) (orders : List Order) (disk_at : ℕ → DiskState) (beats : ℕ)
    (events : List Event) (m : Machine Msg (AnyNode G)) (top : ℕ)
    → IsAccepted p orders disk_at beats events m
    → BeliefsAreInTime p (IsTickIn events top) (order_of top (journals_of m))

-- The orders are for files of a catalogue, and the disks have its images and these read faults.
pub record IsStored (p : Params) (catalogue : Catalogue) (faults : List ReadFault)
    (orders : List Order) (disk_at : ℕ → DiskState) : Type 0 where
  pub files : AreOfCatalogue p catalogue orders
  pub images : HaveImages p catalogue disk_at
  pub faulty : HaveFaults p faults disk_at

-- Then nobody is wrongly served in such a list, over the entries of any number of beats.
abbrev pub AcceptedListsAreNeverWronglyServed : (G : Type 0) → Type 0
AcceptedListsAreNeverWronglyServed G =
    (p : Params) (catalogue : Catalogue) (faults : List ReadFault) (orders : List Order)
    (disk_at : ℕ → DiskState) (beats : ℕ) (events : List Event) (m : Machine Msg (AnyNode G))
    (top : ℕ)
    → IsAccepted p orders disk_at beats events m → IsStored p catalogue faults orders disk_at
    → IsNeverWronglyServed p faults (order_of top (journals_of m))

-- And each settled block of each viewer that was put came or is excused, and nothing else came,
-- over the entries of the beats up to the machine's.
abbrev pub AcceptedListsAreRightlyServed : (G : Type 0) → Type 0
AcceptedListsAreRightlyServed G =
    (p : Params) (catalogue : Catalogue) (faults : List ReadFault) (orders : List Order)
    (disk_at : ℕ → DiskState) (beats : ℕ) (events : List Event) (m : Machine Msg (AnyNode G))
    (top : ℕ)
    → IsAccepted p orders disk_at beats events m → IsStored p catalogue faults orders disk_at
    → top ≤ m.beat + 1
    → AreServed p catalogue (journals_of m) (time_of p top) (order_of top (journals_of m))
