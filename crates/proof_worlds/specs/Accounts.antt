-- The ticks of a list of events, and that the account of every list that is accepted meets all claims.
use Rattle.std.specs.Prelude.{ℕ, List, [], ◌∷◌}
use Rattle.std.specs.List.{flat_map}
use Rattle.tiger_base.specs.declared.message.Msg.{Msg}
use Rattle.tiger_base.specs.declared.number.Stamp.{Stamp}
use Rattle.slot_plan.specs.declared.params.Params.{Params}
use Rattle.stripe_layout.specs.declared.catalogue.Catalogue.{Catalogue}
use Rattle.node_kit.specs.declared.course.Order.{Order}
use Rattle.node_kit.specs.declared.course.ReadFault.{ReadFault}
use Rattle.run_claims.specs.Accounts.{Ticking, account_by}
use Rattle.run_claims.specs.Claims.{MeetsClaims}
use Rattle.disk_core.specs.State.{DiskState}
use Rattle.ring_nodes.specs.declared.nodes.AnyNode.{AnyNode}
use Rattle.ring_world.specs.declared.event.Act.{Act}
use Rattle.ring_world.specs.declared.event.Act.TheVariants as act
use Rattle.ring_world.specs.declared.event.Event.{Event}
use Rattle.ring_world.specs.Machine.{Machine, journals_of}
use Rattle.proof_worlds.specs.Accepted.{IsAccepted, IsStored}

-- The tick that an act at a stamp is; none if it is something else.
abbrev pub tick_of : Stamp → Act → List Ticking
tick_of stamp (act.Tick node) =
    (record { node = node.0; beat = stamp.beat; reading = stamp.reading }) ∷ []
tick_of stamp other = []

-- The ticks among some events, of whatever nodes, in their order.
abbrev pub ticks_of : List Event → List Ticking
ticks_of events = flat_map (λ e. tick_of e.stamp e.act) events

-- The account of every list that is accepted meets all nine claims: of the machine's journals, over
-- the beats up to the machine's, with the ticks of the list.
abbrev pub AcceptedListsMeetTheClaims : (G : Type 0) → Type 0
AcceptedListsMeetTheClaims G =
    (p : Params) (catalogue : Catalogue) (faults : List ReadFault) (orders : List Order)
    (disk_at : ℕ → DiskState) (beats : ℕ) (events : List Event) (m : Machine Msg (AnyNode G))
    → IsAccepted p orders disk_at beats events m → IsStored p catalogue faults orders disk_at
    → MeetsClaims (account_by p catalogue faults orders (journals_of m) m.beat (ticks_of events))
