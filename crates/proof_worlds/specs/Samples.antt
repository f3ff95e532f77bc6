-- Short lists of events of the ring of worked examples, of which the worked rows speak.
use Rattle.std.specs.Prelude.{ℕ, List, []}
use Rattle.tiger_base.specs.declared.message.Msg.{Msg}
use Rattle.slot_plan.specs.Samples.{small}
use Rattle.disk_image.specs.Image.{Image}
use Rattle.run_claims.specs.Accounts.{Ticking}
use Rattle.disk_core.specs.State.{DiskState}
use Rattle.ring_nodes.specs.declared.nodes.AnyNode.{AnyNode}
use Rattle.ring_world.specs.declared.event.Act.{Act}
use Rattle.ring_world.specs.declared.event.Act.TheVariants as act
use Rattle.ring_world.specs.declared.event.Event.{Event}
use Rattle.ring_world.specs.declared.event.Last.TheVariants as last
use Rattle.ring_world.specs.Machine.{Machine}
use Rattle.proof_worlds.specs.Accepted.{IsAccepted}

-- An act in beat 0, at reading 0.
abbrev pub at_once : Act → Event
at_once what = record { stamp = record { beat = 0; reading = 0 }; act = what }

-- Cub n dies, and node n ends its beat.
abbrev pub dies : ℕ → Event
dies n = at_once (act.Die (record { 0 = n }))

-- Cub n dies in its tick, of which so many messages go out; and it comes back.
abbrev pub dies_ticking : ℕ → ℕ → Event
dies_ticking n sends = at_once (act.DieIn (last.Tick (record { 0 = n })) sends)

abbrev pub comes_back : ℕ → Event
comes_back n = at_once (act.Return (record { 0 = n }))

abbrev pub ticks : ℕ → Event
ticks n = at_once (act.Tick (record { 0 = n }))

-- Node n ends a beat at a reading, as an event and as a tick.
abbrev pub ticks_at : ℕ → ℕ → ℕ → Event
ticks_at n beat reading =
    record { stamp = record { beat = beat; reading = reading }; act = act.Tick (record { 0 = n }) }

abbrev pub tick : ℕ → ℕ → ℕ → Ticking
tick n beat reading = record { node = n; beat = beat; reading = reading }

-- The disks that have these images, and no read faults.
abbrev pub disks_of : (ℕ → Image) → ℕ → DiskState
disks_of image d = record { params = small; disk = d; image = image d; faults = [] }

-- The ring of worked examples, with no orders, accepts these events in a run of one beat.
abbrev pub AreAccepted : (ℕ → Image) → List Event → Type 0
AreAccepted image events =
    (m : Machine Msg (AnyNode ℕ)) × IsAccepted small [] (disks_of image) 1 events m
