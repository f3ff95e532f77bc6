-- The times between which a beat forwards and splits, and the messages that the walks send.
use Rattle.std.specs.Prelude.{ℕ, ◌+◌, ◌*◌, List, [], ◌∷◌}
use Rattle.tiger_base.specs.declared.number.Stamp.{Stamp}
use Rattle.tiger_base.specs.declared.tenancy.State.{State}
use Rattle.tiger_base.specs.declared.tenancy.Want.{Want}
use Rattle.tiger_base.specs.declared.message.Msg.{Msg}
use Rattle.tiger_base.specs.declared.message.Msg.TheVariants as msg
use Rattle.node_kit.specs.declared.outbox.Out.{Out}
use Rattle.node_kit.specs.declared.outbox.Out.TheVariants as out
use Rattle.node_kit.specs.Ways.{way_ahead, way_to_disk}
use Rattle.slot_plan.specs.declared.params.Params.{Params}
use Rattle.state_forward.specs.Forwards.{lead_in}

-- the time up to which states are forwarded in a beat
unfoldable pub forward_limit : Params → Stamp → ℕ
forward_limit p stamp = stamp.reading + lead_in p stamp.beat

-- the time from which on visits are split in a beat: one that is due earlier is due too early
unfoldable pub split_limit : Params → Stamp → ℕ
split_limit p stamp = stamp.reading + p.read_lead + p.skew + p.delay * p.beat + p.beat

-- a viewer state, sent to the next two cubs
abbrev pub sent_on : Params → ℕ → State → List (Out Msg)
sent_on p cub state = out.Send (way_ahead p cub 1) (msg.ViewerState state) ∷ out.Send (way_ahead p cub 2) (msg.ViewerState state) ∷ []

-- a disk is asked
abbrev pub asks : Params → ℕ → Want → List (Out Msg)
asks p disk want = out.Send (way_to_disk p disk) (msg.ReadAsk want) ∷ []
