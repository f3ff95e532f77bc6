-- The step of a cub.
use Rattle.std.specs.Prelude.{ℕ, ◌+◌, [], ◌∷◌, Bool, nat_lt, Option, Some, None, if◌then◌else◌}
use Rattle.tiger_base.specs.declared.number.Stamp.{Stamp}
use Rattle.tiger_base.specs.declared.message.Msg.{Msg}
use Rattle.tiger_base.specs.declared.message.Msg.TheVariants as msg
use Rattle.slot_plan.specs.declared.params.Params.{Params}
use Rattle.node_kit.specs.declared.journal.What.TheVariants as what
use Rattle.node_kit.specs.declared.outbox.Out.TheVariants as out
use Rattle.node_kit.specs.Steps.{Deed, Input}
use Rattle.node_kit.specs.Steps.Input.{Take, Tick}
use Rattle.cub_rules.specs.declared.store.Store.{Store}
use Rattle.node_kit.specs.Ways.{way_ahead}
use Rattle.node_kit.specs.Deeds.{then_do}
use Rattle.cub_rules.specs.Comebacks.{comeback_at}
use Rattle.cub_rules.specs.State.{CubState, returning_store}
use Rattle.cub_rules.specs.Messages.{taking}
use Rattle.cub_rules.specs.Ticks.{ticking}

-- what cub c does in an event by which it does not come back, to what it keeps
abbrev pub deed_of : Params → ℕ → Input Msg → Store → Deed Msg Store
deed_of p c (Take stamp link m) h = taking p c stamp link m h
deed_of p c (Tick stamp) h = ticking p c stamp h

-- what is done to what a cub keeps, done to the cub
abbrev pub on_cub : CubState → Deed Msg Store → Deed Msg CubState
on_cub s d = record { outs = d.outs; state = record s { store = d.state } }

-- the same by its tick of a beat
abbrev pub ticked_cub : CubState → ℕ → Deed Msg Store → Deed Msg CubState
ticked_cub s beat d = record { outs = d.outs; state = record s { store = d.state; last = Some beat } }

-- Whether a cub comes back by a tick: it has not ticked in the beat before, nor is this the first beat. A cub that lives
-- ticks in each.
abbrev pub was_away : Option ℕ → ℕ → Bool
was_away None beat = nat_lt 0 beat
was_away (Some last) beat = nat_lt (last + 1) beat

-- A cub that comes back has forgotten all that it kept, and its predecessor counts as heard just now. It writes down that
-- it came back, and tells its successor from when on it serves its own visits.
abbrev pub coming_back : Params → ℕ → Stamp → Store → Deed Msg Store
coming_back p cub stamp h = record {
  outs = out.Act what.Returned ∷ out.Send (way_ahead p cub 1) (msg.Back (comeback_at p stamp.reading).serves) ∷ [];
  state = returning_store p stamp.reading;
}

-- what a cub does at its tick; one that comes back begins with that, and goes on as any other
unfoldable pub ending : Params → ℕ → Option ℕ → Stamp → Store → Deed Msg Store
ending p cub last stamp h =
    if was_away last stamp.beat then then_do (coming_back p cub stamp) (ticking p cub stamp) h else ticking p cub stamp h

-- what a cub does in one event
abbrev pub cub_step : CubState → Input Msg → Deed Msg CubState
cub_step s (Take stamp link m) = on_cub s (taking s.params s.cub stamp link m s.store)
cub_step s (Tick stamp) = ticked_cub s stamp.beat (ending s.params s.cub s.last stamp s.store)
