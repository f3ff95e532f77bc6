-- The rule of the controller: it carries out the orders of its beat, and keeps where the instances were placed.
use Rattle.std.specs.Prelude.{ℕ, ◌+◌, ◌%◌, max, nat_lt, List, [], ◌∷◌, ◌++◌, true, false, Option, Some, None, if◌then◌else◌}
use Rattle.tiger_base.specs.declared.number.Stamp.{Stamp}
use Rattle.tiger_base.specs.declared.number.Instance.{Instance}
use Rattle.tiger_base.specs.declared.tenancy.Ask.{Ask}
use Rattle.tiger_base.specs.declared.tenancy.Tag.{Tag}
use Rattle.tiger_base.specs.declared.tenancy.Tenancy.{Tenancy}
use Rattle.tiger_base.specs.declared.message.Msg.{Msg}
use Rattle.tiger_base.specs.declared.message.Msg.TheVariants as msg
use Rattle.tiger_base.specs.Notes.{noted}
use Rattle.slot_plan.specs.declared.params.Params.{Params}
use Rattle.slot_plan.specs.Times.{visit_by}
use Rattle.node_kit.specs.declared.course.Order.{Order}
use Rattle.node_kit.specs.declared.course.OrderKind.{OrderKind}
use Rattle.node_kit.specs.declared.course.OrderKind.TheVariants.{Begin, Finish}
use Rattle.node_kit.specs.declared.journal.What.TheVariants as what
use Rattle.node_kit.specs.declared.outbox.Out.{Out}
use Rattle.node_kit.specs.declared.outbox.Out.TheVariants as out
use Rattle.node_kit.specs.Form.{is_in_form}
use Rattle.node_kit.specs.Steps.{Deed, Input}
use Rattle.node_kit.specs.Steps.Input.{Take, Tick}
use Rattle.node_kit.specs.Ways.{way_to_cub}
use Rattle.node_kit.specs.Deeds.{nothing, each_in_turn, wrapped}
use Rattle.controller_core.specs.declared.known.Known.{Known}
use Rattle.controller_core.specs.Orders.{orders_in, start_of}
use Rattle.controller_core.specs.State.{ControllerState, tenancy_of, is_gone}

-- two messages: to cub n, and to the next one; cubs are counted round the ring
abbrev pub to_both : Params → ℕ → Msg → Msg → List (Out Msg)
to_both p n first second =
    out.Send (way_to_cub p (n % p.cubs)) first ∷ out.Send (way_to_cub p ((n + 1) % p.cubs)) second ∷ []

-- a start goes to the cub of its disk, and a redundant one to the next cub
unfoldable pub starts : Params → Ask → List (Out Msg)
starts p ask = to_both p ask.disk.0 (msg.Start false ask) (msg.Start true ask)

-- the instance is gone, and cub n and the next one are told
unfoldable pub gone_from : Params → Instance → Option Tag → ℕ → Known → Deed Msg Known
gone_from p v tag n known = record {
  outs = out.Act (what.Gone v) ∷ to_both p n (msg.Deschedule v tag) (msg.Deschedule v tag);
  state = record known { gone = known.gone ++ v ∷ [] };
}

abbrev pub due_last : ℕ → Option ℕ → ℕ
due_last first None = first
due_last first (Some n) = max first n

-- the last visit of a tenancy's slot, from its first on, that is due at a reading: the first, where none is
unfoldable pub visit_due : Params → Tenancy → ℕ → ℕ
visit_due p t reading = due_last t.first (visit_by p t.slot.0 reading)

-- a stop at visit n of a tenancy does nothing where the tenancy is over
abbrev pub stops_at : Params → Instance → Tenancy → ℕ → Known → Deed Msg Known
stops_at p v t n known = if nat_lt t.last n then nothing known else gone_from p v (Some (record { slot = t.slot; visit = n })) n known

-- without a tenancy it goes where the start went
abbrev pub stops_start : Params → Instance → Option Ask → Known → Deed Msg Known
stops_start p v None known = nothing known
stops_start p v (Some ask) known = gone_from p v None ask.disk.0 known

abbrev pub stops : Params → List Order → ℕ → Instance → Option Tenancy → Known → Deed Msg Known
stops p orders reading v (Some t) known = stops_at p v t (visit_due p t reading) known
stops p orders reading v None known = stops_start p v (start_of orders v) known

-- a stop: of an instance that is gone it does nothing
unfoldable pub stopping : Params → List Order → ℕ → Instance → Known → Deed Msg Known
stopping p orders reading v known =
    if is_gone known.gone v then nothing known else stops p orders reading v (tenancy_of known.placed v) known

abbrev pub carries : Params → List Order → ℕ → OrderKind → Known → Deed Msg Known
carries p orders reading (Begin ask) known = record { outs = starts p ask; state = known }
carries p orders reading (Finish v) known = stopping p orders reading v known

-- an order is carried out
unfoldable pub carrying : Params → List Order → ℕ → Order → Known → Deed Msg Known
carrying p orders reading o known = carries p orders reading o.what known

-- the orders of the beat are carried out, one after another
unfoldable pub commanding : Params → List Order → Stamp → Known → Deed Msg Known
commanding p orders stamp known = each_in_turn (carrying p orders stamp.reading) (orders_in stamp.beat orders) known

abbrev pub placed_once : Tenancy → Option Tenancy → Known → Known
placed_once t None known = record known { placed = known.placed ++ t ∷ [] }
placed_once t (Some other) known = known

-- the first tenancy that it is told of an instance stays
unfoldable pub placing : Tenancy → Known → Known
placing t known = placed_once t (tenancy_of known.placed t.instance) known

-- of messages in form it takes those that tell where an instance was placed
unfoldable pub hearing : Msg → Known → Known
hearing (msg.Placed t) known = placing t known
hearing other known = known

-- what the controller knows after a message
unfoldable pub taking : Params → Msg → Known → Known
taking p m known = if is_in_form p (noted m) then hearing m known else known

-- where what it knows changes, so does the controller
abbrev pub on_controller : ControllerState → Deed Msg Known → Deed Msg ControllerState
on_controller s d = wrapped (λ known. record s { known = known }) d

-- the step of the controller
abbrev pub controller_step : ControllerState → Input Msg → Deed Msg ControllerState
controller_step s (Take stamp link m) = on_controller s (nothing (taking s.params m s.known))
controller_step s (Tick stamp) = on_controller s (commanding s.params s.orders stamp s.known)
