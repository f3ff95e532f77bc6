-- How a controller stops an instance as it carries out the orders of a beat: where, once, and by which outputs.
use Rattle.std.specs.Prelude.{◌≡◌, ℕ, ◌+◌, ◌%◌, ◌≤◌, ◌⊎◌, true, false, List, [], ◌∷◌, Option, Some, None}
use Rattle.tiger_base.specs.declared.number.Instance.{Instance}
use Rattle.tiger_base.specs.declared.number.SlotNo.{SlotNo}
use Rattle.tiger_base.specs.declared.number.Stamp.{Stamp}
use Rattle.tiger_base.specs.declared.tenancy.Ask.{Ask}
use Rattle.tiger_base.specs.declared.tenancy.Tag.{Tag}
use Rattle.tiger_base.specs.declared.tenancy.Tenancy.{Tenancy}
use Rattle.tiger_base.specs.declared.message.Msg.{Msg}
use Rattle.tiger_base.specs.declared.message.Msg.TheVariants as msg
use Rattle.slot_plan.specs.declared.params.Params.{Params}
use Rattle.node_kit.specs.declared.course.Order.{Order}
use Rattle.node_kit.specs.declared.journal.What.TheVariants as what
use Rattle.node_kit.specs.declared.outbox.Out.{Out}
use Rattle.node_kit.specs.declared.outbox.Out.TheVariants as out
use Rattle.node_kit.specs.Steps.{Deed}
use Rattle.node_kit.specs.Ways.{way_to_cub}
use Rattle.controller_core.specs.declared.known.Known.{Known}
use Rattle.controller_core.specs.Orders.{start_of}
use Rattle.controller_core.specs.State.{tenancy_of, is_gone}
use Rattle.controller_core.specs.Rules.{visit_due, commanding}
use Rattle.lists.specs.Elements.{In}

-- the tag of a visit
abbrev pub tag_at : SlotNo → ℕ → Tag
tag_at s n = record { slot = s; visit = n }

-- where an instance is stopped: with the tag of a visit of its tenancy, or where its start went
abbrev pub IsStopOf : Params → List Order → ℕ → List Tenancy → Instance → Option Tag → ℕ → Type 0
IsStopOf p orders r placed v tag n =
    ((t : Tenancy) × (tenancy_of placed v ≡ Some t) × (n ≡ visit_due p t r) × (n ≤ t.last) × (tag ≡ Some (tag_at t.slot n)))
    ⊎ ((ask : Ask) × (tenancy_of placed v ≡ None) × (start_of orders v ≡ Some ask) × (n ≡ ask.disk.0) × (tag ≡ None))

-- an output speaks of a stop of an instance
abbrev pub Speaks : Instance → Out Msg → Type 0
Speaks v (out.Act (what.Gone w)) = w ≡ v
Speaks v (out.Send link (msg.Deschedule w tag)) = w ≡ v
Speaks v other = ⊥

-- the three outputs of a stop
abbrev pub stop_outs : Params → Instance → Option Tag → ℕ → List (Out Msg)
stop_outs p v tag n =
    out.Act (what.Gone v) ∷ out.Send (way_to_cub p (n % p.cubs)) (msg.Deschedule v tag) ∷ out.Send (way_to_cub p ((n + 1) % p.cubs)) (msg.Deschedule v tag) ∷ []

-- an output that speaks of a stop belongs to one of an instance that was not gone before
pub record Stopped (p : Params) (orders : List Order) (r : ℕ) (known : Known) (outs : List (Out Msg)) (v : Instance) (o : Out Msg) : Type 0 where
  pub tag : Option Tag
  pub number : ℕ
  pub is : IsStopOf p orders r known.placed v tag number
  pub fresh : is_gone known.gone v ≡ false
  pub all : (x : Out Msg) → In x (stop_outs p v tag number) → In x outs
  pub which : In o (stop_outs p v tag number)

-- what a deed makes of whom the controller knows: the places stay, and who is gone stays gone
pub record Grows (known : Known) (d : Deed Msg Known) : Type 0 where
  pub placed : d.state.placed ≡ known.placed
  pub gone : (v : Instance) → is_gone known.gone v ≡ true → is_gone d.state.gone v ≡ true

-- a deed of stops: each output that speaks of a stop belongs to one, and the instance is gone after it
pub record AreStops (p : Params) (orders : List Order) (r : ℕ) (known : Known) (d : Deed Msg Known) : Type 0 where
  pub grows : Grows known d
  pub stopped : (v : Instance) (o : Out Msg) → Speaks v o → In o d.outs → Stopped p orders r known d.outs v o
  pub after : (v : Instance) → In (out.Act (what.Gone v)) d.outs → is_gone d.state.gone v ≡ true

-- So it is with what a controller does as it carries out the orders of a beat.
abbrev pub CommandsStopOnce : Type 0
CommandsStopOnce =
    (p : Params) (orders : List Order) (stamp : Stamp) (known : Known)
    → AreStops p orders stamp.reading known (commanding p orders stamp known)
