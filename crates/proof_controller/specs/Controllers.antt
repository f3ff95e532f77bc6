-- The life of the controller, and the facts about stops that are its own: whom it stopped, and where.
use Rattle.std.specs.Prelude.{◌≡◌, ℕ, zero, suc, ◌+◌, ◌<◌, List, [], Option, Some, None}
use Rattle.tiger_base.specs.declared.number.Instance.{Instance}
use Rattle.tiger_base.specs.declared.number.SlotNo.{SlotNo}
use Rattle.tiger_base.specs.declared.tenancy.Ask.{Ask}
use Rattle.tiger_base.specs.declared.tenancy.Tag.{Tag}
use Rattle.tiger_base.specs.declared.message.Msg.{Msg}
use Rattle.tiger_base.specs.declared.message.Msg.TheVariants as msg
use Rattle.slot_plan.specs.declared.params.Params.{Params}
use Rattle.slot_plan.specs.Times.{cub_of}
use Rattle.node_kit.specs.declared.course.Order.{Order}
use Rattle.node_kit.specs.declared.course.OrderKind.TheVariants.{Begin}
use Rattle.node_kit.specs.declared.journal.What.TheVariants as what
use Rattle.node_kit.specs.declared.outbox.Out.{Out}
use Rattle.node_kit.specs.declared.outbox.Out.TheVariants as out
use Rattle.node_kit.specs.Links.{links_of, controller_of}
use Rattle.node_kit.specs.Steps.{Deed, Input}
use Rattle.node_kit.specs.Steps.Input.{Take, Tick}
use Rattle.node_kit.specs.Ways.{way_to_cub}
use Rattle.node_kit.specs.Deeds.{nothing}
use Rattle.controller_core.specs.declared.known.Known.{Known}
use Rattle.controller_core.specs.Rules.{taking, commanding}
use Rattle.proof_lives.specs.Lives.{Lives, beat_at}
use Rattle.lists.specs.Elements.{In}

-- the controller's number
abbrev pub controller : Params → ℕ
controller p = controller_of (links_of p)

-- what the controller does with an input
abbrev pub command : Params → List Order → Input Msg → Known → Deed Msg Known
command p orders (Take stamp link m) known = nothing (taking p m known)
command p orders (Tick stamp) known = commanding p orders stamp known

-- what it knows before its input of number i, and what it puts out at that
abbrev pub known_at : Params → List Order → (ℕ → Input Msg) → ℕ → Known
known_at p orders inputs zero = record { placed = []; gone = [] }
known_at p orders inputs (suc i) = (command p orders (inputs i) (known_at p orders inputs i)).state

abbrev pub commands_at : Params → List Order → (ℕ → Input Msg) → ℕ → List (Out Msg)
commands_at p orders inputs i = (command p orders (inputs i) (known_at p orders inputs i)).outs

-- it wrote in a beat that an instance is gone
pub record GoneAt (p : Params) (orders : List Order) (lives : Lives) (v b : ℕ) : Type 0 where
  pub at : ℕ
  pub done : at < lives.count (controller p)
  pub in_beat : beat_at (lives.input (controller p)) at ≡ b
  pub instance : Instance
  pub same : instance.0 ≡ v
  pub gone : In (out.Act (what.Gone instance)) (commands_at p orders (lives.input (controller p)) at)

-- it stopped an instance in a beat: it wrote so, and sent the deschedule to the cub of a number and to the next one
pub record Stops (p : Params) (orders : List Order) (lives : Lives) (v : Instance) (tag : Option Tag) (n b : ℕ) : Type 0 where
  pub at : ℕ
  pub done : at < lives.count (controller p)
  pub in_beat : beat_at (lives.input (controller p)) at ≡ b
  pub gone : In (out.Act (what.Gone v)) (commands_at p orders (lives.input (controller p)) at)
  pub near : In (out.Send (way_to_cub p (cub_of p n)) (msg.Deschedule v tag)) (commands_at p orders (lives.input (controller p)) at)
  pub far : In (out.Send (way_to_cub p (cub_of p (n + 1))) (msg.Deschedule v tag)) (commands_at p orders (lives.input (controller p)) at)

-- with the tag of a visit, to the visit's cub and the next one
pub record StoppedAt (p : Params) (orders : List Order) (lives : Lives) (v s n b : ℕ) : Type 0 where
  pub instance : Instance
  pub same : instance.0 ≡ v
  pub slot : SlotNo
  pub number : slot.0 ≡ s
  pub stops : Stops p orders lives instance (Some (record { slot = slot; visit = n })) n b

-- a start was ordered
abbrev pub IsOrdered : List Order → Ask → Type 0
IsOrdered orders ask = (beat : ℕ) × In (record { beat = beat; what = Begin ask }) orders

-- without a tag, to the cub of its start's disk and the next one
pub record StoppedWaiting (p : Params) (orders : List Order) (lives : Lives) (v d b : ℕ) : Type 0 where
  pub ask : Ask
  pub ordered : IsOrdered orders ask
  pub same : ask.instance.0 ≡ v
  pub disk : ask.disk.0 ≡ d
  pub stops : Stops p orders lives ask.instance None d b
