-- The orders of a run, and that what a controller sends in a beat has each start once.
use Rattle.std.specs.Prelude.{◌≡◌, ℕ, List, Bool, Some, slice_get}
use Rattle.tiger_base.specs.declared.number.Stamp.{Stamp}
use Rattle.tiger_base.specs.declared.tenancy.Ask.{Ask}
use Rattle.tiger_base.specs.declared.message.Msg.{Msg}
use Rattle.tiger_base.specs.declared.message.Msg.TheVariants as msg
use Rattle.slot_plan.specs.declared.params.Params.{Params}
use Rattle.slot_plan.specs.Conditions.{IsPlan}
use Rattle.node_kit.specs.declared.course.Order.{Order}
use Rattle.run_facts.specs.Events.{Dated, sends_of}
use Rattle.cub_rules.specs.State.{IsAsk}
use Rattle.controller_core.specs.declared.known.Known.{Known}
use Rattle.controller_core.specs.Orders.{AreOrders, Starts}
use Rattle.controller_core.specs.Rules.{commanding}

-- Orders that can be given, each start of which has blocks.
pub record AreCounted (p : Params) (orders : List Order) : Type 0 where
  pub given : AreOrders p orders
  pub counted : (k : ℕ) (ask : Ask) → Starts orders k ask → IsAsk ask

-- Message k of what is sent on a link is a start of instance v.
pub record StartAt (ds : List (Dated Msg)) (k v : ℕ) : Type 0 where
  pub beat : ℕ
  pub ask : Ask
  pub redundant : Bool
  pub at : slice_get ds k ≡ Some (record { beat = beat; item = msg.Start redundant ask })
  pub same : ask.instance.0 ≡ v

-- No instance is started twice among them.
abbrev pub IsOnce : List (Dated Msg) → Type 0
IsOnce ds = (v j k : ℕ) → StartAt ds j v → StartAt ds k v → j ≡ k

-- So it is with what a controller sends on any link as it carries out the orders of a beat.
abbrev pub CommandsStartOnce : Type 0
CommandsStartOnce =
    (p : Params) (orders : List Order) (stamp : Stamp) (known : Known) (link beat : ℕ)
    → IsPlan p → AreCounted p orders
    → IsOnce (sends_of link beat (commanding p orders stamp known).outs)
