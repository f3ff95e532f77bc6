-- Orders for the worked rows.
use Rattle.std.specs.Prelude.{ℕ, List}
use Rattle.net_schedule.specs.Samples.{four, viewer, entry}
use Rattle.net_read.specs.declared.plan.NetOrder.{NetOrder}
use Rattle.net_read.specs.declared.plan.NetOrder.TheVariants as order
use Rattle.net_read.specs.Orders.{AreOrdersFrom}

abbrev pub ask_in : ℕ → ℕ → ℕ → ℕ → NetOrder
ask_in step v at rate = order.Ask step (entry v at rate)

abbrev pub stop_in : ℕ → ℕ → NetOrder
stop_in step v = order.Stop step (viewer v)

-- orders of a run of five steps of the ring of three cubs with four quanta each
abbrev pub AreInFive : List NetOrder → Type 0
AreInFive orders = AreOrdersFrom four 5 0 0 orders
