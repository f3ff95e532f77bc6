-- What is ordered: asks, which make the instances in order, and stops of instances that were asked for before.
use Rattle.std.specs.Prelude.{◌≡◌, ℕ, ◌+◌, ◌<◌, ◌≤◌, Bool, true, false, List, [], ◌∷◌, length, if◌then◌else◌}
use Rattle.net_schedule.specs.declared.ring.NetRing.{NetRing}
use Rattle.net_schedule.specs.declared.ring.Entry.{Entry}
use Rattle.net_schedule.specs.Rings.{quanta_in}
use Rattle.net_read.specs.declared.plan.NetOrder.{NetOrder}
use Rattle.net_read.specs.declared.plan.NetOrder.TheVariants as order

-- the most asks and stops
abbrev pub most_orders : ℕ
most_orders = 4000

abbrev pub step_of : NetOrder → ℕ
step_of (order.Ask step entry) = step
step_of (order.Stop step instance) = step

abbrev pub is_ask : NetOrder → Bool
is_ask (order.Ask step entry) = true
is_ask (order.Stop step instance) = false

-- an entry may be asked for: it begins at a quantum of the ring, and its rate is possible
pub record IsEntryIn (r : NetRing) (e : Entry) : Type 0 where
  pub at : e.at < quanta_in r
  pub some : 1 ≤ e.rate
  pub few : e.rate ≤ r.capacity

-- one for an ask
abbrev pub asks_of : NetOrder → ℕ
asks_of o = if is_ask o then 1 else 0

-- behind so many asks an order is possible: an ask makes the next instance, and a stop is of one that was asked for
abbrev pub IsPossibleOrder : NetRing → ℕ → NetOrder → Type 0
IsPossibleOrder r asks (order.Ask step entry) = (entry.instance.0 ≡ asks) × IsEntryIn r entry
IsPossibleOrder r asks (order.Stop step instance) = instance.0 < asks

-- an order in a step of the run that is not before another one, behind so many asks
pub record IsOrderIn (r : NetRing) (steps latest asks : ℕ) (o : NetOrder) : Type 0 where
  pub late : latest ≤ step_of o
  pub early : step_of o < steps
  pub possible : IsPossibleOrder r asks o

-- orders of which each is such, behind those in front of it
abbrev pub AreOrdersFrom : NetRing → ℕ → ℕ → ℕ → List NetOrder → Type 0
AreOrdersFrom r steps latest asks [] = Unit {0}
AreOrdersFrom r steps latest asks (o ∷ os) =
    IsOrderIn r steps latest asks o × AreOrdersFrom r steps (step_of o) (asks + asks_of o) os

-- the orders of a run: few, in its steps, which never fall, and each possible behind those in front of it
pub record AreOrders (r : NetRing) (steps : ℕ) (orders : List NetOrder) : Type 0 where
  pub few : length orders ≤ most_orders
  pub each : AreOrdersFrom r steps 0 0 orders
