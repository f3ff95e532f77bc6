-- What holds of every plan.
use Rattle.std.specs.Prelude.{ℕ, ◌≤◌, List, Option, IfSome}
use Rattle.net_schedule.specs.declared.ring.NetRing.{NetRing}
use Rattle.net_schedule.specs.Rings.{IsRing}
use Rattle.net_read.specs.declared.plan.NetOrder.{NetOrder}
use Rattle.net_read.specs.Orders.{AreOrders}

-- the most steps of a run, and the most from one renewal to the next
abbrev pub most_steps : ℕ
most_steps = 100000

-- at least one, and no more than the most steps
abbrev pub IsCount : ℕ → Type 0
IsCount n = (1 ≤ n) × (n ≤ most_steps)

-- what a plan says
pub record NetSaid : Type 0 where
  pub ring : NetRing
  pub steps : ℕ
  pub seed : Option ℕ
  pub renew : Option ℕ
  pub orders : List NetOrder

-- the numbers of the ring lie in their ranges, there are steps, and the orders are possible
pub record IsNetPlan (p : NetSaid) : Type 0 where
  pub ring : IsRing p.ring
  pub steps : IsCount p.steps
  pub renew : IfSome p.renew IsCount
  pub orders : AreOrders p.ring p.steps p.orders
