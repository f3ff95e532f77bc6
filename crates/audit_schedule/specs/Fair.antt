-- Fair Puts, each said of its own entry and of what stands at the moment before it.
use Rattle.std.specs.Prelude.{◌≡◌, ◌↔◌, ℕ, ◌+◌, ◌-◌, ◌^◌, ◌<◌, ◌≤◌, Bool, false, List, IsTrue}
use Rattle.tiger_base.specs.declared.tenancy.Ask.{Ask}
use Rattle.tiger_base.specs.declared.tenancy.Tenancy.{Tenancy}
use Rattle.slot_plan.specs.declared.params.Params.{Params}
use Rattle.slot_plan.specs.Times.{in_window, disk_of}
use Rattle.node_kit.specs.declared.journal.What.{What}
use Rattle.node_kit.specs.declared.journal.What.TheVariants as what
use Rattle.node_kit.specs.declared.course.Order.{Order}
use Rattle.node_kit.specs.declared.course.OrderKind.{OrderKind}
use Rattle.node_kit.specs.declared.course.OrderKind.TheVariants as kind
use Rattle.run_facts.specs.Order.{Noted}
use Rattle.run_model.specs.Schedule.{IsFreeFrom}
use Rattle.run_model.specs.Moments.{Moment}
use Rattle.run_model.specs.Orders.{IsOrdered, IsTenancyFor, MayPut}
use Rattle.audit_frame.specs.Tables.{AskNumbers, has_ask, same_ask}
use Rattle.audit_frame.specs.declared.lines.Line.{Line}

-- a start that was ordered asks for the tenancy
abbrev pub IsAskedFor : Params → List Order → Tenancy → Type 0
IsAskedFor p orders t = (ask : Ask) × IsOrdered orders ask × IsTenancyFor p ask t

-- a cub puts a tenancy into a slot that is free, rightly, and no entry before puts the instance
pub record PutIsFairSoFar (p : Params) (orders : List Order) (m : Moment) (c reading : ℕ) (t : Tenancy) : Type 0 where
  pub free : IsFreeFrom m.schedule t.slot.0 t.first
  pub asked : IsAskedFor p orders t
  pub slot : t.slot.0 < p.slots
  pub window : IsTrue (in_window p reading t.slot.0 t.first)
  pub cub : MayPut p m c t.first
  pub new : m.put t.instance.0 ≡ false

abbrev pub WhatIsFairSoFar : Params → List Order → Moment → ℕ → ℕ → What → Type 0
WhatIsFairSoFar p orders m c reading (what.Put t) = PutIsFairSoFar p orders m c reading t
WhatIsFairSoFar p orders m c reading other = Unit {0}

abbrev pub IsFairSoFar : Params → List Order → Moment → Noted → Type 0
IsFairSoFar p orders m x = WhatIsFairSoFar p orders m x.node x.entry.stamp.reading x.entry.what

-- the visits that a Put names are none that is too late for a time
abbrev pub IsEarlyPut : What → Type 0
IsEarlyPut (what.Put t) = (t.first ≤ 2 ^ 32) × (t.last ≤ 2 ^ 32)
IsEarlyPut other = Unit {0}

abbrev pub IsEarlyLine : Line → Type 0
IsEarlyLine line = IsEarlyPut line.entry.now.what

-- ---- the table of the orders

-- whether an order begins the start of an ask
abbrev pub begins_for : Ask → OrderKind → Bool
begins_for a (kind.Begin ask) = same_ask ask a
begins_for a (kind.Finish v) = false

-- a table has exactly the asks of the starts that were ordered
abbrev pub AreAsksOf : AskNumbers → List Order → Type 0
AreAsksOf asks orders = (a : Ask) → IsTrue (has_ask a asks) ↔ IsOrdered orders a

-- the only ask of which a tenancy can be
abbrev pub ask_by : Params → Tenancy → Ask
ask_by p t = record {
  instance = t.instance;
  file = t.file;
  count = t.last + 1 - t.first;
  disk = record { 0 = disk_of p t.first };
}
