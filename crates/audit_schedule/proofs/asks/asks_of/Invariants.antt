use Rattle.std.proofs.Common.{◌≡◌, take}
use Rattle.std.specs.List.{list_any}
use Rattle.tiger_base.specs.declared.tenancy.Ask.{Ask}
use Rattle.audit_frame.specs.Tables.{has_ask}
use Rattle.audit_schedule.specs.Fair.{begins_for}
use Rattle.audit_schedule.proofs.asks.asks_of.Given as goal

-- the table has the asks of the orders so far
abbrev pub invariant-loop-order : goal.invariant-loop-order
invariant-loop-order l = record {
  has : (a : Ask) → has_ask a l.asks ≡ list_any (λ o. begins_for a o.what) (take l.order-index l.orders);
}
