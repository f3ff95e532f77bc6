use Rattle.std.proofs.Common.{◌≡◌, ◌++◌, drop}
use Rattle.audit_orders.specs.Starts.{wanted_from}
use Rattle.audit_orders.proofs.starts.wanted_of.Given as goal

-- what is pushed and what the orders that are left want is what all orders want
abbrev pub invariant-loop-j : goal.invariant-loop-j
invariant-loop-j l = record {
  told : l.wanted.items ++ wanted_from l.plan.params l.beats l.j (drop l.j l.orders) ≡ wanted_from l.plan.params l.beats 0 l.orders;
}
