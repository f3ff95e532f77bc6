use Rattle.std.proofs.Common.{◌≡◌, take}
use Rattle.std.specs.List.{flat_map}
use Rattle.run_report.specs.Outcomes.{order_outcomes}
use Rattle.run_report.proofs.found.outcomes.Given as goal

-- what became of the starts so far
abbrev pub invariant-loop-order : goal.invariant-loop-order
invariant-loop-order l =
    l.outcomes.items ≡ flat_map (λ o. order_outcomes l.course l.catalogue l.journals o.what) (take l.order-index l.orders)
