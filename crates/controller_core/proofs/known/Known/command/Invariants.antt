use Rattle.std.proofs.Common.{drop}
use Rattle.node_kit.proofs.Turns.{IsUnderway}
use Rattle.controller_core.specs.State.{AreInForm}
use Rattle.controller_core.specs.Rules.{carrying}
use Rattle.controller_core.proofs.known.Known.command.Given as goal

abbrev pub invariant-loop-order : goal.invariant-loop-order
invariant-loop-order l = record {
  goes_on : IsUnderway (carrying l.plan.params l.orders l.stamp.reading) l.order-items (drop l.order-index l.order-items) l.fn.self l.self l.fn.out l.out;
  in_form : AreInForm l.plan.params l.self;
}
