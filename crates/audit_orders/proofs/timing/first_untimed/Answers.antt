use Rattle.std.proofs.Common.{List, subst}
use Rattle.node_kit.specs.declared.journal.Entry.{Entry}
use Rattle.audit_orders.specs.Timing.{AreTimedIn}
use Rattle.audit_orders.proofs.timing.first_untimed.Goals as goal

pub returns-in-None : goal.returns-in-None
returns-in-None c =
    c.pair_or_return.ensures
    (subst (λ (js : List (List Entry)). AreTimedIn c.args.k.now.course js) c.as_slice.ensures c.in-None.ensures)
