use Rattle.std.proofs.Common.{List, subst}
use Rattle.std.specs.Prelude.{MatchOption}
use Rattle.node_kit.specs.declared.journal.Entry.{Entry}
use Rattle.audit_orders.specs.Returning.{TellReturns}
use Rattle.audit_orders.specs.Timing.{IsReturnAt}
use Rattle.audit_orders.proofs.Firsts.{pair_decides, return_decides}
use Rattle.audit_orders.proofs.timing.pair_or_return.Goals as goal

pub returns-in-Some : goal.returns-in-Some
returns-in-Some c = λ timed. pair_decides c.args.k.now c.in-Some.found timed c.in-Some.ensures

pub returns-in-None : goal.returns-in-None
returns-in-None c = λ timed. return_decides c.args.k.now c.first_untold.result timed c.in-None.ensures
    (subst (λ (js : List (List Entry)).
    MatchOption c.first_untold.result (TellReturns c.args.k.now.course js) (IsReturnAt c.args.k.now.course js)) c.as_slice.ensures
    c.first_untold.ensures)
