use Rattle.std.proofs.Common.{arith}
use Rattle.std.proofs.Common.{List, subst}
use Rattle.node_kit.specs.declared.course.Order.{Order}
use Rattle.run_model.specs.Orders.{PutsAreFair}
use Rattle.audit_frame.specs.First.{Decides}
use Rattle.audit_frame.specs.Lines.{told_by}
use Rattle.audit_verdict.specs.declared.clause.Clause.TheVariants as clause
use Rattle.audit_verdict.proofs.Clauses.{timed_before}
use Rattle.audit_verdict.proofs.Decided.{decided, inside_log}
use Rattle.audit_verdict.proofs.Needed.{early_journals}
use Rattle.audit_schedule.proofs.Saying.{lines_are_early}
use Rattle.audit_verdict.proofs.schedule.unfair_put.Goals as goal

pub first_unfair_put-requires : goal.first_unfair_put-requires
first_unfair_put-requires c =
    lines_are_early c.args.kept.now c.args.log.now (early_journals c.args.kept.now c.requires.writable) c.requires.told

pub logged-requires : goal.logged-requires
logged-requires c = inside_log (PutsAreFair c.args.kept.now.course.plan.params c.as_slice.result.now) c.args.log.now c.in_ok-found.found c.in_ok-found.ensures

pub returns : goal.returns
returns c =
    let k = c.args.kept.now in
    let timed = timed_before k clause.FreePuts c.requires.before (omega arith) in
    decided k (PutsAreFair k.course.plan.params k.orders) _ c.in_ok-found.found c.logged.result c.requires.told
    (subst (λ (os : List Order). Decides (PutsAreFair k.course.plan.params os) (told_by c.args.log.now) c.in_ok-found.found) c.as_slice.ensures
    c.in_ok-found.ensures)
    (c.logged.ensures k c.requires.told timed)
