use Rattle.std.proofs.Common.{List, arith, subst}
use Rattle.node_kit.specs.declared.course.Order.{Order}
use Rattle.run_claims.specs.Accounts.{ticks_in}
use Rattle.audit_frame.specs.Lines.{told_by}
use Rattle.audit_waits.proofs.Saying.{lines_are_in_order}
use Rattle.audit_waits.specs.Ticks.{DecidesPatience}
use Rattle.audit_verdict.specs.declared.clause.Clause.TheVariants as clause
use Rattle.audit_verdict.proofs.Clauses.{commanded_before, timed_before}
use Rattle.audit_verdict.proofs.Decided.{fair_decided, inside_tick}
use Rattle.audit_verdict.proofs.ends.passed_over.Goals as goal

pub first_passed_over-requires-clause-course : goal.first_passed_over-requires-clause-course
first_passed_over-requires-clause-course c = c.requires.writable.course

pub first_passed_over-requires-clause-order : goal.first_passed_over-requires-clause-order
first_passed_over-requires-clause-order c = lines_are_in_order c.args.kept.now c.args.log.now c.requires.told

pub tick_in-requires : goal.tick_in-requires
tick_in-requires c =
    let k = c.args.kept.now in
    inside_tick k c.args.log.now c.in_ok-found.found
    (subst (λ (os : List Order). DecidesPatience k.course.plan.params os (ticks_in k.course) (told_by c.args.log.now) c.in_ok-found.found)
    c.as_slice.ensures c.in_ok-found.ensures)

pub returns : goal.returns
returns c =
    let k = c.args.kept.now in
    let timed = timed_before k clause.FairStarts c.requires.before (omega arith) in
    let commanded = commanded_before k clause.FairStarts c.requires.before (omega arith) in
    fair_decided k c.args.log.now c.in_ok-found.found c.tick_in.result c.requires.told commanded
    (subst (λ (os : List Order). DecidesPatience k.course.plan.params os (ticks_in k.course) (told_by c.args.log.now) c.in_ok-found.found)
    c.as_slice.ensures c.in_ok-found.ensures)
    (c.tick_in.ensures k c.requires.told timed)
