use Rattle.std.proofs.Common.{arith}
use Rattle.std.proofs.Common.{List, subst}
use Rattle.node_kit.specs.declared.course.ReadFault.{ReadFault}
use Rattle.run_claims.specs.Truths.{FailuresAreTrue}
use Rattle.audit_frame.specs.First.{Decides}
use Rattle.audit_frame.specs.Lines.{told_by}
use Rattle.audit_verdict.specs.declared.clause.Clause.TheVariants as clause
use Rattle.audit_verdict.proofs.Clauses.{timed_before}
use Rattle.audit_verdict.proofs.Decided.{decided, inside_log}
use Rattle.audit_verdict.proofs.schedule.false_failure.Goals as goal

pub logged-requires : goal.logged-requires
logged-requires c = inside_log (FailuresAreTrue c.args.kept.now.course.plan.params c.as_slice-faults.result.now) c.args.log.now c.in_ok-found.found c.in_ok-found.ensures

pub returns : goal.returns
returns c =
    let k = c.args.kept.now in
    let timed = timed_before k clause.TrueFaults c.requires.before (omega arith) in
    decided k (FailuresAreTrue k.course.plan.params k.course.faults) _ c.in_ok-found.found c.logged.result c.requires.told
    (subst (λ (fs : List ReadFault). Decides (FailuresAreTrue k.course.plan.params fs) (told_by c.args.log.now) c.in_ok-found.found)
    c.as_slice-faults.ensures c.in_ok-found.ensures)
    (c.logged.ensures k c.requires.told timed)
