use Rattle.std.proofs.Common.{List, subst}
use Rattle.std.specs.Prelude.{IfOk}
use Rattle.node_kit.specs.declared.course.ReadFault.{ReadFault}
use Rattle.run_claims.specs.Truths.{FailuresAreTrue}
use Rattle.audit_frame.specs.First.{Decides}
use Rattle.audit_frame.specs.Lines.{told_by}
use Rattle.audit_schedule.proofs.failures.first_false_failure.Goals as goal

pub returns : goal.returns
returns c = subst (λ (faults : List ReadFault). IfOk c.first_false.result (Decides (FailuresAreTrue c.args.plan.now.params faults) (told_by c.args.log.now)))
    c.in_ok-by_disk.ensures c.first_false.ensures
