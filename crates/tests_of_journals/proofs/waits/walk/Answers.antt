use Rattle.audit_waits.proofs.Saying.{lines_are_in_order}
use Rattle.tests_of_journals.proofs.waits.walk.Goals as goal

pub first_passed_over-requires-clause-order : goal.first_passed_over-requires-clause-order
first_passed_over-requires-clause-order c =
    rw c.as_slice-2.ensures.value (lines_are_in_order c.args.kept.now _ c.in_ok-lines.ensures)
