use Rattle.run_report.proofs.Fronts.{all_tables}
use Rattle.run_report.proofs.index.Index.of.Goals as goal

pub invariant_of-result : goal.invariant_of-result
invariant_of-result c =
    all_tables c.args.course.now.plan.params c.args.journals.now _ _ c.in_ok-read_others.ensures c.in_ok-deaths.ensures.deaths
