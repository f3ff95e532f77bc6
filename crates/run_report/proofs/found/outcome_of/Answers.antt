use Rattle.run_report.proofs.Forms.{placed_form}
use Rattle.run_report.proofs.found.outcome_of.Goals as goal

pub blocks_of-requires-clause-form : goal.blocks_of-requires-clause-form
blocks_of-requires-clause-form c =
    rw c.placed-placed.ensures (placed_form c.args.index.now.course.plan.params c.args.index.now.journals c.args.ask.instance.0)
