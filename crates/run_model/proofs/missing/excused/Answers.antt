use Rattle.run_model.proofs.Reasons.{excused}
use Rattle.run_model.proofs.missing.excused.Goals as goal

pub returns : goal.returns
returns c =
    rw c.is_excused.ensures (excused c.args.k.now.course.plan.params c.args.k.now.journals c.args.v.0 c.args.n)
