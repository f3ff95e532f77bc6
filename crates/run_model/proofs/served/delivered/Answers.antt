use Rattle.run_model.proofs.Deliveries.{delivered}
use Rattle.run_model.proofs.served.delivered.Goals as goal

pub returns : goal.returns
returns c =
    rw c.is_delivered.ensures
    (delivered c.args.k.now.course.plan.params c.args.k.now.catalogue c.args.k.now.journals c.args.v.0 c.args.n)
