use Rattle.run_model.proofs.Timely.{timed}
use Rattle.run_model.proofs.timing.timed.Goals as goal

pub returns : goal.returns
returns c = rw c.is_timed_run.ensures (timed c.args.k.now)
