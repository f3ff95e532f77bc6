use Rattle.run_model.proofs.Walking.{shows_stop}
use Rattle.run_model.proofs.slots.Walk.stop.Goals as goal

pub returns-clause-shows : goal.returns-clause-shows
returns-clause-shows c s beat h =
    shows_stop c.args.self.now _ s beat c.args.v c.take_out.ensures c.in_ok-push.ensures.items h
