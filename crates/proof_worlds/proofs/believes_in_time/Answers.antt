use Rattle.proof_worlds.proofs.Worlds.{believes_in_time}
use Rattle.proof_worlds.proofs.believes_in_time.Goals as goal

pub returns : goal.returns
returns g c = believes_in_time _ c.args.world.now c.is_what_its_events_make.ensures c.accepted_lists_believe_in_time.ensures c.requires
