use Rattle.proof_worlds.proofs.Worlds.{one_schedule}
use Rattle.proof_worlds.proofs.has_one_schedule.Goals as goal

pub returns : goal.returns
returns g c = one_schedule _ c.args.world.now c.is_what_its_events_make.ensures c.accepted_lists_have_one_schedule.ensures c.requires
