use Rattle.cub_tick.proofs.Parts.{first_taken, first_left}
use Rattle.disk_death.proofs.splitting.take_leaving.Goals as goal

pub returns-clause-first : goal.returns-clause-first
returns-clause-first c = first_taken c.args.plan.now.params c.args.time c.args.pieces.now c.requires c.take_by.result c.take_by.ensures.first

pub returns-clause-left : goal.returns-clause-left
returns-clause-left c = first_left c.args.plan.now.params c.args.time c.args.pieces.now _ c.requires c.take_by.ensures.left
