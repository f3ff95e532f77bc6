use Rattle.mirror_schedule.proofs.Agendas.{front_empty, front_first}
use Rattle.mirror_schedule.proofs.agenda.front_of.Goals as goal

pub returns-in-Some : goal.returns-in-Some
returns-in-Some c = front_first c.args.ranks.now.keys c.in-Some.rank.now c.in-Some.ensures.first

pub returns-in-None : goal.returns-in-None
returns-in-None c = front_empty c.args.ranks.now.keys (λ l. cc (c.in-None.ensures.variant.1 l))
