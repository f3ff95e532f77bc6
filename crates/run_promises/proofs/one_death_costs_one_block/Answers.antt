use Rattle.run_promises.proofs.Served.{one_death_costs_one_block}
use Rattle.run_promises.proofs.one_death_costs_one_block.Goals as goal

pub returns : goal.returns
returns c = one_death_costs_one_block
