use Rattle.std.proofs.Common.{arith}
use Rattle.run_model.proofs.OnSamples.{on_samples}
use Rattle.run_model.proofs.rows.settling.Goals as goal

pub returns-clause-settled : goal.returns-clause-settled
unfolding on_samples
returns-clause-settled c = omega arith

pub returns-clause-too_soon : goal.returns-clause-too_soon
unfolding on_samples
returns-clause-too_soon c h = omega (arith, h)

pub returns-clause-next_visit : goal.returns-clause-next_visit
unfolding on_samples
returns-clause-next_visit c h = omega (arith, h)

pub returns-clause-next_slot : goal.returns-clause-next_slot
unfolding on_samples
returns-clause-next_slot c h = omega (arith, h)
