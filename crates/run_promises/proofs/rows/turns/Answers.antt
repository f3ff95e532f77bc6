use Rattle.std.proofs.Common.{arith}
use Rattle.slot_plan.specs.Times.{time_of}
use Rattle.run_promises.proofs.rows.turns.Goals as goal

pub returns-clause-turn : goal.returns-clause-turn
unfolding time_of
returns-clause-turn c = (omega arith, omega arith)

pub returns-clause-less : goal.returns-clause-less
unfolding time_of
returns-clause-less c h = omega (arith, h.0)

pub returns-clause-first : goal.returns-clause-first
unfolding time_of
returns-clause-first c = (omega arith, omega arith)

pub returns-clause-not_twice : goal.returns-clause-not_twice
unfolding time_of
returns-clause-not_twice c h = omega (arith, h.1)

pub returns-clause-step : goal.returns-clause-step
unfolding time_of
returns-clause-step c = omega arith

pub returns-clause-less_than_step : goal.returns-clause-less_than_step
unfolding time_of
returns-clause-less_than_step c h = omega (arith, h)
