use Rattle.std.proofs.Common.{refl, arith}
use Rattle.net_read.proofs.rows.orders.Goals as goal

pub returns-clause-possible : goal.returns-clause-possible
returns-clause-possible c = (
  record { late = omega arith; early = omega arith; possible = (refl, record { at = omega arith; some = omega arith; few = omega arith }) },
  (
    record { late = omega arith; early = omega arith; possible = omega arith },
    (record { late = omega arith; early = omega arith; possible = (refl, record { at = omega arith; some = omega arith; few = omega arith }) }, tt),
  ),
)

pub returns-clause-falls : goal.returns-clause-falls
returns-clause-falls c h = omega (arith, h.1.0.late)

pub returns-clause-beyond : goal.returns-clause-beyond
returns-clause-beyond c h = omega (arith, h.0.early)

pub returns-clause-other_instance : goal.returns-clause-other_instance
returns-clause-other_instance c h = omega (arith, h.0.possible.0)

pub returns-clause-other_quantum : goal.returns-clause-other_quantum
returns-clause-other_quantum c h = omega (arith, h.0.possible.1.at)

pub returns-clause-no_rate : goal.returns-clause-no_rate
returns-clause-no_rate c h = omega (arith, h.0.possible.1.some)

pub returns-clause-too_much : goal.returns-clause-too_much
returns-clause-too_much c h = omega (arith, h.0.possible.1.few)

pub returns-clause-not_asked : goal.returns-clause-not_asked
returns-clause-not_asked c h = omega (arith, h.0.possible)
