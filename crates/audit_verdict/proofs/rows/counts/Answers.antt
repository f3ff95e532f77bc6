use Rattle.std.proofs.Common.{refl, arith}
use Rattle.audit_verdict.proofs.rows.counts.Goals as goal

pub returns-clause-is : goal.returns-clause-is
returns-clause-is c = record { all = refl; puts = refl; stops = refl; deaths = refl; blocks = refl; pieces = refl }

pub returns-clause-blocks : goal.returns-clause-blocks
returns-clause-blocks c h = let two = h.blocks in omega (arith, two)

pub returns-clause-others : goal.returns-clause-others
returns-clause-others c h = let one = h.blocks in omega (arith, one)
