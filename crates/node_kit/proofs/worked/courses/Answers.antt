use Rattle.std.proofs.Common.{arith}
use Rattle.node_kit.proofs.worked.courses.Goals as goal

pub returns-clause-apart : goal.returns-clause-apart
returns-clause-apart c = omega arith

pub returns-clause-next : goal.returns-clause-next
returns-clause-next c h = omega (arith, h)

pub returns-clause-undying : goal.returns-clause-undying
returns-clause-undying c h = h

pub returns-clause-cut : goal.returns-clause-cut
returns-clause-cut c = tt

pub returns-clause-uncut : goal.returns-clause-uncut
returns-clause-uncut c = tt

pub returns-clause-cut_undying : goal.returns-clause-cut_undying
returns-clause-cut_undying c h = h
