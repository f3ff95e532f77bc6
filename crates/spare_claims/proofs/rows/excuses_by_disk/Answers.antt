use Rattle.std.proofs.Common.{arith}
use Rattle.slot_plan.specs.Times.{cub_of, due, first_due, time_of}
use Rattle.spare_claims.proofs.rows.excuses_by_disk.Goals as goal

pub returns-clause-alive : goal.returns-clause-alive
unfolding cub_of
returns-clause-alive c js h = h

pub returns-clause-in_time : goal.returns-clause-in_time
unfolding due first_due time_of
returns-clause-in_time c js h = let soon = h.soon in omega (arith, soon)
