use Rattle.std.proofs.Common.{refl, arith}
use Rattle.proof_ring.proofs.rows.clocks.Goals as goal

pub returns-clause-its_own : goal.returns-clause-its_own
returns-clause-its_own c = record { beats = refl; shows = λ i low tick. refl }

pub returns-clause-a_beat_less : goal.returns-clause-a_beat_less
returns-clause-a_beat_less c h = let beats = h.beats in omega (arith, beats)

pub returns-clause-true_time : goal.returns-clause-true_time
returns-clause-true_time c h = let shown = h.shows 1 (omega arith) refl in omega (arith, shown)
