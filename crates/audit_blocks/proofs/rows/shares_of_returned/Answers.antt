use Rattle.std.proofs.Common.{refl}
use Rattle.run_model.proofs.OnSamples.{on_samples}
use Rattle.audit_blocks.proofs.rows.shares_of_returned.Goals as goal

pub returns-clause-piece : goal.returns-clause-piece
unfolding on_samples
returns-clause-piece c k p = record { settled = refl; read = refl; piece = refl; dead = refl; stopped = refl }

pub returns-clause-piece_in_time : goal.returns-clause-piece_in_time
unfolding on_samples
returns-clause-piece_in_time c k p = record { settled = refl; read = refl; piece = refl; dead = refl; stopped = refl }

pub returns-clause-dead : goal.returns-clause-dead
unfolding on_samples
returns-clause-dead c k p = record { settled = refl; read = refl; piece = refl; dead = refl; stopped = refl }

pub returns-clause-dead_in_time : goal.returns-clause-dead_in_time
unfolding on_samples
returns-clause-dead_in_time c k p = record { settled = refl; read = refl; piece = refl; dead = refl; stopped = refl }
