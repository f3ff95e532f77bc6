use Rattle.std.proofs.Common.{refl, arith}
use Rattle.run_model.proofs.OnSamples.{on_samples}
use Rattle.audit_blocks.proofs.rows.shares.Goals as goal

pub returns-clause-settled : goal.returns-clause-settled
unfolding on_samples
returns-clause-settled c k p = record { settled = refl; read = refl; piece = refl; dead = refl; stopped = refl }

pub returns-clause-unsettled : goal.returns-clause-unsettled
unfolding on_samples
returns-clause-unsettled c k p = record { settled = refl; read = refl; piece = refl; dead = refl; stopped = refl }

pub returns-clause-stopped : goal.returns-clause-stopped
unfolding on_samples
returns-clause-stopped c k p = record { settled = refl; read = refl; piece = refl; dead = refl; stopped = refl }

pub returns-clause-stopped_late : goal.returns-clause-stopped_late
unfolding on_samples
returns-clause-stopped_late c k p = record { settled = refl; read = refl; piece = refl; dead = refl; stopped = refl }

pub returns-clause-read : goal.returns-clause-read
unfolding on_samples
returns-clause-read c k p = record { settled = refl; read = refl; piece = refl; dead = refl; stopped = refl }

pub returns-clause-read_elsewhere : goal.returns-clause-read_elsewhere
unfolding on_samples
returns-clause-read_elsewhere c k p = record { settled = refl; read = refl; piece = refl; dead = refl; stopped = refl }

pub returns-clause-read_and_stopped : goal.returns-clause-read_and_stopped
unfolding on_samples
returns-clause-read_and_stopped c k p = record { settled = refl; read = refl; piece = refl; dead = refl; stopped = refl }

pub returns-clause-dead : goal.returns-clause-dead
unfolding on_samples
returns-clause-dead c k p = record { settled = refl; read = refl; piece = refl; dead = refl; stopped = refl }

pub returns-clause-dead_behind : goal.returns-clause-dead_behind
unfolding on_samples
returns-clause-dead_behind c k p = record { settled = refl; read = refl; piece = refl; dead = refl; stopped = refl }

pub returns-clause-piece : goal.returns-clause-piece
unfolding on_samples
returns-clause-piece c k p = record { settled = refl; read = refl; piece = refl; dead = refl; stopped = refl }

pub returns-clause-no_piece : goal.returns-clause-no_piece
unfolding on_samples
returns-clause-no_piece c k p = record { settled = refl; read = refl; piece = refl; dead = refl; stopped = refl }

pub returns-clause-stopped_later : goal.returns-clause-stopped_later
unfolding on_samples
returns-clause-stopped_later c k p = record { settled = refl; read = refl; piece = refl; dead = refl; stopped = refl }

pub returns-clause-counted : goal.returns-clause-counted
unfolding on_samples
returns-clause-counted c k p h = let none = h.settled in omega (arith, none)
