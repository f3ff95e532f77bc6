use Rattle.proof_turns.proofs.Ticks.{ticks_other}
use Rattle.proof_turns.proofs.ticks_begin_otherwise.Goals as goal

pub returns : goal.returns
returns c = ticks_other
