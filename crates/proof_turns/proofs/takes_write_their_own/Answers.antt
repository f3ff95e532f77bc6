use Rattle.proof_turns.proofs.Takes.{takes_own}
use Rattle.proof_turns.proofs.takes_write_their_own.Goals as goal

pub returns : goal.returns
returns c = takes_own
