use Rattle.proof_blocks.proofs.Tracing.{marks_tell}
use Rattle.proof_blocks.proofs.marks_tell_of_asks.Goals as goal

pub returns : goal.returns
returns c = λ p c inputs i y there own. marks_tell p c inputs i y there own
