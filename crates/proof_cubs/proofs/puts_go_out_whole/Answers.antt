use Rattle.proof_cubs.proofs.Together.{puts_go_whole}
use Rattle.proof_cubs.proofs.puts_go_out_whole.Goals as goal

pub returns : goal.returns
returns c = puts_go_whole
