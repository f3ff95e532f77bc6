use Rattle.proof_cubs.proofs.Watching.{shown}
use Rattle.proof_cubs.proofs.watches_show_heartbeats.Goals as goal

pub returns : goal.returns
returns c = shown
