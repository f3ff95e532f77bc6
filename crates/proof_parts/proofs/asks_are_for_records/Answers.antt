use Rattle.proof_parts.proofs.AskLives.{read_for, asked_disk}
use Rattle.proof_parts.proofs.asks_are_for_records.Goals as goal

pub returns : goal.returns
returns c = λ p lives plan are. record {
  reads = read_for p plan lives are;
  records = λ a whole here. asked_disk p plan lives a whole here;
}
