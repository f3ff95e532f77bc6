use Rattle.proof_lives.proofs.KeepingRecords.{keeps_records}
use Rattle.proof_lives.proofs.cubs_keep_their_records.Goals as goal

pub returns : goal.returns
returns c = keeps_records
