use Rattle.proof_parts.proofs.PartLives.{stays_until}
use Rattle.proof_parts.proofs.parts_stay.Goals as goal

pub returns : goal.returns
returns c = stays_until
