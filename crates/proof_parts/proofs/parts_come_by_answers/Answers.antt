use Rattle.proof_parts.proofs.PartLives.{came_by_answer}
use Rattle.proof_parts.proofs.parts_come_by_answers.Goals as goal

pub returns : goal.returns
returns c = came_by_answer
