use Rattle.tiger_run.proofs.Samples.{none_is_the_same, other_answer}
use Rattle.tiger_run.proofs.rows.one_answer.Goals as goal

pub returns-clause-nothing_asked : goal.returns-clause-nothing_asked
returns-clause-nothing_asked g c told k = λ old new others other same alike asked. absurd (none_is_the_same others alike)

pub returns-clause-another_kept : goal.returns-clause-another_kept
returns-clause-another_kept g c old new k other asked differs answer = other_answer _ old new k other asked differs answer
