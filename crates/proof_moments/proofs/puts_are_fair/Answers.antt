use Rattle.proof_schedule.specs.Logs.{facts_in}
use Rattle.proof_moments.proofs.puts_are_fair.Goals as goal
use Rattle.proof_moments.proofs.Free as lemma

pub returns : goal.returns
returns c p log orders journals beats w = lemma.puts_are_fair p (facts_in log) orders journals beats w
