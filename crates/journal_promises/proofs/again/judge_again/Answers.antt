use Rattle.journal_promises.proofs.Answering.{judged_yes}
use Rattle.journal_promises.proofs.again.judge_again.Goals as goal

pub returns : goal.returns
returns c = judged_yes c.args.kept.now c.judge.result c.requires.clauses c.judge.ensures
