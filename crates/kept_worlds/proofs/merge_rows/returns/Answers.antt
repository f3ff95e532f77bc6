use Rattle.kept_worlds.proofs.Worked.{dies-returns, returns-late}
use Rattle.kept_worlds.proofs.merge_rows.returns.Goals as goal

pub returns-clause-back : goal.returns-clause-back
returns-clause-back c = dies-returns

pub returns-clause-late : goal.returns-clause-late
returns-clause-late c = returns-late
