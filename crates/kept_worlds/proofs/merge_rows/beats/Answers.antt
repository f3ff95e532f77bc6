use Rattle.kept_worlds.proofs.Worked.{all-early, one-late}
use Rattle.kept_worlds.proofs.merge_rows.beats.Goals as goal

pub returns-clause-early : goal.returns-clause-early
returns-clause-early c = all-early

pub returns-clause-late : goal.returns-clause-late
returns-clause-late c = one-late
