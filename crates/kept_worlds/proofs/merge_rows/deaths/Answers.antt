use Rattle.kept_worlds.proofs.Worked.{two-apart, two-beside, two-round, disk-dies}
use Rattle.kept_worlds.proofs.merge_rows.deaths.Goals as goal

pub returns-clause-apart : goal.returns-clause-apart
returns-clause-apart c = two-apart

pub returns-clause-beside : goal.returns-clause-beside
returns-clause-beside c = two-beside

pub returns-clause-round : goal.returns-clause-round
returns-clause-round c = two-round

pub returns-clause-disk : goal.returns-clause-disk
returns-clause-disk c = disk-dies
