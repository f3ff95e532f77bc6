use Rattle.std.proofs.Common.{rules}
use Rattle.mirror_schedule.specs.Pieces.{is_same}
use Rattle.mirror_schedule.proofs.row.Wanted.covers.Goals as goal

pub returns-in-Just : goal.returns-in-Just
unfolding is_same
returns-in-Just c = search rules
