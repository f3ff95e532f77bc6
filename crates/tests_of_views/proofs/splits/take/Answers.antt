use Rattle.tests_of_views.proofs.Kept.{kept_fewer}
use Rattle.tests_of_views.proofs.splits.take.Goals as goal

pub returns : goal.returns
returns c = kept_fewer _ c.args.splits.now _ c.requires c.take_of-taken.ensures.left
