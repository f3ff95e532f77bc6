use Rattle.tests_of_views.proofs.Kept.{kept_left}
use Rattle.tests_of_views.proofs.splits.expire.Goals as goal

pub returns : goal.returns
returns c = kept_left _ c.args.splits.now _ c.requires c.expire-count.ensures.left
