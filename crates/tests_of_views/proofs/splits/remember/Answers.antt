use Rattle.std.proofs.lemmas.Result.{on_ok_weaker}
use Rattle.tests_of_views.proofs.Kept.{kept_more}
use Rattle.tests_of_views.proofs.splits.remember.Goals as goal

pub returns : goal.returns
returns c = on_ok_weaker c.remember.result (λ e. kept_more _ c.args.splits.now _ c.requires c.key-visit.ensures.key e) c.remember.ensures.ok
