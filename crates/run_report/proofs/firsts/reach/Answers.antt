use Rattle.std.proofs.Common.{◌∙◌}
use Rattle.run_report.proofs.Rowed.{row-more}
use Rattle.run_report.proofs.firsts.reach.Goals as goal

pub loop-alloc-preserved : goal.loop-alloc-preserved
loop-alloc-preserved c = λ v. row-more _ _ _ c.in_ok-push.ensures.items c.new.ensures v ∙ c.loop-alloc.invariant v
