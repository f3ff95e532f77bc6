use Rattle.run_report.proofs.Lookups.{put_new}
use Rattle.run_report.proofs.firsts.Puts.keep.Goals as goal

pub returns : goal.returns
returns c = λ v. put_new v c.args.put _ _ _ _ _ c.self.view_is c.get.ensures c.is_sooner.ensures c.if-not-is_sooner.false (c.in_ok-insert.ensures.updates.0 v)
