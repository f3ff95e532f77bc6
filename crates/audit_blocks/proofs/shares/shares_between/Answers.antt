use Rattle.audit_blocks.proofs.Sharing.{put_shares}
use Rattle.audit_blocks.proofs.shares.shares_between.Goals as goal

pub returns : goal.returns
returns c =
    put_shares c.args.k.now c.args.t.now c.args.asked c.args.settled _ _ _ c.excused_between.ensures c.excused_between-2.ensures
    c.excused_between-3.ensures
