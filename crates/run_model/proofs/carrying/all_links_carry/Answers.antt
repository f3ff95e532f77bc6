use borrow.Author.Count.{below_more}
use Rattle.run_model.specs.Ways.{LinkCarries}
use Rattle.run_model.proofs.carrying.all_links_carry.Goals as goal

pub loop-l-preserved : goal.loop-l-preserved
loop-l-preserved c =
    below_more (LinkCarries c.args.k.now) c.loop-l.l c.loop-l.invariant (c.link_carries.ensures.0 c.if-not-link_carries.false)
