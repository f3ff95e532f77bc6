use Rattle.std.proofs.Common.{◌∙◌, sym}
use Rattle.cub_tick.proofs.Parts.{dropped_more, dropped_fewer, dropped_all}
use Rattle.disk_death.proofs.splitting.drop_leaving.Goals as goal

pub loop-smaller : goal.loop-smaller
loop-smaller c =
    dropped_fewer c.loop.invariant c.take_leaving.result (sym c.is_some.ensures ∙ c.loop-test.true) c.take_leaving.ensures.first c.take_leaving.ensures.left

pub loop-preserved : goal.loop-preserved
loop-preserved c =
    dropped_more c.loop.invariant c.take_leaving.result (sym c.is_some.ensures ∙ c.loop-test.true) c.take_leaving.ensures.first c.take_leaving.ensures.left

pub returns : goal.returns
returns c =
    dropped_all c.loop.invariant c.take_leaving.result (sym c.is_some.ensures ∙ c.loop-test.false) c.take_leaving.ensures.first c.take_leaving.ensures.order c.take_leaving.ensures.left
