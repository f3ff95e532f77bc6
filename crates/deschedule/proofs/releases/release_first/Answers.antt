use Rattle.deschedule.proofs.Order.{all_left, held_told, one_fewer, one_released, still_in_order, unpassed_told}
use Rattle.deschedule.proofs.releases.release_first.Goals as goal

pub loop-ended-preserved : goal.loop-ended-preserved
loop-ended-preserved c =
    one_released _ _ _ _ _ _ _ _ c.loop-ended.invariant c.in-Some.ended _ _ c.in-Some.ensures.first c.in-Some.ensures.left c.set_mark.ensures c.set_mark-in-Some.ensures

pub loop-ended-smaller : goal.loop-ended-smaller
loop-ended-smaller c = one_fewer _ _ _ _ _ _ _ _ c.loop-ended.invariant c.in-Some.ended c.in-Some.ensures.first c.in-Some.ensures.left

pub first_until-requires : goal.first_until-requires
first_until-requires c = still_in_order _ _ _ _ _ _ _ _ c.loop-ended.invariant c.in_default.ensures.first c.in_default.ensures.left

pub returns-clause-left : goal.returns-clause-left
returns-clause-left c = all_left _ _ _ _ _ _ _ _ c.loop-ended.invariant c.in_default.ensures.first c.in_default.ensures.left

pub returns-clause-held : goal.returns-clause-held
returns-clause-held c v = held_told _ _ _ _ _ _ _ _ c.loop-ended.invariant c.in_default.ensures.first c.in_default.ensures.left v

pub returns-clause-unpassed : goal.returns-clause-unpassed
returns-clause-unpassed c v = unpassed_told _ _ _ _ _ _ _ _ c.loop-ended.invariant c.in_default.ensures.first c.in_default.ensures.left v
