use Rattle.std.proofs.Common.{◌<◌, length, List, sym, subst}
use Rattle.mirror_schedule.specs.Splits.{Split}
use Rattle.cub_messages.proofs.Killed.{first_of, killed_one, killed_all_outs, killed_all_left}
use Rattle.cub_messages.proofs.splits.kill_each.Goals as goal

pub loop-slot-smaller : goal.loop-slot-smaller
loop-slot-smaller c =
    let r = first_of c.args.instance (c.in-Some.slot, c.in-Some.visit) c.loop-slot.splits c.in-Some.ensures.first in
    let e : length c.take_of.new.self < length c.loop-slot.splits = subst (λ (xs : List Split). length xs < length c.loop-slot.splits) (sym c.in-Some.ensures.left) r.fewer in
    e

pub loop-slot-preserved : goal.loop-slot-preserved
loop-slot-preserved c =
    killed_one _ _ _ _ _ _ _ c.loop-slot.invariant (c.in-Some.slot, c.in-Some.visit) _ _ c.in-Some.ensures.first c.in-Some.ensures.left c.in_ok-kill.ensures

pub returns-clause-outs : goal.returns-clause-outs
returns-clause-outs c = killed_all_outs _ _ _ _ _ _ _ c.loop-slot.invariant c.in_default.ensures.first

pub returns-clause-left : goal.returns-clause-left
returns-clause-left c = killed_all_left _ _ _ _ _ _ _ c.loop-slot.invariant c.take_of.new.self c.in_default.ensures.first c.in_default.ensures.left
