use Rattle.std.proofs.Common.{◌∙◌}
use Rattle.cub_messages.proofs.Dropping.{dropping, drop_key, dropped_one, fewer_left, dropped_outs, dropped_left, none_left}
use Rattle.cub_messages.proofs.records.drop_each.Goals as goal

pub loop-rec-init : goal.loop-rec-init
loop-rec-init c = dropping c.args.instance c.args.view.now c.args.out.now

pub remove-requires : goal.remove-requires
remove-requires c = drop_key c.loop-rec.invariant c.in-Some.rec c.in-Some.ensures c.stand_in_order.ensures

pub loop-rec-smaller : goal.loop-rec-smaller
loop-rec-smaller c =
    fewer_left c.loop-rec.invariant c.in-Some.rec c.in-Some.ensures c.stand_in_order.ensures c.remove.ensures.left c.in_ok-push.ensures.ok

pub loop-rec-preserved : goal.loop-rec-preserved
loop-rec-preserved c =
    dropped_one c.loop-rec.invariant c.in-Some.rec c.in-Some.ensures c.stand_in_order.ensures c.remove.ensures.left c.in_ok-push.ensures.ok

pub note_none-requires : goal.note_none-requires
note_none-requires c = none_left c.args.instance c.loop-rec.view.lines c.in_default.ensures

pub returns-clause-left : goal.returns-clause-left
returns-clause-left c = c.note_none.ensures ∙ dropped_left c.loop-rec.invariant c.in_default.ensures

pub returns-clause-outs : goal.returns-clause-outs
returns-clause-outs c = dropped_outs c.loop-rec.invariant c.in_default.ensures
