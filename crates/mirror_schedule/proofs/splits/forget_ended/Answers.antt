use Rattle.std.proofs.Common.{sym, ◌∙◌, arith}
use Rattle.mirror_schedule.proofs.Endings.{all_gone, many_gone}
use Rattle.mirror_schedule.proofs.splits.forget_ended.Goals as goal

pub returns-clause-count : goal.returns-clause-count
returns-clause-count c =
    many_gone c.args.reading c.args.items.now.items c.loop.items.items c.take_ended.new.items.items c.take_ended.result c.loop.invariant.order c.loop.invariant.left
    c.take_ended.ensures.first (sym c.is_some.ensures ∙ c.loop-test.false) c.take_ended.ensures.left
    c.len-before.result c.len.result (omega (arith, c.len-before.ensures, c.args.items.now.ok.0)) (omega (arith, c.len.ensures, c.take_ended.new.items.ok.0))

pub returns-clause-left : goal.returns-clause-left
returns-clause-left c =
    all_gone c.args.reading c.args.items.now.items c.loop.items.items c.take_ended.new.items.items c.take_ended.result c.loop.invariant.order c.loop.invariant.left
    c.take_ended.ensures.first (sym c.is_some.ensures ∙ c.loop-test.false) c.take_ended.ensures.left
