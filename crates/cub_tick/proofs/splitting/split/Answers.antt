use Rattle.cub_tick.proofs.Splits.{split_not}
use Rattle.cub_tick.proofs.Unsplit.{split_before, split_by_walk, split_then, split_known}
use Rattle.cub_tick.proofs.splitting.split.Goals as goal

pub returns-then-not-store : goal.returns-then-not-store
returns-then-not-store c = split_not c.args.site.now.plan.params c.args.site.now.cub.0 c.args.stamp c.args.store.now c.args.out.now c.if-not-store.true

pub returns-then-is_split_from : goal.returns-then-is_split_from
returns-then-is_split_from c =
    split_before c.args.site.now.plan.params c.args.site.now.cub.0 c.args.stamp c.args.store.now c.args.out.now c.if-not-store.false
    (split_known c.args.site.now.plan.params c.args.stamp c.split_limit-limit.result c.args.store.now.view c.requires.stored.view_plan c.split_limit-limit.ensures (c.is_split_from.ensures c.if-is_split_from.true))

pub set_split_from-requires : goal.set_split_from-requires
set_split_from-requires c =
    split_then c.args.site.now.plan.params c.args.stamp c.split_limit-limit.result c.args.store.now c.split_lines.new.store c.requires.stored.view_plan c.split_limit-limit.ensures c.in_ok-split_lines.ensures.store

pub returns : goal.returns
returns c =
    split_by_walk c.args.site.now.plan.params c.args.site.now.cub.0 c.args.stamp c.args.store.now c.split_lines.new.store c.args.out.now c.split_lines.new.out c.set_split_from.new.self
    c.if-not-store.false c.in_ok-split_lines.ensures.store c.in_ok-split_lines.ensures.outs c.set_split_from.ensures
