use Rattle.std.proofs.Common.{subst, ◌∙◌}
use Rattle.slot_plan.specs.declared.params.Params.{Params}
use Rattle.slot_plan.specs.Keys.{IsKey}
use Rattle.partial_view.specs.Lines.{key_of}
use Rattle.cub_rules.specs.State.{IsLineOf}
use Rattle.cub_rules.specs.Ticks.{must_split}
use Rattle.cub_tick.proofs.Working.{first_key, of_first}
use Rattle.cub_tick.proofs.Splits.{split_begun, split_fewer, split_on, split_store, split_sent}
use Rattle.cub_tick.proofs.Unsplit.{split_first}
use Rattle.cub_tick.proofs.splitting.split_lines.Goals as goal

pub loop-line-init : goal.loop-line-init
loop-line-init c = split_begun c.requires.stored.lines

pub settle_line-requires-clause-pieces : goal.settle_line-requires-clause-pieces
settle_line-requires-clause-pieces c = c.loop-line.invariant.pieces ∙ c.requires.stored.pieces_plan

pub settle_line-requires-clause-unasked : goal.settle_line-requires-clause-unasked
settle_line-requires-clause-unasked c = c.loop-line.invariant.unasked ∙ c.requires.stored.unasked_plan

pub settle_line-requires-clause-line : goal.settle_line-requires-clause-line
settle_line-requires-clause-line c =
    of_first (must_split c.args.site.now.plan.params c.args.stamp) (IsLineOf c.args.site.now.plan.params c.args.site.now.cub.0) c.in-Some.line c.loop-line.store.view.lines c.loop-line.invariant.work.each
    (split_first c.args.site.now.plan.params c.args.stamp c.split_limit-limit.result c.split_limit-limit.ensures c.loop-line.store.view (c.loop-line.invariant.work.params ∙ c.requires.stored.view_plan) c.in-Some.ensures.first)

pub settle_line-requires-clause-key : goal.settle_line-requires-clause-key
settle_line-requires-clause-key c =
    subst (λ (q : Params). IsKey q (key_of c.in-Some.line)) (c.loop-line.invariant.work.params ∙ c.requires.stored.view_plan)
    (first_key (must_split c.args.site.now.plan.params c.args.stamp) c.loop-line.store.view.params c.in-Some.line c.loop-line.store.view.lines c.in-Some.ensures.walk
    (split_first c.args.site.now.plan.params c.args.stamp c.split_limit-limit.result c.split_limit-limit.ensures c.loop-line.store.view (c.loop-line.invariant.work.params ∙ c.requires.stored.view_plan) c.in-Some.ensures.first))

pub loop-line-smaller : goal.loop-line-smaller
loop-line-smaller c =
    split_fewer c.loop-line.invariant c.args.site.now.plan.sound.ranges.pieces.0 c.in-Some.ensures.walk
    (split_first c.args.site.now.plan.params c.args.stamp c.split_limit-limit.result c.split_limit-limit.ensures c.loop-line.store.view (c.loop-line.invariant.work.params ∙ c.requires.stored.view_plan) c.in-Some.ensures.first)
    c.in-Some.ensures.marked c.in_ok-settle_line.ensures.store

pub loop-line-preserved : goal.loop-line-preserved
loop-line-preserved c =
    split_on c.loop-line.invariant c.args.site.now.plan.sound.ranges.pieces.0 c.in-Some.ensures.walk
    (split_first c.args.site.now.plan.params c.args.stamp c.split_limit-limit.result c.split_limit-limit.ensures c.loop-line.store.view (c.loop-line.invariant.work.params ∙ c.requires.stored.view_plan) c.in-Some.ensures.first)
    c.in-Some.ensures.marked c.in_ok-settle_line.ensures.store c.in_ok-settle_line.ensures.outs

pub returns-clause-store : goal.returns-clause-store
returns-clause-store c =
    split_store c.loop-line.invariant
    (split_first c.args.site.now.plan.params c.args.stamp c.split_limit-limit.result c.split_limit-limit.ensures c.loop-line.store.view (c.loop-line.invariant.work.params ∙ c.requires.stored.view_plan) c.in_default.ensures.first)
    c.in_default.ensures.marked

pub returns-clause-outs : goal.returns-clause-outs
returns-clause-outs c =
    split_sent c.loop-line.invariant
    (split_first c.args.site.now.plan.params c.args.stamp c.split_limit-limit.result c.split_limit-limit.ensures c.loop-line.store.view (c.loop-line.invariant.work.params ∙ c.requires.stored.view_plan) c.in_default.ensures.first)
