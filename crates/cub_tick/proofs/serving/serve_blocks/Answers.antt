use Rattle.std.proofs.Common.{List, [], ◌∷◌, ◌++◌, ap, subst, append_assoc, ◌∙◌}
use Rattle.tiger_base.specs.declared.message.Msg.{Msg}
use Rattle.slot_plan.specs.declared.params.Params.{Params}
use Rattle.slot_plan.specs.Keys.{IsKey}
use Rattle.partial_view.specs.Lines.{key_of}
use Rattle.node_kit.specs.declared.outbox.Out.{Out}
use Rattle.cub_rules.specs.State.{IsLineOf}
use Rattle.cub_rules.specs.Records.{dropped}
use Rattle.cub_rules.specs.Ticks.{is_served}
use Rattle.cub_tick.proofs.Served.{served_first}
use Rattle.cub_tick.proofs.Working.{begun, first_key, of_first, taken_fewer, taken_on, taken_done, outs_done}
use Rattle.cub_tick.proofs.serving.serve_blocks.Goals as goal

pub loop-line-init : goal.loop-line-init
loop-line-init c = begun c.requires.lines

pub serve_block-requires-clause-key : goal.serve_block-requires-clause-key
serve_block-requires-clause-key c =
    subst (λ (q : Params). IsKey q (key_of c.in-Some.line)) (c.loop-line.invariant.params ∙ c.requires.plan)
    (first_key (is_served c.args.site.now.plan.params c.args.stamp) c.loop-line.view.params c.in-Some.line c.loop-line.view.lines c.in-Some.ensures.walk
    (served_first c.args.site.now.plan.params c.args.stamp c.loop-line.view (c.loop-line.invariant.params ∙ c.requires.plan) c.in-Some.ensures.first))

pub serve_block-requires-clause-begun : goal.serve_block-requires-clause-begun
serve_block-requires-clause-begun c =
    let line = of_first (is_served c.args.site.now.plan.params c.args.stamp) (IsLineOf c.args.site.now.plan.params c.args.site.now.cub.0) c.in-Some.line c.loop-line.view.lines c.loop-line.invariant.each
    (served_first c.args.site.now.plan.params c.args.stamp c.loop-line.view (c.loop-line.invariant.params ∙ c.requires.plan) c.in-Some.ensures.first) in
    line.begun

pub loop-line-smaller : goal.loop-line-smaller
loop-line-smaller c =
    taken_fewer (is_served c.args.site.now.plan.params c.args.stamp) c.loop-line.view c.in-Some.ensures.walk
    (served_first c.args.site.now.plan.params c.args.stamp c.loop-line.view (c.loop-line.invariant.params ∙ c.requires.plan) c.in-Some.ensures.first)
    c.in-Some.ensures.left

pub loop-line-preserved : goal.loop-line-preserved
loop-line-preserved c =
    taken_on (is_served c.args.site.now.plan.params c.args.stamp) _ c.in-Some.ensures.walk
    (served_first c.args.site.now.plan.params c.args.stamp c.loop-line.view (c.loop-line.invariant.params ∙ c.requires.plan) c.in-Some.ensures.first)
    c.in-Some.ensures.left c.loop-line.invariant
    (c.in_ok-push.ensures.ok ∙ (ap (λ (zs : List (Out Msg)). zs ++ dropped c.in-Some.line ∷ []) c.in_ok-serve_block.ensures
    ∙ append_assoc c.loop-line.out _ (dropped c.in-Some.line ∷ [])))

pub returns-clause-view : goal.returns-clause-view
returns-clause-view c =
    taken_done (is_served c.args.site.now.plan.params c.args.stamp) _ c.loop-line.invariant
    (served_first c.args.site.now.plan.params c.args.stamp c.loop-line.view (c.loop-line.invariant.params ∙ c.requires.plan) c.in_default.ensures.first)
    c.in_default.ensures.left

pub returns-clause-outs : goal.returns-clause-outs
returns-clause-outs c =
    outs_done (is_served c.args.site.now.plan.params c.args.stamp) _ c.loop-line.invariant
    (served_first c.args.site.now.plan.params c.args.stamp c.loop-line.view (c.loop-line.invariant.params ∙ c.requires.plan) c.in_default.ensures.first)
