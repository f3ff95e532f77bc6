use Rattle.std.proofs.Common.{refl, subst, ◌∙◌}
use Rattle.slot_plan.specs.declared.params.Params.{Params}
use Rattle.slot_plan.specs.Keys.{IsKey}
use Rattle.partial_view.specs.Lines.{key_of}
use Rattle.partial_view.specs.declared.line.Flag.TheVariants.{Asked}
use Rattle.cub_rules.specs.State.{IsLineOf}
use Rattle.cub_rules.specs.Ticks.{must_read}
use Rattle.cub_tick.proofs.Asked.{ask_first, ask_once}
use Rattle.cub_tick.proofs.Working.{begun, first_key, of_first, marked_fewer, marked_on, marked_done, outs_done}
use Rattle.cub_tick.proofs.reading.read_lines.Goals as goal

pub loop-line-init : goal.loop-line-init
loop-line-init c = begun c.requires.lines

pub ask_block-requires-clause-key : goal.ask_block-requires-clause-key
ask_block-requires-clause-key c =
    subst (λ (q : Params). IsKey q (key_of c.in-Some.line)) (c.loop-line.invariant.params ∙ c.requires.plan)
    (first_key (must_read c.args.site.now.plan.params c.args.stamp) c.loop-line.view.params c.in-Some.line c.loop-line.view.lines c.in-Some.ensures.walk
    (ask_first c.args.site.now.plan.params c.args.stamp _ refl c.loop-line.view (c.loop-line.invariant.params ∙ c.requires.plan) c.in-Some.ensures.first))

pub ask_block-requires-clause-begun : goal.ask_block-requires-clause-begun
ask_block-requires-clause-begun c =
    let line = of_first (must_read c.args.site.now.plan.params c.args.stamp) (IsLineOf c.args.site.now.plan.params c.args.site.now.cub.0) c.in-Some.line c.loop-line.view.lines c.loop-line.invariant.each
    (ask_first c.args.site.now.plan.params c.args.stamp _ refl c.loop-line.view (c.loop-line.invariant.params ∙ c.requires.plan) c.in-Some.ensures.first) in
    line.begun

pub loop-line-smaller : goal.loop-line-smaller
loop-line-smaller c =
    marked_fewer (must_read c.args.site.now.plan.params c.args.stamp) c.loop-line.view c.in-Some.ensures.walk
    (ask_first c.args.site.now.plan.params c.args.stamp _ refl c.loop-line.view (c.loop-line.invariant.params ∙ c.requires.plan) c.in-Some.ensures.first)
    Asked (ask_once c.args.site.now.plan.params c.args.stamp) c.in-Some.ensures.marked

pub loop-line-preserved : goal.loop-line-preserved
loop-line-preserved c =
    marked_on (must_read c.args.site.now.plan.params c.args.stamp) _ Asked c.in-Some.ensures.walk
    (ask_first c.args.site.now.plan.params c.args.stamp _ refl c.loop-line.view (c.loop-line.invariant.params ∙ c.requires.plan) c.in-Some.ensures.first)
    (ask_once c.args.site.now.plan.params c.args.stamp) c.in-Some.ensures.marked (λ y h. h) c.loop-line.invariant
    c.in_ok-ask_block.ensures

pub returns-clause-view : goal.returns-clause-view
returns-clause-view c =
    marked_done (must_read c.args.site.now.plan.params c.args.stamp) _ Asked c.loop-line.invariant
    (ask_first c.args.site.now.plan.params c.args.stamp _ refl c.loop-line.view (c.loop-line.invariant.params ∙ c.requires.plan) c.in_default.ensures.first)
    c.in_default.ensures.marked

pub returns-clause-outs : goal.returns-clause-outs
returns-clause-outs c =
    outs_done (must_read c.args.site.now.plan.params c.args.stamp) _ c.loop-line.invariant
    (ask_first c.args.site.now.plan.params c.args.stamp _ refl c.loop-line.view (c.loop-line.invariant.params ∙ c.requires.plan) c.in_default.ensures.first)
