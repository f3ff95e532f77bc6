use Rattle.std.proofs.Common.{◌∙◌}
use Rattle.cub_tick.proofs.Asked.{asked_view, asked_outs, asked_then}
use Rattle.cub_tick.proofs.reading.read_blocks.Goals as goal

pub returns-then-is_asked_before-clause-view : goal.returns-then-is_asked_before-clause-view
returns-then-is_asked_before-clause-view c =
    asked_view c.args.site.now.plan.params c.args.stamp c.args.view.now c.requires.plan (c.is_asked_before.ensures c.if-is_asked_before.true)

pub returns-then-is_asked_before-clause-outs : goal.returns-then-is_asked_before-clause-outs
returns-then-is_asked_before-clause-outs c =
    asked_outs c.args.site.now.plan.params c.args.stamp c.args.comeback c.args.view.now c.args.out.now c.requires.plan (c.is_asked_before.ensures c.if-is_asked_before.true)

pub set_asked_before-requires : goal.set_asked_before-requires
set_asked_before-requires c =
    asked_then c.args.site.now.plan.params c.args.stamp c.args.view.now c.read_lines.new.view c.requires.plan c.in_ok-read_lines.ensures.view

pub returns-clause-view : goal.returns-clause-view
returns-clause-view c = c.set_asked_before.ensures ∙ c.in_ok-read_lines.ensures.view
