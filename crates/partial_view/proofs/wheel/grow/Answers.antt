use Rattle.std.proofs.Common.{◌∙◌, ap, sym, subst, List, arith}
use Rattle.partial_view.specs.Views.{Seen}
use Rattle.partial_view.specs.Wheel.{IsWheel, all_lines}
use Rattle.partial_view.proofs.Rounds.{wheel-more, lines-more}
use Rattle.partial_view.proofs.wheel.grow.Goals as goal

pub loop-alloc-preserved : goal.loop-alloc-preserved
loop-alloc-preserved c = record {
  wheel = subst (λ (bs : List Seen). IsWheel c.args.plan.now.params bs) (sym c.in_ok-push.ensures.items)
      (wheel-more c.args.plan.now.params c.loop-alloc.buckets.items c.new.result c.loop-alloc.invariant.wheel (omega (arith, c.requires.place, c.loop-alloc-test.true, c.len.ensures)) c.new.ensures);
  lines = ap (λ (bs : List Seen). all_lines c.args.plan.now.params bs) c.in_ok-push.ensures.items
      ∙ (lines-more c.args.plan.now.params c.loop-alloc.buckets.items c.new.result c.new.ensures ∙ c.loop-alloc.invariant.lines);
}
