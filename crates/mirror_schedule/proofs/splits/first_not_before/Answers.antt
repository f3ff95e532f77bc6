use Rattle.std.proofs.Common.{ℕ, arith, ap, sym, ◌∙◌}
use Rattle.mirror_schedule.specs.Splits.{Split, ends_before}
use Rattle.mirror_schedule.proofs.Ranks.{ends_order}
use Rattle.mirror_schedule.proofs.Places.{place_above, place_below, place_most}
use Rattle.mirror_schedule.proofs.splits.first_not_before.Goals as goal

pub loop-low-init : goal.loop-low-init
loop-low-init c = record {
  above = omega arith;
  below = omega (arith, place_most ends_before c.args.x.now c.args.items.now.items);
  inside = omega arith;
}

pub loop-low-preserved-then-ends_before : goal.loop-low-preserved-then-ends_before
loop-low-preserved-then-ends_before c = record {
  above =
      let more = place_above ends_before ends_order c.args.x.now c.args.items.now.items _ _ c.requires (omega arith) (ap (λ (y : Split × ℕ). ends_before y c.args.x.now) (sym c.index.ensures) ∙ (sym c.ends_before.ensures ∙ c.if-ends_before.true)) in
      omega (arith, more);
  below = c.loop-low.invariant.below;
  inside = c.loop-low.invariant.inside;
}

pub loop-low-preserved : goal.loop-low-preserved
loop-low-preserved c = record {
  above = c.loop-low.invariant.above;
  below = place_below ends_before c.args.x.now c.args.items.now.items _ _ (omega arith) (ap (λ (y : Split × ℕ). ends_before y c.args.x.now) (sym c.index.ensures) ∙ (sym c.ends_before.ensures ∙ c.if-ends_before.false));
  inside = omega arith;
}
