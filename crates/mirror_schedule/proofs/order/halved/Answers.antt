use Rattle.std.proofs.Common.{ℕ, arith, ap, sym, ◌∙◌}
use Rattle.tiger_base.specs.declared.tenancy.PieceState.{PieceState}
use Rattle.mirror_schedule.specs.TimedPieces.{timed_before}
use Rattle.mirror_schedule.proofs.TimedPieces.{timed_order}
use Rattle.mirror_schedule.proofs.Places.{place_above, place_below, place_most}
use Rattle.mirror_schedule.proofs.order.halved.Goals as goal

pub loop-low-init : goal.loop-low-init
loop-low-init c = record {
  above = omega arith;
  below = omega (arith, place_most timed_before c.args.x.now c.args.items.now.items);
  inside = omega arith;
}

pub loop-low-preserved-then-comes_before : goal.loop-low-preserved-then-comes_before
loop-low-preserved-then-comes_before c = record {
  above =
      let more = place_above timed_before timed_order c.args.x.now c.args.items.now.items _ _ c.requires (omega arith) (ap (λ (y : PieceState × ℕ). timed_before y c.args.x.now) (sym c.index.ensures) ∙ (sym c.comes_before.ensures ∙ c.if-comes_before.true)) in
      omega (arith, more);
  below = c.loop-low.invariant.below;
  inside = c.loop-low.invariant.inside;
}

pub loop-low-preserved : goal.loop-low-preserved
loop-low-preserved c = record {
  above = c.loop-low.invariant.above;
  below = place_below timed_before c.args.x.now c.args.items.now.items _ _ (omega arith) (ap (λ (y : PieceState × ℕ). timed_before y c.args.x.now) (sym c.index.ensures) ∙ (sym c.comes_before.ensures ∙ c.if-comes_before.false));
  inside = omega arith;
}
