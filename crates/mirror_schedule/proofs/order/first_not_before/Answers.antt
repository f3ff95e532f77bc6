use Rattle.std.proofs.Common.{ℕ, ap, sym, ◌∙◌, arith}
use Rattle.tiger_base.specs.declared.tenancy.PieceState.{PieceState}
use Rattle.mirror_schedule.specs.TimedPieces.{timed_before}
use Rattle.mirror_schedule.proofs.TimedPieces.{timed_order}
use Rattle.mirror_schedule.proofs.Places.{place_behind}
use Rattle.mirror_schedule.proofs.order.first_not_before.Goals as goal

pub returns-then-comes_before-clause-place : goal.returns-then-comes_before-clause-place
returns-then-comes_before-clause-place c =
    let all = place_behind timed_before timed_order c.args.x.now c.args.items.now.items _ _ c.requires (omega arith) (ap (λ (y : PieceState × ℕ). timed_before y c.args.x.now) (sym c.index.ensures) ∙ (sym c.comes_before.ensures ∙ c.if-comes_before.true)) in
    omega (arith, all)
