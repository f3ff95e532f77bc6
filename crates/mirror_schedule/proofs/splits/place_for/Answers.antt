use Rattle.std.proofs.Common.{ℕ, ap, sym, ◌∙◌, arith}
use Rattle.mirror_schedule.specs.Splits.{Split, ends_before}
use Rattle.mirror_schedule.proofs.Ranks.{ends_order}
use Rattle.mirror_schedule.proofs.Places.{place_behind}
use Rattle.mirror_schedule.proofs.splits.place_for.Goals as goal

pub returns-then-ends_before-clause-place : goal.returns-then-ends_before-clause-place
returns-then-ends_before-clause-place c =
    let all = place_behind ends_before ends_order c.args.x.now c.args.items.now.items _ _ c.requires (omega arith) (ap (λ (y : Split × ℕ). ends_before y c.args.x.now) (sym c.index.ensures) ∙ (sym c.ends_before.ensures ∙ c.if-ends_before.true)) in
    omega (arith, all)
