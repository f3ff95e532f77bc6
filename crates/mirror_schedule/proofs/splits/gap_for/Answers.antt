use Rattle.std.proofs.Common.{ℕ, ap, sym, ◌∙◌, arith}
use Rattle.mirror_schedule.specs.Splits.{Split, ends_before}
use Rattle.mirror_schedule.proofs.Ranks.{ends_order}
use Rattle.mirror_schedule.proofs.Places.{gap_first, gap_there}
use Rattle.mirror_schedule.proofs.splits.gap_for.Goals as goal
use Rattle.mirror_schedule.proofs.splits.gap_for.Goals.{else-place-len-via-then-place-len+else-not-ends_before, else-place-len-via-else-place-len}

pub returns-then-not-ends_before : goal.returns-then-not-ends_before
returns-then-not-ends_before c =
    sym (gap_there ends_before ends_order c.args.x.now c.args.items.now.items 0 _ _ c.place_for-place.ensures.place (omega arith) (ap (λ (y : Split × ℕ). ends_before c.args.x.now y) (sym c.index.ensures) ∙ (sym c.ends_before.ensures ∙ search)))

pub returns-else-place-len : goal.returns-else-place-len
returns-else-place-len c =
    elim c.else-place-len.branch [
      | else-place-len-via-then-place-len+else-not-ends_before w ↦ sym (gap_first ends_before ends_order c.args.x.now c.args.items.now.items _ _ c.place_for-place.ensures.place (λ l. ap (λ (y : Split × ℕ). ends_before c.args.x.now y) (sym w.index.ensures) ∙ (sym w.ends_before.ensures ∙ search)))
      | else-place-len-via-else-place-len w ↦ sym (gap_first ends_before ends_order c.args.x.now c.args.items.now.items _ c.args.x.now c.place_for-place.ensures.place (λ l. absurd (omega (arith, l, w.if-place-len.false, c.len.ensures, c.args.items.now.ok.0))))
    ]
