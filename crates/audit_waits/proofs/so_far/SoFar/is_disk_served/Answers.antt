use Rattle.std.proofs.Common.{refl, sym, subst}
use Rattle.audit_waits.proofs.Judged.{all_taken, none_asked, none_waits, some_wait}
use Rattle.audit_waits.proofs.Seeing.{missed_nobodys, none_before}
use Rattle.audit_waits.specs.Seen.{IsMark}
use Rattle.audit_waits.specs.declared.seen.Mark.{Mark}
use Rattle.audit_waits.proofs.so_far.SoFar.is_disk_served.Goals as goal

pub returns-then-not-is_asked-clause-served : goal.returns-then-not-is_asked-clause-served
returns-then-not-is_asked-clause-served c = λ orders m tells. (
  (λ t. none_asked c.args.plan.now.params orders c.args.self.now m c.args.tick.cub.0 c.args.tick.beat c.args.tick.reading c.args.redundant
      c.args.disk.0 _ tells c.is_asked.ensures c.if-not-is_asked.true),
  (λ served. refl),
)

pub returns-then-is_known_at-clause-served : goal.returns-then-is_known_at-clause-served
returns-then-is_known_at-clause-served c = λ orders m tells.
    let p = c.args.plan.now.params in
    let known = c.is_known_at.ensures c.if-is_known_at.true in (
      (λ t. all_taken p orders c.args.self.now m c.args.tick.cub.0 c.args.tick.beat c.args.tick.reading c.args.redundant c.args.disk.0 tells
          (λ k o. none_before p c.args.self.now.holders c.args.disk.0 c.args.tick.reading c.mark_of-seen.result
          (subst (λ (m : Mark). IsMark p c.args.self.now.holders c.args.disk.0 m) (sym c.mark_of-seen.ensures) (c.requires.marks c.args.disk.0))
          known.0 known.1 k
          (missed_nobodys p c.args.self.now c.args.tick.cub.0 c.args.tick.beat c.args.tick.reading c.args.disk.0 k o))),
      (λ served. refl),
    )

pub returns-then-not-has_waiting-clause-served : goal.returns-then-not-has_waiting-clause-served
returns-then-not-has_waiting-clause-served c = λ orders m tells. (
  (λ t. none_waits c.args.plan.now.params orders c.args.self.now m c.args.tick.cub.0 c.args.tick.beat c.args.tick.reading c.args.redundant
      c.args.disk.0 _ tells c.has_waiting.ensures c.if-not-has_waiting.true),
  (λ served. refl),
)

pub mark_at-mark-requires-clause-mark : goal.mark_at-mark-requires-clause-mark
mark_at-mark-requires-clause-mark c =
    subst (λ (m : Mark). IsMark c.args.plan.now.params c.args.self.now.holders c.args.disk.0 m) (sym c.mark_of-seen.ensures) (c.requires.marks c.args.disk.0)

pub returns-clause-marks : goal.returns-clause-marks
returns-clause-marks c = c.set_mark.ensures c.args.plan.now.params c.args.self.now.holders c.requires.marks c.mark_at-mark.ensures.mark

pub returns-clause-served : goal.returns-clause-served
returns-clause-served c = λ orders m tells.
    some_wait c.args.plan.now.params orders c.args.self.now m c.args.tick.cub.0 c.args.tick.beat c.args.tick.reading c.args.redundant
    c.args.disk.0 _ _ tells c.has_waiting.ensures c.if-not-has_waiting.false c.are_visits_taken.ensures
