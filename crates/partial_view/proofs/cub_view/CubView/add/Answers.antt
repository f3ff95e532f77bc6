use Rattle.std.proofs.Common.{◌∙◌, ap, List, arith}
use Rattle.slot_plan.proofs.Times.{due_next}
use Rattle.partial_view.specs.declared.line.Line.{Line}
use Rattle.partial_view.proofs.Calls.{record_of}
use Rattle.partial_view.proofs.Frees.{full_record}
use Rattle.partial_view.proofs.Pending.{kept_by, known, all_with_record, forwarded_earlier, split_later, asked_earlier, between_earlier, free_on, own-split, backup-pending, backup-unasked}
use Rattle.partial_view.proofs.cub_view.CubView.add.Goals as goal

pub invariant_of-self-then-is_own : goal.invariant_of-self-then-is_own
invariant_of-self-then-is_own c =
    kept_by c.self.inside.plan.params c.forwarded_before-self-inside.result c.self.inside.split_from c.min-self-inside.result c.self.inside.split_between.0 c.self.inside.split_between.1 c.free_between-self-inside.result.0 c.free_between-self-inside.result.1
    c.self.inside.full c.self.inside.near_pending.turn c.self.inside.near_unasked.turn c.self.inside.near_unsplit.turn c.self.inside.view c.add_due.new.self _ c.self.invariant.0 c.in_ok-added.ensures.ok
    (all_with_record _ c.self.inside.view.params c.args.rec c.self.inside.view.lines
    (forwarded_earlier c.self.inside.plan.params c.forwarded_before-self-inside.result c.self.inside.forwarded_to c.self.inside.view.lines c.forwarded_before-self-inside.ensures.earlier c.self.invariant.1)
    (λ h. omega (arith, c.forwarded_before-self-inside.ensures.before h, c.due-due.ensures.due, due_next c.self.inside.plan.params c.args.rec.tenancy.slot.0 c.args.rec.visit)))
    (all_with_record _ c.self.inside.view.params c.args.rec c.self.inside.view.lines
    c.self.invariant.2
    (λ h. absurd (own-split c.args.rec c.is_own.result c.is_own.ensures c.if-is_own.true h)))
    (all_with_record _ c.self.inside.view.params c.args.rec c.self.inside.view.lines
    (asked_earlier c.self.inside.plan.params c.min-self-inside.result c.self.inside.asked_before c.self.inside.view.lines (omega (arith, c.min-self-inside.ensures)) c.self.invariant.3)
    (λ h. omega (arith, c.min-self-inside.ensures, c.due-due.ensures.due)))
    (all_with_record _ c.self.inside.view.params c.args.rec c.self.inside.view.lines
    c.self.invariant.4
    (λ h later. absurd (own-split c.args.rec c.is_own.result c.is_own.ensures c.if-is_own.true h)))
    (full_record c.self.inside.plan.params c.self.inside.view.params c.self.inside.full c.args.rec c.self.inside.view.lines c.self.invariant.5)
    (all_with_record _ c.self.inside.view.params c.args.rec c.self.inside.view.lines
    (free_on c.self.inside.plan.params c.self.inside.forwarded_to c.self.inside.forwarded_between.0 c.self.inside.forwarded_between.1 c.free_between-self-inside.result.0 c.free_between-self-inside.result.1 c.self.inside.view.lines c.free_between-self-inside.ensures.others c.self.invariant.1 c.self.invariant.6)
    (λ h later. omega (arith, c.free_between-self-inside.ensures.new h (omega (arith, later, c.due-due.ensures.due, due_next c.self.inside.plan.params c.args.rec.tenancy.slot.0 c.args.rec.visit)), c.due-due.ensures.due, due_next c.self.inside.plan.params c.args.rec.tenancy.slot.0 c.args.rec.visit))) c.self.invariant.7 c.self.invariant.8 c.self.invariant.9

pub invariant_of-self-else-is_own : goal.invariant_of-self-else-is_own
invariant_of-self-else-is_own c =
    kept_by c.self.inside.plan.params c.self.inside.forwarded_to c.split_after-self-inside.result c.self.inside.asked_before c.self.inside.split_between.0 c.split_until-self-inside.result c.self.inside.forwarded_between.0 c.self.inside.forwarded_between.1
    c.self.inside.full c.self.inside.near_pending.turn c.self.inside.near_unasked.turn c.self.inside.near_unsplit.turn c.self.inside.view c.add_due.new.self _ c.self.invariant.0 c.in_ok-added.ensures.ok
    (all_with_record _ c.self.inside.view.params c.args.rec c.self.inside.view.lines
    c.self.invariant.1
    (λ h. absurd (backup-pending c.args.rec c.is_own.result c.is_own.ensures c.if-is_own.false h)))
    (all_with_record _ c.self.inside.view.params c.args.rec c.self.inside.view.lines
    (split_later c.self.inside.plan.params c.self.inside.split_from c.split_after-self-inside.result c.self.inside.view.lines c.split_after-self-inside.ensures.later c.self.invariant.2)
    (λ h. omega (arith, c.split_after-self-inside.ensures.after, c.due-due.ensures.due)))
    (all_with_record _ c.self.inside.view.params c.args.rec c.self.inside.view.lines
    c.self.invariant.3
    (λ h. absurd (backup-unasked c.args.rec c.is_own.result c.is_own.ensures c.if-is_own.false h)))
    (all_with_record _ c.self.inside.view.params c.args.rec c.self.inside.view.lines
    (between_earlier c.self.inside.plan.params c.self.inside.split_between.0 c.split_until-self-inside.result c.self.inside.split_between.1 c.self.inside.view.lines c.split_until-self-inside.ensures.earlier c.self.invariant.4)
    (λ h later. omega (arith, c.split_until-self-inside.ensures.until (omega (arith, later, c.due-due.ensures.due)), c.due-due.ensures.due)))
    (full_record c.self.inside.plan.params c.self.inside.view.params c.self.inside.full c.args.rec c.self.inside.view.lines c.self.invariant.5)
    (all_with_record _ c.self.inside.view.params c.args.rec c.self.inside.view.lines
    c.self.invariant.6
    (λ h later. absurd (backup-pending c.args.rec c.is_own.result c.is_own.ensures c.if-is_own.false h))) c.self.invariant.7 c.self.invariant.8 c.self.invariant.9

pub invariant_of-self-in_default : goal.invariant_of-self-in_default
invariant_of-self-in_default c =
    kept_by c.self.inside.plan.params c.self.inside.forwarded_to c.self.inside.split_from c.self.inside.asked_before c.self.inside.split_between.0 c.self.inside.split_between.1 c.self.inside.forwarded_between.0 c.self.inside.forwarded_between.1 c.self.inside.full c.self.inside.near_pending.turn c.self.inside.near_unasked.turn c.self.inside.near_unsplit.turn c.self.inside.view c.add_due.new.self c.self.inside.view.lines c.self.invariant.0
    (c.in_ok-added.ensures.ok
    ∙ ap (λ (ys : List Line). record_of c.self.inside.view.params ys) (known c.self.inside.view.params c.args.rec c.self.inside.view.lines c.in_ok-added.added c.in_ok-added.ensures.answer c.in_default.not-New))
    c.self.invariant.1 c.self.invariant.2 c.self.invariant.3 c.self.invariant.4 c.self.invariant.5 c.self.invariant.6 c.self.invariant.7 c.self.invariant.8 c.self.invariant.9
