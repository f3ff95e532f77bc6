use Rattle.std.proofs.lemmas.Result.{on_ok_weaker}
use Rattle.audit_frame.specs.Lines.{noted_line}
use Rattle.audit_schedule.proofs.Failing.{note_got, other_got}
use Rattle.audit_schedule.proofs.failures.take_got.Goals as goal

pub returns-in-Got : goal.returns-in-Got
returns-in-Got c = on_ok_weaker c.take_note.result (λ added m h.
    note_got c.args.plan.now.params c.args.faults.now _ _ m (noted_line c.args.line.now) c.in-Got.field-0 c.in-Got.note c.in-Got.is added h) c.take_note.ensures

pub returns-in_default : goal.returns-in_default
returns-in_default c = λ m h.
    other_got c.args.plan.now.params c.args.faults.now _ m (noted_line c.args.line.now) c.in_default.not-Got h
