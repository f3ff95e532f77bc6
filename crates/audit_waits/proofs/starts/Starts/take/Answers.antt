use Rattle.std.proofs.lemmas.Result.{on_ok_weaker}
use Rattle.audit_frame.specs.Lines.{noted_line}
use Rattle.audit_waits.proofs.Waiting.{are_ordered, note_told, put_told, gone_told, other_told}
use Rattle.audit_waits.proofs.starts.Starts.take.Goals as goal

pub returns-in-Got-clause-tells : goal.returns-in-Got-clause-tells
returns-in-Got-clause-tells c = on_ok_weaker c.take_note.result (λ taken m h.
    note_told c.args.plan.now.params c.args.self.now c.take_note.new.self m (noted_line c.args.line.now) _ c.in-Got.note c.in-Got.is
    c.take_note.ensures.disks c.take_note.ensures.over taken h) c.take_note.ensures.waiting

pub returns-in-Put-clause-tells : goal.returns-in-Put-clause-tells
returns-in-Put-clause-tells c = on_ok_weaker c.end.result (λ ended m h.
    put_told c.args.plan.now.params c.args.self.now c.end.new.self m (noted_line c.args.line.now) c.in-Put.t c.in-Put.is
    c.end.ensures.disks (ended (are_ordered c.args.plan.now.params c.args.self.now m h)) h) c.end.ensures.ended

pub returns-in-Gone-clause-tells : goal.returns-in-Gone-clause-tells
returns-in-Gone-clause-tells c = on_ok_weaker c.end-in-Gone.result (λ ended m h.
    gone_told c.args.plan.now.params c.args.self.now c.end-in-Gone.new.self m (noted_line c.args.line.now) c.in-Gone.v c.in-Gone.is
    c.end-in-Gone.ensures.disks (ended (are_ordered c.args.plan.now.params c.args.self.now m h)) h) c.end-in-Gone.ensures.ended

pub returns-in_default-clause-tells : goal.returns-in_default-clause-tells
returns-in_default-clause-tells c = λ m h.
    other_told c.args.plan.now.params _ m (noted_line c.args.line.now) c.in_default.not-Got c.in_default.not-Put c.in_default.not-Gone h
