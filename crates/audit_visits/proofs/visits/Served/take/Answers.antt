use Rattle.std.proofs.lemmas.Result.{on_ok_weaker}
use Rattle.audit_frame.specs.Lines.{noted_line}
use Rattle.audit_visits.proofs.Keeping.{death_kept, other_kept}
use Rattle.audit_visits.proofs.visits.Served.take.Goals as goal

pub returns-in-Sent : goal.returns-in-Sent
returns-in-Sent c = on_ok_weaker c.take_note.result (λ kept p front h once.
    kept p front (noted_line c.args.line.now) c.in-Sent.field-0 c.in-Sent.is h once) c.take_note.ensures

pub returns-in-Died : goal.returns-in-Died
returns-in-Died c = on_ok_weaker c.add.result (λ added p front h once.
    death_kept front (noted_line c.args.line.now) _ _ _ _ c.in-Died.is added h) c.add.ensures

pub returns-in_default : goal.returns-in_default
returns-in_default c = λ p front h once.
    other_kept front (noted_line c.args.line.now) _ _ _ c.in_default.not-Sent c.in_default.not-Died h
