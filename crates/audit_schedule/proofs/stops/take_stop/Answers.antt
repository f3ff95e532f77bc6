use Rattle.std.proofs.lemmas.Result.{on_ok_weaker}
use Rattle.audit_frame.specs.Lines.{noted_line}
use Rattle.audit_schedule.proofs.Stopping.{gone_marked, other_marked}
use Rattle.audit_schedule.proofs.stops.take_stop.Goals as goal

pub returns-in-Gone : goal.returns-in-Gone
returns-in-Gone c = on_ok_weaker c.keep_stop.result (λ set m h.
    gone_marked _ _ m (noted_line c.args.line.now) c.in-Gone.v c.in-Gone.is set h) c.keep_stop.ensures

pub returns-in_default : goal.returns-in_default
returns-in_default c = λ m h. other_marked _ m (noted_line c.args.line.now) c.in_default.not-Gone h
