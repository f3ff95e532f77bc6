use Rattle.std.proofs.lemmas.Result.{on_ok_weaker}
use Rattle.audit_frame.specs.Lines.{noted_line}
use Rattle.audit_schedule.proofs.Dying.{death_tells, other_death_tells}
use Rattle.audit_schedule.proofs.beliefs.take_death.Goals as goal

pub returns-in-Died : goal.returns-in-Died
returns-in-Died c = on_ok_weaker c.add.result (λ added m h.
    death_tells _ _ m (noted_line c.args.line.now) c.in-Died.is added h) c.add.ensures

pub returns-in_default : goal.returns-in_default
returns-in_default c = λ m h. other_death_tells _ m (noted_line c.args.line.now) c.in_default.not-Died h
