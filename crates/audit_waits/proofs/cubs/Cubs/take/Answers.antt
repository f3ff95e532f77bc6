use Rattle.std.proofs.Common.{refl}
use Rattle.std.proofs.lemmas.Result.{on_ok_weaker}
use Rattle.audit_frame.specs.Lines.{noted_line}
use Rattle.audit_frame.specs.declared.records.By.TheVariants as way
use Rattle.audit_frame.proofs.Joined.{both_ok}
use Rattle.audit_waits.proofs.Excusing.{took_known, dropped_known, belief_known, death_known, return_known, other_known}
use Rattle.audit_waits.proofs.cubs.Cubs.take.Goals as goal

pub returns-in-Took : goal.returns-in-Took
returns-in-Took c = on_ok_weaker c.add.result (λ added m h.
    took_known c.args.self.now _ m (noted_line c.args.line.now) c.in-Took.r c.in-Took.is refl refl added h) c.add.ensures

pub returns-in-Dropped : goal.returns-in-Dropped
returns-in-Dropped c = λ m h.
    dropped_known c.args.self.now _ m (noted_line c.args.line.now) c.in-Dropped.r c.in-Dropped.is refl refl c.remove.ensures h

pub returns-in-Believed : goal.returns-in-Believed
returns-in-Believed c = on_ok_weaker c.add-in-Believed.result (λ added m h.
    belief_known c.args.self.now _ m (noted_line c.args.line.now) c.in-Believed.other c.in-Believed.is refl refl added h) c.add-in-Believed.ensures

pub returns-in-Died : goal.returns-in-Died
returns-in-Died c = both_ok c.take_death.result _ _ _ (λ cleared added m h.
    death_known c.args.self.now c.take_death.new.self m (noted_line c.args.line.now) c.in-Died.is c.take_death.ensures.believed cleared added h)
    c.take_death.ensures.records c.take_death.ensures.dead

pub returns-in-Returned : goal.returns-in-Returned
returns-in-Returned c = λ m h.
    return_known c.args.self.now _ m (noted_line c.args.line.now) c.in-Returned.is refl refl (c.clear.ensures way.Slot) h

pub returns-in_default : goal.returns-in_default
returns-in_default c = λ m h.
    other_known _ m (noted_line c.args.line.now) c.in_default.not-Took c.in_default.not-Dropped c.in_default.not-Believed c.in_default.not-Died
    c.in_default.not-Returned h
