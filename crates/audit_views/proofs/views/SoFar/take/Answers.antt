use Rattle.std.proofs.Common.{ap, ⊎_elim}
use Rattle.std.proofs.lemmas.Result.{on_ok_weaker}
use Rattle.audit_frame.specs.Lines.{noted_line}
use Rattle.audit_frame.specs.declared.records.By.TheVariants as way
use Rattle.audit_frame.proofs.Joined.{both_ok}
use Rattle.audit_views.proofs.Taking.{put_taken, gone_taken, took_taken, dropped_taken, emptied_taken, empties, other_taken}
use Rattle.audit_views.proofs.views.SoFar.take.Goals as goal

pub returns-in-Put : goal.returns-in-Put
returns-in-Put c = on_ok_weaker c.seat.result (λ seated m h le.
    put_taken c.args.plan.now.params _ _ _ _ _ _ m (noted_line c.args.line.now) c.in-Put.t c.in-Put.is seated h le) c.seat.ensures

pub returns-in-Gone : goal.returns-in-Gone
returns-in-Gone c = both_ok c.keep_stop.result _ _ _ (λ set pushed m h le.
    gone_taken c.args.plan.now.params _ _ _ _ _ _ _ m (noted_line c.args.line.now) c.in-Gone.v c.in-Gone.is set pushed h le)
    c.keep_stop.ensures.latest c.keep_stop.ensures.stops

pub returns-in-Took : goal.returns-in-Took
returns-in-Took c = on_ok_weaker c.take_record.result (λ added m h le.
    took_taken c.args.plan.now.params _ _ _ _ _ _ m (noted_line c.args.line.now) c.in-Took.r c.in-Took.is added h le)
    c.take_record.ensures

pub returns-in-Dropped : goal.returns-in-Dropped
returns-in-Dropped c = λ m h le.
    dropped_taken c.args.plan.now.params _ _ _ _ _ _ m (noted_line c.args.line.now) c.in-Dropped.r c.in-Dropped.is c.remove.ensures h le

pub returns-in-Died : goal.returns-in-Died
returns-in-Died c = λ m h le.
    emptied_taken c.args.plan.now.params _ _ _ _ _ _ m (noted_line c.args.line.now)
    (⊎_elim (λ e. ap empties e) (λ e. ap empties e) c.in-Died.is) (c.clear.ensures way.Instance) h le

pub returns-in_default : goal.returns-in_default
returns-in_default c = λ m h le.
    other_taken c.args.plan.now.params _ _ _ _ _ m (noted_line c.args.line.now) c.in_default.not-Put c.in_default.not-Gone
    c.in_default.not-Took c.in_default.not-Dropped c.in_default.not-Died
    c.in_default.not-Returned h le
