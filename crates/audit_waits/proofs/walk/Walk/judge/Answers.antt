use Rattle.std.proofs.Common.{ap, not}
use Rattle.tiger_base.specs.declared.number.Stamp.{Stamp}
use Rattle.audit_waits.proofs.Judged.{nobody_waits}
use Rattle.audit_waits.proofs.Passing.{passed_then, patient_then, rests_then}
use Rattle.audit_waits.proofs.walk.Walk.judge.Goals as goal

pub returns-then-none_wait-clause-found : goal.returns-then-none_wait-clause-found
returns-then-none_wait-clause-found c = λ orders m tells reading ticks.
    nobody_waits c.args.course.now.plan.params orders c.args.self.now.so_far m c.args.cub.0 c.args.beat reading c.args.course.now.plan.sound
    c.requires.cub tells (c.none_wait.ensures c.if-none_wait.true)

pub returns-then-not-ends_beat-clause-found : goal.returns-then-not-ends_beat-clause-found
returns-then-not-ends_beat-clause-found c = λ orders m tells.
    rests_then c.args.course.now.plan.params orders c.args.course.now m c.args.cub.0 c.args.beat c.args.self.now.place c.ends_beat.result
    c.ends_beat.ensures (ap not c.if-not-ends_beat.true)

pub returns-then-is_patient-clause-found : goal.returns-then-is_patient-clause-found
returns-then-is_patient-clause-found c = λ orders m tells.
    patient_then c.args.course.now.plan.params orders c.args.course.now m c.args.cub.0 c.args.beat c.args.self.now.place _ _
    (ap (λ (s : Stamp). s.reading) c.stamp-reading.ensures.stamp) c.if-is_patient.true (c.is_patient.ensures.patient orders m tells)

pub returns-clause-found : goal.returns-clause-found
returns-clause-found c = λ orders m tells.
    passed_then c.args.course.now.plan.params orders c.args.course.now m c.args.cub c.args.beat c.args.self.now.place _ c.ends_beat.result _ _ c.requires.beat
    c.ends_beat.ensures (ap not c.if-not-ends_beat.false)
    (ap (λ (s : Stamp). s.reading) c.stamp-reading.ensures.stamp) c.if-is_patient.false c.last_place-place.ensures (c.is_patient.ensures.patient orders m tells)
