use Rattle.std.proofs.Common.{refl}
use Rattle.audit_waits.proofs.Passing.{entry_passed}
use Rattle.audit_waits.proofs.walk.Walk.pass_entry.Goals as goal

pub returns-clause-stands : goal.returns-clause-stands
returns-clause-stands c = λ orders beat cub up h.
    entry_passed c.args.plan.now.params orders c.args.log.now c.args.self.now _ c.args.line.now beat cub c.requires.inside c.requires.line refl
    (c.in_ok-kept.ensures.tells orders) up h

pub returns-clause-marks : goal.returns-clause-marks
returns-clause-marks c = c.in_ok-keep_marks.ensures c.args.plan.now.params _ _ c.in_ok-kept.ensures.kept c.requires.marks
