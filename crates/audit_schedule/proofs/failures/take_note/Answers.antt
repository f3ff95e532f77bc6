use Rattle.std.proofs.lemmas.Result.{on_ok_weaker}
use Rattle.audit_schedule.proofs.Failing.{ask_note, other_note}
use Rattle.audit_schedule.proofs.failures.take_note.Goals as goal

pub returns-in-ReadAsk : goal.returns-in-ReadAsk
returns-in-ReadAsk c = on_ok_weaker c.take_ask.result (λ added w.
    ask_note c.args.plan.now.params c.args.faults.now c.args.node.0 c.args.beat _ _ _ _ w c.in-ReadAsk.is (added w)) c.take_ask.ensures

pub returns-in_default : goal.returns-in_default
returns-in_default c = λ w.
    other_note c.args.plan.now.params c.args.faults.now c.args.node.0 c.args.beat c.args.note.now _ w c.in_default.not-ReadAsk
