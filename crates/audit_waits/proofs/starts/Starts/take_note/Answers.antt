use Rattle.std.proofs.lemmas.Result.{on_ok_weaker}
use Rattle.audit_waits.proofs.Waiting.{start_note, other_note}
use Rattle.audit_waits.proofs.starts.Starts.take_note.Goals as goal

pub returns-in-Start-clause-waiting : goal.returns-in-Start-clause-waiting
returns-in-Start-clause-waiting c = on_ok_weaker c.let_in.result (λ taken.
    start_note c.args.plan.now.params c.args.node.0 c.args.note.now _ _ c.args.self.now c.let_in.new.self c.in-Start.is taken) c.let_in.ensures.waiting

pub returns-in_default-clause-waiting : goal.returns-in_default-clause-waiting
returns-in_default-clause-waiting c = other_note c.args.plan.now.params c.args.node.0 c.args.note.now _ c.in_default.not-Start
