use Rattle.std.proofs.lemmas.Result.{on_ok_weaker}
use Rattle.audit_waits.proofs.Waiting.{has_ended}
use Rattle.audit_waits.proofs.starts.Starts.end.Goals as goal

pub returns-clause-ended : goal.returns-clause-ended
returns-clause-ended c =
    on_ok_weaker c.add.result (λ over ordered. has_ended c.args.v.0 c.args.self.now _ over c.leave.ensures c.leave-2.ensures ordered) c.add.ensures
