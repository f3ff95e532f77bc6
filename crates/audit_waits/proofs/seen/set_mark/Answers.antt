use Rattle.audit_waits.proofs.Seeing.{mark_set}
use Rattle.audit_waits.proofs.seen.set_mark.Goals as goal

pub returns : goal.returns
returns c = λ p h all here. mark_set p h _ _ c.args.disk.0 c.args.mark c.put_mark.ensures all here
