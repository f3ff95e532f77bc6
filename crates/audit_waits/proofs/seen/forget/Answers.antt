use Rattle.audit_waits.proofs.Seeing.{forgotten}
use Rattle.audit_waits.proofs.seen.forget.Goals as goal

pub returns : goal.returns
returns c = λ p h. forgotten p h _ _ _ _ _ c.clear.ensures.items c.nothing_seen.ensures c.in_ok-resize.ensures.items
