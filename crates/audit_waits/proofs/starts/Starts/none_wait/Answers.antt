use Rattle.std.proofs.lemmas.Bool.{false≢true}
use Rattle.audit_waits.proofs.Waiting.{none_in}
use Rattle.audit_waits.proofs.starts.Starts.none_wait.Goals as goal

pub returns-then-not-plain : goal.returns-then-not-plain
returns-then-not-plain c = λ t. absurd (false≢true t)

pub returns : goal.returns
returns c = λ t. none_in c.args.self.now (c.is_empty-plain.ensures c.if-not-plain.false) (c.is_empty.ensures t)
