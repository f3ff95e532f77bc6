use Rattle.std.proofs.Common.{sym}
use Rattle.std.proofs.lemmas.Option.{none-some}
use Rattle.slot_plan.specs.Times.{time_of}
use Rattle.proof_worlds.proofs.rows.returns.Goals as goal

pub returns-clause-alive : goal.returns-clause-alive
unfolding time_of
returns-clause-alive c image a = absurd (none-some _ (sym a.1.accepts.1))

pub returns-clause-at_once : goal.returns-clause-at_once
unfolding time_of
returns-clause-at_once c image a = absurd (none-some _ (sym a.1.accepts.2.1))
