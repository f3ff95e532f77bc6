use Rattle.std.proofs.Common.{arith}
use Rattle.partial_view.proofs.Dues.{as-many}
use Rattle.partial_view.proofs.Halving.{yes_le}
use Rattle.partial_view.proofs.Places.{from_most}
use Rattle.partial_view.proofs.search.from_near.Goals as goal

pub returns-then-is_due_by-clause-place : goal.returns-then-is_due_by-clause-place
returns-then-is_due_by-clause-place c = λ p lines timed.
    c.from_back.ensures.place p lines timed
    (omega (arith, yes_le (c.is_due_by.ensures.by p lines timed) c.if-is_due_by.true, from_most p c.args.time lines, as-many p lines c.args.dues.now timed.0, c.min.ensures))
