use Rattle.std.proofs.Common.{arith}
use Rattle.partial_view.proofs.Dues.{as-many}
use Rattle.partial_view.proofs.Places.{from_most}
use Rattle.partial_view.proofs.search.from_forth.Goals as goal

pub returns-clause-place : goal.returns-clause-place
returns-clause-place c = λ p lines timed least.
    c.halve_from.ensures.place p lines timed (c.loop-low.invariant.least p lines timed least)
    (omega (arith, from_most p c.args.time lines, as-many p lines c.args.dues.now timed.0))
