use Rattle.std.proofs.Common.{arith}
use Rattle.partial_view.proofs.Halving.{no_le}
use Rattle.partial_view.proofs.Places.{place_most}
use Rattle.partial_view.proofs.search.place_in.Goals as goal

pub returns-then-not-is_by : goal.returns-then-not-is_by
returns-then-not-is_by c = λ p timed due.
    omega (arith, no_le (c.is_by-2.ensures.by p timed due) c.if-not-is_by.true, c.is_by.ensures.inside c.if-is_by.false, place_most p c.args.key c.args.lines.now, c.requires)
