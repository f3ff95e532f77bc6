use Rattle.partial_view.proofs.Places.{place_most}
use Rattle.partial_view.proofs.search.place_behind.Goals as goal

pub returns : goal.returns
returns c = λ p timed due least.
    c.halve.ensures p timed due (c.loop-low.invariant.least p timed due least) (place_most p c.args.key c.args.lines.now)
