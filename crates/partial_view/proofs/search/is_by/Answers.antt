use Rattle.std.proofs.Common.{refl, arith}
use Rattle.partial_view.proofs.Halving.{past_by, is_by-told}
use Rattle.partial_view.proofs.search.is_by.Goals as goal

pub returns-then-dues-place-clause-by : goal.returns-then-dues-place-clause-by
returns-then-dues-place-clause-by c = λ p timed due. past_by p c.args.key c.args.lines.now c.args.dues.now c.args.place timed c.if-dues-place.true

pub returns-clause-by : goal.returns-clause-by
returns-clause-by c = λ p timed due.
    is_by-told p c.args.key c.args.lines.now c.args.dues.now c.args.place timed c.args.due _ _ _ c.key.result refl c.key.ensures (omega (arith, c.if-dues-place.false)) due c.is_before.ensures
