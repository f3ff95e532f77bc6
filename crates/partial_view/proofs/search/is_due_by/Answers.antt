use Rattle.std.proofs.Common.{◌∙◌, refl, arith}
use Rattle.std.proofs.lemmas.Bool.{le-leb}
use Rattle.partial_view.proofs.Halving.{past_due, due_told}
use Rattle.partial_view.proofs.search.is_due_by.Goals as goal

pub returns-then-dues-place-clause-by : goal.returns-then-dues-place-clause-by
returns-then-dues-place-clause-by c = λ p lines timed.
    le-leb _ _ c.if-dues-place.true ∙ past_due p c.args.time lines c.args.dues.now c.args.place timed c.if-dues-place.true

pub returns-else-dues-place-clause-by : goal.returns-else-dues-place-clause-by
returns-else-dues-place-clause-by c = λ p lines timed.
    due_told p c.args.time lines c.args.dues.now c.args.place timed _ _ refl (omega (arith, c.if-dues-place.false))
