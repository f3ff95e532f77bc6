use Rattle.std.proofs.Common.{◌∙◌, refl}
use Rattle.plan_faults.specs.Faults.{conditions}
use Rattle.plan_faults.proofs.faults.conditions.Goals as goal

pub returns : goal.returns
unfolding conditions
returns c =
    c.in_ok-vec.ensures.items
    ∙ rw (c.opens_before.ensures, c.at_most.ensures, c.at_most-2.ensures, c.at_most-3.ensures, c.at_most-4.ensures, c.at_most-5.ensures, c.within_a_round.ensures, c.at_most-6.ensures, c.at_most-7.ensures, c.at_most-8.ensures, c.at_most-9.ensures, c.at_most-10.ensures) refl
