use Rattle.std.proofs.Common.{refl}
use Rattle.std.specs.List.Sorted.{IsStrictlySortedBy}
use Rattle.visit_rows.proofs.worked.worked_rows.Goals as goal

pub returns-clause-rises : goal.returns-clause-rises
unfolding IsStrictlySortedBy
returns-clause-rises c = ((refl, tt), (tt, tt))

pub returns-clause-twice : goal.returns-clause-twice
unfolding IsStrictlySortedBy
returns-clause-twice c h = let less = h.0.0 in absurd (cc)

pub returns-clause-piece_falls : goal.returns-clause-piece_falls
unfolding IsStrictlySortedBy
returns-clause-piece_falls c h = let less = h.0.0 in absurd (cc)

pub returns-clause-visit_falls : goal.returns-clause-visit_falls
unfolding IsStrictlySortedBy
returns-clause-visit_falls c h = let less = h.0.0 in absurd (cc)
