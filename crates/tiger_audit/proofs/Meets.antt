-- A run that meets all clauses meets each.
use Rattle.node_kit.specs.declared.course.Kept.{Kept}
use Rattle.audit_verdict.specs.Clauses.{MeetsClause, MeetsAllClauses}
use Rattle.audit_verdict.specs.declared.clause.Clause.{Clause}
use Rattle.audit_verdict.specs.declared.clause.Clause.TheVariants as clause

pub meets_clause : (k : Kept) (c : Clause) → MeetsAllClauses k → MeetsClause k c
meets_clause k clause.Carried all = all.carried
meets_clause k clause.Timed all = (all.timed, all.clocks)
meets_clause k clause.Commanded all = all.commanded
meets_clause k clause.FreePuts all = all.claims.free
meets_clause k clause.PartViews all = all.claims.part
meets_clause k clause.NoReturn all = all.claims.no_return
meets_clause k clause.OnePerVisit all = all.claims.one_per_visit
meets_clause k clause.TrueBelief all = all.claims.true_belief
meets_clause k clause.TrueFaults all = all.claims.true_faults
meets_clause k clause.FullDelivery all = all.claims.delivery
meets_clause k clause.VisitsInOrder all = all.claims.in_order
meets_clause k clause.FairStarts all = all.claims.starts
