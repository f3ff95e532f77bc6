use Rattle.visit_rows.proofs.Rows.{row-none}
use Rattle.visit_rows.proofs.row.VisitRow.new.Goals as goal

pub invariant_of-result : goal.invariant_of-result
invariant_of-result g c = row-none (0, 0) _ c.new.ensures.items
