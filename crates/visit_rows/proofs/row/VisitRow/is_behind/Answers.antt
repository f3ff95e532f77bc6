use Rattle.std.proofs.Common.{◌≡◌, Less, arith, length, subst}
use Rattle.std.proofs.lemmas.Bool.Decides.{nat_tests}
use Rattle.visit_rows.specs.Rows.{position_order, RowOf, IsGapFor}
use Rattle.visit_rows.proofs.Rows.{behind}
use Rattle.visit_rows.proofs.row.VisitRow.is_behind.Goals as goal

pub returns-else-is_empty : goal.returns-else-is_empty
returns-else-is_empty g c lower =
    let less : position_order c.self.inside.top c.args.position ≡ Less = grind (arith, nat_tests, lower) in
    subst (λ (row : RowOf _). IsGapFor c.args.position row (length row)) c.self.view_is
    (behind c.self.inside.items.items c.self.invariant.0 c.self.inside.top c.args.position c.self.invariant.1 less)
