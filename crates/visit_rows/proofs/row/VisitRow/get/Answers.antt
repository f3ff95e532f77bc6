use Rattle.std.proofs.Common.{sym, subst, arith}
use Rattle.visit_rows.specs.Rows.{IsRow}
use Rattle.visit_rows.proofs.Rows.{hit, missed}
use Rattle.visit_rows.proofs.row.VisitRow.get.Goals as goal

pub returns-in-Ok : goal.returns-in-Ok
returns-in-Ok g c =
    let found = hit _ (subst IsRow c.self.view_is c.self.invariant.0) c.args.position _ c.index.result.now c.in-Ok.ensures.found in
    grind (arith, found, c.self.view_is)

pub returns-in-Err : goal.returns-in-Err
returns-in-Err g c = sym (missed _ (subst IsRow c.self.view_is c.self.invariant.0) c.args.position _ c.in-Err.ensures.absent)
