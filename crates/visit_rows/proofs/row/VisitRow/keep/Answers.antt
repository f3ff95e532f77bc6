use Rattle.std.proofs.Common.{subst}
use Rattle.visit_rows.specs.Rows.{IsRow, IsGapFor}
use Rattle.visit_rows.proofs.Rows.{row-insert, none-insert, kept-insert, kept-found}
use Rattle.visit_rows.proofs.row.VisitRow.keep.Goals as goal

pub invariant_of-self-in-Err : goal.invariant_of-self-in-Err
invariant_of-self-in-Err g c =
    let gap : IsGapFor c.args.position c.self.inside.items.items c.in-Err.place = rw c.self.view_is c.in-Err.ensures.absent in
    rw c.in_ok-insert-in-Err.ensures.items (
      row-insert c.args.position c.args.thing _ _ c.self.invariant.0 gap,
      none-insert c.args.position c.args.thing c.self.inside.top _ _ _ gap c.later-self-inside.ensures.first c.later-self-inside.ensures.second c.self.invariant.1,
    )

pub returns-in_ok-insert-in-Err : goal.returns-in_ok-insert-in-Err
returns-in_ok-insert-in-Err g c =
    rw (c.in_ok-insert-in-Err.ensures.items, c.self.view_is)
    (kept-insert c.args.position c.args.thing _ _ (subst IsRow c.self.view_is c.self.invariant.0) c.in-Err.ensures.absent)

pub returns-in-Ok : goal.returns-in-Ok
returns-in-Ok g c =
    kept-found c.args.position c.args.thing _ _ ((0, 0), c.args.thing) (subst IsRow c.self.view_is c.self.invariant.0) c.in-Ok.ensures.found
