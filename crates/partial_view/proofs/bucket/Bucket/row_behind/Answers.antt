use Rattle.partial_view.proofs.Calls.{next-found, next-gap}
use Rattle.partial_view.proofs.Rows.{row-told, row-found, row-gap, row-past}
use Rattle.partial_view.proofs.bucket.Bucket.row_behind.Goals as goal
use Rattle.partial_view.proofs.bucket.Bucket.row_behind.Goals.{else-row-lines-via-then-row-lines+else-eq, else-row-lines-via-else-row-lines}

pub returns-then-eq : goal.returns-then-eq
returns-then-eq c =
    let r = row-told c.self.inside.lines c.args.self.now c.lines-lines.result.now c.dues.result.now c.args.key c.args.due c.place_in-row.result c.self.view_is c.lines-lines.ensures.lines c.dues.ensures c.self.invariant c.requires.due c.place_in-row.ensures in
    next-found c.args.self.now.params c.args.key c.args.self.now.lines c.place_in-row.result r.walk
    (row-found c.args.self.now c.lines-lines.result.now c.args.key c.place_in-row.result r _ c.key.result c.key.ensures c.eq.ensures c.if-eq.true c.if-row-lines.true)

pub returns-else-row-lines : goal.returns-else-row-lines
returns-else-row-lines c =
    let r = row-told c.self.inside.lines c.args.self.now c.lines-lines.result.now c.dues.result.now c.args.key c.args.due c.place_in-row.result c.self.view_is c.lines-lines.ensures.lines c.dues.ensures c.self.invariant c.requires.due c.place_in-row.ensures in
    next-gap c.args.self.now.params c.args.key c.args.self.now.lines c.place_in-row.result r.walk
    (elim c.else-row-lines.branch [
      | else-row-lines-via-then-row-lines+else-eq w ↦ row-gap c.args.self.now c.lines-lines.result.now c.args.key c.place_in-row.result r _ w.key.result w.key.ensures w.eq.ensures w.if-eq.false
      | else-row-lines-via-else-row-lines w ↦ row-past c.args.self.now c.lines-lines.result.now c.args.key c.place_in-row.result r w.if-row-lines.false
    ])
