use Rattle.std.proofs.Common.{◌<◌, arith, ap, length}
use Rattle.partial_view.proofs.Calls.{line-found, line-gap}
use Rattle.partial_view.proofs.Rows.{row-told, row-found, row-gap, row-past}
use Rattle.partial_view.proofs.bucket.Bucket.find.Goals as goal
use Rattle.partial_view.proofs.bucket.Bucket.find.Goals.{else-row-lines-via-then-row-lines+else-eq, else-row-lines-via-else-row-lines}

pub returns-then-eq : goal.returns-then-eq
returns-then-eq c =
    let r = row-told c.self.inside.lines c.args.self.now c.lines-lines.result.now c.dues.result.now c.args.key c.args.due c.place_in-row.result c.self.view_is c.lines-lines.ensures.lines c.dues.ensures c.self.invariant c.requires.due c.place_in-row.ensures in
    let inside : c.place_in-row.result < length c.args.self.now.lines = omega (arith, c.if-row-lines.true, ap length r.lines) in (
      inside,
      line-found c.args.self.now.params c.args.key c.args.self.now.lines c.place_in-row.result r.walk
          (row-found c.args.self.now c.lines-lines.result.now c.args.key c.place_in-row.result r _ c.key.result c.key.ensures c.eq.ensures c.if-eq.true c.if-row-lines.true),
    )

pub returns-else-row-lines : goal.returns-else-row-lines
returns-else-row-lines c =
    let r = row-told c.self.inside.lines c.args.self.now c.lines-lines.result.now c.dues.result.now c.args.key c.args.due c.place_in-row.result c.self.view_is c.lines-lines.ensures.lines c.dues.ensures c.self.invariant c.requires.due c.place_in-row.ensures in
    line-gap c.args.self.now.params c.args.key c.args.self.now.lines c.place_in-row.result r.walk
    (elim c.else-row-lines.branch [
      | else-row-lines-via-then-row-lines+else-eq w ↦ row-gap c.args.self.now c.lines-lines.result.now c.args.key c.place_in-row.result r _ w.key.result w.key.ensures w.eq.ensures w.if-eq.false
      | else-row-lines-via-else-row-lines w ↦ row-past c.args.self.now c.lines-lines.result.now c.args.key c.place_in-row.result r w.if-row-lines.false
    ])
