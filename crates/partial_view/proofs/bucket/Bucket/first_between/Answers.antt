use Rattle.std.proofs.Common.{◌∙◌, ap, drop, arith}
use Rattle.partial_view.specs.Work.{is_left, first_between}
use Rattle.partial_view.proofs.Rows.{from-told, between-begin, walk-found, walk-on, walk-late, walk-end}
use Rattle.partial_view.proofs.bucket.Bucket.first_between.Goals as goal

pub loop-row-init : goal.loop-row-init
loop-row-init c =
    let row = from-told c.self.inside.lines c.args.self.now c.dues-dues.result.now c.args.from c.from_near-row.result c.self.view_is c.dues-dues.ensures c.self.invariant c.from_near-row.ensures.place in
    record {
      from = omega (arith, row);
      same = ap (λ n. first_between c.args.self.now.params (is_left c.args.work) c.args.from c.args.to (drop n c.args.self.now.lines)) row
          ∙ between-begin c.args.self.now.params (is_left c.args.work) c.args.from c.args.to c.args.self.now.lines;
    }

pub returns-then-is_left : goal.returns-then-is_left
returns-then-is_left c =
    walk-found c.self.inside.lines c.args.self.now c.lines-lines.result.now c.dues-dues.result.now c.self.view_is c.lines-lines.ensures.lines c.dues-dues.ensures c.self.invariant (is_left c.args.work) c.args.from c.args.to c.loop-row.row
    0 _ c.loop-row-test.true c.loop-row.invariant.from c.if-dues-row.true c.is_left.ensures c.if-is_left.true c.loop-row.invariant.same

pub loop-row-preserved : goal.loop-row-preserved
loop-row-preserved c = record {
  from = omega (arith, c.loop-row.invariant.from);
  same = walk-on c.self.inside.lines c.args.self.now c.lines-lines.result.now c.dues-dues.result.now c.self.view_is c.lines-lines.ensures.lines c.dues-dues.ensures c.self.invariant (is_left c.args.work) c.args.from c.args.to c.loop-row.row
      _ c.loop-row-test.true c.is_left.ensures c.if-is_left.false c.loop-row.invariant.same;
}

pub returns-else-dues-row : goal.returns-else-dues-row
returns-else-dues-row c =
    walk-late c.self.inside.lines c.args.self.now c.lines-lines.result.now c.dues-dues.result.now c.self.view_is c.lines-lines.ensures.lines c.dues-dues.ensures c.self.invariant (is_left c.args.work) c.args.from c.args.to c.loop-row.row
    0 c.loop-row-test.true c.if-dues-row.false c.loop-row.invariant.same

pub returns-after-loop-row : goal.returns-after-loop-row
returns-after-loop-row c =
    walk-end c.self.inside.lines c.args.self.now c.lines-lines.result.now c.dues-dues.result.now c.self.view_is c.lines-lines.ensures.lines c.dues-dues.ensures c.self.invariant (is_left c.args.work) c.args.from c.args.to c.loop-row.row
    c.loop-row-test.false c.loop-row.invariant.same
