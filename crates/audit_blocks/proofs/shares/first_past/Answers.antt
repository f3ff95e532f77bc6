use Rattle.std.proofs.Common.{sym, ◌∙◌, arith}
use Rattle.audit_blocks.proofs.Sharing.{not_yet_over, still_over}
use Rattle.audit_blocks.proofs.shares.first_past.Goals as goal

pub loop-low-init : goal.loop-low-init
loop-low-init c = record {
  from = omega arith;
  order = c.requires.order;
  to = omega arith;
  before = λ n first low. absurd (omega (arith, first, low));
  behind = λ n high low. absurd (omega (arith, high, low));
}

pub loop-low-preserved-then-lies_past : goal.loop-low-preserved-then-lies_past
loop-low-preserved-then-lies_past c =
    let was = c.loop-low.invariant in
    record {
      from = was.from;
      order = omega arith;
      to = omega arith;
      before = was.before;
      behind = λ n high low.
          still_over c.args.k.now c.args.stops c.args.t.now _ n high (sym c.lies_past.ensures ∙ c.if-lies_past.true);
    }

pub loop-low-preserved : goal.loop-low-preserved
loop-low-preserved c =
    let was = c.loop-low.invariant in
    record {
      from = omega arith;
      order = omega arith;
      to = was.to;
      before = λ n first low.
          not_yet_over c.args.k.now c.args.stops c.args.t.now n _ (omega (arith, low)) (sym c.lies_past.ensures ∙ c.if-lies_past.false);
      behind = was.behind;
    }

pub returns-clause-behind : goal.returns-clause-behind
returns-clause-behind c = λ n low high. c.loop-low.invariant.behind n (omega (arith, low, c.loop-low-test.false)) high
