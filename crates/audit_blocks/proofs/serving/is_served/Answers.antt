use Rattle.std.proofs.Common.{sym, ◌∙◌, arith}
use Rattle.audit_blocks.proofs.Visiting.{one_more_served, ended_early, not_served, last_decides}
use Rattle.audit_blocks.proofs.serving.is_served.Goals as goal

pub loop-visit-init : goal.loop-visit-init
loop-visit-init c = record { from = omega arith; below = λ n first low settled. absurd (omega (arith, first, low)) }

pub loop-visit-preserved : goal.loop-visit-preserved
loop-visit-preserved c = record {
  from = (let le = c.loop-visit.invariant.from in omega (arith, le));
  below = one_more_served c.args.k.now c.args.t.now c.loop-visit.visit c.loop-visit.invariant.below
      (sym c.is_served_at.ensures ∙ c.if-not-is_served_at.false);
}

pub returns-then-needs_none_from : goal.returns-then-needs_none_from
returns-then-needs_none_from c = λ put.
    ended_early c.args.k.now c.args.t.now c.loop-visit.visit c.needs_none_from.result c.needs_none_from.ensures c.if-needs_none_from.true
    c.loop-visit.invariant.below put

pub returns-then-not-is_served_at : goal.returns-then-not-is_served_at
returns-then-not-is_served_at c = λ put.
    let low = c.loop-visit-test.true in
    not_served c.args.k.now c.args.t.now c.loop-visit.visit c.needs_none_from.result c.is_served_at.result c.needs_none_from.ensures
    c.if-needs_none_from.false c.is_served_at.ensures c.if-not-is_served_at.true c.loop-visit.invariant.from (omega (arith, low))

pub returns : goal.returns
returns c = λ put.
    last_decides c.args.k.now c.args.t.now c.loop-visit.visit c.is_last_served.result c.is_last_served.ensures c.loop-visit.invariant.below
    c.loop-visit-test.false put
