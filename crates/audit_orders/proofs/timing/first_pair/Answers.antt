use Rattle.std.proofs.Common.{arith}
use Rattle.audit_orders.proofs.Firsts.{one_more_lives, pair_found, all_apart}
use Rattle.audit_orders.proofs.timing.first_pair.Goals as goal

pub loop-n-init : goal.loop-n-init
loop-n-init c = record { lower = λ m low. absurd (omega (arith, low)) }

pub returns-then-both_die : goal.returns-then-both_die
returns-then-both_die c =
    pair_found c.args.course.now c.loop-n.n c.both_die.result c.loop-n-test.true c.loop-n.invariant.lower c.both_die.ensures c.if-both_die.true

pub loop-n-preserved : goal.loop-n-preserved
loop-n-preserved c = record {
  lower = one_more_lives c.args.course.now c.loop-n.n c.both_die.result c.loop-n.invariant.lower c.both_die.ensures c.if-both_die.false;
}

pub returns : goal.returns
returns c = all_apart c.args.course.now c.loop-n.n c.loop-n-test.false c.loop-n.invariant.lower
