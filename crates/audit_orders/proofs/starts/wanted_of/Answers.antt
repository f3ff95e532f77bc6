use Rattle.std.proofs.Common.{List, ◌++◌, ap}
use Rattle.audit_orders.specs.Starts.{wanted_from}
use Rattle.audit_orders.specs.declared.starts.Wanted.{Wanted}
use Rattle.audit_orders.proofs.Comparing.{wanted_next, wanted_end}
use Rattle.audit_orders.proofs.starts.wanted_of.Goals as goal

pub loop-j-init : goal.loop-j-init
loop-j-init c = record {
  told = ap (λ (q : List Wanted). q ++ wanted_from c.args.plan.now.params c.args.beats 0 c.args.orders.now) c.new-wanted.ensures.items;
}

pub loop-j-preserved : goal.loop-j-preserved
loop-j-preserved c = record {
  told = wanted_next c.args.plan.now.params c.args.beats c.loop-j.j c.args.orders.now _ _ _ _ c.loop-j-test.true
      c.in_ok-push_wanted.ensures c.loop-j.invariant.told;
}

pub returns : goal.returns
returns c = wanted_end c.args.plan.now.params c.args.beats c.loop-j.j c.args.orders.now _ _ c.loop-j-test.false c.loop-j.invariant.told
