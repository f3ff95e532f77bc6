use Rattle.std.proofs.Common.{ap, sym, subst, arith, length}
use Rattle.node_kit.specs.Rows.{AllStand}
use Rattle.ring_workers.specs.Ends.{AreSlots}
use Rattle.ring_workers.proofs.making.make_shares.Goals as goal

pub loop-share-init : goal.loop-share-init
loop-share-init g c = record {
  count = ap length c.new-locks.ensures.items;
  slots = subst (λ xs. AreSlots xs c.in_ok-slots.slots.items) (sym c.requires.opening) c.in_ok-slots.ensures;
  outs = c.requires.outs;
  ins = c.requires.ins;
}

pub make_share-requires-clause-some : goal.make_share-requires-clause-some
make_share-requires-clause-some g c = omega (arith, c.requires.some, ap length c.requires.opening, c.args.nodes.ok.0)

pub make_share-requires-clause-stand : goal.make_share-requires-clause-stand
make_share-requires-clause-stand g c =
    subst (AllStand g.T.Node.stands_at c.args.course.now.plan.params) (sym c.requires.opening) c.requires.stand

pub loop-share-preserved : goal.loop-share-preserved
loop-share-preserved g c = record {
  count = omega (arith, c.in_ok-push.ensures.len, c.loop-share.invariant.count);
  slots = c.in_ok-made.ensures.slots;
  outs = c.in_ok-made.ensures.outs;
  ins = c.in_ok-made.ensures.ins;
}
