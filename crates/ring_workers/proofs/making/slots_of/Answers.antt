use Rattle.std.proofs.Common.{◌∷◌, [], arith, ap, length, length-append}
use Rattle.ring_workers.proofs.Places.{slots-none, slots-more}
use Rattle.ring_workers.proofs.Walks.{goes-on, next-at}
use Rattle.ring_workers.proofs.making.slots_of.Goals as goal

pub loop-node-init : goal.loop-node-init
loop-node-init g c = (
  tt,
  tt,
  c.into_iter-node-iterator.ensures.into_iter_gives.0,
  ap length c.new-slots.ensures.items,
  slots-none _ _ c.new-slots.ensures.items,
)

pub loop-node-preserved : goal.loop-node-preserved
loop-node-preserved g c =
    let inv = c.loop-node.invariant in
    let next = c.in-Some.ensures.steps.0 in (
      tt,
      tt,
      goes-on _ c.loop-node.yielded c.in-Some.node _ _ inv.2 next,
      omega (arith, c.in_ok-push.ensures.len, inv.3, length-append c.loop-node.yielded (c.in-Some.node ∷ [])),
      slots-more c.args.nodes.items c.loop-node.slots.items _ c.in-Some.node c.in_ok-push.ensures.items
          (next-at c.args.nodes.items c.loop-node.yielded c.in-Some.node _ _ (length c.loop-node.slots.items) inv.2 next inv.3) inv.4,
    )
