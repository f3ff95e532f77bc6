use Rattle.std.proofs.Common.{ap, sym, ◌∙◌, arith, length}
use Rattle.std.specs.Prelude.{slice_get}
use Rattle.ring_workers.proofs.Places.{left-all, left-on, none-taken, more-taken}
use Rattle.ring_workers.proofs.making.take_nodes.Goals as goal

pub loop-place-init : goal.loop-place-init
loop-place-init g c = record { size = ap length c.new-nodes.ensures.items; each = none-taken _ _ _ c.new-nodes.ensures.items; left = left-all _ }

pub loop-place-preserved : goal.loop-place-preserved
loop-place-preserved g c =
    let inv = c.loop-place.invariant in
    let at = sym c.number_at-number.ensures in
    record {
      size = omega (arith, c.in_ok-push.ensures.len, inv.size);
      each = more-taken _ _ c.loop-place.nodes.items _ c.number_at-number.result _ c.in_ok-push.ensures.items (ap (slice_get c.args.numbers.now) inv.size ∙ at) (inv.left _ _ c.in_ok-node.ensures.took) inv.each;
      left = left-on _ _ _ inv.left c.in_ok-node.ensures.left;
    }
