use Rattle.std.proofs.Common.{◌≡◌, ℕ, Some, length}
use Rattle.std.specs.Prelude.{slice_get}
use Rattle.tiger_base.specs.declared.number.NodeNo.{NodeNo}
use Rattle.ring_workers.specs.Ends.{HasEnd, AreLeft}
use Rattle.ring_workers.proofs.making.take_nodes.Given as goal

-- the nodes at the places so far
abbrev pub invariant-loop-place : goal.invariant-loop-place
invariant-loop-place g l = record {
  size : length l.nodes.items ≡ l.place;
  each : (q : ℕ) (n : NodeNo) (x : _) → slice_get l.numbers q ≡ Some n → slice_get l.nodes.items q ≡ Some x → HasEnd l.fn.slots.items n.0 x;
  left : AreLeft l.fn.slots.items l.slots.items;
}
