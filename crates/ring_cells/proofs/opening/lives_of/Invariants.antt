use Rattle.std.proofs.Common.{◌≡◌, map, take}
use Rattle.tiger_base.specs.declared.number.NodeNo.{NodeNo}
use Rattle.node_kit.specs.Life.{lifetime_of}
use Rattle.ring_cells.proofs.opening.lives_of.Given as goal

abbrev pub invariant-loop-number : goal.invariant-loop-number
invariant-loop-number l = l.lives.items ≡ map (λ (n : NodeNo). lifetime_of l.course n.0) (take l.number-index l.numbers)
