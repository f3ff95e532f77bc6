use Rattle.std.proofs.Common.{◌≡◌, map, take}
use Rattle.tiger_base.specs.declared.number.NodeNo.{NodeNo}
use Rattle.node_kit.specs.Courses.{setting_of}
use Rattle.ring_cells.proofs.opening.dials_of.Given as goal

abbrev pub invariant-loop-number : goal.invariant-loop-number
invariant-loop-number l = l.dials.items ≡ map (λ (n : NodeNo). setting_of l.course n.0) (take l.number-index l.numbers)
