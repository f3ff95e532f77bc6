use Rattle.std.proofs.Common.{◌≡◌, []}
use Rattle.node_kit.specs.Rows.{each_below}
use Rattle.ring_cells.proofs.opening.new_journals.Given as goal

abbrev pub invariant-loop-member : goal.invariant-loop-member
invariant-loop-member l = l.journals.items ≡ each_below (λ _. []) l._member
