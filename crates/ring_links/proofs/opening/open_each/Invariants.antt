use Rattle.std.proofs.Common.{◌≡◌, ◌+◌, length}
use Rattle.ring_links.specs.Ends.{AreNewLinks}
use Rattle.ring_links.proofs.opening.open_each.Given as goal

abbrev pub invariant-loop-way : goal.invariant-loop-way
invariant-loop-way g l =
    (goal.iterator-loop-way g).can_next l.way-iterator ×
    (goal.iterator-loop-way g).is_finite l.way-iterator ×
    (length l.links.items + length l.way-iterator.rest.items ≡ length l.fn.ways.items) ×
    AreNewLinks l.links.items
