use Rattle.std.proofs.Common.{◌≡◌, ◌++◌}
use Rattle.ring_workers.specs.Parts.{AreAllParts}
use Rattle.ring_workers.proofs.ending.apart.Given as goal

abbrev pub invariant-loop-share : goal.invariant-loop-share
invariant-loop-share g l =
    (goal.iterator-loop-share g).can_next l.share-iterator ×
    (goal.iterator-loop-share g).is_finite l.share-iterator ×
    (l.yielded ++ l.share-iterator.rest.items ≡ l.fn.shares.items) ×
    AreAllParts g.M.Message.note_of g.T.Node.step g.T.Node.stands_at g.W.Named.course g.W.Named.opening g.W.Named.line g.W.Named.home l.parts.items
