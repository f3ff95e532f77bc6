use Rattle.std.proofs.Common.{◌≡◌, ◌≤◌, false}
use Rattle.ring_cells.specs.Moves.{IsSameShare}
use Rattle.ring_cells.proofs.Moving.{HasDone}
use Rattle.ring_cells.proofs.share.Share.go_on.Given as goal

abbrev pub invariant-each : goal.invariant-each
invariant-each g l =
    (goal.iterator-each g).can_next l.iterator' ×
    (goal.iterator-each g).is_finite l.iterator' ×
    (l.self.spoilt ≡ false) ×
    IsSameShare l.fn.self l.self ×
    (l.count ≤ l.self.next) ×
    HasDone g.M.Message.note_of g.T.Node.step l.count l.fn.self l.self
