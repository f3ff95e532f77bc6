use Rattle.std.proofs.Common.{◌≡◌, ◌∷◌, []}
use Rattle.ring_cells.specs.Shares.{HasPoured}
use Rattle.ring_cells.proofs.receiving.pour_to.Given as goal

abbrev pub invariant-flights : goal.invariant-flights
invariant-flights g l =
    (goal.iterator-flights g).can_next l.iterator' ×
    (goal.iterator-flights g).is_finite l.iterator' ×
    HasPoured l.fn.mail.channels (l.fn.port ∷ []) l.mail.channels (l.port ∷ []) ×
    (l.mail.links ≡ l.fn.mail.links)
