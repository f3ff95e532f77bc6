use Rattle.std.proofs.Common.{◌≡◌, ◌∷◌, []}
use Rattle.ring_cells.specs.Shares.{HasPoured}
use Rattle.ring_cells.proofs.receiving.pour_counted.Given as goal

abbrev pub invariant-counted : goal.invariant-counted
invariant-counted g l =
    (goal.iterator-counted g).can_next l.iterator' ×
    (goal.iterator-counted g).is_finite l.iterator' ×
    HasPoured l.fn.mail.channels (l.fn.port ∷ []) l.mail.channels (l.port ∷ []) ×
    (l.mail.links ≡ l.fn.mail.links)
