use Rattle.ring_cells.proofs.Pouring.{poured-none}
use Rattle.ring_cells.proofs.receiving.pour.Goals as goal

pub returns-then-is_closed_to-clause-poured : goal.returns-then-is_closed_to-clause-poured
returns-then-is_closed_to-clause-poured g c = poured-none _ _
