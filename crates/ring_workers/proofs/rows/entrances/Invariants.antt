use Rattle.std.proofs.Common.{ℕ}
use Rattle.ring_links.specs.Ends.{LineId}
use Rattle.ring_cells.proofs.Making.{HasInsBelow}
use Rattle.ring_workers.specs.Ends.{AreLeft, AreNamed}
use Rattle.ring_workers.proofs.rows.entrances.Given as goal

abbrev pub invariant-loop-link : goal.invariant-loop-link
invariant-loop-link g l = record {
  made : (line : ℕ → LineId) → AreNamed line l.fn.ends.items → HasInsBelow line l.course l.numbers l.link l.ports.items;
  left : AreLeft l.fn.ends.items l.ends.items;
}
