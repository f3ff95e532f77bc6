use Rattle.std.proofs.Common.{ℕ}
use Rattle.ring_links.specs.Ends.{LineId}
use Rattle.ring_cells.proofs.Making.{HasOutsBelow}
use Rattle.ring_workers.specs.Ends.{AreLeft, AreNamed, AreUnsent}
use Rattle.ring_workers.proofs.rows.exits.Given as goal

abbrev pub invariant-loop-link : goal.invariant-loop-link
invariant-loop-link g l = record {
  made : (line : ℕ → LineId) → AreNamed line l.fn.ends.items → HasOutsBelow line l.course l.numbers l.link l.rows.items;
  left : AreLeft l.fn.ends.items l.ends.items;
  unsent : AreUnsent l.ends.items;
}
