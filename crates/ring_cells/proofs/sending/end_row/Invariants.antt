use Rattle.std.proofs.Common.{◌≡◌, length}
use Rattle.ring_cells.specs.Shares.{HaveEndedTo}
use Rattle.ring_cells.proofs.sending.end_row.Given as goal

-- at the ports below one the turn has ended
abbrev pub invariant-loop-n : goal.invariant-loop-n
invariant-loop-n g l = record {
  ended : HaveEndedTo l.beat l.n l.fn.row.items l.fn.mail.channels l.row.items l.mail.channels;
  links : l.mail.links ≡ l.fn.mail.links;
  end : l.n-end ≡ length l.fn.row.items;
}
