use Rattle.std.proofs.Common.{◌≡◌, length}
use Rattle.ring_cells.specs.Shares.{HasPoured, AreClosedBelow}
use Rattle.ring_cells.proofs.receiving.await_all.Given as goal

-- the ports below one were waited for
abbrev pub invariant-loop-n : goal.invariant-loop-n
invariant-loop-n g l = record {
  poured : HasPoured l.fn.mail.channels l.fn.ins.items l.mail.channels l.ins.items;
  closed : AreClosedBelow l.beat l.n l.ins.items;
  links : l.mail.links ≡ l.fn.mail.links;
  end : l.n-end ≡ length l.fn.ins.items;
}
