use Rattle.std.proofs.Common.{arith}
use Rattle.audit_blocks.proofs.shares.Shares.plus.Goals as goal

pub returns : goal.returns
returns c = λ f g a b. record {
  settled = omega (arith, a.settled, b.settled, c.in_ok-settled.ensures);
  read = omega (arith, a.read, b.read, c.in_ok-read.ensures);
  piece = omega (arith, a.piece, b.piece, c.in_ok-piece.ensures);
  dead = omega (arith, a.dead, b.dead, c.in_ok-dead.ensures);
  stopped = omega (arith, a.stopped, b.stopped, c.in_ok-stopped.ensures);
}
