use Rattle.std.proofs.Common.{◌≡◌, vec_len}
use Rattle.ring_links.proofs.opening.new_ways.Given as goal

abbrev pub invariant-loop-link : goal.invariant-loop-link
invariant-loop-link g l = vec_len l.ways ≡ l._link
