use Rattle.std.proofs.Common.{◌≡◌, length}
use Rattle.std.specs.Prelude.{slice_get}
use Rattle.ring_engine.specs.Traffic.{flights_at}
use Rattle.ring_cells.proofs.Ending.{IsGoingOut}
use Rattle.ring_cells.proofs.sending.let_out.Given as goal

-- what went out and what is to go out stay together
abbrev pub invariant-loop-flight : goal.invariant-loop-flight
invariant-loop-flight g l = record {
  going : IsGoingOut l.fn.port l.fn.mail.channels l.port l.mail.channels;
  its_link : l.link ≡ l.fn.port.link;
  links : l.mail.links ≡ l.fn.mail.links;
}

abbrev pub decreases-loop-flight : goal.decreases-loop-flight
decreases-loop-flight g l = length (flights_at (slice_get l.mail.channels l.link.0))
