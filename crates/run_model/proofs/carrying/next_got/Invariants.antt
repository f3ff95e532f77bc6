use Rattle.std.proofs.Common.{◌≡◌}
use Rattle.run_model.specs.Ways.{got_from}
use Rattle.run_model.proofs.carrying.next_got.Given as goal

-- nothing was got so far
abbrev pub invariant-loop-i : goal.invariant-loop-i
invariant-loop-i l = got_from l.way l.fn.next l.receiver ≡ got_from l.way l.i l.receiver
