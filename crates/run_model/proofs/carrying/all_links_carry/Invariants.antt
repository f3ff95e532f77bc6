use Rattle.std.proofs.Common.{ℕ, ◌<◌}
use Rattle.run_model.specs.Ways.{LinkCarries}
use Rattle.run_model.proofs.carrying.all_links_carry.Given as goal

-- the links so far carry
abbrev pub invariant-loop-l : goal.invariant-loop-l
invariant-loop-l l = (m : ℕ) → m < l.l → LinkCarries l.k m
