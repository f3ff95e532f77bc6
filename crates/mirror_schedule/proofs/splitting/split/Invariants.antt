use Rattle.std.proofs.Common.{◌≡◌, map}
use Rattle.std.specs.List.{range_with_len}
use Rattle.mirror_schedule.proofs.splitting.split.Given as goal

abbrev pub invariant-loop-k : goal.invariant-loop-k
invariant-loop-k l = l.pieces.items ≡ map (λ k. record { tenancy = l.rec.tenancy; visit = l.rec.visit; piece = k }) (range_with_len 1 l.k)
