use Rattle.std.proofs.Common.{◌≡◌, ◌+◌, ◌-◌, ℕ, length, get_or}
use Rattle.partial_view.specs.Spread.{no_bucket}
use Rattle.partial_view.proofs.spread.Spread.make_place.Given as goal

abbrev pub invariant-loop-instance : goal.invariant-loop-instance
invariant-loop-instance l = (n : ℕ) → get_or l.self.spans.items n no_bucket ≡ get_or l.fn.self.spans.items n no_bucket

abbrev pub decreases-loop-instance : goal.decreases-loop-instance
decreases-loop-instance l = l.instance.0 + 1 - length l.self.spans.items
