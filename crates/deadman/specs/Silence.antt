-- What a watch is seen as, and when there is silence.
use Rattle.std.specs.Prelude.{ℕ, ◌+◌, Bool, nat_lt}

-- the reading at which the neighbour was last heard, and how long it may be silent
pub record Silence : Type 0 where
  pub heard : ℕ
  pub timeout : ℕ

-- whether the neighbour has been silent for more than its timeout
abbrev pub is_silent : Silence → ℕ → Bool
is_silent s reading = nat_lt (s.heard + s.timeout) reading
