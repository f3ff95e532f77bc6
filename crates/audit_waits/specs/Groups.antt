-- What a set of numbers in groups has.
use Rattle.std.specs.Prelude.{ℕ, Bool, ◌==◌, List}
use Rattle.std.specs.List.{list_any}

-- whether a group has a number
abbrev pub has_group : ℕ → List (ℕ × ℕ) → Bool
has_group group pairs = list_any (λ k. k.0 == group) pairs
