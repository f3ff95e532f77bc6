-- The lists that a table keeps under numbers.
use Rattle.std.specs.Prelude.{ℕ, List, [], Option, Some, None}
use Rattle.std.specs.Map.{lookup}
use Rattle.std.specs.Ordering.{is_eq, nat_cmp}

abbrev pub GroupsOf : Type 0 → Type 0
GroupsOf T = List (ℕ × List T)

-- the things of a list, if there is one
abbrev pub things_of : {T : Type 0} → Option (List T) → List T
things_of None = []
things_of (Some group) = group

-- the list of a number
abbrev pub group_under : {T : Type 0} → ℕ → GroupsOf T → List T
group_under n groups = things_of (lookup (λ k. is_eq (nat_cmp n k)) groups)
