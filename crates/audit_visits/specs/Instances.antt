-- What a table has under a slot and a visit.
use Rattle.std.specs.Prelude.{ℕ, List, Option}
use Rattle.std.specs.Map.{lookup}
use Rattle.std.specs.Ordering.{is_eq, nat_cmp, ordering_then}
use Rattle.tiger_base.specs.declared.number.Instance.{Instance}

abbrev pub InstanceRows : Type 0
InstanceRows = List ((ℕ × ℕ) × Instance)

-- the instance of a slot and a visit
abbrev pub instance_under : ℕ → ℕ → InstanceRows → Option Instance
instance_under slot visit rows = lookup (λ k. is_eq (ordering_then (nat_cmp slot k.0) (nat_cmp visit k.1))) rows
