-- What a set of pieces has.
use Rattle.std.specs.Prelude.{ℕ, Bool, List}
use Rattle.std.specs.List.{list_any}
use Rattle.std.specs.Ordering.{is_eq, nat_cmp, ordering_then}

abbrev pub PartNumbers : Type 0
PartNumbers = List ((ℕ × ℕ) × ℕ)

-- whether it has a piece of the block of a visit of an instance
abbrev pub has_part : ℕ → ℕ → ℕ → PartNumbers → Bool
has_part v visit piece parts =
    list_any (λ k. is_eq (ordering_then (ordering_then (nat_cmp v k.0.0) (nat_cmp visit k.0.1)) (nat_cmp piece k.1))) parts
