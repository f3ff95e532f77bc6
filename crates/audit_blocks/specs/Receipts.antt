-- What came, by block and piece.
use Rattle.std.specs.Prelude.{ℕ, List, Option, Some, None}
use Rattle.std.specs.Map.{lookup}
use Rattle.std.specs.Ordering.{is_eq, nat_cmp, ordering_then}
use Rattle.audit_blocks.specs.declared.receipts.Receipt.{Receipt}
use Rattle.audit_blocks.specs.declared.receipts.Came.{Came}
use Rattle.audit_blocks.specs.declared.receipts.Came.TheVariants.{Once, Again}

abbrev pub KeptArrivals : Type 0
KeptArrivals = List (((ℕ × ℕ) × ℕ) × Came)

-- what came of a piece of the block of a visit of an instance
abbrev pub came_under : ℕ → ℕ → ℕ → KeptArrivals → Option Came
came_under v visit piece came =
    lookup (λ k. is_eq (ordering_then (ordering_then (nat_cmp v k.0.0) (nat_cmp visit k.0.1)) (nat_cmp piece k.1))) came

-- and what has come of it when one message more has
abbrev pub again : Option Came → Receipt → Came
again None receipt = Once receipt
again (Some before) receipt = Again
