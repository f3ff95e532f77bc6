-- Rows of things, by visit and piece.
use Rattle.std.specs.Prelude.{◌≡◌, ◌≢◌, ℕ, ◌<◌, ◌≤◌, ◌&&◌, ◌==◌, Bool, List, length, slice_index_or, Option, Some, None}
use Rattle.std.specs.declared.cmp.Ordering.{Ordering}
use Rattle.std.specs.declared.cmp.Ordering.TheVariants.{Less, Greater}
use Rattle.std.specs.Ordering.{is_eq, nat_cmp, ordering_then}
use Rattle.std.specs.List.{AllByRecursion}
use Rattle.std.specs.List.Sorted.{IsStrictlySortedBy}
use Rattle.std.specs.Map.{lookup, keys_of}
use Rattle.std.specs.BTreeMap.{insert_entry}

-- a visit, and a piece of its block, which is 0 for the whole block
abbrev pub Position : Type 0
Position = ℕ × ℕ

-- positions are ordered by visit, then piece
abbrev pub position_order : Position → Position → Ordering
position_order a b = ordering_then (nat_cmp a.0 b.0) (nat_cmp a.1 b.1)

-- two positions are one
abbrev pub is_position : Position → Position → Bool
is_position a b = a.0 == b.0 && a.1 == b.1

-- a row: things, each at its position
abbrev pub RowOf : Type 0 → Type 0
RowOf T = List (Position × T)

-- its positions rise
abbrev pub IsRow : {T : Type 0} → RowOf T → Type 0
IsRow row = IsStrictlySortedBy position_order (keys_of row)

-- a position comes at another one or before it
abbrev pub IsUpTo : Position → Position → Type 0
IsUpTo top p = position_order top p ≢ Less

-- no thing stands behind a position
abbrev pub NoneBehind : {T : Type 0} → Position → RowOf T → Type 0
NoneBehind top row = AllByRecursion (IsUpTo top) (keys_of row)

-- the thing at a position, if there is one
abbrev pub thing_at : {T : Type 0} → Position → RowOf T → Option T
thing_at p row = lookup (λ q. is_eq (position_order p q)) row

abbrev pub unless_there : {T : Type 0} → Position → T → RowOf T → Option T → RowOf T
unless_there p x row None = insert_entry position_order row p x
unless_there p x row (Some other) = row

-- a row with a further thing: the first one at a position stays
abbrev pub row_with : {T : Type 0} → Position → T → RowOf T → RowOf T
row_with p x row = unless_there p x row (thing_at p row)

-- a position stands at a place of the row
pub record IsFoundAt {T : Type 0} (p : Position) (row : RowOf T) (place : ℕ) : Type 0 where
  pub inside : place < length row
  pub here : (d : Position × T) → (slice_index_or row place d).0 ≡ p

-- it would go to this place: lower positions stand before it, and higher ones from it on
pub record IsGapFor {T : Type 0} (p : Position) (row : RowOf T) (place : ℕ) : Type 0 where
  pub inside : place ≤ length row
  pub before : (j : ℕ) (d : Position × T) → j < place
      → position_order p (slice_index_or row j d).0 ≡ Greater
  pub after : (j : ℕ) (d : Position × T) → place ≤ j → j < length row
      → position_order p (slice_index_or row j d).0 ≡ Less
