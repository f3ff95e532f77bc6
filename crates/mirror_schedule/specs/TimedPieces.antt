-- Pieces beside the times at which they leave.
use Rattle.std.specs.Prelude.{◌≡◌, ℕ, Bool, true, List, ◌∷◌, Option, Some, None}
use Rattle.std.specs.List.{AllByRecursion}
use Rattle.tiger_base.specs.declared.tenancy.PieceState.{PieceState}
use Rattle.slot_plan.specs.declared.params.Params.{Params}
use Rattle.mirror_schedule.specs.Sorted.{is_less, IsSorted}
use Rattle.mirror_schedule.specs.Pieces.{IsPieceOf, leaving_of, numbers_of}

-- a piece beside its time
abbrev pub timed : Params → PieceState → PieceState × ℕ
timed p x = (x, leaving_of p x)

-- what orders such pieces: the time, and then the numbers
abbrev pub timed_rank : PieceState × ℕ → List ℕ
timed_rank x = x.1 ∷ numbers_of x.0

unfoldable pub timed_before : PieceState × ℕ → PieceState × ℕ → Bool
timed_before a b = is_less (timed_rank a) (timed_rank b)

-- whether one comes behind the given one, if one is given
abbrev pub timed_behind : Option (PieceState × ℕ) → PieceState × ℕ → Bool
timed_behind None x = true
timed_behind (Some given) x = timed_before given x

-- a piece of the plan, beside the time at which it leaves
abbrev pub IsTimed : Params → PieceState × ℕ → Type 0
IsTimed p x = IsPieceOf p x.0 × (x.1 ≡ leaving_of p x.0)

-- such pieces in their order, each once
pub record AreTimed (p : Params) (items : List (PieceState × ℕ)) : Type 0 where
  pub order : IsSorted timed_before items
  pub each : AllByRecursion (IsTimed p) items
