-- The pieces of a visit, their order, and what a set of them is seen as.
use Rattle.std.specs.Prelude.{ℕ, ◌≤◌, ◌<◌, ◌^◌, ◌&&◌, ◌==◌, nat_le, Bool, true, List, [], ◌∷◌, map, Option, Some, None}
use Rattle.std.specs.List.{AllByRecursion, range_with_len, list_any}
use Rattle.tiger_base.specs.declared.number.Instance.{Instance}
use Rattle.tiger_base.specs.declared.tenancy.Rec.{Rec}
use Rattle.tiger_base.specs.declared.tenancy.PieceState.{PieceState}
use Rattle.slot_plan.specs.declared.params.Params.{Params}
use Rattle.slot_plan.specs.Times.{due}
use Rattle.mirror_pieces.specs.Pieces.{leaving}
use Rattle.mirror_schedule.specs.Sorted.{is_less, are_same, IsSorted, with_one}

-- the pieces of a record's visit, from piece 1 on
unfoldable pub pieces_of : Params → Rec → List PieceState
pieces_of p r =
    map (λ k. record { tenancy = r.tenancy; visit = r.visit; piece = k })
    (range_with_len 1 p.pieces)

-- the piece's slot is one of the plan's, its visit is in reach of the calls, and a block has a
-- piece of its number
pub record IsPieceOf (p : Params) (x : PieceState) : Type 0 where
  pub slot : x.tenancy.slot.0 < p.slots
  pub visit : x.visit ≤ 2 ^ 32
  pub first : 1 ≤ x.piece
  pub last : x.piece ≤ p.pieces

-- when a piece leaves
unfoldable pub leaving_of : Params → PieceState → ℕ
leaving_of p x = leaving (due p x.tenancy.slot.0 x.visit) x.piece p.play p.pieces

-- whether it leaves by a time
abbrev pub leaves_by : Params → ℕ → PieceState → Bool
leaves_by p time x = nat_le (leaving_of p x) time

-- the numbers of a piece: slot, visit and piece, and then the rest of its tenancy
abbrev pub numbers_of : PieceState → List ℕ
numbers_of x =
    x.tenancy.slot.0 ∷ x.visit ∷ x.piece
    ∷ x.tenancy.instance.0 ∷ x.tenancy.file.0 ∷ x.tenancy.first ∷ x.tenancy.last ∷ []

-- what orders the pieces: the time of leaving, and then these numbers
abbrev pub rank_of : Params → PieceState → List ℕ
rank_of p x = leaving_of p x ∷ numbers_of x

-- eight numbers as a list
abbrev pub listed : ℕ × ℕ × ℕ × ℕ × ℕ × ℕ × ℕ × ℕ → List ℕ
listed n = n.0 ∷ n.1 ∷ n.2 ∷ n.3 ∷ n.4 ∷ n.5 ∷ n.6 ∷ n.7 ∷ []

-- whether a piece comes before another: it leaves earlier, or at the same time with the lesser
-- numbers
unfoldable pub comes_before : Params → PieceState → PieceState → Bool
comes_before p a b = is_less (rank_of p a) (rank_of p b)

-- whether two pieces are one
unfoldable pub is_same : PieceState → PieceState → Bool
is_same a b = are_same (numbers_of a) (numbers_of b)

-- whether a piece is among some
unfoldable pub is_in : PieceState → List PieceState → Bool
is_in x items = list_any (is_same x) items

-- whether a piece comes behind the given one, if one is given
abbrev pub is_behind : Params → Option PieceState → PieceState → Bool
is_behind p None x = true
is_behind p (Some given) x = comes_before p given x

-- whether a piece is of an instance, and of a visit of it
abbrev pub is_of : Instance → PieceState → Bool
is_of instance x = x.tenancy.instance.0 == instance.0

abbrev pub is_of_visit : Instance → ℕ → PieceState → Bool
is_of_visit instance visit x = is_of instance x && (x.visit == visit)

-- some pieces with one more at its place in the order; one that is there stays as it is
unfoldable pub with_piece : Params → PieceState → List PieceState → List PieceState
with_piece p x items = with_one (comes_before p) x items

-- pieces of a plan, in their order, each once
pub record IsPieces (p : Params) (items : List PieceState) : Type 0 where
  pub order : IsSorted (comes_before p) items
  pub each : AllByRecursion (IsPieceOf p) items

-- what a set of pieces is seen as: the plan's numbers, and the pieces in their order
pub record Pieces : Type 0 where
  pub params : Params
  pub items : List PieceState
