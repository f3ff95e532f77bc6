-- Pieces beside the times at which they leave: those that stand, in rows by their instances, and all that came, in order.
use Rattle.std.specs.Prelude.{ℕ, ◌%◌, Bool, List}
use Rattle.tiger_base.specs.declared.tenancy.PieceState.{PieceState}
use Rattle.mirror_schedule.specs.Rows.{AreRows, is_first_gone, row_numbered, stands, those_standing}
use Rattle.mirror_schedule.specs.Sorted.{IsSorted}
use Rattle.mirror_schedule.specs.TimedPieces.{timed_before}

-- the number of the row of an instance
unfoldable pub row_of_instance : ℕ → ℕ
row_of_instance n = n % 1024

-- of a piece
abbrev pub row_of_piece : PieceState × ℕ → ℕ
row_of_piece x = row_of_instance x.0.tenancy.instance.0

-- the row of a number
abbrev pub piece_row : List (List (PieceState × ℕ)) → ℕ → List (PieceState × ℕ)
piece_row rows n = row_numbered timed_before rows n

-- whether a piece stands, and those that do
abbrev pub piece_stands : List (List (PieceState × ℕ)) → PieceState × ℕ → Bool
piece_stands rows x = stands timed_before row_of_piece rows x

abbrev pub pieces_standing : List (List (PieceState × ℕ)) → List (PieceState × ℕ) → List (PieceState × ℕ)
pieces_standing rows agenda = those_standing timed_before row_of_piece rows agenda

-- whether the first of all that came stands no longer
abbrev pub is_front_gone : List (List (PieceState × ℕ)) → List (PieceState × ℕ) → Bool
is_front_gone rows agenda = is_first_gone timed_before row_of_piece rows agenda

-- all that came stand in order, and each row has those of its number that still stand
pub record IsListing (rows : List (List (PieceState × ℕ))) (agenda : List (PieceState × ℕ)) : Type 0 where
  pub order : IsSorted timed_before agenda
  pub stand : AreRows timed_before row_of_piece rows agenda
