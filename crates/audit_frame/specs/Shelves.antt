-- Records that are kept in rows: which records stand in which row, and what a change of one row changes.
use Rattle.std.specs.Prelude.{◌≡◌, ℕ, ◌+◌, ◌%◌, ◌==◌, Bool, ◌&&◌, ◌||◌, not, List, [], ◌∷◌, ◌++◌, filter, get_or, slice_set}
use Rattle.tiger_base.specs.declared.tenancy.Rec.{Rec}
use Rattle.audit_frame.specs.Records.{has_held, is_same}
use Rattle.audit_frame.specs.declared.records.By.{By}
use Rattle.audit_frame.specs.declared.records.Held.{Held}

-- the place of the row of a number
abbrev pub row_for : ℕ → ℕ
row_for number = number % 4096

-- the elements of rows, of which the first one stands at a place, that belong into their row
abbrev pub in_rows : {X : Type 0} → (X → ℕ) → ℕ → List (List X) → List X
in_rows place n [] = []
in_rows place n (row ∷ rows) = filter (λ x. place x == n) row ++ in_rows place (n + 1) rows

-- the row of a record
abbrev pub place_held : Held → ℕ
place_held h = row_for h.under

-- all records of the rows
abbrev pub on_shelf : List (List Held) → List Held
on_shelf rows = in_rows place_held 0 rows

-- a cub got a record, and all else is as it was; a cub lost one; a cub lost all
abbrev pub IsWith : By → ℕ → Rec → List Held → List Held → Type 0
IsWith w n r old new = (c : ℕ) (q : Rec) → has_held w c q new ≡ (has_held w c q old || is_same n r c q)

abbrev pub IsWithout : By → ℕ → Rec → List Held → List Held → Type 0
IsWithout w n r old new = (c : ℕ) (q : Rec) → has_held w c q new ≡ (has_held w c q old && not (is_same n r c q))

abbrev pub HasCleared : ℕ → List Held → List Held → Type 0
HasCleared n old new = (w : By) (c : ℕ) (q : Rec) → has_held w c q new ≡ (has_held w c q old && not (n == c))

-- that happened to the row at a place alone
pub record HasAdded (w : By) (n : ℕ) (r : Rec) (place : ℕ) (old new : List (List Held)) : Type 0 where
  pub here : IsWith w n r (get_or old place []) (get_or new place [])
  pub beside : (k : ℕ) → (k ≡ place → ⊥) → get_or new k [] ≡ get_or old k []

pub record HasRemoved (w : By) (n : ℕ) (r : Rec) (place : ℕ) (old new : List (List Held)) : Type 0 where
  pub here : IsWithout w n r (get_or old place []) (get_or new place [])
  pub beside : (k : ℕ) → (k ≡ place → ⊥) → get_or new k [] ≡ get_or old k []
