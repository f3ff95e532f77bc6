-- What a view is seen as, and what its calls answer and change.
use Rattle.std.specs.Prelude.{◌≡◌, ℕ, zero, suc, List, [], ◌∷◌, ◌++◌, length, true, not, nat_le, nat_lt, Option, Some, None, find, filter, map, is_some, if◌then◌else◌}
use Rattle.std.specs.List.{AllByRecursion}
use Rattle.tiger_base.specs.declared.number.Instance.{Instance}
use Rattle.tiger_base.specs.declared.tenancy.Rec.{Rec}
use Rattle.slot_plan.specs.declared.params.Params.{Params}
use Rattle.slot_plan.specs.Keys.{Key, IsKey, due_of, is_earlier, is_behind}
use Rattle.partial_view.specs.declared.line.Line.{Line}
use Rattle.partial_view.specs.declared.line.Flag.{Flag}
use Rattle.partial_view.specs.Lines.{key_of, visit_of, marked, unmarked, is_at, is_of}

-- what is seen of a view: the plan's numbers, and the lines in the order of their due times, slots
-- and visits
pub record Seen : Type 0 where
  pub params : Params
  pub lines : List Line

-- the visit comes before those of all lines
abbrev pub IsBefore : Params → Key → List Line → Type 0
IsBefore p k lines = AllByRecursion (λ y. is_earlier p k (key_of y) ≡ true) lines

-- each line's visit is one of the plan's, and comes before those of the lines behind it
abbrev pub IsWalk : Params → List Line → Type 0
IsWalk p [] = Unit {0}
IsWalk p (x ∷ xs) = IsKey p (key_of x) × IsBefore p (key_of x) xs × IsWalk p xs

-- the line of a visit
unfoldable pub line_at : Key → List Line → Option Line
line_at k lines = find (is_at k) lines

-- the first line of an instance
unfoldable pub first_of : Instance → List Line → Option Line
first_of v lines = find (is_of v) lines

-- the first line behind a visit, or of all if none is given
unfoldable pub next_behind : Params → Option Key → List Line → Option Line
next_behind p given lines = find (λ x. is_behind p given (key_of x)) lines

-- the first line that is due at a reading
unfoldable pub line_due : Params → ℕ → List Line → Option Line
line_due p reading lines = find (λ x. nat_le (due_of p (key_of x)) reading) lines

-- a line, if it is due at a time or before it
abbrev pub due_by : Params → ℕ → Option Line → Option Line
due_by p time None = None
due_by p time (Some x) = if nat_le (due_of p (key_of x)) time then Some x else None

-- how many lines are due before a time
unfoldable pub place_from : Params → ℕ → List Line → ℕ
place_from p time [] = zero
place_from p time (x ∷ xs) =
    if nat_lt (due_of p (key_of x)) time then suc (place_from p time xs) else zero

-- the lines, with a flag set at a visit
unfoldable pub with_mark : Key → Flag → List Line → List Line
with_mark k flag lines = map (λ x. if is_at k x then marked flag x else x) lines

-- the lines without that of a visit, and without those of an instance
unfoldable pub without : Key → List Line → List Line
without k lines = filter (λ x. not (is_at k x)) lines

unfoldable pub without_instance : Instance → List Line → List Line
without_instance v lines = filter (λ x. not (is_of v x)) lines

-- the lines, with one more in its place in the order
unfoldable pub with_line : Params → Line → List Line → List Line
with_line p x [] = x ∷ []
with_line p x (y ∷ ys) =
    if is_earlier p (key_of x) (key_of y) then x ∷ y ∷ ys else y ∷ with_line p x ys

-- the lines with a record's line, which is a new one if its visit has none
unfoldable pub with_record : Params → Rec → List Line → List Line
with_record p r lines =
    if is_some (line_at (visit_of r) lines) then lines else with_line p (unmarked r) lines

-- how many lines come before a visit
unfoldable pub place_of : Params → Key → List Line → ℕ
place_of p k [] = zero
place_of p k (x ∷ xs) = if is_earlier p (key_of x) k then suc (place_of p k xs) else zero

-- the line of a visit stands at a place
pub record IsFoundAt (k : Key) (lines : List Line) (place : ℕ) : Type 0 where
  pub front : List Line
  pub line : Line
  pub back : List Line
  pub parts : lines ≡ front ++ line ∷ back
  pub long : length front ≡ place
  pub key : key_of line ≡ k

-- no line is of a visit, and at a place the lines that come before it end
pub record IsGapAt (p : Params) (k : Key) (lines : List Line) (place : ℕ) : Type 0 where
  pub front : List Line
  pub back : List Line
  pub parts : lines ≡ front ++ back
  pub long : length front ≡ place
  pub earlier : AllByRecursion (λ y. is_earlier p (key_of y) k ≡ true) front
  pub later : IsBefore p k back
