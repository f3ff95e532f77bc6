-- The wheel of a view: its lines stand in buckets, which the block play times fill in turn.
use Rattle.std.specs.Prelude.{◌≡◌, ℕ, suc, ◌≤◌, ◌/◌, ◌%◌, ◌==◌, List, [], ◌∷◌, map, filter, length, Option, Some, None, slice_get, if◌then◌else◌}
use Rattle.std.specs.List.{AllByRecursion}
use Rattle.slot_plan.specs.declared.params.Params.{Params}
use Rattle.slot_plan.specs.Keys.{Key, due_of, is_earlier}
use Rattle.partial_view.specs.declared.line.Line.{Line}
use Rattle.partial_view.specs.declared.turn.Turn.{Turn}
use Rattle.partial_view.specs.declared.turn.Found.{Found}
use Rattle.partial_view.specs.Lines.{key_of}
use Rattle.partial_view.specs.Views.{Seen, IsWalk, with_line}

-- the bucket of what is due at a time: that of its block play time, counted round
abbrev pub bucket_at : Params → ℕ → ℕ
bucket_at p time = (time / p.play) % p.cubs

-- the bucket of a visit
unfoldable pub bucket_of : Params → Key → ℕ
bucket_of p k = bucket_at p (due_of p k)

-- the lines of a bucket
abbrev pub bucket_lines : Params → ℕ → List Line → List Line
bucket_lines p i lines = filter (λ x. bucket_of p (key_of x) == i) lines

-- what is due from the first to the last time of a turn is of its bucket
abbrev pub IsTurn : Params → Turn → Type 0
IsTurn p turn = (due : ℕ) → turn.first ≤ due → due ≤ turn.last → bucket_at p due ≡ turn.bucket

-- it is the turn of a time
abbrev pub IsTurnOf : Params → ℕ → Turn → Type 0
IsTurnOf p time turn = IsTurn p turn × (turn.first ≤ time) × (time ≤ turn.last)

-- some lines, put into others one by one
abbrev pub joined : Params → List Line → List Line → List Line
joined p [] ys = ys
joined p (x ∷ xs) ys = with_line p x (joined p xs ys)

-- the lines of all buckets, in their order
abbrev pub merged : Params → List (List Line) → List Line
merged p [] = []
merged p (b ∷ bs) = joined p b (merged p bs)

-- each bucket from a number on is in order, and each of its lines is of that number
abbrev pub AreBuckets : Params → ℕ → List (List Line) → Type 0
AreBuckets p i [] = Unit {0}
AreBuckets p i (b ∷ bs) =
    IsWalk p b × AllByRecursion (λ x. bucket_of p (key_of x) ≡ i) b × AreBuckets p (suc i) bs

-- the lines of each bucket, and those of all
abbrev pub lines_of : List Seen → List (List Line)
lines_of bs = map (λ (b : Seen). b.lines) bs

abbrev pub all_lines : Params → List Seen → List Line
all_lines p bs = merged p (lines_of bs)

-- there are no more buckets than cubs, all are of the plan, and each has lines of its own alone
pub record IsWheel (p : Params) (bs : List Seen) : Type 0 where
  pub count : length bs ≤ p.cubs
  pub plans : AllByRecursion (λ (b : Seen). b.params ≡ p) bs
  pub own : AreBuckets p 0 (lines_of bs)

-- the line that was found stands at its place, and its due time and turn are told right
pub record IsThere (p : Params) (bs : List Seen) (found : Found) : Type 0 where
  pub bucket : Seen
  pub at : slice_get bs found.place.turn.bucket ≡ Some bucket
  pub line : slice_get bucket.lines found.place.row ≡ Some found.line
  pub due : found.due ≡ due_of p (key_of found.line)
  pub turn : IsTurnOf p found.due found.place.turn

-- the one of two lines that comes first, if both are there
abbrev pub sooner : Params → Option Line → Option Line → Option Line
sooner p None b = b
sooner p (Some x) None = Some x
sooner p (Some x) (Some y) = if is_earlier p (key_of y) (key_of x) then Some y else Some x
