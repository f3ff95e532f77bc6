-- Which lines begin the text of some writable value, and how many of a text's lines do.
use Rattle.std.specs.Prelude.{◌≡◌, ℕ, ◌+◌, ◌<◌, ◌≤◌, ◌==◌, List, ◌++◌, length, take, map}
use Rattle.std.specs.List.{AllByRecursion, count_by, slice_split}
use Rattle.node_kit.specs.declared.course.Kept.{Kept}
use Rattle.audit_text.specs.Lines.{line_of}
use Rattle.audit_text.specs.Texts.{parts_of, items_in, text_of}
use Rattle.audit_read.specs.Writable.{IsWritable}
use Rattle.audit_read.specs.declared.read.TextStop.{TextStop}
use Rattle.audit_read.specs.declared.read.TextStop.TheVariants as stop

abbrev pub HasNoFeed : List ℕ → Type 0
HasNoFeed bytes = AllByRecursion (λ b. b ≡ 10 → ⊥) bytes

-- the lines of a text that end with a line feed: what stands behind the last line feed is none
unfoldable pub whole_lines : List ℕ → List (List ℕ)
whole_lines bytes = take (count_by (λ b. b == 10) bytes) (slice_split (λ b. b == 10) bytes)

-- the lines of a value's text
abbrev pub lines_of : Kept → List (List ℕ)
lines_of k = map line_of (items_in (parts_of k))

-- these lines begin the text of some writable value
abbrev pub Begins : List (List ℕ) → Type 0
Begins front =
    (k : Kept) × (more : List (List ℕ)) × IsWritable k × (lines_of k ≡ front ++ more)

-- of these lines, so many at the front begin the text of some writable value, and not one more
pub record IsLongest (lines : List (List ℕ)) (good : ℕ) : Type 0 where
  pub within : good ≤ length lines
  pub begins : Begins (take good lines)
  pub no_more : good < length lines → ¬ Begins (take (good + 1) lines)

-- the line to be named of a text that is no writable value's
abbrev pub IsFaultLine : List ℕ → ℕ → Type 0
IsFaultLine bytes line = (good : ℕ) × (line ≡ good + 1) × IsLongest (whole_lines bytes) good

-- bytes are the text of no writable value, and this is the line to be named
pub record IsFaultyAt (bytes : List ℕ) (line : ℕ) : Type 0 where
  pub none : (k : Kept) → IsWritable k → ¬ (bytes ≡ text_of k)
  pub named : IsFaultLine bytes line

abbrev pub HasCause : List ℕ → TextStop → Type 0
HasCause bytes (stop.Fault line) = IsFaultyAt bytes line
HasCause bytes stop.NoMemory = Unit {0}
