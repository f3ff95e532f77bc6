-- What is left to do for a line, the first line for which it is, and what marking and taking it
-- leaves.
use Rattle.std.specs.Prelude.{ℕ, Bool, ◌&&◌, not, nat_le, ◌≤◌, List, Option, Some, None, find}
use Rattle.std.specs.List.{AllByRecursion}
use Rattle.tiger_base.specs.Kinds.{is_own}
use Rattle.slot_plan.specs.declared.params.Params.{Params}
use Rattle.slot_plan.specs.Keys.{due_of}
use Rattle.partial_view.specs.declared.line.Line.{Line}
use Rattle.partial_view.specs.declared.line.Flag.{Flag}
use Rattle.partial_view.specs.declared.line.Work.{Work}
use Rattle.partial_view.specs.declared.line.Work.TheVariants.{Forward, Ask, Split, Serve, Drop}
use Rattle.partial_view.specs.Lines.{key_of}
use Rattle.partial_view.specs.Pending.{is_pending, is_unasked, is_unsplit}
use Rattle.partial_view.specs.Views.{with_mark, without}

-- whether a line is an own record's, and a backup record's
abbrev pub is_whole : Line → Bool
is_whole x = is_own x.rec.kind

abbrev pub is_backup : Line → Bool
is_backup x = not (is_own x.rec.kind)

-- whether some work is left to do for a line, once it is late enough
abbrev pub is_left : Work → Line → Bool
is_left Forward = is_pending
is_left Ask = is_unasked
is_left Split = is_unsplit
is_left Serve = is_whole
is_left Drop = is_backup

-- whether a line passes a test and is due at one time or later, and at another or before it
abbrev pub is_between : Params → (Line → Bool) → ℕ → ℕ → Line → Bool
is_between p test from to x =
    test x && nat_le from (due_of p (key_of x)) && nat_le (due_of p (key_of x)) to

-- the first of those lines
unfoldable pub first_between : Params → (Line → Bool) → ℕ → ℕ → List Line → Option Line
first_between p test from to lines = find (is_between p test from to) lines

-- the lines with a flag set at the visit of one of them, and without that one, if there is one
abbrev pub with_mark_of : Flag → Option Line → List Line → List Line
with_mark_of flag None lines = lines
with_mark_of flag (Some x) lines = with_mark (key_of x) flag lines

abbrev pub without_of : Option Line → List Line → List Line
without_of None lines = lines
without_of (Some x) lines = without (key_of x) lines

-- no line is due at one time or later, and before another
abbrev pub NoneBetween : Params → ℕ → ℕ → List Line → Type 0
NoneBetween p from to lines =
    AllByRecursion (λ x. from ≤ due_of p (key_of x) → to ≤ due_of p (key_of x)) lines

-- no line is due before a time
abbrev pub NoneBefore : Params → ℕ → List Line → Type 0
NoneBefore p time lines = AllByRecursion (λ x. time ≤ due_of p (key_of x)) lines
