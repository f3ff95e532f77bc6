-- Between which times no line is left to do that passes a test, by what a search found.
use Rattle.std.proofs.Common.{◌≡◌, ℕ, ◌+◌, ◌-◌, ◌<◌, ◌≤◌, Bool, true, false, cond, nat_le, max, List, [], ◌∷◌, Some, None, refl, sym, ap, subst, ◌∙◌, arith}
use Rattle.std.specs.List.{AllByRecursion}
use Rattle.std.proofs.lemmas.Bool.{both_ways, leb-true, leb-false}
use Rattle.slot_plan.specs.declared.params.Params.{Params}
use Rattle.slot_plan.specs.Keys.{due_of}
use Rattle.slot_plan.proofs.Times.{due_next}
use Rattle.partial_view.specs.declared.line.Line.{Line}
use Rattle.partial_view.specs.Lines.{key_of}
use Rattle.partial_view.specs.Passing.{NonePasses}
use Rattle.partial_view.specs.Pending.{is_pending, IsForwardedTo, is_unasked, IsAskedBefore}
use Rattle.partial_view.specs.Views.{Seen, IsWalk}
use Rattle.partial_view.specs.Work.{is_between, first_between}
use Rattle.partial_view.proofs.Calls.{record_of}
use Rattle.partial_view.proofs.Firsts.{first_least, between_parts}
use Rattle.partial_view.proofs.Turns.{between-is, none-passes}

-- a line that was found is the first that passes
pub left-found : (p : Params) (test : Line → Bool) (from to due : ℕ) (lines : List Line) (x : Line) → IsWalk p lines → due ≡ due_of p (key_of x) → Some x ≡ first_between p test from to lines → NonePasses p test from due lines
left-found p test from to due lines x w is e =
    subst (λ (n : ℕ). NonePasses p test from n lines) (sym is)
    (apart lines (first_least p (λ y. (test y ≡ true) × (from ≤ due_of p (key_of y))) test from to lines x w (each lines) (sym e)))
  where
    each : (ys : List Line) → AllByRecursion (λ y. (test y ≡ true) × (from ≤ due_of p (key_of y)) → (test y ≡ true) × (from ≤ due_of p (key_of y))) ys
    each [] = tt
    each (y ∷ ys) = (λ h. h, each ys)

    apart : (ys : List Line) → AllByRecursion (λ y. (test y ≡ true) × (from ≤ due_of p (key_of y)) → due_of p (key_of x) ≤ due_of p (key_of y)) ys → NonePasses p test from (due_of p (key_of x)) ys
    apart [] h = tt
    apart (y ∷ ys) h = (λ passes low. h.0 (passes, low), apart ys h.1)

-- and where none was found, those that pass are due after the last time
pub left-none : (p : Params) (test : Line → Bool) (from to next : ℕ) (lines : List Line) → None ≡ first_between p test from to lines → next ≤ to + 1 → NonePasses p test from next lines
unfolding first_between
left-none p test from to next lines e le = each lines (none-passes (is_between p test from to) lines (sym e))
  where
    late : (y : Line) → is_between p test from to y ≡ false → test y ≡ true → from ≤ due_of p (key_of y) → next ≤ due_of p (key_of y)
    late y out passes low = at_last (nat_le (due_of p (key_of y)) to) refl
      where
        at_last : (t : Bool) → nat_le (due_of p (key_of y)) to ≡ t → next ≤ due_of p (key_of y)
        at_last true by = absurd (both_ways (is_between p test from to y) out (between-is p test from to y passes low (leb-true _ _ by)))
        at_last false by = let lt = leb-false _ _ by in omega (arith, lt, le)

    each : (ys : List Line) → AllByRecursion (λ y. is_between p test from to y ≡ false) ys → NonePasses p test from next ys
    each [] h = tt
    each (y ∷ ys) h = (λ passes low. late y h.0 passes low, each ys h.1)

pub passes-seen : (p : Params) (test : Line → Bool) (from next : ℕ) (lines : List Line) {s : Seen} → record_of p lines ≡ s → NonePasses p test from next lines → NonePasses s.params test from next s.lines
passes-seen p test from next lines view h = subst (λ (r : Seen). NonePasses r.params test from next r.lines) view h

-- what is asked before the one time is asked before the other
pub asked_left : (p : Params) (time next : ℕ) (lines : List Line) → NonePasses p is_unasked time next lines → IsAskedBefore p time lines → IsAskedBefore p next lines
asked_left p time next [] h g = tt
asked_left p time next (x ∷ xs) h g = (λ unasked. h.0 unasked (g.0 unasked), asked_left p time next xs h.1 g.1)

-- and what is forwarded to the one is forwarded to the other, a block play time later
pub forwarded_left : (p : Params) (old from next new : ℕ) (lines : List Line) → 1 ≤ p.play → from ≤ old + 1 - p.play → new ≤ max old (next + (p.play - 1)) → NonePasses p is_pending from next lines → IsForwardedTo p old lines → IsForwardedTo p new lines
forwarded_left p old from next new [] play low is h g = tt
forwarded_left p old from next new (x ∷ xs) play low is h g = (
  λ pending.
      let far = g.0 pending in
      let later = due_next p x.rec.tenancy.slot.0 x.rec.visit in
      let due = h.0 pending (omega (arith, low, far, later)) in
      omega (arith, is, play, far, due, later),
  forwarded_left p old from next new xs play low is h.1 g.1,
)

-- nothing passes by a time, if what passes is due later
pub passes_none : (p : Params) (test : Line → Bool) (before time : ℕ) (lines : List Line) → time < before → AllByRecursion (λ x. test x ≡ true → before ≤ due_of p (key_of x)) lines → None ≡ first_between p test 0 time lines
unfolding first_between
passes_none p test before time [] early h = refl
passes_none p test before time (x ∷ xs) early h = by_test (is_between p test 0 time x) refl (passes_none p test before time xs early h.1)
  where
    by_test : (t : Bool) → is_between p test 0 time x ≡ t → None ≡ first_between p test 0 time xs → None ≡ cond t (Some x) (first_between p test 0 time xs)
    by_test true is rest = let at = between_parts p test 0 time x is in absurd (omega (arith, at.2, h.0 at.0, early))
    by_test false is rest = rest

pub pending_later : (p : Params) (old time : ℕ) (lines : List Line) → time + p.play ≤ old → IsForwardedTo p old lines → AllByRecursion (λ x. is_pending x ≡ true → time + 1 ≤ due_of p (key_of x)) lines
pending_later p old time [] le h = tt
pending_later p old time (x ∷ xs) le h = (λ pending. omega (arith, le, h.0 pending, due_next p x.rec.tenancy.slot.0 x.rec.visit), pending_later p old time xs le h.1)

-- the first line that is seen is the first of what is inside
pub first_inside : (q : Params) (s now : Seen) (test : Line → Bool) (time : ℕ) → s.params ≡ q → s ≡ now → first_between q test 0 time s.lines ≡ first_between now.params test 0 time now.lines
first_inside q s now test time same is = ap (λ (r : Params). first_between r test 0 time s.lines) (sym same) ∙ ap (λ (r : Seen). first_between r.params test 0 time r.lines) is
