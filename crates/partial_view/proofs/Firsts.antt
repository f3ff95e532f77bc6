-- The first line that passes a test and is due between two times: which times serve, and what is known once it is found.
use Rattle.std.proofs.Common.{◌≡◌, ℕ, ◌<◌, ◌≤◌, nat_le, Bool, true, false, cond, List, [], ◌∷◌, find, Option, Some, None, refl, sym, ap, subst, ◌∙◌, arith}
use Rattle.std.specs.List.{AllByRecursion}
use Rattle.std.proofs.lemmas.Bool.{both_ways, leb-true, leb-false}
use Rattle.slot_plan.specs.declared.params.Params.{Params}
use Rattle.slot_plan.specs.Keys.{due_of, is_earlier}
use Rattle.slot_plan.proofs.Keys.{earlier_due}
use Rattle.partial_view.specs.declared.line.Line.{Line}
use Rattle.partial_view.specs.Lines.{key_of}
use Rattle.partial_view.specs.Views.{IsWalk}
use Rattle.partial_view.specs.Work.{is_between, first_between}
use Rattle.partial_view.proofs.Order.{all_implies}
use Rattle.partial_view.proofs.Turns.{found-passes, between-low, between-high, between-is, between-test}

-- tests that agree on each line find the same one
pub alike : (a b : Bool) → (a ≡ true → b ≡ true) → (b ≡ true → a ≡ true) → a ≡ b
alike true b f g = sym (f refl)
alike false true f g = g refl
alike false false f g = refl

pub find_alike : (test other : Line → Bool) (lines : List Line) → AllByRecursion (λ x. test x ≡ other x) lines → find test lines ≡ find other lines
find_alike test other [] h = refl
find_alike test other (x ∷ xs) h =
    ap (λ (t : Bool). cond t (Some x) (find test xs)) h.0 ∙ ap (λ (o : Option Line). cond (other x) (Some x) o) (find_alike test other xs h.1)

-- where a line is that is between two times
pub between_parts : (p : Params) (test : Line → Bool) (from to : ℕ) (x : Line) → is_between p test from to x ≡ true → (test x ≡ true) × (from ≤ due_of p (key_of x)) × (due_of p (key_of x) ≤ to)
between_parts p test from to x h = (between-test p test from to x h, between-low p test from to x h, between-high p test from to x h)

between_by : (p : Params) (test : Line → Bool) (from to : ℕ) (lines : List Line) (x : Line) → first_between p test from to lines ≡ Some x → (test x ≡ true) × (from ≤ due_of p (key_of x)) × (due_of p (key_of x) ≤ to)
unfolding first_between
between_by p test from to lines x e =
    between_parts p test from to x (found-passes (is_between p test from to) lines x e)

-- two pairs of times find the same line, if what passes the test is between the ones where it is between the others
pub first_same : (p : Params) (test : Line → Bool) (a b c d : ℕ) (lines : List Line)
    → AllByRecursion (λ x. test x ≡ true → (a ≤ due_of p (key_of x) → due_of p (key_of x) ≤ b → (c ≤ due_of p (key_of x)) × (due_of p (key_of x) ≤ d)) × (c ≤ due_of p (key_of x) → due_of p (key_of x) ≤ d → (a ≤ due_of p (key_of x)) × (due_of p (key_of x) ≤ b))) lines
    → first_between p test a b lines ≡ first_between p test c d lines
unfolding first_between
first_same p test a b c d lines h =
    find_alike (is_between p test a b) (is_between p test c d) lines
    (all_implies (λ x. test x ≡ true → (a ≤ due_of p (key_of x) → due_of p (key_of x) ≤ b → (c ≤ due_of p (key_of x)) × (due_of p (key_of x) ≤ d)) × (c ≤ due_of p (key_of x) → due_of p (key_of x) ≤ d → (a ≤ due_of p (key_of x)) × (due_of p (key_of x) ≤ b)))
    (λ x. is_between p test a b x ≡ is_between p test c d x)
    (λ x f. alike (is_between p test a b x) (is_between p test c d x)
    (λ one. let at = between_parts p test a b x one in let there = (f at.0).0 at.1 at.2 in between-is p test c d x at.0 there.0 there.1)
    (λ other. let at = between_parts p test c d x other in let there = (f at.0).1 at.1 at.2 in between-is p test a b x at.0 there.0 there.1)) lines h)

-- no line that passes is there, if all are due after the last time
pub first_none : (p : Params) (test : Line → Bool) (from to : ℕ) (lines : List Line) → AllByRecursion (λ x. to < due_of p (key_of x)) lines → None ≡ first_between p test from to lines
unfolding first_between
first_none p test from to [] h = refl
first_none p test from to (x ∷ xs) h = by_test (is_between p test from to x) refl (first_none p test from to xs h.1)
  where
    by_test : (t : Bool) → is_between p test from to x ≡ t → None ≡ first_between p test from to xs → None ≡ cond t (Some x) (first_between p test from to xs)
    by_test true is rest = let at = between_parts p test from to x is in absurd (omega (arith, at.2, h.0))
    by_test false is rest = rest

-- lines of which something is known are not due before the first one, if they pass the test and are due at the first time or later
pub first_least : (p : Params) (P : Line → Type 0) (test : Line → Bool) (from to : ℕ) (lines : List Line) (x : Line) → IsWalk p lines
    → AllByRecursion (λ y. P y → (test y ≡ true) × (from ≤ due_of p (key_of y))) lines
    → first_between p test from to lines ≡ Some x → AllByRecursion (λ y. P y → due_of p (key_of x) ≤ due_of p (key_of y)) lines
unfolding first_between
first_least p P test from to [] x w h e = tt
first_least p P test from to (z ∷ zs) x w h e = by_test (is_between p test from to z) refl e (first_least p P test from to zs x w.2 h.1)
  where
    late : is_between p test from to z ≡ false → due_of p (key_of x) ≤ to → (test z ≡ true) × (from ≤ due_of p (key_of z)) → due_of p (key_of x) ≤ due_of p (key_of z)
    late is high there = at_last (nat_le (due_of p (key_of z)) to) refl
      where
        at_last : (t : Bool) → nat_le (due_of p (key_of z)) to ≡ t → due_of p (key_of x) ≤ due_of p (key_of z)
        at_last true by = absurd (both_ways (is_between p test from to z) is (between-is p test from to z there.0 there.1 (leb-true _ _ by)))
        at_last false by = let lt = leb-false _ _ by in omega (arith, lt, high)

    by_test : (t : Bool) → is_between p test from to z ≡ t → cond t (Some z) (first_between p test from to zs) ≡ Some x
        → (first_between p test from to zs ≡ Some x → AllByRecursion (λ y. P y → due_of p (key_of x) ≤ due_of p (key_of y)) zs)
        → AllByRecursion (λ y. P y → due_of p (key_of x) ≤ due_of p (key_of y)) (z ∷ zs)
    by_test true is e rest =
        let same : z ≡ x = cc in
        subst (λ (u : Line). AllByRecursion (λ y. P y → due_of p (key_of u) ≤ due_of p (key_of y)) (z ∷ zs)) same
        (λ known. omega arith, all_implies (λ y. is_earlier p (key_of z) (key_of y) ≡ true) (λ y. P y → due_of p (key_of z) ≤ due_of p (key_of y)) (λ y f known. earlier_due p (key_of z) (key_of y) f) zs w.1)
    by_test false is e rest =
        let at = between_by p test from to zs x e in
        (λ known. late is at.2 (h.0 known), rest e)
