-- The next line behind a visit stands in the bucket of the visit, if it is due in the same turn.
use Rattle.std.proofs.Common.{◌≡◌, ◌==◌, ℕ, ◌<◌, ◌≤◌, Bool, true, false, cond, List, [], ◌∷◌, length, get_or, find, Some, refl, sym, ap, subst, ◌∙◌, arith, eq-eqb}
use Rattle.std.specs.List.{slice_get}
use Rattle.std.proofs.lemmas.Bool.{both_ways}
use Rattle.slot_plan.specs.declared.params.Params.{Params}
use Rattle.slot_plan.specs.Keys.{Key, due_of, is_earlier, is_behind}
use Rattle.slot_plan.proofs.Keys.{earlier_due}
use Rattle.partial_view.specs.declared.line.Line.{Line}
use Rattle.partial_view.specs.declared.turn.Turn.{Turn}
use Rattle.partial_view.specs.Lines.{key_of}
use Rattle.partial_view.specs.Views.{Seen, IsBefore, IsWalk, next_behind}
use Rattle.partial_view.specs.Wheel.{bucket_of, bucket_lines, all_lines, IsTurnOf, IsWheel}
use Rattle.partial_view.proofs.Order.{all_filter}
use Rattle.partial_view.proofs.Rounds.{bucket-found, walk-of}
use Rattle.partial_view.proofs.Turns.{found-holds}

find-step : (test : Line → Bool) (y : Line) (ys : List Line) (a : Bool) → test y ≡ a → find test (y ∷ ys) ≡ cond a (Some y) (find test ys)
find-step test y ys a e = ap (λ (t : Bool). cond t (Some y) (find test ys)) e

module _ (p : Params) (turn : Turn) (k : Key) (x : Line) (of_turn : IsTurnOf p (due_of p k) turn) (early : due_of p (key_of x) ≤ turn.last) where
  -- whether a line comes behind the visit
  abbrev behind : Line → Bool
  behind y = is_earlier p k (key_of y)

  -- a line behind the visit that is due no later than the one that was found is of the turn's bucket
  of-bucket : (y : Line) → is_earlier p k (key_of y) ≡ true → due_of p (key_of y) ≤ due_of p (key_of x) → bucket_of p (key_of y) ≡ turn.bucket
  unfolding bucket_of
  of-bucket y is soon =
      let late = earlier_due p k (key_of y) is in
      let first = of_turn.1 in
      of_turn.0 (due_of p (key_of y)) (omega (arith, late, first)) (omega (arith, soon, early))

  next-at : (y : Line) (ys : List Line) (a t : Bool) → is_earlier p k (key_of y) ≡ a → (bucket_of p (key_of y) == turn.bucket) ≡ t → IsBefore p (key_of y) ys
      → find behind (cond t (y ∷ bucket_lines p turn.bucket ys) (bucket_lines p turn.bucket ys)) ≡ Some x
      → (find behind (bucket_lines p turn.bucket ys) ≡ Some x → find behind ys ≡ Some x)
      → cond a (Some y) (find behind ys) ≡ Some x
  next-at y ys true true ia it w e rest = sym (find-step behind y (bucket_lines p turn.bucket ys) true ia) ∙ e
  next-at y ys false true ia it w e rest = rest (sym (find-step behind y (bucket_lines p turn.bucket ys) false ia) ∙ e)
  next-at y ys false false ia it w e rest = rest e
  next-at y ys true false ia it w e rest =
      let later = all_filter (λ z. is_earlier p (key_of y) (key_of z) ≡ true) (λ z. bucket_of p (key_of z) == turn.bucket) ys w in
      let order = earlier_due p (key_of y) (key_of x) (found-holds (λ z. is_earlier p (key_of y) (key_of z) ≡ true) behind (bucket_lines p turn.bucket ys) x later e) in
      absurd (both_ways (bucket_of p (key_of y) == turn.bucket) it (eq-eqb _ _ (of-bucket y ia order)))

  next-in : (lines : List Line) → IsWalk p lines → find behind (bucket_lines p turn.bucket lines) ≡ Some x → find behind lines ≡ Some x
  next-in [] w e = e
  next-in (y ∷ ys) w e = next-at y ys (is_earlier p k (key_of y)) (bucket_of p (key_of y) == turn.bucket) refl refl w.1 e (next-in ys w.2)

-- what comes next in the bucket of a turn comes next of all lines, if it is due in the turn
pub next-there : (p : Params) (bs : List Seen) (b : Seen) (turn : Turn) (k : Key) (from to row : ℕ) (x : Line) → IsWheel p bs → turn.bucket < length bs → b ≡ get_or bs turn.bucket b
    → from ≡ due_of p k → IsTurnOf p from turn → slice_get b.lines row ≡ next_behind b.params (Some k) b.lines → slice_get b.lines row ≡ Some x
    → to ≡ due_of b.params (key_of x) → to ≤ turn.last → Some x ≡ next_behind p (Some k) (all_lines p bs)
unfolding next_behind is_behind
next-there p bs b turn k from to row x h l e is of_turn next at due early =
    let found = bucket-found p bs turn.bucket b h l e in
    let there : next_behind b.params (Some k) b.lines ≡ next_behind p (Some k) (bucket_lines p turn.bucket (all_lines p bs)) =
    ap (λ (q : Params). next_behind q (Some k) b.lines) found.0 ∙ ap (λ (ls : List Line). next_behind p (Some k) ls) found.1 in
    let same : to ≡ due_of p (key_of x) = due ∙ ap (λ (q : Params). due_of q (key_of x)) found.0 in
    sym (next-in p turn k x (subst (λ n. IsTurnOf p n turn) is of_turn) (omega (arith, same, early)) (all_lines p bs) (walk-of p bs h) (sym there ∙ (sym next ∙ at)))
