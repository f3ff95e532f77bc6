-- Where beats never fall, the orders of a beat stand side by side.
use Rattle.std.proofs.Common.{◌≡◌, ℕ, ◌+◌, ◌<◌, List, [], ◌∷◌, ◌++◌, length, take, drop, Bool, true, false, ◌==◌, nat_lt, nat_le, slice_index_or, arith, refl, ap, sym, subst, ◌∙◌}
use Rattle.std.specs.Prelude.{filter}
use Rattle.std.specs.List.{All}
use Rattle.std.specs.List.Sorted.{IsPartitionPoint}
use Rattle.std.proofs.lemmas.Bool.Decides.{nat_tests}
use Rattle.std.proofs.lemmas.List.{get_or-take, get_or-drop, take-append-drop, length-take, length-drop, append-nil}
use Rattle.std.proofs.lemmas.List.Elements.{All-head, All-tail, All-from_all_within, filter-append}
use Rattle.node_kit.specs.declared.course.Order.{Order}
use Rattle.controller_core.specs.Orders.{orders_in}

all_pass : {X : Type 0} (test : X → Bool) (xs : List X) → All (λ x. test x ≡ true) xs → filter test xs ≡ xs
all_pass test [] h = refl
all_pass test (x ∷ xs) h =
    rw (All-head (λ x. test x ≡ true) x xs h) (ap (λ ys. x ∷ ys) (all_pass test xs (All-tail (λ x. test x ≡ true) x xs h)))

none_pass : {X : Type 0} (test : X → Bool) (xs : List X) → All (λ x. test x ≡ false) xs → filter test xs ≡ []
none_pass test [] h = refl
none_pass test (x ∷ xs) h =
    rw (All-head (λ x. test x ≡ false) x xs h) (none_pass test xs (All-tail (λ x. test x ≡ false) x xs h))

filter_split : {X : Type 0} (test : X → Bool) (n : ℕ) (xs : List X) → filter test xs ≡ filter test (take n xs) ++ filter test (drop n xs)
filter_split test n xs = ap (filter test) (sym (take-append-drop n xs)) ∙ filter-append test (take n xs) (drop n xs)

-- a filter is what stands between two places, where nothing before them or behind them passes
between : {X : Type 0} (test : X → Bool) (from count : ℕ) (xs : List X)
    → All (λ x. test x ≡ false) (take from xs) → All (λ x. test x ≡ true) (take count (drop from xs))
    → All (λ x. test x ≡ false) (drop count (drop from xs)) → take count (drop from xs) ≡ filter test xs
between test from count xs before middle behind =
    let rest = drop from xs in
    let some : filter test rest ≡ take count rest =
    filter_split test count rest
    ∙ (ap (λ ys. ys ++ filter test (drop count rest)) (all_pass test (take count rest) middle)
    ∙ (ap (λ ys. take count rest ++ ys) (none_pass test (drop count rest) behind) ∙ append-nil (take count rest))) in
    sym (filter_split test from xs ∙ (ap (λ ys. ys ++ filter test rest) (none_pass test (take from xs) before) ∙ some))

below_differs : (a b : ℕ) → nat_lt a b ≡ true → (a == b) ≡ false
below_differs a b h = grind (arith, nat_tests)

above_differs : (a b : ℕ) → nat_le a b ≡ false → (a == b) ≡ false
above_differs a b h = grind (arith, nat_tests)

between_equal : (a b : ℕ) → nat_lt a b ≡ false → nat_le a b ≡ true → (a == b) ≡ true
between_equal a b h g = grind (arith, nat_tests)

abbrev pub UpTo : ℕ → List Order → ℕ → Type 0
UpTo beat xs count = IsPartitionPoint (λ (o : Order). nat_le o.beat beat ≡ true) (λ (o : Order). nat_le o.beat beat ≡ false) xs count

from_here : (beat from count : ℕ) (xs : List Order)
    → IsPartitionPoint (λ (o : Order). nat_lt o.beat beat ≡ true) (λ (o : Order). nat_lt o.beat beat ≡ false) xs from
    → UpTo beat (drop from xs) count → take count (drop from xs) ≡ orders_in beat xs
unfolding orders_in
from_here beat from count xs before upto =
    let rest = drop from xs in
    let long = length-drop from xs in
    between (λ (o : Order). o.beat == beat) from count xs
    (All-from_all_within (λ (o : Order). (o.beat == beat) ≡ false) (take from xs) (λ k d low high.
    let short : k < from = let e = length-take from xs in omega arith in
    rw (get_or-take from xs k d short) (below_differs _ beat (before.0 k d low short))))
    (All-from_all_within (λ (o : Order). (o.beat == beat) ≡ true) (take count rest) (λ k d low high.
    let short : k < count = let e = length-take count rest in omega arith in
    let inside : k < length rest = let e = length-take count rest in omega arith in
    let after : nat_lt (slice_index_or rest k d).beat beat ≡ false = rw (get_or-drop from xs k d) (before.1 (from + k) d (omega arith) (omega arith)) in
    rw (get_or-take count rest k d short) (between_equal _ beat after (upto.0 k d (omega arith) short))))
    (All-from_all_within (λ (o : Order). (o.beat == beat) ≡ false) (drop count rest) (λ k d low high.
    let inside : count + k < length rest = let e = length-drop count rest in omega arith in
    rw (get_or-drop count rest k d) (above_differs _ beat (upto.1 (count + k) d (omega arith) inside))))

pub in_beat : (beat from count : ℕ) (xs rest : List Order) → rest ≡ drop from xs
    → IsPartitionPoint (λ (o : Order). nat_lt o.beat beat ≡ true) (λ (o : Order). nat_lt o.beat beat ≡ false) xs from
    → UpTo beat rest count → take count rest ≡ orders_in beat xs
in_beat beat from count xs rest e before upto =
    ap (λ ys. take count ys) e ∙ from_here beat from count xs before (subst (λ ys. UpTo beat ys count) e upto)
