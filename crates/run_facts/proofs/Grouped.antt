-- A list that is sorted by a key, and whose elements with one key are left in their order, is its groups by the key.
use Rattle.std.proofs.Common.{◌≡◌, ℕ, zero, suc, ◌+◌, ◌<◌, ◌≤◌, List, [], ◌∷◌, ◌++◌, filter, length, Bool, true, false, not, ◌&&◌, get_or, refl, ap, sym, ◌∙◌, arith, cond, Less, Equal, Greater}
use Rattle.std.specs.Prelude.{◌==◌, nat_lt}
use Rattle.std.specs.List.{AllByRecursion}
use Rattle.std.specs.List.Sorted.{IsPermutation, IsNonDecreasingBy, IsSortedByKey, IsStableByKey, ties}
use Rattle.std.specs.Ordering.{is_lt, nat_cmp}
use Rattle.std.proofs.lemmas.Bool.Decides.{nat_tests}
use Rattle.std.proofs.lemmas.List.Elements.{All-from_recursion, recursion_from_All}
use Rattle.std.proofs.lemmas.List.Sorted.{IsNonDecreasingBy-from_sort, All-permutation}
use Rattle.run_facts.specs.Accounts.{Rising}
use Rattle.run_facts.proofs.Orders.{groups, by_key}
use Rattle.run_facts.proofs.Rows.{filter-same}

all_at : {X : Type 0} (P : X → Type 0) (xs : List X) → ((j : ℕ) (d : X) → j < length xs → P (get_or xs j d)) → AllByRecursion P xs
all_at P [] f = tt
all_at P (x ∷ xs) f = (f 0 x (omega arith), all_at P xs (λ j d low. f (suc j) d (omega (arith, low))))

rising_of : {X : Type 0} (key : X → ℕ) (xs : List X) → IsNonDecreasingBy key xs → Rising key xs
rising_of key [] h = tt
rising_of {X} key (x ∷ xs) h = (
  all_at (λ (y : X). key x ≤ key y) xs (λ j d low. h 0 (suc j) d (omega arith) (omega (arith, low))),
  rising_of key xs (λ i j d up low. h (suc i) (suc j) d (omega (arith, up)) (omega (arith, low))),
)

-- what ties with an element has its key
below_is : (a b : ℕ) → is_lt (nat_cmp a b) ≡ nat_lt a b
below_is a b = by_tests (nat_lt a b) (a == b)
  where
    by_tests : (x y : Bool) → is_lt (cond x Less (cond y Equal Greater)) ≡ x
    by_tests true y = refl
    by_tests false true = refl
    by_tests false false = refl

ties_is : {X : Type 0} (key : X → ℕ) (x y : X) (b : ℕ) → key x ≡ b
    → ties (λ u v. is_lt (nat_cmp (key u) (key v))) x y ≡ (key y == b)
ties_is key x y b is =
    let one = below_is (key x) (key y) in
    let other = below_is (key y) (key x) in
    rw (one, other, is) (alike (key y) b)
  where
    alike : (m n : ℕ) → not (nat_lt n m) && not (nat_lt m n) ≡ (m == n)
    alike m n = grind (arith, nat_tests)

groups_same : {X : Type 0} (key : X → ℕ) (xs ys : List X)
    → ((b : ℕ) → filter (λ x. key x == b) ys ≡ filter (λ x. key x == b) xs) → (b k : ℕ) → groups key b k ys ≡ groups key b k xs
groups_same key xs ys same b zero = refl
groups_same {X} key xs ys same b (suc k) =
    ap (λ q. q ++ groups key (b + 1) k ys) (same b)
    ∙ ap (λ q. filter (λ (x : X). key x == b) xs ++ q) (groups_same key xs ys same (b + 1) k)

-- if there is an element of each key
pub sorted_groups : {X : Type 0} (key : X → ℕ) (xs ys : List X) (k : ℕ) → ((b : ℕ) → (x : X) × (key x ≡ b))
    → AllByRecursion (λ x. key x < k) xs → IsPermutation xs ys → IsSortedByKey key nat_cmp ys → IsStableByKey key nat_cmp xs ys
    → ys ≡ groups key 0 k xs
sorted_groups {X} key xs ys k any early moved sorted stable =
    let small = recursion_from_All (λ (x : X). key x < k) ys
    (All-permutation (λ (x : X). key x < k) xs ys moved (All-from_recursion (λ (x : X). key x < k) xs early)) in
    let rises = rising_of key ys (IsNonDecreasingBy-from_sort key ys sorted) in
    let same : (b : ℕ) → filter (λ (x : X). key x == b) ys ≡ filter (λ x. key x == b) xs = λ b.
    (let x = any b in
    let tied = λ (zs : List X). filter-same (λ (y : X). key y == b) (ties (λ u v. is_lt (nat_cmp (key u) (key v))) x.0) zs
    (all_at (λ (y : X). (key y == b) ≡ ties (λ u v. is_lt (nat_cmp (key u) (key v))) x.0 y) zs (λ j d low. sym (ties_is key x.0 (get_or zs j d) b x.1))) in
    tied ys ∙ stable x.0 ∙ sym (tied xs)) in
    sym (by_key key k ys small rises) ∙ groups_same key xs ys same 0 k
