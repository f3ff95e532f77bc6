-- Lists with each element changed, and with one more: what stands at a number of them.
use Rattle.std.proofs.Common.{◌≡◌, ℕ, zero, suc, ◌+◌, ◌<◌, ◌≤◌, List, [], ◌∷◌, ◌++◌, filter, length, true, false, Some}
use Rattle.std.proofs.Common.{refl, ap, sym, subst, arith, ⊎_elim, inl, inr}
use Rattle.std.specs.Prelude.{slice_get, option_map, nat_lt, nat_le, ◌⊎◌}
use Rattle.std.specs.List.{AllByRecursion}
use Rattle.std.proofs.lemmas.Bool.{cases_Bool, cases_lt}
use Rattle.std.proofs.lemmas.Bool.Decides.{nat_tests}
use Rattle.std.proofs.lemmas.Option.{none-some, slice_get_within}
use Rattle.run_facts.specs.Accounts.{Rising, event_at, front}
use Rattle.run_facts.specs.Events.{NodeEvent}
use Rattle.run_facts.proofs.Counts.{get-append}
use Rattle.run_facts.proofs.Rows.{all-append, all-weaker, filter-all, filter-none}
use Rattle.ring_world.specs.Machine.{each_at}

pub each-get : {X : Type 0} (f : ℕ → X → X) (i : ℕ) (xs : List X) (k j : ℕ) → i + k ≡ j
    → slice_get (each_at f i xs) k ≡ option_map (f j) (slice_get xs k)
each-get f i [] k j e = refl
each-get f i (x ∷ xs) zero j e = let q : i ≡ j = omega (arith, e) in ap (λ n. Some (f n x)) q
each-get f i (x ∷ xs) (suc k) j e = each-get f (suc i) xs k j (omega (arith, e))

pub each-length : {X : Type 0} (f : ℕ → X → X) (i : ℕ) (xs : List X) → length (each_at f i xs) ≡ length xs
each-length f i [] = refl
each-length f i (x ∷ xs) = ap suc (each-length f (suc i) xs)

pub length-more : {X : Type 0} (xs : List X) (y : X) → length (xs ++ y ∷ []) ≡ suc (length xs)
length-more [] y = refl
length-more (x ∷ xs) y = ap suc (length-more xs y)

pub get-all : {X : Type 0} (P : X → Type 0) (xs : List X) (k : ℕ) (x : X) → slice_get xs k ≡ Some x
    → AllByRecursion P xs → P x
get-all P [] k x at all = absurd (none-some x at)
get-all P (y ∷ ys) zero x at all = let q : y ≡ x = cc in subst P q all.0
get-all P (y ∷ ys) (suc k) x at all = get-all P ys k x at all.1

-- an element of two lists stands in the first, or is as all of the second are
pub get-cases : {X : Type 0} (P : X → Type 0) (xs ys : List X) (k : ℕ) (x : X)
    → slice_get (xs ++ ys) k ≡ Some x → AllByRecursion P ys → (k < length xs) ⊎ P x
get-cases P xs ys k x at all = ⊎_elim
    (λ here. inl (slice_get_within xs k x here))
    (λ there. inr (get-all P ys there.0 x there.2 all))
    (get-append xs ys k x at)

-- what stands behind a list
pub get-behind : {X : Type 0} (xs : List X) (y : X) (ys : List X) (k : ℕ) → k ≡ length xs
    → slice_get (xs ++ y ∷ ys) k ≡ Some y
get-behind [] y ys k at = subst (λ j. slice_get (y ∷ ys) j ≡ Some y) (sym at) refl
get-behind (x ∷ xs) y ys zero at = absurd (omega (arith, at))
get-behind (x ∷ xs) y ys (suc k) at = get-behind xs y ys k (omega (arith, at))

-- the events of lower numbers stay where one more stands behind them
pub event-old : {M : Type 0} (es fs : List (NodeEvent M)) (i : ℕ) → i < length es
    → event_at (es ++ fs) i ≡ event_at es i
event-old [] fs i low = absurd (omega (arith, low))
event-old (e ∷ es) fs zero low = refl
event-old (e ∷ es) fs (suc i) low = event-old es fs i (omega (arith, low))

pub event-new : {M : Type 0} (es : List (NodeEvent M)) (x : NodeEvent M) (i : ℕ) → i ≡ length es
    → event_at (es ++ x ∷ []) i ≡ x
event-new [] x i at = subst (λ j. event_at (x ∷ []) j ≡ x) (sym at) refl
event-new (e ∷ es) x zero at = absurd (omega (arith, at))
event-new (e ∷ es) x (suc i) at = event-new es x i (omega (arith, at))

pub front-old : {M : Type 0} (es fs : List (NodeEvent M)) (i : ℕ) → i ≤ length es → front i (es ++ fs) ≡ front i es
front-old es fs zero low = refl
front-old [] fs (suc i) low = absurd (omega (arith, low))
front-old (e ∷ es) fs (suc i) low = ap (λ gs. e ∷ gs) (front-old es fs i (omega (arith, low)))

pub old-or-new : {M : Type 0} (es : List (NodeEvent M)) (x : NodeEvent M) (i : ℕ) → i < length (es ++ x ∷ [])
    → (i < length es) ⊎ (i ≡ length es)
old-or-new es x i low = ⊎_elim
    (λ (old : i < length es). inl old)
    (λ (end : length es ≤ i). let all = length-more es x in inr (omega (arith, end, low, all)))
    (cases_lt i (length es))

-- keys that never fall are below a number first, and then no longer
pub split-rising : {X : Type 0} (f : X → ℕ) (b : ℕ) (xs : List X) → Rising f xs
    → xs ≡ filter (λ x. nat_lt (f x) b) xs ++ filter (λ x. nat_le b (f x)) xs
split-rising f b [] rising = refl
split-rising {X} f b (x ∷ xs) rising = ⊎_elim
    (λ (low : nat_lt (f x) b ≡ true).
    let not_from : nat_le b (f x) ≡ false = grind (arith, nat_tests, low) in
    rw (low, not_from) (ap (λ ys. x ∷ ys) (split-rising f b xs rising.1)))
    (λ (high : nat_lt (f x) b ≡ false).
    let from : nat_le b (f x) ≡ true = grind (arith, nat_tests, high) in
    let rest : AllByRecursion (λ (y : X). nat_lt (f y) b ≡ false) xs =
    all-weaker (λ (y : X). f x ≤ f y) (λ y. nat_lt (f y) b ≡ false) xs
    (λ y h. grind (arith, nat_tests, high, h)) rising.0 in
    let all : AllByRecursion (λ (y : X). nat_le b (f y) ≡ true) xs =
    all-weaker (λ (y : X). f x ≤ f y) (λ y. nat_le b (f y) ≡ true) xs
    (λ y h. grind (arith, nat_tests, high, h)) rising.0 in
    let none = filter-none (λ (y : X). nat_lt (f y) b) xs rest in
    let same = filter-all (λ (y : X). nat_le b (f y)) xs all in
    rw (high, from, none) (ap (λ ys. x ∷ ys) (sym same)))
    (cases_Bool (nat_lt (f x) b))

-- what passes a test of numbers from one on is from there on
pub all-from : {X : Type 0} (f : X → ℕ) (b : ℕ) (xs : List X)
    → AllByRecursion (λ (x : X). b ≤ f x) (filter (λ x. nat_le b (f x)) xs)
all-from f b [] = tt
all-from {X} f b (x ∷ xs) = ⊎_elim
    (λ (from : nat_le b (f x) ≡ true). rw from ((let low : b ≤ f x = grind (arith, nat_tests, from) in low), all-from f b xs))
    (λ (below : nat_le b (f x) ≡ false). rw below (all-from f b xs))
    (cases_Bool (nat_le b (f x)))

pub all-below : {X : Type 0} (f : X → ℕ) (b : ℕ) (xs : List X)
    → AllByRecursion (λ (x : X). f x < b) (filter (λ x. nat_lt (f x) b) xs)
all-below f b [] = tt
all-below {X} f b (x ∷ xs) = ⊎_elim
    (λ (low : nat_lt (f x) b ≡ true). rw low ((let less : f x < b = grind (arith, nat_tests, low) in less), all-below f b xs))
    (λ (from : nat_lt (f x) b ≡ false). rw from (all-below f b xs))
    (cases_Bool (nat_lt (f x) b))

-- keys of two lists, of which no one in the first is above a number, and none in the second below it
pub rising-both : {X : Type 0} (f : X → ℕ) (b : ℕ) (xs ys : List X) → Rising f xs → AllByRecursion (λ (x : X). f x ≤ b) xs
    → Rising f ys → AllByRecursion (λ (y : X). b ≤ f y) ys → Rising f (xs ++ ys)
rising-both f b [] ys rx low ry high = ry
rising-both {X} f b (x ∷ xs) ys rx low ry high =
    let top = low.0 in (
      all-append (λ (y : X). f x ≤ f y) xs ys rx.0
          (all-weaker (λ (y : X). b ≤ f y) (λ y. f x ≤ f y) ys (λ y h. omega (arith, h, top)) high),
      rising-both f b xs ys rx.1 low.1 ry high,
    )

-- keys that are one number do not fall
pub rising-same : {X : Type 0} (f : X → ℕ) (b : ℕ) (xs : List X) → AllByRecursion (λ (x : X). f x ≡ b) xs → Rising f xs
rising-same f b [] all = tt
rising-same {X} f b (x ∷ xs) all =
    let here = all.0 in (
      all-weaker (λ (y : X). f y ≡ b) (λ y. f x ≤ f y) xs (λ y h. omega (arith, h, here)) all.1,
      rising-same f b xs all.1,
    )
