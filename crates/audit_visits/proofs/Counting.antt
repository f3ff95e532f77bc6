-- How many elements of a list pass a test, and whether any does, in a front of the list and with one element more.
use Rattle.std.proofs.Common.{◌≡◌, ◌+◌, ◌≤◌, Bool, true, false, ◌||◌, cond, List, [], ◌∷◌, ◌++◌, length, filter, refl, sym, arith}
use Rattle.std.specs.List.{AllByRecursion, list_any}
use Rattle.std.proofs.lemmas.Bool.{false≢true}

-- ---- none

none_more : {X : Type 0} (b rest : Bool) (x : X) (xs : List X) → (rest ≡ false → length xs ≤ 0) → (b || rest) ≡ false
    → length (cond b (x ∷ xs) xs) ≤ 0
none_more true rest x xs f h = absurd (false≢true (sym h))
none_more false rest x xs f h = f h

pub none_counted : {X : Type 0} (f : X → Bool) (xs : List X) → list_any f xs ≡ false → length (filter f xs) ≤ 0
none_counted f [] h = omega arith
none_counted f (x ∷ xs) h = none_more (f x) (list_any f xs) x (filter f xs) (λ e. none_counted f xs e) h

none_of_more : {X : Type 0} (b rest : Bool) (x : X) (xs : List X) → (length xs ≤ 0 → rest ≡ false) → length (cond b (x ∷ xs) xs) ≤ 0
    → (b || rest) ≡ false
none_of_more true rest x xs f h = absurd (omega (arith, h))
none_of_more false rest x xs f h = f h

pub counted_none : {X : Type 0} (f : X → Bool) (xs : List X) → length (filter f xs) ≤ 0 → list_any f xs ≡ false
counted_none f [] h = refl
counted_none f (x ∷ xs) h = none_of_more (f x) (list_any f xs) x (filter f xs) (λ e. counted_none f xs e) h

neither : (a b : Bool) → (a || b) ≡ false → (a ≡ false) × (b ≡ false)
neither true b h = absurd (false≢true (sym h))
neither false b h = (refl, h)

pub none_each : {X : Type 0} (f : X → Bool) (xs : List X) → list_any f xs ≡ false → AllByRecursion (λ x. f x ≡ false) xs
none_each f [] h = tt
none_each f (x ∷ xs) h = let parts = neither (f x) (list_any f xs) h in (parts.0, none_each f xs parts.1)

-- ---- in a front

front_more : {X : Type 0} (b : Bool) (x : X) (xs ys : List X) → length xs ≤ length ys
    → length (cond b (x ∷ xs) xs) ≤ length (cond b (x ∷ ys) ys)
front_more true x xs ys le = omega (arith, le)
front_more false x xs ys le = le

pub front_counted : {X : Type 0} (f : X → Bool) (xs ys : List X) → length (filter f xs) ≤ length (filter f (xs ++ ys))
front_counted f [] ys = omega arith
front_counted f (x ∷ xs) ys = front_more (f x) x (filter f xs) (filter f (xs ++ ys)) (front_counted f xs ys)

-- ---- with one element more

one_there : {X : Type 0} (b : Bool) (y : X) → b ≡ true → 1 ≤ length (cond b (y ∷ []) [])
one_there true y e = omega arith
one_there false y e = absurd (false≢true e)

one_left : {X : Type 0} (b : Bool) (y : X) → b ≡ false → length (cond b (y ∷ []) []) ≤ 0
one_left true y e = absurd (false≢true (sym e))
one_left false y e = omega arith

one_any : {X : Type 0} (b : Bool) (y : X) → length (cond b (y ∷ []) []) ≤ 1
one_any true y = omega arith
one_any false y = omega arith

there_more : {X : Type 0} (b : Bool) (x : X) (xs ys : List X) → length xs + 1 ≤ length ys
    → length (cond b (x ∷ xs) xs) + 1 ≤ length (cond b (x ∷ ys) ys)
there_more true x xs ys le = omega (arith, le)
there_more false x xs ys le = le

pub last_there : {X : Type 0} (f : X → Bool) (xs : List X) (y : X) → f y ≡ true
    → length (filter f xs) + 1 ≤ length (filter f (xs ++ y ∷ []))
last_there f [] y e = let one = one_there (f y) y e in omega (arith, one)
last_there f (x ∷ xs) y e = there_more (f x) x (filter f xs) (filter f (xs ++ y ∷ [])) (last_there f xs y e)

any_more : {X : Type 0} (b : Bool) (x : X) (xs ys : List X) → length ys ≤ length xs + 1
    → length (cond b (x ∷ ys) ys) ≤ length (cond b (x ∷ xs) xs) + 1
any_more true x xs ys le = omega (arith, le)
any_more false x xs ys le = le

pub last_any : {X : Type 0} (f : X → Bool) (xs : List X) (y : X) → length (filter f (xs ++ y ∷ [])) ≤ length (filter f xs) + 1
last_any f [] y = let one = one_any (f y) y in omega (arith, one)
last_any f (x ∷ xs) y = any_more (f x) x (filter f xs) (filter f (xs ++ y ∷ [])) (last_any f xs y)

left_more : {X : Type 0} (b : Bool) (x : X) (xs ys : List X) → length ys ≤ length xs
    → length (cond b (x ∷ ys) ys) ≤ length (cond b (x ∷ xs) xs)
left_more true x xs ys le = omega (arith, le)
left_more false x xs ys le = le

pub last_left : {X : Type 0} (f : X → Bool) (xs : List X) (y : X) → f y ≡ false
    → length (filter f (xs ++ y ∷ [])) ≤ length (filter f xs)
last_left f [] y e = one_left (f y) y e
last_left f (x ∷ xs) y e = left_more (f x) x (filter f xs) (filter f (xs ++ y ∷ [])) (last_left f xs y e)
