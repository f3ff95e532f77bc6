-- The order of lists of numbers.
use Rattle.std.proofs.Common.{◌≡◌, ℕ, Bool, true, false, ◌||◌, ◌&&◌, ◌==◌, nat_lt, List, [], ◌∷◌, length, ap, refl, ◌∙◌, arith}
use Rattle.std.proofs.lemmas.Bool.{and_parts, eqb-true}
use Rattle.std.proofs.lemmas.Bool.Decides.{nat_tests}
use Rattle.mirror_schedule.specs.Sorted.{is_less, are_same}

-- one number further
abbrev less : ℕ → ℕ → Bool → Bool
less x y rest = nat_lt x y || (x == y && rest)

less-self : (x : ℕ) (a : Bool) → a ≡ false → less x x a ≡ false
less-self x a h = grind (arith, nat_tests)

less-along : (x y z : ℕ) (a b c : Bool) → (a ≡ true → b ≡ true → c ≡ true) → less x y a ≡ true → less y z b ≡ true → less x z c ≡ true
less-along x y z true true c h e f = let rest = h refl refl in grind (arith, nat_tests)
less-along x y z true false c h e f = grind (arith, nat_tests)
less-along x y z false b c h e f = grind (arith, nat_tests)

less-apart : (x y : ℕ) (a c : Bool) → (a ≡ true → c ≡ false) → less x y a ≡ true → (x == y && c) ≡ false
less-apart x y true c h e = let rest = h refl in grind (arith, nat_tests)
less-apart x y false c h e = grind (arith, nat_tests)

less-behind : (x y : ℕ) (a c : Bool) → (a ≡ true → c ≡ false) → less y x a ≡ true → (x == y && c) ≡ false
less-behind x y true c h e = let rest = h refl in grind (arith, nat_tests)
less-behind x y false c h e = grind (arith, nat_tests)

less-neither : (x y : ℕ) (a b c : Bool) → (a ≡ false → b ≡ false → c ≡ true) → less x y a ≡ false → less y x b ≡ false → (x == y && c) ≡ true
less-neither x y false false c h e f = let rest = h refl refl in grind (arith, nat_tests)
less-neither x y true b c h e f = grind (arith, nat_tests)
less-neither x y false true c h e f = grind (arith, nat_tests)

-- no list is less than itself
pub is_less-irreflexive : (xs : List ℕ) → is_less xs xs ≡ false
is_less-irreflexive [] = refl
is_less-irreflexive (x ∷ xs) = less-self x (is_less xs xs) (is_less-irreflexive xs)

pub is_less-transitive : (xs ys zs : List ℕ) → is_less xs ys ≡ true → is_less ys zs ≡ true → is_less xs zs ≡ true
is_less-transitive [] ys zs e f = absurd (cc)
is_less-transitive (x ∷ xs) [] zs e f = absurd (cc)
is_less-transitive (x ∷ xs) (y ∷ ys) [] e f = absurd (cc)
is_less-transitive (x ∷ xs) (y ∷ ys) (z ∷ zs) e f =
    less-along x y z (is_less xs ys) (is_less ys zs) (is_less xs zs) (is_less-transitive xs ys zs) e f

-- lists of which one is less are not the same
pub is_less-apart : (xs ys : List ℕ) → is_less xs ys ≡ true → are_same xs ys ≡ false
is_less-apart [] ys e = absurd (cc)
is_less-apart (x ∷ xs) [] e = refl
is_less-apart (x ∷ xs) (y ∷ ys) e = less-apart x y (is_less xs ys) (are_same xs ys) (is_less-apart xs ys) e

pub is_less-behind : (xs ys : List ℕ) → is_less ys xs ≡ true → are_same xs ys ≡ false
is_less-behind xs [] e = absurd (cc)
is_less-behind [] (y ∷ ys) e = refl
is_less-behind (x ∷ xs) (y ∷ ys) e = less-behind x y (is_less ys xs) (are_same xs ys) (is_less-behind xs ys) e

-- lists of one length of which neither is less are the same
pub is_less-neither : (xs ys : List ℕ) → length xs ≡ length ys → is_less xs ys ≡ false → is_less ys xs ≡ false → are_same xs ys ≡ true
is_less-neither [] [] l e f = refl
is_less-neither [] (y ∷ ys) l e f = absurd (omega arith)
is_less-neither (x ∷ xs) [] l e f = absurd (omega arith)
is_less-neither (x ∷ xs) (y ∷ ys) l e f =
    less-neither x y (is_less xs ys) (is_less ys xs) (are_same xs ys) (is_less-neither xs ys (omega arith)) e f

-- numbers that are the same are one list
pub same_numbers : (ms ns : List ℕ) → are_same ms ns ≡ true → ms ≡ ns
same_numbers [] [] e = refl
same_numbers [] (n ∷ ns) e = absurd (cc)
same_numbers (m ∷ ms) [] e = absurd (cc)
same_numbers (m ∷ ms) (n ∷ ns) e =
    let both = and_parts (m == n) (are_same ms ns) e in
    let first : m ≡ n = eqb-true _ _ both.0 in
    let rest : ms ≡ ns = same_numbers ms ns both.1 in
    ap (λ (k : ℕ). k ∷ ms) first ∙ ap (λ (ks : List ℕ). n ∷ ks) rest
