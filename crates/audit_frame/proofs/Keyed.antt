-- Keys of several numbers in their order, and lists of which some elements are left out.
use Rattle.std.proofs.Common.{◌≡◌, ℕ, ◌+◌, nat_lt, nat_le, arith, Bool, true, false, not, ◌&&◌, ◌||◌, ◌==◌, IsTrue, cond, List, [], ◌∷◌, filter, refl, sym, ap, ◌∙◌}
use Rattle.std.specs.declared.cmp.Ordering.{Ordering}
use Rattle.std.specs.declared.cmp.Ordering.TheVariants.{Less, Equal, Greater}
use Rattle.std.specs.Cmp.{unsigned_tied, tied_then}
use Rattle.std.specs.List.{list_any}
use Rattle.std.specs.Ordering.{is_eq, is_le, nat_cmp, bool_cmp, ordering_then}
use Rattle.std.proofs.lemmas.Bool.{eqb-true, eq-eqb, false≢true, ltb-true}
use Rattle.std.proofs.lemmas.Bool.Decides.{nat_tests}

-- ---- numbers in one order are the same numbers

both_tied : (a b : Ordering) → IsTrue (is_eq (ordering_then a b)) → IsTrue (is_eq a) × IsTrue (is_eq b)
both_tied Less b h = absurd (false≢true h)
both_tied Equal b h = (refl, h)
both_tied Greater b h = absurd (false≢true h)

pub one : (m k : ℕ) (rest : Ordering) (P : Type 0) → (IsTrue (is_eq rest) → P) → IsTrue (is_eq (ordering_then (nat_cmp m k) rest)) → (m ≡ k) × P
one m k rest P f h =
    let both = both_tied (nat_cmp m k) rest h in
    (eqb-true m k (sym (unsigned_tied m k) ∙ both.0), f both.1)

pub flag : (a b : Bool) → IsTrue (is_eq (bool_cmp a b)) → a ≡ b
flag false false h = refl
flag true true h = refl
flag false true h = absurd (false≢true h)
flag true false h = absurd (false≢true h)

pub own_number : (m : ℕ) (rest : Ordering) → IsTrue (is_eq rest) → IsTrue (is_eq (ordering_then (nat_cmp m m) rest))
own_number m rest h =
    sym (tied_then (nat_cmp m m) rest)
    ∙ ap (λ (b : Bool). b && is_eq rest) (unsigned_tied m m ∙ eq-eqb m m refl) ∙ h

pub own_flag : (a : Bool) → IsTrue (is_eq (bool_cmp a a))
own_flag false = refl
own_flag true = refl

-- ---- one more, and one less

pub or_turned : (a b : Bool) → cond a true b ≡ (b || a)
or_turned true true = refl
or_turned true false = refl
or_turned false true = refl
or_turned false false = refl

pub and_not : (a b : Bool) → cond a false b ≡ (b && not a)
and_not true true = refl
and_not true false = refl
and_not false true = refl
and_not false false = refl

-- ---- elements that are left out

pub any_filtered : {X : Type 0} (t keep : X → Bool) (b : Bool) (xs : List X) → ((x : X) → t x ≡ true → keep x ≡ b)
    → list_any t (filter keep xs) ≡ (list_any t xs && b)
any_filtered t keep b [] h = refl
any_filtered {X} t keep b (x ∷ xs) h = go (t x) (keep x) b refl (h x) (any_filtered t keep b xs h) where
  go : (s k c : Bool) → t x ≡ s → (t x ≡ true → k ≡ c) → list_any t (filter keep xs) ≡ (list_any t xs && c)
      → list_any t (cond k (x ∷ filter keep xs) (filter keep xs)) ≡ ((s || list_any t xs) && c)
  go true true true e f r = rw e refl
  go true true false e f r = absurd (false≢true (sym (f e)))
  go true false true e f r = absurd (false≢true (f e))
  go true false false e f r = r ∙ no_other (list_any t xs)
    where
      no_other : (a : Bool) → (a && false) ≡ false
      no_other true = refl
      no_other false = refl
  go false true c e f r = rw e r
  go false false c e f r = r

pub filter_alike : {X : Type 0} (f g : X → Bool) (xs : List X) → ((x : X) → f x ≡ g x) → filter f xs ≡ filter g xs
filter_alike f g [] h = refl
filter_alike {X} f g (x ∷ xs) h =
    ap (λ (b : Bool). cond b (x ∷ filter f xs) (filter f xs)) (h x)
    ∙ ap (λ (ys : List X). cond (g x) (x ∷ ys) ys) (filter_alike f g xs h)

-- ---- the lowest keys

pub le_then : (a b : Ordering) → is_le b ≡ true → is_le (ordering_then a b) ≡ is_le a
le_then Less b h = refl
le_then Equal b h = h
le_then Greater b h = refl

pub le_is : (m n : ℕ) → is_le (nat_cmp m n) ≡ nat_le m n
le_is m n = by_tests (nat_lt m n) (m == n) (nat_le m n) (alike m n)
  where
    alike : (k l : ℕ) → nat_le k l ≡ (nat_lt k l || (k == l))
    alike k l = grind (arith, nat_tests)

    by_tests : (x y z : Bool) → z ≡ (x || y) → is_le (cond x Less (cond y Equal Greater)) ≡ z
    by_tests true y z e = sym e
    by_tests false true z e = sym e
    by_tests false false z e = sym e

pub least_number : (n : ℕ) → is_le (nat_cmp 0 n) ≡ true
least_number n = le_is 0 n ∙ least n
  where
    least : (k : ℕ) → nat_le 0 k ≡ true
    least k = grind (arith, nat_tests)

pub least_flag : (b : Bool) → is_le (bool_cmp false b) ≡ true
least_flag false = refl
least_flag true = refl

pub low : (n : ℕ) (rest : Ordering) → is_le rest ≡ true → is_le (ordering_then (nat_cmp 0 n) rest) ≡ true
low n rest h = le_then (nat_cmp 0 n) rest h ∙ least_number n

-- ---- keys between two bounds

pub le_by : (m n : ℕ) (rest : Ordering) → is_le (ordering_then (nat_cmp m n) rest) ≡ (nat_lt m n || ((m == n) && is_le rest))
le_by m n rest = by_tests (nat_lt m n) (m == n)
  where
    by_tests : (x y : Bool) → is_le (ordering_then (cond x Less (cond y Equal Greater)) rest) ≡ (x || (y && is_le rest))
    by_tests true y = refl
    by_tests false true = refl
    by_tests false false = refl

-- of what is not below one bound and below another one, the first numbers are one if the bounds' are
pub between : (m n : ℕ) (x y : Bool) → ((nat_lt m n || ((m == n) && x)) && not (nat_lt m n || ((m == n) && y))) ≡ ((m == n) && (x && not y))
between m n x y = go (nat_lt m n) (m == n) refl refl where
  go : (a b : Bool) → nat_lt m n ≡ a → (m == n) ≡ b → ((a || (b && x)) && not (a || (b && y))) ≡ (b && (x && not y))
  go true true e f =
      let less = ltb-true m n e in
      let same = eqb-true m n f in
      absurd (omega (arith, less, same))
  go true false e f = refl
  go false true e f = refl
  go false false e f = refl

-- between a number and the next one lies that number
pub one_between : (m k : ℕ) → (nat_le m k && not (nat_le (m + 1) k)) ≡ (k == m)
one_between m k = grind (arith, nat_tests)
