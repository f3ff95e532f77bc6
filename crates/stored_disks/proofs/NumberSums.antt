-- Sums over numbers one after another.
use Rattle.std.proofs.Common.{◌≡◌, ℕ, zero, suc, ◌+◌, ◌*◌, ◌<◌, ◌≤◌, ◌==◌, nat_le, if◌then◌else◌, refl, ap, sym, ◌∙◌, inl, inr, arith}
use Rattle.std.proofs.lemmas.Bool.{cases_lt}
use Rattle.std.proofs.lemmas.Bool.Decides.{nat_tests}
use Rattle.std.proofs.Math.Nat.{add-mul}

abbrev pub sum_in : (ℕ → ℕ) → ℕ → ℕ → ℕ
sum_in h a zero = 0
sum_in h a (suc n) = h a + sum_in h (a + 1) n

-- one number more
pub sum-more : (h : ℕ → ℕ) (a n : ℕ) → sum_in h a (suc n) ≡ sum_in h a n + h (a + n)
sum-more h a zero = let same : a ≡ a + 0 = omega arith in omega (arith, ap h same)
sum-more h a (suc n) =
    let same : a + 1 + n ≡ a + suc n = omega arith in
    omega (arith, sum-more h (a + 1) n, ap h same)

-- equal numbers have equal sums
pub sum-same : (g h : ℕ → ℕ) (a n : ℕ) → ((j : ℕ) → a ≤ j → j < a + n → g j ≡ h j) → sum_in g a n ≡ sum_in h a n
sum-same g h a zero each = refl
sum-same g h a (suc n) each =
    let rest = sum-same g h (a + 1) n (λ j low high. each j (omega (arith, low)) (omega (arith, high))) in
    omega (arith, each a (omega arith) (omega arith), rest)

sum-none : (h : ℕ → ℕ) (a n : ℕ) → ((j : ℕ) → a ≤ j → h j ≡ 0) → sum_in h a n ≡ 0
sum-none h a zero each = refl
sum-none h a (suc n) each = omega (arith, each a (omega arith), sum-none h (a + 1) n (λ j low. each j (omega (arith, low))))

pub sum-both : (g h : ℕ → ℕ) (a n : ℕ) → sum_in (λ j. g j + h j) a n ≡ sum_in g a n + sum_in h a n
sum-both g h a zero = refl
sum-both g h a (suc n) = omega (arith, sum-both g h (a + 1) n)

pub sum-times : (h : ℕ → ℕ) (c a n : ℕ) → sum_in (λ j. h j * c) a n ≡ sum_in h a n * c
sum-times h c a zero = omega arith
sum-times h c a (suc n) = omega (arith, sum-times h c (a + 1) n, add-mul (h a) (sum_in h (a + 1) n) c)

pub sum-const : (c a n : ℕ) → sum_in (λ j. c) a n ≡ n * c
sum-const c a zero = omega arith
sum-const c a (suc n) =
    let same : suc n ≡ n + 1 = omega arith in
    let more : suc n * c ≡ n * c + 1 * c = ap (λ (k : ℕ). k * c) same ∙ add-mul n 1 c in
    omega (arith, sum-const c (a + 1) n, more)

-- the order of two sums
pub sum-swap : (g : ℕ → ℕ → ℕ) (a n b m : ℕ) → sum_in (λ i. sum_in (g i) b m) a n ≡ sum_in (λ j. sum_in (λ i. g i j) a n) b m
sum-swap g a zero b m = sym (sum-none (λ j. 0) b m (λ j low. refl))
sum-swap g a (suc n) b m =
    ap (λ (k : ℕ). sum_in (g a) b m + k) (sum-swap g (a + 1) n b m)
    ∙ sym (sum-both (g a) (λ j. sum_in (λ i. g i j) (a + 1) n) b m)

-- one for a number, and none for any other
abbrev pub is_one : ℕ → ℕ → ℕ
is_one x j = if x == j then 1 else 0

one-there : (x j : ℕ) → x ≡ j → is_one x j ≡ 1
one-there x j e = grind (arith, nat_tests)

one-elsewhere : (x j : ℕ) → x < j → is_one x j ≡ 0
one-elsewhere x j lt = grind (arith, nat_tests)

one-later : (x j : ℕ) → j < x → is_one x j ≡ 0
one-later x j lt = grind (arith, nat_tests)

pub sum-one : (x a n : ℕ) → a ≤ x → x < a + n → sum_in (is_one x) a n ≡ 1
sum-one x a zero low high = absurd (omega (arith, low, high))
sum-one x a (suc n) low high = elim (cases_lt a x) [
  | inl later ↦ omega (arith, one-later x a later, sum-one x (a + 1) n (omega (arith, later)) (omega (arith, high)))
  | inr here ↦
      let rest = sum-none (is_one x) (a + 1) n (λ j behind. one-elsewhere x j (omega (arith, here, behind))) in
      omega (arith, one-there x a (omega (arith, low, here)), rest)
]

-- one for each number up to a last one
abbrev pub is_low : ℕ → ℕ → ℕ
is_low p k = if nat_le k p then 1 else 0

low-there : (p k : ℕ) → k ≤ p → is_low p k ≡ 1
low-there p k le = grind (arith, nat_tests)

low-past : (p k : ℕ) → p < k → is_low p k ≡ 0
low-past p k lt = grind (arith, nat_tests)

pub sum-low : (p a n : ℕ) → a ≤ p + 1 → p < a + n → sum_in (is_low p) a n + a ≡ p + 1
sum-low p a zero low high = omega (arith, low, high)
sum-low p a (suc n) low high = elim (cases_lt p a) [
  | inl past ↦
      let rest = sum-none (is_low p) (a + 1) n (λ k behind. low-past p k (omega (arith, past, behind))) in
      omega (arith, low-past p a past, rest, low, past)
  | inr there ↦ omega (arith, low-there p a there, sum-low p (a + 1) n (omega (arith, there)) (omega (arith, high)))
]
