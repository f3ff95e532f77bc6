-- The numbers of a line are those that were written into it.
use Rattle.std.proofs.Common.{◌≡◌, ℕ, ◌+◌, ◌-◌, ◌*◌, ◌/◌, ◌%◌, ◌^◌, ◌<◌, ◌≤◌, Bool, true, false, List, [], ◌∷◌, ◌++◌, refl, sym, ap, ◌∙◌, arith, eqb, append_assoc, append-nil}
use Rattle.std.specs.List.{fold, AllByRecursion}
use Rattle.std.specs.Fmt.{decimal}
use Rattle.std.proofs.lemmas.Bool.{eqb-true}
use Rattle.std.proofs.lemmas.Fmt.{decimal_by_steps}
use Rattle.std.proofs.lemmas.List.Sums.{fold-append}
use Rattle.audit_text.specs.Lines.{spaced}
use Rattle.audit_text.specs.Fits.{IsLong}
use Rattle.audit_text.specs.Scanning.{Scanned, scanned, closed}

-- in the middle of a number
abbrev amid : List ℕ → ℕ → Scanned
amid ns n = record { numbers = ns; begun = true; current = n }

no_space : (d : ℕ) → eqb (48 + d) 32 ≡ false
no_space d = go (eqb (48 + d) 32) refl where
  go : (b : Bool) → eqb (48 + d) 32 ≡ b → b ≡ false
  go false h = refl
  go true h = absurd (omega (arith, eqb-true (48 + d) 32 h))

digit_more : (ns : List ℕ) (m d : ℕ) → m * 10 + d < 2 ^ 64 → scanned (amid ns m) (48 + d) ≡ amid ns (m * 10 + d)
unfolding scanned
digit_more ns m d small =
    let same : (m * 10 + (48 + d - 48)) % 2 ^ 64 ≡ m * 10 + d = omega (arith, small) in
    rw (no_space d, same) refl

-- these digits are read as this number
abbrev AreRead : ℕ → List ℕ → Type 0
AreRead n digits = n < 2 ^ 64 → (ns : List ℕ) → fold scanned (amid ns 0) digits ≡ amid ns n

one_digit : (n : ℕ) → n < 10 → AreRead n ((48 + n) ∷ [])
one_digit n low small ns = digit_more ns 0 n (omega (arith, small)) ∙ ap (λ (m : ℕ). amid ns m) (from_zero n) where
  from_zero : (k : ℕ) → 0 * 10 + k ≡ k
  from_zero k = omega arith

more_digits : (n : ℕ) (digits : List ℕ) → 10 ≤ n → AreRead (n / 10) digits → AreRead n (digits ++ (48 + n % 10) ∷ [])
more_digits n digits high before small ns =
    let whole : n / 10 * 10 + n % 10 ≡ n = omega arith in
    rw (fold-append scanned (amid ns 0) digits ((48 + n % 10) ∷ []), before (omega (arith, small)) ns)
    (digit_more ns (n / 10) (n % 10) (omega (arith, small, whole)) ∙ ap (λ (m : ℕ). amid ns m) whole)

number_read : (n : ℕ) → n < 2 ^ 64 → (ns : List ℕ) → fold scanned (amid ns 0) (decimal n) ≡ amid ns n
number_read n small = decimal_by_steps AreRead one_digit more_digits n small small

space_more : (s : Scanned) → scanned s 32 ≡ amid (closed s) 0
unfolding scanned
space_more s = refl

pub numbers_read : (ns : List ℕ) → AllByRecursion IsLong ns → (s : Scanned) → closed (fold scanned s (spaced ns)) ≡ closed s ++ ns
numbers_read [] fit s = sym (append-nil (closed s))
numbers_read (n ∷ ns) fit s =
    rw (fold-append scanned (scanned s 32) (decimal n) (spaced ns), space_more s, number_read n fit.0 (closed s), numbers_read ns fit.1 (amid (closed s) n))
    (append_assoc (closed s) (n ∷ []) ns)
