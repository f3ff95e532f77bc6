-- The bytes of a number of few digits, behind a space.
use Rattle.std.proofs.Common.{◌≡◌, ℕ, ◌+◌, ◌/◌, ◌%◌, ◌<◌, ◌≤◌, List, [], ◌∷◌, ◌++◌, cond, Result, Ok, Err, OnOk, sym, ap, ◌∙◌, append-nil, arith}
use Rattle.std.specs.Prelude.{is_ok}
use Rattle.std.specs.Fmt.{decimal}
use Rattle.std.proofs.lemmas.Fmt.{decimal_digit, decimal_step}
use Rattle.audit_text.specs.Lines.{spaced}

two_digits : (n : ℕ) → 10 ≤ n → n < 100 → decimal n ≡ (48 + n / 10) ∷ (48 + n % 10) ∷ []
two_digits n high low =
    decimal_step n high (omega (arith, low))
    ∙ ap (λ (ds : List ℕ). ds ++ (48 + n % 10) ∷ []) (decimal_digit (n / 10) (omega (arith, low)))

three_digits : (n : ℕ) → 100 ≤ n → n < 1000 → decimal n ≡ (48 + n / 10 / 10) ∷ (48 + n / 10 % 10) ∷ (48 + n % 10) ∷ []
three_digits n high low =
    decimal_step n (omega (arith, high)) (omega (arith, low))
    ∙ ap (λ (ds : List ℕ). ds ++ (48 + n % 10) ∷ []) (two_digits (n / 10) (omega (arith, high)) (omega (arith, low)))

behind_space : (n : ℕ) (ds : List ℕ) → decimal n ≡ ds → spaced (n ∷ []) ≡ 32 ∷ ds
behind_space n ds is = ap (λ (xs : List ℕ). 32 ∷ xs) (append-nil (decimal n) ∙ is)

-- what is pushed, if it is
pushed : {T E : Type 0} (r : Result T E) (n : ℕ) (old new ds : List ℕ) → new ≡ cond (is_ok r) (old ++ 32 ∷ ds) old → decimal n ≡ ds
    → OnOk r (new ≡ old ++ spaced (n ∷ []))
pushed (Ok t) n old new ds e is = e ∙ ap (λ (xs : List ℕ). old ++ xs) (sym (behind_space n ds is))
pushed (Err t) n old new ds e is = tt

pub one_pushed : {T E : Type 0} (r : Result T E) (n a : ℕ) (old new : List ℕ) → n < 10 → a ≡ 48 + n
    → new ≡ cond (is_ok r) (old ++ 32 ∷ a ∷ []) old → OnOk r (new ≡ old ++ spaced (n ∷ []))
one_pushed r n a old new low is e = pushed r n old new (a ∷ []) e (decimal_digit n low ∙ ap (λ (x : ℕ). x ∷ []) (sym is))

pub two_pushed : {T E : Type 0} (r : Result T E) (n a b : ℕ) (old new : List ℕ) → 10 ≤ n → n < 100 → a ≡ 48 + n / 10 → b ≡ 48 + n % 10
    → new ≡ cond (is_ok r) (old ++ 32 ∷ a ∷ b ∷ []) old → OnOk r (new ≡ old ++ spaced (n ∷ []))
two_pushed r n a b old new high low is_a is_b e =
    pushed r n old new (a ∷ b ∷ []) e
    (two_digits n high low ∙ ap (λ (x : ℕ). x ∷ (48 + n % 10) ∷ []) (sym is_a) ∙ ap (λ (y : ℕ). a ∷ y ∷ []) (sym is_b))

pub three_pushed : {T E : Type 0} (r : Result T E) (n a b d : ℕ) (old new : List ℕ) → 100 ≤ n → n < 1000 → a ≡ 48 + n / 10 / 10
    → b ≡ 48 + n / 10 % 10 → d ≡ 48 + n % 10 → new ≡ cond (is_ok r) (old ++ 32 ∷ a ∷ b ∷ d ∷ []) old
    → OnOk r (new ≡ old ++ spaced (n ∷ []))
three_pushed r n a b d old new high low is_a is_b is_d e =
    pushed r n old new (a ∷ b ∷ d ∷ []) e
    (three_digits n high low ∙ ap (λ (x : ℕ). x ∷ (48 + n / 10 % 10) ∷ (48 + n % 10) ∷ []) (sym is_a)
    ∙ ap (λ (y : ℕ). a ∷ y ∷ (48 + n % 10) ∷ []) (sym is_b) ∙ ap (λ (z : ℕ). a ∷ b ∷ z ∷ []) (sym is_d))
