-- What a test of the numbers below a bound comes to.
use Rattle.std.proofs.Common.{◌≡◌, ℕ, zero, suc, ◌<◌, Bool, true, false, ◌||◌, ◌&&◌, refl, ⊎_elim, arith}
use Rattle.std.proofs.lemmas.Bool.{cases_eq}
use Rattle.run_model.specs.Tests.{all_below, some_below}

and_false : (b : Bool) → (b && false) ≡ false
and_false true = refl
and_false false = refl

or_true : (b : Bool) → (b || true) ≡ true
or_true true = refl
or_true false = refl

-- one that fails settles it
pub all_below_fails : (test : ℕ → Bool) (n k : ℕ) → k < n → test k ≡ false → all_below test n ≡ false
all_below_fails test zero k l h = absurd (omega arith)
all_below_fails test (suc n) k l h = ⊎_elim
    (λ (e : k ≡ n). rw (← e, h) (and_false (all_below test k)))
    (λ (ne : k ≡ n → ⊥). rw (all_below_fails test n k (omega arith) h) refl)
    (cases_eq k n)

pub some_below_holds : (test : ℕ → Bool) (n k : ℕ) → k < n → test k ≡ true → some_below test n ≡ true
some_below_holds test zero k l h = absurd (omega arith)
some_below_holds test (suc n) k l h = ⊎_elim
    (λ (e : k ≡ n). rw (← e, h) (or_true (some_below test k)))
    (λ (ne : k ≡ n → ⊥). rw (some_below_holds test n k (omega arith) h) refl)
    (cases_eq k n)
