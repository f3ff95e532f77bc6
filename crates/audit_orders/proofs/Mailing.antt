-- What the table of numbers has after one more.
use Rattle.std.proofs.Common.{◌≡◌, ℕ, zero, suc, ◌<◌, Bool, ◌==◌, cond, true, false, [], ◌∷◌, length, if◌then◌else◌, refl, ap, subst, ◌∙◌, arith}
use Rattle.std.proofs.lemmas.Bool.{eqb-true, eqb-false}
use Rattle.std.specs.Prelude.{slice_set}
use Rattle.audit_orders.specs.Carrying.{StreamCounts, count_under}

-- the number of a stream that has a place is set, and the others stay
put_here : (counts : StreamCounts) (i count : ℕ) → i < length counts → count_under i (slice_set counts i count) ≡ count
put_here [] i count low = absurd (omega (arith, low))
put_here (x ∷ xs) zero count low = refl
put_here (x ∷ xs) (suc i) count low = put_here xs i count (omega (arith, low))

put_beside : (counts : StreamCounts) (i n count : ℕ) → (i ≡ n → ⊥) → count_under n (slice_set counts i count) ≡ count_under n counts
put_beside [] i n count e = refl
put_beside (x ∷ xs) zero zero count e = absurd (e refl)
put_beside (x ∷ xs) zero (suc n) count e = refl
put_beside (x ∷ xs) (suc i) zero count e = refl
put_beside (x ∷ xs) (suc i) (suc n) count e = put_beside xs i n count (λ q. e (ap suc q))

put_count : (counts : StreamCounts) (stream s count : ℕ) → stream < length counts
    → count_under s (slice_set counts stream count) ≡ (if stream == s then count else count_under s counts)
put_count counts stream s count low = go (stream == s) refl where
  go : (b : Bool) → (stream == s) ≡ b → count_under s (slice_set counts stream count) ≡ cond b count (count_under s counts)
  go true e = subst (λ (n : ℕ). count_under n (slice_set counts stream count) ≡ count) (eqb-true stream s e) (put_here counts stream count low)
  go false e = put_beside counts stream s count (eqb-false stream s e)

pub count_set : (stream s count : ℕ) (old mid grown new : StreamCounts) → mid ≡ old → ((n : ℕ) → count_under n grown ≡ count_under n mid)
    → stream < length grown → new ≡ slice_set grown stream count → count_under s new ≡ (if stream == s then count else count_under s old)
count_set stream s count old mid grown new view same low is =
    ap (count_under s) is ∙ put_count grown stream s count low
    ∙ ap (λ (n : ℕ). cond (stream == s) count n) (same s ∙ ap (count_under s) view)
