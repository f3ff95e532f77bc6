-- Numbers from one on.
use Rattle.std.proofs.Common.{◌≡◌, ◌∙◌, ℕ, zero, suc, ◌+◌, ◌-◌, ◌<◌, ◌≤◌, List, [], ◌∷◌, ◌++◌, length, sym, ap, refl, arith, append_assoc}
use Rattle.std.specs.Prelude.{slice_get}
use Rattle.std.specs.Option.{is_some}
use Rattle.std.specs.List.{range_with_len, fold}
use Rattle.std.specs.Prelude.{true}
use Rattle.std.proofs.lemmas.List.Sums.{fold_push}
use Rattle.net_read.specs.Plans.{NetSaid}
use Rattle.net_run.specs.Runs.{Running, stepped, begun, run_to}
use Rattle.net_run.specs.Sent.{AreBelow}
use Rattle.net_run.specs.Shortened.{renewed_by, renewed_in}

pub range_more : (a n : ℕ) → range_with_len a (n + 1) ≡ range_with_len a n ++ (a + n) ∷ []
range_more a zero = ap (λ (m : ℕ). m ∷ []) (omega arith)
range_more a (suc n) =
    let opened : suc n + 1 ≡ suc (n + 1) = omega arith in
    ap (range_with_len a) opened ∙ ap (λ (xs : List ℕ). a ∷ xs) (range_more (a + 1) n ∙ ap (λ (m : ℕ). range_with_len (a + 1) n ++ m ∷ []) (omega arith))

pub range_next : (n : ℕ) → range_with_len 0 (n + 1) ≡ range_with_len 0 n ++ n ∷ []
range_next n = range_more 0 n ∙ ap (λ (m : ℕ). range_with_len 0 n ++ m ∷ []) (omega arith)

-- one more number is put behind those so far
pub numbers_more : (old out new : List ℕ) (first n : ℕ) → first ≤ n → out ≡ old ++ range_with_len first (n - first) → new ≡ out ++ n ∷ [] → new ≡ old ++ range_with_len first (n + 1 - first)
numbers_more old out new first n low eo en =
    let count : n + 1 - first ≡ n - first + 1 = omega (arith, low) in
    let last : first + (n - first) ≡ n = omega (arith, low) in
    en ∙ ap (λ (xs : List ℕ). xs ++ n ∷ []) eo ∙ append_assoc old (range_with_len first (n - first)) (n ∷ [])
    ∙ ap (λ (xs : List ℕ). old ++ xs) (sym (ap (range_with_len first) count ∙ range_more first (n - first) ∙ ap (λ (m : ℕ). range_with_len first (n - first) ++ m ∷ []) last))

pub below_more : (n k : ℕ) (xs ys : List ℕ) → k < n → ys ≡ xs ++ k ∷ [] → AreBelow n xs → AreBelow n ys
below_more n k xs ys low e h = rw e (go xs h)
  where
    go : (zs : List ℕ) → AreBelow n zs → AreBelow n (zs ++ k ∷ [])
    go [] g = (low, tt)
    go (z ∷ zs) g = (g.0, go zs g.1)

pub below_up : (n m : ℕ) (xs : List ℕ) → n ≤ m → AreBelow n xs → AreBelow m xs
below_up n m [] le h = tt
below_up n m (x ∷ xs) le h = (omega (arith, le, h.0), below_up n m xs le h.1)

pub there : {X : Type 0} (xs : List X) (n : ℕ) → n < length xs → is_some (slice_get xs n) ≡ true
there [] n low = absurd (omega (arith, low))
there (x ∷ xs) zero low = refl
there (x ∷ xs) (suc n) low = there xs n (omega (arith, low))

-- one more cub renews
pub renewed_more : (left : ℕ) (r s : Running) (n : ℕ) → s ≡ renewed_in left r n → renewed_by left s n ≡ renewed_in left r (n + 1)
renewed_more left r s n e =
    ap (λ (q : Running). renewed_by left q n) e
    ∙ sym (ap (λ (cs : List ℕ). fold (renewed_by left) r cs) (range_next n) ∙ fold_push (renewed_by left) r (range_with_len 0 n) n)

-- one more step
pub run_more : (p : NetSaid) (r : Running) (i : ℕ) → r ≡ run_to p i → stepped p r i ≡ run_to p (i + 1)
unfolding run_to
run_more p r i e =
    ap (λ (q : Running). stepped p q i) e ∙ sym (ap (λ (xs : List ℕ). fold (stepped p) (begun p) xs) (range_next i) ∙ fold_push (stepped p) (begun p) (range_with_len 0 i) i)

pub run_first : (p : NetSaid) (r : Running) → r ≡ begun p → r ≡ run_to p 0
unfolding run_to
run_first p r e = e
