-- Lists from which elements are removed, from the last to the first.
use Rattle.std.proofs.Common.{◌≡◌, ℕ, ◌+◌, ◌-◌, ◌<◌, ◌≤◌, Bool, false, cond, not, List, [], ◌∷◌, ◌++◌, length, get_or, take, drop, count_by, ap, sym, ◌∙◌, arith, add-one, drop-cons, append_assoc, length-take-le}
use Rattle.std.specs.List.{filter, fold}
use Rattle.std.proofs.Math.ListN.{get_or-append}
use Rattle.std.proofs.Math.Seq.{take-suc}
use Rattle.std.proofs.lemmas.List.{get_or-take}

module _ {X : Type 0} (test : X → Bool) where
  -- what is left when all from an index on have been looked at
  abbrev pub left_from : List X → ℕ → List X
  left_from xs i = take i xs ++ filter (λ x. not (test x)) (drop i xs)

  -- an element that does not pass stays
  pub left_stays : (xs : List X) (i : ℕ) (d : X) → i < length xs → test (get_or xs i d) ≡ false → left_from xs (i + 1) ≡ left_from xs i
  left_stays xs i d l t =
      let parts : drop i xs ≡ get_or xs i d ∷ drop (i + 1) xs = rw add-one (drop-cons xs i d l) in
      let front : take (i + 1) xs ≡ take i xs ++ get_or xs i d ∷ [] = rw add-one (take-suc xs i d l) in
      rw (front, parts, t) (append_assoc (take i xs) (get_or xs i d ∷ []) (filter (λ x. not (test x)) (drop (i + 1) xs)))

  -- the element below the index is still the one that was there
  pub left_at : (xs now : List X) (i : ℕ) (d : X) → i < length xs → now ≡ left_from xs (i + 1) → get_or now i d ≡ get_or xs i d
  left_at xs now i d l e =
      ap (λ (zs : List X). get_or zs i d) e
      ∙ get_or-append (take (i + 1) xs) (filter (λ x. not (test x)) (drop (i + 1) xs)) d i (omega (arith, length-take-le (i + 1) xs (omega arith)))
      ∙ get_or-take (i + 1) xs i d (omega arith)

  count-no : (y : X) (ys : List X) → test y ≡ false → count_by test (y ∷ ys) ≡ count_by test ys
  count-no y ys t = ap (λ (b : Bool). fold (λ (a : ℕ) (x : X). a + cond (test x) 1 0) (0 + cond b 1 0) ys) t

  -- nor is it counted
  pub count_stays : (xs : List X) (i : ℕ) (d : X) → i < length xs → test (get_or xs i d) ≡ false → count_by test (drop (i + 1) xs) ≡ count_by test (drop i xs)
  count_stays xs i d l t =
      let parts : drop i xs ≡ get_or xs i d ∷ drop (i + 1) xs = rw add-one (drop-cons xs i d l) in
      sym (ap (count_by test) parts ∙ count-no (get_or xs i d) (drop (i + 1) xs) t)

  -- what has been looked at from an index on: what is left, and how many are gone
  pub record IsLeft (xs now : List X) (count i : ℕ) : Type 0 where
    pub bound : i ≤ length xs
    pub rest : now ≡ left_from xs i
    pub number : count ≡ count_by test (drop i xs)

  -- one element more, which does not pass
  pub left_next : (xs now : List X) (count n : ℕ) (y : X) → 0 < n → n ≤ length xs → now ≡ left_from xs n → count ≡ count_by test (drop n xs)
      → y ≡ get_or now (n - 1) y → test y ≡ false → IsLeft xs now count (n - 1)
  left_next xs now count n y some bound rest number at t =
      let i = n - 1 in
      let back : n ≡ i + 1 = omega arith in
      let l : i < length xs = omega arith in
      let rest_at : now ≡ left_from xs (i + 1) = rest ∙ ap (λ (m : ℕ). left_from xs m) back in
      let number_at : count ≡ count_by test (drop (i + 1) xs) = number ∙ ap (λ (m : ℕ). count_by test (drop m xs)) back in
      let same : get_or xs i y ≡ y = sym (left_at xs now i y l rest_at) ∙ sym at in
      let no : test (get_or xs i y) ≡ false = ap test same ∙ t in
      record {
        bound = omega arith;
        rest = rest_at ∙ left_stays xs i y l no;
        number = number_at ∙ count_stays xs i y l no;
      }
