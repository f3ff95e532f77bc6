-- Lists from which elements are removed, from the last to the first.
use Rattle.std.proofs.Common.{◌≡◌, ℕ, ◌+◌, ◌-◌, ◌<◌, ◌≤◌, Bool, true, false, cond, not, List, [], ◌∷◌, ◌++◌, length, get_or, take, drop, count_by, refl, ap, sym, ◌∙◌, arith, add-one, drop-cons, append_assoc, length-take-le}
use Rattle.std.specs.List.{filter, remove}
use Rattle.std.proofs.Math.ListN.{get_or-append}
use Rattle.std.proofs.Math.Seq.{take-suc}
use Rattle.std.proofs.lemmas.List.{get_or-take}
use Rattle.std.proofs.lemmas.List.Sums.{sum_by-cons}
use Rattle.partial_view.proofs.Calls.{remove_at}

module _ {X : Type 0} (test : X → Bool) where
  -- what is left when all from an index on have been looked at
  abbrev pub left_from : List X → ℕ → List X
  left_from xs i = take i xs ++ filter (λ x. not (test x)) (drop i xs)

  parts-at : (xs : List X) (i : ℕ) (d : X) → i < length xs → drop i xs ≡ get_or xs i d ∷ drop (i + 1) xs
  parts-at xs i d l = rw add-one (drop-cons xs i d l)

  front-at : (xs : List X) (i : ℕ) (d : X) → i < length xs → take (i + 1) xs ≡ take i xs ++ get_or xs i d ∷ []
  front-at xs i d l = rw add-one (take-suc xs i d l)

  -- the element below the index is still the one that was there
  left_at : (xs now : List X) (i : ℕ) (d : X) → i < length xs → now ≡ left_from xs (i + 1) → get_or now i d ≡ get_or xs i d
  left_at xs now i d l e =
      ap (λ (zs : List X). get_or zs i d) e
      ∙ get_or-append (take (i + 1) xs) (filter (λ x. not (test x)) (drop (i + 1) xs)) d i (omega (arith, length-take-le (i + 1) xs (omega arith)))
      ∙ get_or-take (i + 1) xs i d (omega arith)

  -- what has been looked at from an index on: what is left, and how many are gone
  pub record IsLeft (xs now : List X) (count i : ℕ) : Type 0 where
    pub bound : i ≤ length xs
    pub rest : now ≡ left_from xs i
    pub number : count ≡ count_by test (drop i xs)

  module _ (xs now : List X) (count n : ℕ) (y d : X) (some : 0 < n) (bound : n ≤ length xs) (rest : now ≡ left_from xs n) (number : count ≡ count_by test (drop n xs)) (at : y ≡ get_or now (n - 1) d) where
    back : n ≡ n - 1 + 1
    back = omega (arith, some)

    rest_at : now ≡ left_from xs (n - 1 + 1)
    rest_at = rest ∙ ap (λ (m : ℕ). left_from xs m) back

    here : get_or xs (n - 1) d ≡ y
    here = sym (left_at xs now (n - 1) d (omega (arith, some, bound)) rest_at) ∙ sym at

    parts : drop (n - 1) xs ≡ y ∷ drop (n - 1 + 1) xs
    parts = parts-at xs (n - 1) d (omega (arith, some, bound)) ∙ ap (λ z. z ∷ drop (n - 1 + 1) xs) here

    front : take (n - 1 + 1) xs ≡ take (n - 1) xs ++ y ∷ []
    front = front-at xs (n - 1) d (omega (arith, some, bound)) ∙ ap (λ z. take (n - 1) xs ++ z ∷ []) here

    now_is : now ≡ take (n - 1) xs ++ y ∷ filter (λ x. not (test x)) (drop (n - 1 + 1) xs)
    now_is = rest_at ∙ (ap (λ zs. zs ++ filter (λ x. not (test x)) (drop (n - 1 + 1) xs)) front ∙ append_assoc (take (n - 1) xs) (y ∷ []) (filter (λ x. not (test x)) (drop (n - 1 + 1) xs)))

    counted : count ≡ count_by test (drop (n - 1 + 1) xs)
    counted = number ∙ ap (λ (m : ℕ). count_by test (drop m xs)) back

    count_is : count_by test (drop (n - 1) xs) ≡ cond (test y) 1 0 + count_by test (drop (n - 1 + 1) xs)
    count_is = ap (count_by test) parts ∙ sum_by-cons (λ x. cond (test x) 1 0) y (drop (n - 1 + 1) xs)

    -- one element more, which does not pass, and stays
    pub left_next : test y ≡ false → IsLeft xs now count (n - 1)
    left_next t = record {
      bound = omega (arith, bound);
      rest = now_is ∙ sym (ap (λ zs. take (n - 1) xs ++ filter (λ x. not (test x)) zs) parts ∙ rw t refl);
      number = omega (arith, counted, count_is, ap {B = ℕ} (λ b. cond b 1 0) t);
    }

    -- one that passes, and is removed
    pub left_gone : (after : List X) → after ≡ remove now (n - 1) → test y ≡ true → IsLeft xs after (count + 1) (n - 1)
    left_gone after e t = record {
      bound = omega (arith, bound);
      rest = e ∙ (ap (λ zs. remove zs (n - 1)) now_is ∙ (remove_at (take (n - 1) xs) y (filter (λ x. not (test x)) (drop (n - 1 + 1) xs)) (n - 1) (length-take-le (n - 1) xs (omega (arith, bound)))
          ∙ sym (ap (λ zs. take (n - 1) xs ++ filter (λ x. not (test x)) zs) parts ∙ rw t refl)));
      number = omega (arith, counted, count_is, ap {B = ℕ} (λ b. cond b 1 0) t);
    }

  -- nothing has been looked at, and all has
  pub left_first : (xs : List X) (n : ℕ) → n ≡ length xs → IsLeft xs xs 0 n
  left_first xs n e = record {
    bound = omega (arith, e);
    rest = sym (ap (λ m. left_from xs m) e ∙ all xs);
    number = sym (ap (λ m. count_by test (drop m xs)) e ∙ no_more xs);
  }
    where
      all : (ys : List X) → left_from ys (length ys) ≡ ys
      all [] = refl
      all (y ∷ ys) = ap (λ zs. y ∷ zs) (all ys)

      no_more : (ys : List X) → count_by test (drop (length ys) ys) ≡ 0
      no_more [] = refl
      no_more (y ∷ ys) = no_more ys
