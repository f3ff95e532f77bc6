-- What a change of a list is behind its first elements, which are gone.
use Rattle.std.proofs.Common.{◌≡◌, ℕ, ◌+◌, ◌-◌, ◌<◌, ◌≤◌, zero, suc, List, [], ◌∷◌, ◌++◌, length, take, drop, refl, ap, sym, ◌∙◌, arith}
use Rattle.std.specs.List.{insert, remove}
use Rattle.std.proofs.lemmas.List.{append_assoc, length-drop, length-take-le, take-take, drop-drop, drop_at}
use borrow.Rule.Slice.PartMut.{put_mid}

module _ {X : Type 0} where
  pub insert-gone : (gone i : ℕ) (xs : List X) (x : X) → gone ≤ length xs → drop gone (insert xs (gone + i) x) ≡ insert (drop gone xs) i x
  insert-gone zero i xs x h =
      let on : zero + i ≡ i = omega arith in
      ap (λ k. insert xs k x) on
  insert-gone (suc gone) i [] x h = absurd (omega arith)
  insert-gone (suc gone) i (y ∷ ys) x h =
      let on : suc gone + i ≡ suc (gone + i) = omega arith in
      ap (λ k. drop (suc gone) (insert (y ∷ ys) k x)) on ∙ insert-gone gone i ys x (omega arith)

  pub remove-gone : (gone i : ℕ) (xs : List X) → gone ≤ length xs → drop gone (remove xs (gone + i)) ≡ remove (drop gone xs) i
  remove-gone zero i xs h =
      let on : zero + i ≡ i = omega arith in
      ap (λ k. remove xs k) on
  remove-gone (suc gone) i [] h = absurd (omega arith)
  remove-gone (suc gone) i (y ∷ ys) h =
      let on : suc gone + i ≡ suc (gone + i) = omega arith in
      ap (λ k. drop (suc gone) (remove (y ∷ ys) k)) on ∙ remove-gone gone i ys (omega arith)

  -- after `s[from..from + count + 1].rotate_right(1)`, from one place later on: the first elements moved up over the last
  pub rotated-gone : (from count k : ℕ) (xs ys : List X) → from + count < length xs → k ≡ count + 1
      → ys ≡ drop (length (take k (drop from xs)) - 1) (take k (drop from xs)) ++ take (length (take k (drop from xs)) - 1) (take k (drop from xs))
      → drop (from + 1) (put_mid from k xs ys) ≡ remove (drop from xs) count
  rotated-gone from count k xs ys inside is turned =
      let zs = drop from xs in
      let long : length zs ≡ length xs - from = length-drop from xs in
      let mid : length (take k zs) ≡ k = length-take-le k zs (omega (arith, long, inside, is)) in
      let last : length (take k zs) - 1 ≡ count = omega (arith, mid, is) in
      let one : length (drop count (take k zs)) ≡ 1 = length-drop count (take k zs) ∙ omega (arith, mid, is) in
      let first : take count (take k zs) ≡ take count zs = take-take count k zs (omega (arith, is)) in
      let parts : ys ≡ drop count (take k zs) ++ take count zs =
      turned ∙ ap (λ n. drop n (take k zs) ++ take n (take k zs)) last ∙ ap (λ l. drop count (take k zs) ++ l) first in
      let behind : drop k zs ≡ drop (suc count) zs = let on : k ≡ suc count = omega (arith, is) in ap (λ n. drop n zs) on in
      sym (drop-drop 1 from (put_mid from k xs ys))
      ∙ ap (drop 1) (drop_at (take from xs) (ys ++ drop k zs) from (length-take-le from xs (omega (arith, inside))))
      ∙ ap (λ l. drop 1 (l ++ drop k zs)) parts
      ∙ ap (drop 1) (append_assoc (drop count (take k zs)) (take count zs) (drop k zs))
      ∙ drop_at (drop count (take k zs)) (take count zs ++ drop k zs) 1 one
      ∙ ap (λ l. take count zs ++ l) behind

  -- one place later on, the first element is gone
  pub first-gone : (from count : ℕ) (xs : List X) → count ≤ 0 → drop (from + 1) xs ≡ remove (drop from xs) count
  first-gone from count xs none =
      let is : count ≡ 0 = omega (arith, none) in
      sym (drop-drop 1 from xs) ∙ (one (drop from xs) ∙ ap (λ n. remove (drop from xs) n) (sym is))
    where
      one : (zs : List X) → drop 1 zs ≡ remove zs 0
      one [] = refl
      one (z ∷ zs) = refl
