-- Lists of which only the first elements count.
use Rattle.std.proofs.Common.{◌≡◌, ℕ, zero, suc, ◌≤◌, List, [], ◌∷◌, ◌++◌, length, take, refl, ap, arith}

-- lists that begin with the same elements do so with more behind them
pub same_more : {X : Type 0} (n : ℕ) (xs ys zs : List X) → take n xs ≡ take n ys → take n (xs ++ zs) ≡ take n (ys ++ zs)
same_more zero xs ys zs e = refl
same_more (suc n) [] [] zs e = refl
same_more (suc n) [] (y ∷ ys) zs e = absurd (cc)
same_more (suc n) (x ∷ xs) [] zs e = absurd (cc)
same_more (suc n) (x ∷ xs) (y ∷ ys) zs e =
    let head : x ≡ y = cc in
    let tail : take n xs ≡ take n ys = cc in
    rw (head, same_more n xs ys zs tail) refl

-- what stands behind so many elements is not among the first ones
pub not_more : {X : Type 0} (n : ℕ) (xs ys zs : List X) → n ≤ length ys → take n ys ≡ take n xs → take n (xs ++ zs) ≡ take n xs
not_more zero xs ys zs low e = refl
not_more (suc n) xs [] zs low e = absurd (omega (arith, low))
not_more (suc n) [] (y ∷ ys) zs low e = absurd (cc)
not_more (suc n) (x ∷ xs) (y ∷ ys) zs low e =
    let tail : take n ys ≡ take n xs = cc in
    ap (λ us. x ∷ us) (not_more n xs ys zs (omega (arith, low)) tail)

-- fewer are the same too
pub same_fewer : {X : Type 0} (n : ℕ) (xs ys : List X) → take (suc n) xs ≡ take (suc n) ys → take n xs ≡ take n ys
same_fewer zero xs ys e = refl
same_fewer (suc n) [] [] e = refl
same_fewer (suc n) [] (y ∷ ys) e = absurd (cc)
same_fewer (suc n) (x ∷ xs) [] e = absurd (cc)
same_fewer (suc n) (x ∷ xs) (y ∷ ys) e =
    let head : x ≡ y = cc in
    let tail : take (suc n) xs ≡ take (suc n) ys = cc in
    rw (head, same_fewer n xs ys tail) refl
