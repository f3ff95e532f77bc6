-- What a loop over a range adds to a list.
use Rattle.std.proofs.Common.{◌≡◌, ℕ, ◌+◌, ◌-◌, ◌≤◌, arith, List, [], ◌∷◌, ◌++◌, map, sym, ap, ◌∙◌}
use Rattle.std.specs.List.{flat_map, range_with_len}
use Rattle.std.proofs.lemmas.List.{append-nil}
use Rattle.std.proofs.lemmas.List.Concat.{flat_map-append}
use Rattle.std.proofs.lemmas.List.Folds.{flat_map-map}
use Rattle.std.proofs.lemmas.List.FromFn.{map-range_with_len_more}

pub flat_map-range_with_len_more : {A : Type 0} (f : ℕ → List A) (a n j : ℕ) → a + n ≡ j
    → flat_map f (range_with_len a (n + 1)) ≡ flat_map f (range_with_len a n) ++ f j
flat_map-range_with_len_more f a n j e =
    sym (flat_map-map f (λ (k : ℕ). k) (range_with_len a (n + 1)))
    ∙ ap (flat_map f) (map-range_with_len_more (λ (k : ℕ). k) a n j e)
    ∙ flat_map-append f (map (λ (k : ℕ). k) (range_with_len a n)) (j ∷ [])
    ∙ ap (λ (front : List _). front ++ (f j ++ [])) (flat_map-map f (λ (k : ℕ). k) (range_with_len a n))
    ∙ ap (λ (rest : List _). flat_map f (range_with_len a n) ++ rest) (append-nil (f j))

-- a turn of the loop at j
pub flat_map-range_with_len_push : {A : Type 0} (f : ℕ → List A) (a j : ℕ) (old new : List A) → a ≤ j → old ≡ flat_map f (range_with_len a (j - a))
    → new ≡ old ++ f j → new ≡ flat_map f (range_with_len a (j + 1 - a))
flat_map-range_with_len_push f a j old new le before step =
    let n : j + 1 - a ≡ (j - a) + 1 = omega arith in
    rw n (step ∙ ap (λ (front : List _). front ++ f j) before ∙ sym (flat_map-range_with_len_more f a (j - a) j (omega arith)))

-- a turn of a loop that pushes one element
pub map_push : {A : Type 0} (f : ℕ → A) (n : ℕ) (old new : List A) (x : A) → old ≡ map f (range_with_len 0 n) → new ≡ old ++ x ∷ [] → x ≡ f n
    → new ≡ map f (range_with_len 0 (n + 1))
map_push f n old new x before step is =
    step ∙ ap (λ (front : List _). front ++ x ∷ []) before ∙ ap (λ y. map f (range_with_len 0 n) ++ y ∷ []) is
    ∙ sym (map-range_with_len_more f 0 n n (omega arith))
