-- Going through a list in its order: what is left behind the element that was met last.
use Rattle.std.proofs.Common.{◌≡◌, ℕ, suc, zero, ◌+◌, ◌-◌, ◌<◌, ◌≤◌, Bool, true, false, cond, find, length, map, List, [], ◌∷◌, ◌++◌, Option, Some, None, refl, sym, ap, subst, ◌∙◌, arith, append_assoc}
use Rattle.std.specs.List.{AllByRecursion, filter, flat_map, range_with_len}
use Rattle.std.proofs.lemmas.List.{append-nil}
use Rattle.std.proofs.lemmas.Bool.{both_ways}

-- ---- lists of which each element passes a test, or none does

all_pass : {X : Type 0} (test : X → Bool) (xs : List X) → AllByRecursion (λ x. test x ≡ true) xs → filter test xs ≡ xs
all_pass test [] h = refl
all_pass test (x ∷ xs) h = rw h.0 (ap (λ ys. x ∷ ys) (all_pass test xs h.1))

pub none_pass : {X : Type 0} (test : X → Bool) (xs : List X) → find test xs ≡ None → filter test xs ≡ []
none_pass test [] e = refl
none_pass test (x ∷ xs) e = by_test (test x) refl e (λ f. none_pass test xs f)
  where
    by_test : (t : Bool) → test x ≡ t → cond t (Some x) (find test xs) ≡ None → (find test xs ≡ None → filter test xs ≡ []) → filter test (x ∷ xs) ≡ []
    by_test true is e rest = absurd (cc)
    by_test false is e rest = rw is (rest e)

-- what holds of all holds of the one that is found
found_has : {X : Type 0} (P : X → Type 0) (test : X → Bool) (xs : List X) (x : X) → AllByRecursion P xs → find test xs ≡ Some x → P x
found_has {X} P test [] x h e = absurd (cc)
found_has {X} P test (y ∷ ys) x h e = by_test (test y) e (λ f. found_has P test ys x h.1 f)
  where
    by_test : (t : Bool) → cond t (Some y) (find test ys) ≡ Some x → (find test ys ≡ Some x → P x) → P x
    by_test true e rest =
        let same : y ≡ x = cc in
        subst (λ (z : X). P z) same h.0
    by_test false e rest = rest e

-- ---- what is left behind the key of the last one

module _ {X K : Type 0} (key : X → K) (left : Option K → X → Bool) (none : (x : X) → left None x ≡ true) (self : (x : X) → left (Some (key x)) x ≡ false)
    (on : (k : K) (x y : X) → left (Some k) x ≡ true → left (Some (key x)) y ≡ true → left (Some k) y ≡ true) where
  -- each element comes before those behind it
  abbrev pub Rises : List X → Type 0
  Rises [] = Unit {0}
  Rises (x ∷ xs) = AllByRecursion (λ y. left (Some (key x)) y ≡ true) xs × Rises xs

  not_back : (x y : X) → left (Some (key y)) x ≡ true → left (Some (key x)) y ≡ false
  not_back x y h = by_test (left (Some (key x)) y) refl
    where
      by_test : (t : Bool) → left (Some (key x)) y ≡ t → left (Some (key x)) y ≡ false
      by_test false is = is
      by_test true is = absurd (both_ways (left (Some (key y)) y) (self y) (on (key y) x y h is))

  all_on : (last : Option K) (y : X) (ys : List X) → left last y ≡ true → AllByRecursion (λ z. left (Some (key y)) z ≡ true) ys
      → AllByRecursion (λ z. left last z ≡ true) ys
  all_on last y [] is h = tt
  all_on last y (z ∷ zs) is h = (one last is, all_on last y zs is h.1)
    where
      one : (o : Option K) → left o y ≡ true → left o z ≡ true
      one None e = none z
      one (Some k) e = on k y z e h.0

  here : (last : Option K) (y : X) (ys : List X) → Rises (y ∷ ys) → left last y ≡ true
      → filter (left last) (y ∷ ys) ≡ y ∷ filter (left (Some (key y))) (y ∷ ys)
  here last y ys s is =
      let all : filter (left last) ys ≡ ys = all_pass (left last) ys (all_on last y ys is s.0) in
      let rest : filter (left (Some (key y))) ys ≡ ys = all_pass (left (Some (key y))) ys s.0 in
      rw (is, self y) (ap (λ zs. y ∷ zs) (all ∙ sym rest))

  -- the next one, and what is left behind it
  pub next_left : (last : Option K) (xs : List X) (x : X) → Rises xs → find (left last) xs ≡ Some x
      → filter (left last) xs ≡ x ∷ filter (left (Some (key x))) xs
  next_left last [] x s e = absurd (cc)
  next_left last (y ∷ ys) x s e = by_test (left last y) refl e (λ f. next_left last ys x s.1 f)
    where
      by_test : (t : Bool) → left last y ≡ t → cond t (Some y) (find (left last) ys) ≡ Some x
          → (find (left last) ys ≡ Some x → filter (left last) ys ≡ x ∷ filter (left (Some (key x))) ys)
          → filter (left last) (y ∷ ys) ≡ x ∷ filter (left (Some (key x))) (y ∷ ys)
      by_test true is e rest =
          let same : y ≡ x = cc in
          subst (λ (z : X). filter (left last) (y ∷ ys) ≡ z ∷ filter (left (Some (key z))) (y ∷ ys)) same (here last y ys s is)
      by_test false is e rest =
          let ahead : left (Some (key y)) x ≡ true = found_has (λ z. left (Some (key y)) z ≡ true) (left last) ys x s.0 e in
          rw (is, not_back x y ahead) (rest e)

  -- at first all are left
  pub all_left : (xs : List X) → filter (left None) xs ≡ xs
  all_left [] = refl
  all_left (x ∷ xs) = rw (none x) (ap (λ ys. x ∷ ys) (all_left xs))

  -- fewer are left behind each
  pub fewer_left : (last : Option K) (xs : List X) (x : X) → Rises xs → find (left last) xs ≡ Some x
      → length (filter (left (Some (key x))) xs) < length (filter (left last) xs)
  fewer_left last xs x s e =
      let longer : length (filter (left last) xs) ≡ length (x ∷ filter (left (Some (key x))) xs) = ap length (next_left last xs x s e) in
      omega (arith, longer)

-- ---- what goes out for the numbers of a range, one after another

one_more : {X : Type 0} (f : ℕ → X) (a n : ℕ) → map f (range_with_len a (suc n)) ≡ map f (range_with_len a n) ++ f (a + n) ∷ []
one_more f a zero = let e : a + 0 ≡ a = omega arith in rw e refl
one_more f a (suc n) =
    let e : a + 1 + n ≡ a + suc n = omega arith in
    ap (λ ys. f a ∷ ys) (one_more f (a + 1) n ∙ ap (λ (m : ℕ). map f (range_with_len (a + 1) n) ++ f m ∷ []) e)

pub range_on : {X : Type 0} (f : ℕ → X) (before now after : List X) (k : ℕ) → 1 ≤ k → now ≡ before ++ map f (range_with_len 1 (k - 1)) → after ≡ now ++ f k ∷ []
    → after ≡ before ++ map f (range_with_len 1 (k + 1 - 1))
range_on f before now after k some e is =
    let here : 1 + (k - 1) ≡ k = omega (arith, some) in
    let next : suc (k - 1) ≡ k + 1 - 1 = omega (arith, some) in
    is ∙ (ap (λ ys. ys ++ f k ∷ []) e ∙ (append_assoc before (map f (range_with_len 1 (k - 1))) (f k ∷ [])
    ∙ (ap (λ (m : ℕ). before ++ (map f (range_with_len 1 (k - 1)) ++ f m ∷ [])) (sym here)
    ∙ (ap (λ ys. before ++ ys) (sym (one_more f 1 (k - 1))) ∙ ap (λ (m : ℕ). before ++ map f (range_with_len 1 m)) next))))

pub range_done : {X : Type 0} (f : ℕ → X) (before now : List X) (k n : ℕ) → k ≡ n + 1 → now ≡ before ++ map f (range_with_len 1 (k - 1))
    → now ≡ before ++ map f (range_with_len 1 n)
range_done f before now k n e is =
    let same : k - 1 ≡ n = omega (arith, e) in
    is ∙ ap (λ (m : ℕ). before ++ map f (range_with_len 1 m)) same

-- ---- what goes out for the elements of a list, one after another

pub flat_on : {X Y : Type 0} (f : X → List Y) (x : X) (rest all : List X) (before now after : List Y) (was : List X) → was ≡ x ∷ rest
    → now ++ flat_map f was ≡ before ++ flat_map f all → after ≡ now ++ f x → after ++ flat_map f rest ≡ before ++ flat_map f all
flat_on {X} f x rest all before now after was parts e is =
    ap (λ ys. ys ++ flat_map f rest) is ∙ (append_assoc now (f x) (flat_map f rest)
    ∙ (ap (λ (zs : List X). now ++ flat_map f zs) (sym parts) ∙ e))

-- ---- what is made for each row in turn

pub row_on : {X : Type 0} (f : ℕ → X) (now after : List X) (row : ℕ) (x : X) → now ≡ map f (range_with_len 0 row) → after ≡ now ++ x ∷ [] → x ≡ f row
    → after ≡ map f (range_with_len 0 (row + 1))
row_on f now after row x e is at =
    let next : suc row ≡ row + 1 = omega arith in
    let here : row ≡ 0 + row = omega arith in
    is ∙ (ap (λ ys. ys ++ x ∷ []) e ∙ (ap (λ y. map f (range_with_len 0 row) ++ y ∷ []) (at ∙ ap f here)
    ∙ (sym (one_more f 0 row) ∙ ap (λ (m : ℕ). map f (range_with_len 0 m)) next)))

pub map_map : {X Y Z : Type 0} (f : Y → Z) (g : X → Y) (xs : List X) → map (λ x. f (g x)) xs ≡ map f (map g xs)
map_map f g [] = refl
map_map f g (x ∷ xs) = ap (λ ys. f (g x) ∷ ys) (map_map f g xs)

pub flat_done : {X Y : Type 0} (f : X → List Y) (all : List X) (before now : List Y) (was : List X) → was ≡ [] → now ++ flat_map f was ≡ before ++ flat_map f all
    → now ≡ before ++ flat_map f all
flat_done {X} f all before now was parts e =
    sym (append-nil now) ∙ (ap (λ (zs : List X). now ++ flat_map f zs) (sym parts) ∙ e)
