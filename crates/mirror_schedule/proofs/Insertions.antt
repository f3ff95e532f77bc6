-- Lists of any order whose elements are put in order, one after another.
use Rattle.std.proofs.Common.{◌≡◌, ℕ, ◌<◌, Bool, true, false, cond, List, [], ◌∷◌, length, get_or, zero, suc, find, Some, refl, ap, sym, subst, ◌∙◌, arith}
use Rattle.std.specs.List.{AllByRecursion, filter, insert, remove}
use Rattle.std.proofs.lemmas.Bool.{both_ways}
use Rattle.mirror_schedule.specs.Sorted.{IsSorted, with_one, in_order, without_first}
use Rattle.mirror_schedule.proofs.Orders.{IsOrder, all_filter, all_more, all_with_one, sorted_with_one}
use Rattle.mirror_schedule.proofs.Places.{all_at, asymmetric}

module _ {X : Type 0} where
  -- elements of which no two are one
  abbrev pub AreApart : List X → Type 0
  AreApart [] = Unit {0}
  AreApart (x ∷ xs) = AllByRecursion (λ y. x ≡ y → ⊥) xs × AreApart xs

  pub apart_filter : (keep : X → Bool) (xs : List X) → AreApart xs → AreApart (filter keep xs)
  apart_filter keep [] h = tt
  apart_filter keep (x ∷ xs) h = at (keep x) (apart_filter keep xs h.1)
    where
      at : (k : Bool) → AreApart (filter keep xs) → AreApart (cond k (x ∷ filter keep xs) (filter keep xs))
      at true rest = (all_filter (λ y. x ≡ y → ⊥) keep xs h.0, rest)
      at false rest = rest

  pub apart_remove : (xs : List X) (i : ℕ) (d : X) → AreApart xs → i < length xs → AllByRecursion (λ y. get_or xs i d ≡ y → ⊥) (remove xs i)
  apart_remove [] i d h l = absurd (omega arith)
  apart_remove (y ∷ ys) zero d h l = h.0
  apart_remove (y ∷ ys) (suc i) d h l =
      (λ e. all_at (λ z. y ≡ z → ⊥) ys i d h.0 (omega arith) (sym e), apart_remove ys i d h.1 (omega arith))

-- an order in which of two elements one comes before the other, if they are not one
module _ {X : Type 0} (before : X → X → Bool) (order : IsOrder before) (total : (x y : X) → before x y ≡ false → before y x ≡ false → x ≡ y) where
  three : (P : Type 0) (x y : X) → (before x y ≡ true → P) → (before y x ≡ true → P) → (x ≡ y → P) → P
  three P x y f g h = at (before x y) (before y x) refl refl
    where
      at : (a b : Bool) → before x y ≡ a → before y x ≡ b → P
      at true b e k = f e
      at false true e k = g k
      at false false e k = h (total x y e k)

  abbrev put : X → List X → List X
  put x xs = with_one before x xs

  -- an element put into a list that begins with one behind it, before it, or with itself
  front : (x z : X) (zs : List X) → before x z ≡ true → put x (z ∷ zs) ≡ x ∷ z ∷ zs
  front x z zs e = rw e refl

  behind : (x z : X) (zs : List X) → before z x ≡ true → put x (z ∷ zs) ≡ z ∷ put x zs
  behind x z zs e = rw (asymmetric before order z x e, e) refl

  there : (x : X) (zs : List X) → put x (x ∷ zs) ≡ x ∷ zs
  there x zs = rw (order.irreflexive x) refl

  -- two that are put in one after the other, of which the first comes before the second
  ahead : (x y z : X) (zs w : List X) → before x z ≡ true → before x y ≡ true → put y (z ∷ zs) ≡ z ∷ w → put x (put y (z ∷ zs)) ≡ put y (put x (z ∷ zs))
  ahead x y z zs w e f g =
      ap (put x) g ∙ (front x z w e ∙ (ap (λ us. x ∷ us) (sym g) ∙ (sym (behind y x (z ∷ zs) f) ∙ ap (put y) (sym (front x z zs e)))))

  both : (x y z : X) (zs : List X) → before x z ≡ true → before x y ≡ true → before y z ≡ true → put x (put y (z ∷ zs)) ≡ put y (put x (z ∷ zs))
  both x y z zs e f g =
      ap (put x) (front y z zs g) ∙ (front x y (z ∷ zs) f ∙ (ap (λ us. x ∷ us) (sym (front y z zs g)) ∙ (sym (behind y x (z ∷ zs) f) ∙ ap (put y) (sym (front x z zs e)))))

  passed : (x y z : X) (zs : List X) → before z x ≡ true → before z y ≡ true → put x (put y zs) ≡ put y (put x zs) → put x (put y (z ∷ zs)) ≡ put y (put x (z ∷ zs))
  passed x y z zs e f rest =
      ap (put x) (behind y z zs f) ∙ (behind x z (put y zs) e ∙ (ap (λ us. z ∷ us) rest ∙ (sym (behind y z (put x zs) f) ∙ ap (put y) (sym (behind x z zs e)))))

  first_there : (x y : X) (zs : List X) → before x y ≡ true → put x (put y (x ∷ zs)) ≡ put y (put x (x ∷ zs))
  first_there x y zs f =
      ap (put x) (behind y x zs f) ∙ (there x (put y zs) ∙ (sym (behind y x zs f) ∙ ap (put y) (sym (there x zs))))

  swap_less : (x y : X) (xs : List X) → before x y ≡ true → put x (put y xs) ≡ put y (put x xs)
  swap_less x y [] f = front x y [] f ∙ sym (behind y x [] f)
  swap_less x y (z ∷ zs) f = at (swap_less x y zs f)
    where
      at : put x (put y zs) ≡ put y (put x zs) → put x (put y (z ∷ zs)) ≡ put y (put x (z ∷ zs))
      at rest =
          three (put x (put y (z ∷ zs)) ≡ put y (put x (z ∷ zs))) x z
          (λ e. three (put x (put y (z ∷ zs)) ≡ put y (put x (z ∷ zs))) y z
          (λ g. both x y z zs e f g)
          (λ g. ahead x y z zs (put y zs) e f (behind y z zs g))
          (λ g. ahead x y z zs zs e f (subst (λ (u : X). put y (u ∷ zs) ≡ u ∷ zs) g (there y zs))))
          (λ e. passed x y z zs e (order.transitive z x y e f) rest)
          (λ e. subst (λ (u : X). put x (put y (u ∷ zs)) ≡ put y (put x (u ∷ zs))) e (first_there x y zs f))

  -- two may be put in in any order
  pub swap : (x y : X) (xs : List X) → put x (put y xs) ≡ put y (put x xs)
  swap x y xs =
      three (put x (put y xs) ≡ put y (put x xs)) x y
      (λ f. swap_less x y xs f)
      (λ f. sym (swap_less y x xs f))
      (λ e. subst (λ (u : X). put x (put u xs) ≡ put u (put x xs)) e refl)

  -- one that is put in again changes nothing
  pub twice : (x : X) (xs : List X) → put x (put x xs) ≡ put x xs
  twice x [] = there x []
  twice x (z ∷ zs) = at (twice x zs)
    where
      at : put x (put x zs) ≡ put x zs → put x (put x (z ∷ zs)) ≡ put x (z ∷ zs)
      at rest =
          three (put x (put x (z ∷ zs)) ≡ put x (z ∷ zs)) x z
          (λ e. ap (put x) (front x z zs e) ∙ (there x (z ∷ zs) ∙ sym (front x z zs e)))
          (λ e. ap (put x) (behind x z zs e) ∙ (behind x z (put x zs) e ∙ (ap (λ us. z ∷ us) rest ∙ sym (behind x z zs e))))
          (λ e. subst (λ (u : X). put x (put x (u ∷ zs)) ≡ put x (u ∷ zs)) e (ap (put x) (there x zs)))

  -- an element of the list is put in like the others
  pub order_insert : (xs : List X) (i : ℕ) (x : X) → in_order before (insert xs i x) ≡ put x (in_order before xs)
  order_insert xs zero x = refl
  order_insert [] (suc i) x = refl
  order_insert (y ∷ ys) (suc i) x = ap (put y) (order_insert ys i x) ∙ swap y x (in_order before ys)

  pub order_remove : (xs : List X) (i : ℕ) (d : X) → i < length xs → in_order before xs ≡ put (get_or xs i d) (in_order before (remove xs i))
  order_remove [] i d l = absurd (omega arith)
  order_remove (y ∷ ys) zero d l = refl
  order_remove (y ∷ ys) (suc i) d l = ap (put y) (order_remove ys i d (omega arith)) ∙ swap y (get_or ys i d) (in_order before (remove ys i))

  sorted_order : (xs : List X) → IsSorted before (in_order before xs)
  sorted_order [] = tt
  sorted_order (x ∷ xs) = sorted_with_one before order x (in_order before xs) (sorted_order xs)

  -- what holds of all
  pub all_order : (P : X → Type 0) (xs : List X) → AllByRecursion P xs → AllByRecursion P (in_order before xs)
  all_order P [] h = tt
  all_order P (x ∷ xs) h = all_with_one before P x (in_order before xs) (all_order P xs h.1) h.0

  all_put : (P : X → Type 0) (x : X) (xs : List X) → AllByRecursion P (put x xs) → P x × AllByRecursion P xs
  all_put P x [] h = h
  all_put P x (z ∷ zs) h = at (all_put P x zs)
    where
      at : (AllByRecursion P (put x zs) → P x × AllByRecursion P zs) → P x × AllByRecursion P (z ∷ zs)
      at rest =
          three (P x × AllByRecursion P (z ∷ zs)) x z
          (λ e. subst (λ (us : List X). AllByRecursion P us) (front x z zs e) h)
          (λ e. let k : AllByRecursion P (z ∷ put x zs) = subst (λ (us : List X). AllByRecursion P us) (behind x z zs e) h in
          let r = rest k.1 in (r.0, (k.0, r.1)))
          (λ e. let k : AllByRecursion P (z ∷ zs) = subst (λ (us : List X). AllByRecursion P us) (subst (λ (u : X). put x (u ∷ zs) ≡ u ∷ zs) e (there x zs)) h in
          (subst P (sym e) k.0, k))

  pub all_ordered : (P : X → Type 0) (xs : List X) → AllByRecursion P (in_order before xs) → AllByRecursion P xs
  all_ordered P [] h = tt
  all_ordered P (x ∷ xs) h = let r = all_put P x (in_order before xs) h in (r.0, all_ordered P xs r.1)

  -- one that comes before all
  front_all : (x : X) (xs : List X) → AllByRecursion (λ y. before x y ≡ true) xs → put x xs ≡ x ∷ xs
  front_all x [] h = refl
  front_all x (z ∷ zs) h = front x z zs h.0

  -- what is left of them
  module _ (keep : X → Bool) where
    left_behind : (x z : X) (us vs : List X) (k l : Bool) → before z x ≡ true → us ≡ cond l (put x vs) vs
        → cond k (z ∷ us) us ≡ cond l (put x (cond k (z ∷ vs) vs)) (cond k (z ∷ vs) vs)
    left_behind x z us vs true true e h = ap (λ ws. z ∷ ws) h ∙ sym (behind x z vs e)
    left_behind x z us vs true false e h = ap (λ ws. z ∷ ws) h
    left_behind x z us vs false l e h = h

    left_there : (x : X) (vs : List X) (k : Bool) → cond k (x ∷ vs) vs ≡ cond k (put x (cond k (x ∷ vs) vs)) (cond k (x ∷ vs) vs)
    left_there x vs true = sym (there x vs)
    left_there x vs false = refl

    pub filter_put : (x : X) (xs : List X) → IsSorted before xs → filter keep (put x xs) ≡ cond (keep x) (put x (filter keep xs)) (filter keep xs)
    filter_put x [] s = refl
    filter_put x (z ∷ zs) s = at (filter_put x zs s.1)
      where
        at : filter keep (put x zs) ≡ cond (keep x) (put x (filter keep zs)) (filter keep zs) → filter keep (put x (z ∷ zs)) ≡ cond (keep x) (put x (filter keep (z ∷ zs))) (filter keep (z ∷ zs))
        at rest =
            three (filter keep (put x (z ∷ zs)) ≡ cond (keep x) (put x (filter keep (z ∷ zs))) (filter keep (z ∷ zs))) x z
            (λ e. ap (filter keep) (front x z zs e)
            ∙ ap (λ us. cond (keep x) us (filter keep (z ∷ zs)))
            (sym (front_all x (filter keep (z ∷ zs)) (all_filter (λ y. before x y ≡ true) keep (z ∷ zs) (e, all_more (λ y. before z y ≡ true) (λ y. before x y ≡ true) (λ y g. order.transitive x z y e g) zs s.0)))))
            (λ e. ap (filter keep) (behind x z zs e) ∙ left_behind x z (filter keep (put x zs)) (filter keep zs) (keep z) (keep x) e rest)
            (λ e. subst (λ (u : X). filter keep (put x (u ∷ zs)) ≡ cond (keep x) (put x (filter keep (u ∷ zs))) (filter keep (u ∷ zs))) e
            (ap (filter keep) (there x zs) ∙ left_there x (filter keep zs) (keep x)))

    pub filter_order : (xs : List X) → filter keep (in_order before xs) ≡ in_order before (filter keep xs)
    filter_order [] = refl
    filter_order (x ∷ xs) =
        filter_put x (in_order before xs) (sorted_order xs)
        ∙ (ap (λ us. cond (keep x) (put x us) us) (filter_order xs) ∙ at (keep x))
      where
        at : (k : Bool) → cond k (put x (in_order before (filter keep xs))) (in_order before (filter keep xs)) ≡ in_order before (cond k (x ∷ filter keep xs) (filter keep xs))
        at true = refl
        at false = refl

  length_put : (x : X) (xs : List X) → AllByRecursion (λ y. x ≡ y → ⊥) xs → length (put x xs) ≡ suc (length xs)
  length_put x [] h = refl
  length_put x (z ∷ zs) h = at (length_put x zs h.1)
    where
      at : length (put x zs) ≡ suc (length zs) → length (put x (z ∷ zs)) ≡ suc (length (z ∷ zs))
      at rest =
          three (length (put x (z ∷ zs)) ≡ suc (length (z ∷ zs))) x z
          (λ e. ap length (front x z zs e))
          (λ e. ap length (behind x z zs e) ∙ ap suc rest)
          (λ e. absurd (h.0 e))

  -- they are as many then
  pub length_order : (xs : List X) → AreApart xs → length (in_order before xs) ≡ length xs
  length_order [] h = refl
  length_order (x ∷ xs) h =
      length_put x (in_order before xs) (all_order (λ y. x ≡ y → ⊥) xs h.0) ∙ ap suc (length_order xs h.1)

  -- the first that passes a test, if it comes before all others that do
  module _ (test : X → Bool) (x : X) (own : test x ≡ true) where
    pub record IsLeast (xs : List X) : Type 0 where
      pub found : find test (put x xs) ≡ Some x
      pub left : without_first test (put x xs) ≡ xs

    at_first : (us : List X) → find test (x ∷ us) ≡ Some x
    at_first us = rw own refl

    without_it : (us : List X) → without_first test (x ∷ us) ≡ us
    without_it us = rw own refl

    pub first_put : (xs : List X) → AllByRecursion (λ y. test y ≡ true → before x y ≡ true) xs → IsLeast xs
    first_put [] h = record { found = at_first []; left = without_it [] }
    first_put (z ∷ zs) h = at (first_put zs h.1)
      where
        no : before z x ≡ true → test z ≡ true → ⊥
        no e t = both_ways (before x z) (asymmetric before order z x e) (h.0 t)

        later : (t : Bool) → test z ≡ t → before z x ≡ true → IsLeast zs → IsLeast (z ∷ zs)
        later true t e rest = absurd (no e t)
        later false t e rest = record {
          found = ap (find test) (behind x z zs e) ∙ rw t rest.found;
          left = ap (without_first test) (behind x z zs e) ∙ rw t (ap (λ us. z ∷ us) rest.left);
        }

        at : IsLeast zs → IsLeast (z ∷ zs)
        at rest =
            three (IsLeast (z ∷ zs)) x z
            (λ e. record { found = ap (find test) (front x z zs e) ∙ at_first (z ∷ zs); left = ap (without_first test) (front x z zs e) ∙ without_it (z ∷ zs) })
            (λ e. later (test z) refl e rest)
            (λ e. absurd (both_ways (before x x) (order.irreflexive x) (subst (λ (u : X). before x u ≡ true) (sym e) (h.0 (subst (λ (u : X). test u ≡ true) e own)))))

    -- none of the others comes before it, and none is it
    pub comes_first : (xs : List X) → AllByRecursion (λ y. test y ≡ true → before y x ≡ false) xs → AllByRecursion (λ y. x ≡ y → ⊥) xs → AllByRecursion (λ y. test y ≡ true → before x y ≡ true) xs
    comes_first [] h g = tt
    comes_first (z ∷ zs) h g = (
      (λ t. three (before x z ≡ true) x z (λ e. e) (λ e. absurd (both_ways (before z x) (h.0 t) e)) (λ e. absurd (g.0 e))),
      comes_first zs h.1 g.1,
    )
