-- Split visits that stand beside their ends, and what is seen of them.
use Rattle.std.proofs.Common.{◌≡◌, ℕ, ◌+◌, ◌<◌, Bool, true, false, cond, not, List, [], ◌∷◌, length, get_or, take, zero, suc, count_by, find, Option, Some, None, refl, ap, subst, sym, ◌∙◌, arith}
use Rattle.std.specs.Prelude.{◌↔◌, IsSome, OnSome}
use Rattle.std.specs.List.{AllByRecursion, filter, insert, remove}
use Rattle.std.proofs.Math.Seq.{take-length}
use Rattle.std.proofs.lemmas.Bool.{both_ways}
use Rattle.std.proofs.lemmas.List.Sums.{length-filter}
use Rattle.tiger_base.specs.declared.number.Instance.{Instance}
use Rattle.slot_plan.specs.declared.params.Params.{Params}
use Rattle.mirror_schedule.specs.Sorted.{IsSorted, gap_from, with_one, in_order, without_first}
use Rattle.mirror_schedule.specs.Splits.{Split, AreKept, IsFoundFor, by_slot, ends_before, is_of, kept_end, key_of, split_before}
use Rattle.mirror_schedule.specs.Timed.{untimed}
use Rattle.mirror_schedule.proofs.Insertions.{AreApart, IsLeast, all_order, all_ordered, apart_filter, apart_remove, comes_first, filter_order, first_put, length_order, order_insert, order_remove, swap, twice}
use Rattle.mirror_schedule.proofs.Orders.{all_filter, all_more, put_at, sorted_filter, sorted_remove, sorted_with_one}
use Rattle.mirror_schedule.proofs.PieceLists.{IsNone}
use Rattle.mirror_schedule.proofs.Ranks.{ends_order, ends_total, splits_order, splits_total}
use Rattle.mirror_schedule.proofs.Timed.{all_insert, all_remove, untimed-filter}

-- what is seen of some
abbrev pub seen : List (Split × ℕ) → List Split
seen items = by_slot (untimed items)

-- no two are one: they would end alike
apart_from : (p : Params) (x : Split × ℕ) (ys : List (Split × ℕ)) → x.1 ≡ kept_end p (key_of x.0) → AllByRecursion (λ y. y.1 ≡ kept_end p (key_of y.0)) ys → AllByRecursion (λ y. ends_before x y ≡ true) ys
    → AllByRecursion (λ y. x.0 ≡ y → ⊥) (untimed ys)
apart_from p x [] own h s = tt
apart_from p x (y ∷ ys) own h s = (
  (λ e. let alike : x.1 ≡ y.1 = own ∙ (ap (λ (z : Split). kept_end p (key_of z)) e ∙ sym h.0) in
      let one : Split × ℕ → Split × ℕ = λ z. z in
      let same : x ≡ y = ap (λ (z : Split). one (z, x.1)) e ∙ ap (λ (n : ℕ). one (y.0, n)) alike in
      both_ways (ends_before x x) (ends_order.irreflexive x) (subst (λ (z : Split × ℕ). ends_before x z ≡ true) (sym same) s.0)),
  apart_from p x ys own h.1 s.1,
)

pub apart : (p : Params) (items : List (Split × ℕ)) → AreKept p items → AreApart (untimed items)
apart p [] h = tt
apart p (x ∷ xs) h = (apart_from p x xs h.ends.0 h.ends.1 h.order.0, apart p xs (record { order = h.order.1; ends = h.ends.1 }))

module _ {X : Type 0} where
  untimed-insert : (xs : List (X × ℕ)) (i : ℕ) (x : X × ℕ) → untimed (insert xs i x) ≡ insert (untimed xs) i x.0
  untimed-insert xs zero x = refl
  untimed-insert [] (suc i) x = refl
  untimed-insert (y ∷ ys) (suc i) x = ap (λ (zs : List X). y.0 ∷ zs) (untimed-insert ys i x)

  untimed-remove : (xs : List (X × ℕ)) (i : ℕ) → untimed (remove xs i) ≡ remove (untimed xs) i
  untimed-remove [] zero = refl
  untimed-remove [] (suc i) = refl
  untimed-remove (y ∷ ys) zero = refl
  untimed-remove (y ∷ ys) (suc i) = ap (λ (zs : List X). y.0 ∷ zs) (untimed-remove ys i)

  untimed-get : (xs : List (X × ℕ)) (i : ℕ) (d : X × ℕ) → get_or (untimed xs) i d.0 ≡ (get_or xs i d).0
  untimed-get [] i d = refl
  untimed-get (y ∷ ys) zero d = refl
  untimed-get (y ∷ ys) (suc i) d = untimed-get ys i d

  untimed-length : (xs : List (X × ℕ)) → length (untimed xs) ≡ length xs
  untimed-length [] = refl
  untimed-length (y ∷ ys) = ap suc (untimed-length ys)

  all_timed : (P : X → Type 0) (xs : List (X × ℕ)) → AllByRecursion P (untimed xs) → AllByRecursion (λ x. P x.0) xs
  all_timed P [] h = tt
  all_timed P (x ∷ xs) h = (h.0, all_timed P xs h.1)

  all_untimed : (P : X → Type 0) (xs : List (X × ℕ)) → AllByRecursion (λ x. P x.0) xs → AllByRecursion P (untimed xs)
  all_untimed P [] h = tt
  all_untimed P (x ∷ xs) h = (h.0, all_untimed P xs h.1)

  -- tests that tell the same of all
  filter_alike : (f g : X → Bool) (xs : List X) → AllByRecursion (λ x. f x ≡ g x) xs → filter f xs ≡ filter g xs
  filter_alike f g [] h = refl
  filter_alike f g (x ∷ xs) h = ap (λ (t : Bool). cond t (x ∷ filter f xs) (filter f xs)) h.0 ∙ ap (λ (zs : List X). cond (g x) (x ∷ zs) zs) (filter_alike f g xs h.1)

-- what holds of all that is seen holds of all
pub each_timed : (P : Split → Type 0) (items : List (Split × ℕ)) → AllByRecursion P (seen items) → AllByRecursion (λ x. P x.0) items
each_timed P items h = all_timed P items (all_ordered split_before splits_order splits_total P (untimed items) h)

-- one more, at the place that was found for it
module _ (p : Params) (items now : List (Split × ℕ)) (place : ℕ) (x : Split × ℕ) (put : now ≡ insert items place x) where
  pub kept_more : AreKept p items → x.1 ≡ kept_end p (key_of x.0) → Some place ≡ gap_from ends_before x 0 items → AreKept p now
  kept_more h own gap = record {
    order = subst (λ (ys : List (Split × ℕ)). IsSorted ends_before ys) (sym (put ∙ put_at ends_before x items items place gap refl)) (sorted_with_one ends_before ends_order x items h.order);
    ends = subst (λ (ys : List (Split × ℕ)). AllByRecursion (λ y. y.1 ≡ kept_end p (key_of y.0)) ys) (sym put) (all_insert (λ y. y.1 ≡ kept_end p (key_of y.0)) items place x h.ends own);
  }

  pub seen_more : seen now ≡ with_one split_before x.0 (seen items)
  seen_more =
      ap seen put ∙ (ap by_slot (untimed-insert items place x) ∙ order_insert split_before splits_order splits_total (untimed items) place x.0)

-- where there is no place for it, it is there
pub seen_there : (x : Split × ℕ) (n : ℕ) (items : List (Split × ℕ)) → None ≡ gap_from ends_before x n items → with_one split_before x.0 (seen items) ≡ seen items
seen_there x n [] e = absurd (cc)
seen_there x n (y ∷ ys) e = at (ends_before x y) (ends_before y x) refl refl (seen_there x (n + 1) ys) e
  where
    at : (a b : Bool) → ends_before x y ≡ a → ends_before y x ≡ b → (None ≡ gap_from ends_before x (n + 1) ys → with_one split_before x.0 (seen ys) ≡ seen ys)
        → None ≡ cond a (Some n) (cond b (gap_from ends_before x (n + 1) ys) None) → with_one split_before x.0 (with_one split_before y.0 (seen ys)) ≡ with_one split_before y.0 (seen ys)
    at true b f g rest e = absurd (cc)
    at false true f g rest e = swap split_before splits_order splits_total x.0 y.0 (seen ys) ∙ ap (with_one split_before y.0) (rest e)
    at false false f g rest e =
        subst (λ (z : Split). with_one split_before x.0 (with_one split_before z (seen ys)) ≡ with_one split_before z (seen ys)) (ends_total x y f g)
        (twice split_before splits_order splits_total x.0 (seen ys))

-- what is left, by a test of visits beside their ends that tells what a test of the visits tells
pub kept_left : (p : Params) (keep : Split × ℕ → Bool) (items now : List (Split × ℕ)) → AreKept p items → now ≡ filter keep items → AreKept p now
kept_left p keep items now h e =
    subst (λ (ys : List (Split × ℕ)). AreKept p ys) (sym e) (record { order = sorted_filter ends_before keep items h.order; ends = all_filter (λ y. y.1 ≡ kept_end p (key_of y.0)) keep items h.ends })

module _ (timed : Split × ℕ → Bool) (test : Split → Bool) (items : List (Split × ℕ)) (told : AllByRecursion (λ x. timed x ≡ test x.0) items) where
  pub seen_left : (now : List (Split × ℕ)) → now ≡ filter (λ x. not (timed x)) items → seen now ≡ filter (λ x. not (test x)) (seen items)
  seen_left now e =
      ap seen (e ∙ filter_alike (λ x. not (timed x)) (λ x. not (test x.0)) items (all_more (λ x. timed x ≡ test x.0) (λ x. not (timed x) ≡ not (test x.0)) (λ x f. ap not f) items told))
      ∙ (ap by_slot (untimed-filter (λ x. not (test x)) items) ∙ sym (filter_order split_before splits_order splits_total (λ x. not (test x)) (untimed items)))

  pub seen_count : (p : Params) (count : ℕ) → AreKept p items → count ≡ count_by timed items → count ≡ count_by test (seen items)
  seen_count p count h e =
      let order = in_order split_before in
      let some : List Split = filter test (untimed items) in
      let here : length (filter timed items) ≡ length some =
      ap length (filter_alike timed (λ x. test x.0) items told) ∙ (sym (untimed-length (filter (λ x. test x.0) items)) ∙ ap length (untimed-filter test items)) in
      let there : length some ≡ length (filter test (seen items)) =
      sym (length_order split_before splits_order splits_total some (apart_filter test (untimed items) (apart p items h))) ∙ ap length (sym (filter_order split_before splits_order splits_total test (untimed items))) in
      e ∙ (sym (length-filter timed items) ∙ (here ∙ (there ∙ length-filter test (seen items))))

-- none is of an instance
module _ (test : Split → Bool) where
  none_of : (xs : List Split) → AllByRecursion (λ x. test x ≡ false) xs → IsNone test xs
  none_of [] h = record { found = refl; left = refl }
  none_of (x ∷ xs) h =
      let rest = none_of xs h.1 in
      record { found = rw h.0 rest.found; left = rw h.0 (ap (λ zs. x ∷ zs) rest.left) }

  pub none_seen : (items : List (Split × ℕ)) → AllByRecursion (λ x. test x.0 ≡ false) (take (length items) items) → IsNone test (seen items)
  none_seen items h =
      none_of (seen items)
      (all_order split_before splits_order splits_total (λ x. test x ≡ false) (untimed items)
      (all_untimed (λ x. test x ≡ false) items (subst (λ (ys : List (Split × ℕ)). AllByRecursion (λ x. test x.0 ≡ false) ys) (take-length items) h)))

-- a visit that is taken out where it was found
removed_at : {X Y : Type 0} (o : Option Y) (n place : ℕ) (items ys : List X) → n ≡ length items → IsSome o ↔ (place < n) → place < length items → OnSome o (ys ≡ remove items place) → ys ≡ remove items place
removed_at None n place items ys long there inside at = absurd (cc (there.1 (omega (arith, long, inside))))
removed_at (Some y) n place items ys long there inside at = at

module _ (p : Params) (instance : Instance) (items : List (Split × ℕ)) (found : Split × ℕ) (h : AreKept p items) (is : IsFoundFor instance items (length items) found) where
  abbrev inside : found.1 < length (untimed items)
  inside = omega (arith, is.inside, untimed-length items)

  here : get_or (untimed items) found.1 found.0 ≡ found.0
  here = untimed-get items found.1 found ∙ is.at

  abbrev others : List Split
  others = remove (untimed items) found.1

  as_put : seen items ≡ with_one split_before found.0 (by_slot others)
  as_put = order_remove split_before splits_order splits_total (untimed items) found.1 found.0 inside ∙ ap (λ (x : Split). with_one split_before x (by_slot others)) here

  first : AllByRecursion (λ y. is_of instance y ≡ true → split_before y found.0 ≡ false) (untimed items)
  first =
      all_untimed (λ y. is_of instance y ≡ true → split_before y found.0 ≡ false) items
      (subst (λ (ys : List (Split × ℕ)). AllByRecursion (λ y. is_of instance y.0 ≡ true → split_before y.0 found.0 ≡ false) ys) (take-length items) is.first)

  alone : AllByRecursion (λ y. found.0 ≡ y → ⊥) others
  alone =
      subst (λ (x : Split). AllByRecursion (λ y. x ≡ y → ⊥) others) here
      (apart_remove (untimed items) found.1 found.0 (apart p items h) inside)

  least : IsLeast split_before splits_order splits_total (is_of instance) found.0 is.own (by_slot others)
  least =
      first_put split_before splits_order splits_total (is_of instance) found.0 is.own (by_slot others)
      (all_order split_before splits_order splits_total (λ y. is_of instance y ≡ true → split_before found.0 y ≡ true) others
      (comes_first split_before splits_order splits_total (is_of instance) found.0 is.own others (all_remove (λ y. is_of instance y ≡ true → split_before y found.0 ≡ false) (untimed items) found.1 first) alone))

  pub found_seen : find (is_of instance) (seen items) ≡ Some found.0
  found_seen = ap (find (is_of instance)) as_put ∙ least.found

  module _ {Y : Type 0} (o : Option Y) (n : ℕ) (now : List (Split × ℕ)) (long : n ≡ length items) (there : IsSome o ↔ (found.1 < n)) (at : OnSome o (now ≡ remove items found.1)) where
    pub taken : now ≡ remove items found.1
    taken = removed_at o n found.1 items now long there is.inside at

    pub kept_fewer : AreKept p now
    kept_fewer = subst (λ (ys : List (Split × ℕ)). AreKept p ys) (sym taken) (record { order = sorted_remove ends_before items found.1 h.order; ends = all_remove (λ y. y.1 ≡ kept_end p (key_of y.0)) items found.1 h.ends })

    pub seen_without : seen now ≡ without_first (is_of instance) (seen items)
    seen_without = ap seen taken ∙ (ap by_slot (untimed-remove items found.1) ∙ sym (ap (without_first (is_of instance)) as_put ∙ least.left))
