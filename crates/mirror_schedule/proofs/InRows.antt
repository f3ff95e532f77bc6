-- Things in an order of which those that stand are kept in rows, as some come and some are taken out.
use Rattle.std.proofs.Common.{◌≡◌, ◌∙◌, ℕ, ◌<◌, ◌||◌, ◌&&◌, ◌==◌, zero, suc, Bool, true, false, cond, not, List, [], ◌∷◌, ◌++◌, length, drop, nat_lt, count_by, find, Option, Some, None, is_some, refl, ap, sym, subst, eq-eqb, arith}
use Rattle.std.specs.Prelude.{slice_set}
use Rattle.std.specs.List.{AllByRecursion, filter, list_any}
use Rattle.std.proofs.Math.Bool.{or-false, and-true}
use Rattle.std.proofs.lemmas.Bool.{both_ways, eqb-false, eqb-true, false_from_ne_true, lt-ltb, ne_eqb, not-true}
use Rattle.std.proofs.lemmas.List.{get_or-set_other, get_or-set_same}
use Rattle.std.proofs.lemmas.List.Sums.{length-filter}
use Rattle.mirror_schedule.specs.Sorted.{IsSorted, gap_from, with_one}
use Rattle.mirror_schedule.specs.Rows.{is_one, is_among, row_numbered, stands, those_standing, AreRows, is_first_gone}
use Rattle.mirror_schedule.proofs.Insertions.{filter_put}
use Rattle.mirror_schedule.proofs.Members.{IsSame, is_new, is_there}
use Rattle.mirror_schedule.proofs.Orders.{IsOrder, all_filter, all_more, sorted_filter, with_one-there}

-- nothing is both so and not
no_both : (b : Bool) → (b && false) ≡ false
no_both true = refl
no_both false = refl

and_swap : (a b : Bool) → (a && b) ≡ (b && a)
and_swap true true = refl
and_swap true false = refl
and_swap false true = refl
and_swap false false = refl

or_swap : (a b : Bool) → (a || b) ≡ (b || a)
or_swap true true = refl
or_swap true false = refl
or_swap false true = refl
or_swap false false = refl

or_further : (a b c d : Bool) → b ≡ (c || d) → (a || b) ≡ ((a || c) || d)
or_further true b c d e = refl
or_further false b c d e = e

or_again : (a b : Bool) → (a || b) ≡ ((a || b) || a)
or_again true b = refl
or_again false true = refl
or_again false false = refl

-- one test passes only what another one does
within : (c r : Bool) → (c ≡ true → r ≡ true) → (r && c) ≡ c
within true r h = rw (h refl) refl
within false true h = refl
within false false h = refl

module _ {X : Type 0} where
  -- filters by tests that tell the same, and by two tests
  pub filter_alike : (f g : X → Bool) → ((x : X) → f x ≡ g x) → (xs : List X) → filter f xs ≡ filter g xs
  filter_alike f g h [] = refl
  filter_alike f g h (x ∷ xs) =
      ap (λ t. cond t (x ∷ filter f xs) (filter f xs)) (h x) ∙ ap (λ zs. cond (g x) (x ∷ zs) zs) (filter_alike f g h xs)

  filter_alike_all : (f g : X → Bool) (xs : List X) → AllByRecursion (λ x. f x ≡ g x) xs → filter f xs ≡ filter g xs
  filter_alike_all f g [] h = refl
  filter_alike_all f g (x ∷ xs) h =
      ap (λ t. cond t (x ∷ filter f xs) (filter f xs)) h.0 ∙ ap (λ zs. cond (g x) (x ∷ zs) zs) (filter_alike_all f g xs h.1)

  filter_both : (f g : X → Bool) (xs : List X) → filter (λ x. f x && g x) xs ≡ filter g (filter f xs)
  filter_both f g [] = refl
  filter_both f g (x ∷ xs) =
      let rest = filter_both f g xs in
      elim (f x) as (λ t. cond (t && g x) (x ∷ filter (λ y. f y && g y) xs) (filter (λ y. f y && g y) xs) ≡ filter g (cond t (x ∷ filter f xs) (filter f xs))) [
        | true ↦ ap (λ zs. cond (g x) (x ∷ zs) zs) rest
        | false ↦ rest
      ]

  filter_swap : (f g : X → Bool) (xs : List X) → filter f (filter g xs) ≡ filter g (filter f xs)
  filter_swap f g xs = sym (filter_both g f xs) ∙ (filter_alike (λ x. g x && f x) (λ x. f x && g x) (λ x. and_swap (g x) (f x)) xs ∙ filter_both f g xs)

  -- among those that a test leaves, one that passes no others finds as much
  pub any_within : (c r : X → Bool) → ((x : X) → c x ≡ true → r x ≡ true) → (xs : List X) → list_any c (filter r xs) ≡ list_any c xs
  any_within c r h [] = refl
  any_within c r h (x ∷ xs) = at (r x) refl (any_within c r h xs)
    where
      at : (t : Bool) → r x ≡ t → list_any c (filter r xs) ≡ list_any c xs → list_any c (cond t (x ∷ filter r xs) (filter r xs)) ≡ (c x || list_any c xs)
      at true e rest = ap (λ b. c x || b) rest
      at false e rest = rest ∙ sym (ap (λ b. b || list_any c xs) (false_from_ne_true (c x) (λ f. both_ways (r x) e (h x f))))

  pub count_within : (c r : X → Bool) → ((x : X) → c x ≡ true → r x ≡ true) → (xs : List X) → count_by c (filter r xs) ≡ count_by c xs
  count_within c r h xs =
      sym (length-filter c (filter r xs))
      ∙ (ap length (sym (filter_both r c xs) ∙ filter_alike (λ x. r x && c x) c (λ x. within (c x) (r x) (h x)) xs)
      ∙ length-filter c xs)

  -- the first of those that are left that passes a test
  pub find_left : (s t : X → Bool) (xs : List X) → find t (filter s xs) ≡ find (λ x. t x && s x) xs
  find_left s t [] = refl
  find_left s t (x ∷ xs) = at (s x) (t x) (find_left s t xs)
    where
      at : (a b : Bool) → find t (filter s xs) ≡ find (λ y. t y && s y) xs → find t (cond a (x ∷ filter s xs) (filter s xs)) ≡ cond (t x && a) (Some x) (find (λ y. t y && s y) xs)
      at true b rest = ap (λ o. cond (t x) (Some x) o) rest ∙ ap (λ c. cond c (Some x) (find (λ y. t y && s y) xs)) (sym (and-true (t x)))
      at false b rest = rest ∙ sym (ap (λ c. cond c (Some x) (find (λ y. t y && s y) xs)) (no_both (t x)))

-- that some pass a test, and how many do
filtered_any : {X : Type 0} (test : X → Bool) (xs : List X) → nat_lt 0 (length (filter test xs)) ≡ list_any test xs
filtered_any test [] = refl
filtered_any test (x ∷ xs) =
    elim (test x) as (λ t. nat_lt 0 (length (cond t (x ∷ filter test xs) (filter test xs))) ≡ (t || list_any test xs)) [
      | true ↦ lt-ltb 0 (suc (length (filter test xs))) (omega arith)
      | false ↦ filtered_any test xs
    ]

pub counted_any : {X : Type 0} (test : X → Bool) (xs : List X) → nat_lt 0 (count_by test xs) ≡ list_any test xs
counted_any test xs = ap (λ n. nat_lt 0 n) (sym (length-filter test xs)) ∙ filtered_any test xs

-- an order in which of two elements one comes before the other, if they are not one
module _ {X : Type 0} (before : X → X → Bool) (order : IsOrder before) (total : (x y : X) → before x y ≡ false → before y x ≡ false → x ≡ y) where
  one_same : IsSame before (is_one before)
  one_same = record {
    ahead = λ x y e. rw e refl;
    behind = λ x y e. rw e (no_both (not (before x y)));
    neither = λ x y e f. rw (e, f) refl;
  }

  one_self : (x : X) → is_one before x x ≡ true
  one_self x = rw (order.irreflexive x) refl

  one_is : (x y : X) → is_one before x y ≡ true → x ≡ y
  one_is x y e = at (before x y) (before y x) refl refl e
    where
      at : (a b : Bool) → before x y ≡ a → before y x ≡ b → (not a && not b) ≡ true → x ≡ y
      at true b f g e = absurd (cc)
      at false true f g e = absurd (cc)
      at false false f g e = total x y f g

  -- that there is a place for it tells that it is not there
  pub gap_tells : (x : X) (xs : List X) → IsSorted before xs → is_some (gap_from before x 0 xs) ≡ not (is_among before x xs)
  gap_tells x xs s = at (gap_from before x 0 xs) refl
    where
      at : (o : Option ℕ) → gap_from before x 0 xs ≡ o → is_some o ≡ not (is_among before x xs)
      at None e = sym (ap not (is_there before (is_one before) order one_same x 0 xs e))
      at (Some place) e = sym (ap not (is_new before (is_one before) order one_same x 0 place xs s e))

  pub put_there : (x : X) (xs : List X) → IsSorted before xs → is_among before x xs ≡ true → with_one before x xs ≡ xs
  put_there x xs s e = at (gap_from before x 0 xs) refl
    where
      at : (o : Option ℕ) → gap_from before x 0 xs ≡ o → with_one before x xs ≡ xs
      at None f = with_one-there before x 0 xs f
      at (Some place) f = absurd (both_ways (is_among before x xs) (is_new before (is_one before) order one_same x 0 place xs s f) e)

  -- what is among those that are left, and among those with one more
  any_left : (x : X) (keep : X → Bool) (ys : List X) → is_among before x (filter keep ys) ≡ (is_among before x ys && keep x)
  any_left x keep [] = refl
  any_left x keep (y ∷ ys) = at (is_one before x y) (keep y) refl refl (any_left x keep ys)
    where
      at : (o k : Bool) → is_one before x y ≡ o → keep y ≡ k → is_among before x (filter keep ys) ≡ (is_among before x ys && keep x)
          → is_among before x (cond k (y ∷ filter keep ys) (filter keep ys)) ≡ ((o || is_among before x ys) && keep x)
      at true true e f rest =
          let own : keep x ≡ true = ap keep (one_is x y e) ∙ f in
          rw (e, own) refl
      at true false e f rest =
          let own : keep x ≡ false = ap keep (one_is x y e) ∙ f in
          rest ∙ (ap (λ b. is_among before x ys && b) own ∙ (no_both (is_among before x ys) ∙ sym own))
      at false true e f rest = ap (λ b. b || is_among before x (filter keep ys)) e ∙ rest
      at false false e f rest = rest

  three : (P : Type 0) (x y : X) → (before x y ≡ true → P) → (before x y ≡ false → before y x ≡ true → P) → (x ≡ y → P) → P
  three P x y f g h = at (before x y) (before y x) refl refl
    where
      at : (a b : Bool) → before x y ≡ a → before y x ≡ b → P
      at true b e k = f e
      at false true e k = g e k
      at false false e k = h (total x y e k)

  front : (x z : X) (zs : List X) → before x z ≡ true → with_one before x (z ∷ zs) ≡ x ∷ z ∷ zs
  front x z zs e = rw e refl

  behind : (x z : X) (zs : List X) → before x z ≡ false → before z x ≡ true → with_one before x (z ∷ zs) ≡ z ∷ with_one before x zs
  behind x z zs e f = rw (e, f) refl

  there : (x : X) (zs : List X) → with_one before x (x ∷ zs) ≡ x ∷ zs
  there x zs = rw (order.irreflexive x) refl

  any_put : (y x : X) (zs : List X) → is_among before y (with_one before x zs) ≡ (is_among before y zs || is_one before y x)
  any_put y x [] = or-false (is_one before y x)
  any_put y x (z ∷ zs) =
      let rest = any_put y x zs in
      three (is_among before y (with_one before x (z ∷ zs)) ≡ (is_among before y (z ∷ zs) || is_one before y x)) x z
      (λ e. ap (is_among before y) (front x z zs e) ∙ or_swap (is_one before y x) (is_among before y (z ∷ zs)))
      (λ e f. ap (is_among before y) (behind x z zs e f) ∙ or_further (is_one before y z) (is_among before y (with_one before x zs)) (is_among before y zs) (is_one before y x) rest)
      (λ e. subst (λ (u : X). is_among before y (with_one before x (u ∷ zs)) ≡ (is_among before y (u ∷ zs) || is_one before y x)) e
      (ap (is_among before y) (there x zs) ∙ or_again (is_one before y x) (is_among before y zs)))

  -- none of those that come behind an element is it
  others : (x : X) (ys : List X) → AllByRecursion (λ y. before x y ≡ true) ys → AllByRecursion (λ y. is_one before y x ≡ false) ys
  others x ys h = all_more (λ y. before x y ≡ true) (λ y. is_one before y x ≡ false) (λ y e. one_same.behind y x e) ys h

  -- one that comes before all, put in front
  put_first : (x : X) (xs : List X) → AllByRecursion (λ y. before x y ≡ true) xs → with_one before x xs ≡ x ∷ xs
  put_first x [] h = refl
  put_first x (z ∷ zs) h = front x z zs h.0

  later : (x z : X) (zs : List X) → before x z ≡ true → AllByRecursion (λ y. before z y ≡ true) zs → AllByRecursion (λ y. before x y ≡ true) zs
  later x z zs e h = all_more (λ y. before z y ≡ true) (λ y. before x y ≡ true) (λ y f. order.transitive x z y e f) zs h

  -- an element that did not stand does, wherever it is put in or was before
  module _ (x : X) (old now : X → Bool) (gone : old x ≡ false) (more : (y : X) → now y ≡ (old y || is_one before y x)) where
    still : (ys : List X) → AllByRecursion (λ y. before x y ≡ true) ys → filter now ys ≡ filter old ys
    still ys h =
        filter_alike_all now old ys
        (all_more (λ y. is_one before y x ≡ false) (λ y. now y ≡ old y) (λ y e. more y ∙ (ap (λ b. old y || b) e ∙ or-false (old y))) ys (others x ys h))

    own : now x ≡ true
    own = more x ∙ (ap (λ b. b || is_one before x x) gone ∙ one_self x)

    same_there : (z : X) → is_one before z x ≡ false → now z ≡ old z
    same_there z e = more z ∙ (ap (λ b. old z || b) e ∙ or-false (old z))

    abbrev IsPut : List X → Type 0
    IsPut xs = filter now (with_one before x xs) ≡ with_one before x (filter old xs)

    put_ahead : (z : X) (zs : List X) → IsSorted before (z ∷ zs) → before x z ≡ true → IsPut (z ∷ zs)
    put_ahead z zs s e =
        let all : AllByRecursion (λ y. before x y ≡ true) (z ∷ zs) = (e, later x z zs e s.0) in
        ap (filter now) (front x z zs e)
        ∙ (ap (λ t. cond t (x ∷ filter now (z ∷ zs)) (filter now (z ∷ zs))) own
        ∙ (ap (λ ys. x ∷ ys) (still (z ∷ zs) all)
        ∙ sym (put_first x (filter old (z ∷ zs)) (all_filter (λ y. before x y ≡ true) old (z ∷ zs) all))))

    put_by_old : (z : X) (zs : List X) → before x z ≡ false → before z x ≡ true → (t : Bool) → IsPut zs
        → cond t (z ∷ filter now (with_one before x zs)) (filter now (with_one before x zs)) ≡ with_one before x (cond t (z ∷ filter old zs) (filter old zs))
    put_by_old z zs e f true rest = ap (λ ys. z ∷ ys) rest ∙ sym (behind x z (filter old zs) e f)
    put_by_old z zs e f false rest = rest

    put_further : (z : X) (zs : List X) → before x z ≡ false → before z x ≡ true → IsPut zs → IsPut (z ∷ zs)
    put_further z zs e f rest =
        ap (filter now) (behind x z zs e f)
        ∙ (ap (λ t. cond t (z ∷ filter now (with_one before x zs)) (filter now (with_one before x zs))) (same_there z (one_same.ahead z x f))
        ∙ put_by_old z zs e f (old z) rest)

    put_on_it : (z : X) (zs : List X) → IsSorted before (z ∷ zs) → x ≡ z → IsPut (z ∷ zs)
    put_on_it z zs s e =
        let all : AllByRecursion (λ y. before x y ≡ true) zs = subst (λ (u : X). AllByRecursion (λ y. before u y ≡ true) zs) (sym e) s.0 in
        subst (λ (u : X). IsPut (u ∷ zs)) e
        (ap (filter now) (there x zs)
        ∙ (ap (λ t. cond t (x ∷ filter now zs) (filter now zs)) own
        ∙ (ap (λ ys. x ∷ ys) (still zs all)
        ∙ (sym (put_first x (filter old zs) (all_filter (λ y. before x y ≡ true) old zs all))
        ∙ sym (ap (λ t. with_one before x (cond t (x ∷ filter old zs) (filter old zs))) gone)))))

    pub standing_put : (xs : List X) → IsSorted before xs → IsPut xs
    standing_put [] s = rw own refl
    standing_put (z ∷ zs) s =
        let rest = standing_put zs s.1 in
        three (IsPut (z ∷ zs)) x z (put_ahead z zs s) (λ e f. put_further z zs e f rest) (put_on_it z zs s)

  -- rows by the numbers of the elements
  module _ (row : X → ℕ) where
    abbrev At : List (List X) → ℕ → List X
    At rows n = row_numbered before rows n

    abbrev Stand : List (List X) → List X → List X
    Stand rows xs = those_standing before row rows xs

    abbrev of_row : ℕ → X → Bool
    of_row n x = row x == n

    pub sorted_stand : (rows : List (List X)) (xs : List X) → IsSorted before xs → IsSorted before (Stand rows xs)
    sorted_stand rows xs s = sorted_filter before (stands before row rows) xs s

    pub sorted_row : (rows : List (List X)) (xs : List X) (n : ℕ) → IsSorted before xs → AreRows before row rows xs → IsSorted before (At rows n)
    sorted_row rows xs n s h = subst (λ (ys : List X). IsSorted before ys) (sym (h n)) (sorted_filter before (of_row n) (Stand rows xs) (sorted_stand rows xs s))

    -- whether a thing stands is whether it is among those that do
    pub stands_among : (rows : List (List X)) (xs : List X) (x : X) → AreRows before row rows xs → stands before row rows x ≡ is_among before x (Stand rows xs)
    stands_among rows xs x h =
        ap (is_among before x) (h (row x))
        ∙ any_within (is_one before x) (of_row (row x)) (λ y e. eq-eqb (row y) (row x) (ap row (sym (one_is x y e)))) (Stand rows xs)

    -- by its row: there is a place for it, or it is there
    module _ (rows : List (List X)) (xs : List X) (x : X) (s : IsSorted before xs) (h : AreRows before row rows xs) where
      pub gone_by_row : (place : ℕ) → Some place ≡ gap_from before x 0 (At rows (row x)) → stands before row rows x ≡ false
      gone_by_row place e = is_new before (is_one before) order one_same x 0 place (At rows (row x)) (sorted_row rows xs (row x) s h) (sym e)

      there_by_row : None ≡ gap_from before x 0 (At rows (row x)) → is_among before x (Stand rows xs) ≡ true
      there_by_row e = sym (stands_among rows xs x h) ∙ is_there before (is_one before) order one_same x 0 (At rows (row x)) (sym e)

      pub new_answered : (place : ℕ) → Some place ≡ gap_from before x 0 (At rows (row x)) → true ≡ is_some (gap_from before x 0 (Stand rows xs))
      new_answered place e =
          sym (gap_tells x (Stand rows xs) (sorted_stand rows xs s) ∙ ap not (sym (stands_among rows xs x h) ∙ gone_by_row place e))

      pub old_answered : None ≡ gap_from before x 0 (At rows (row x)) → false ≡ is_some (gap_from before x 0 (Stand rows xs))
      old_answered e = sym (gap_tells x (Stand rows xs) (sorted_stand rows xs s) ∙ ap not (there_by_row e))

      pub stays_old : None ≡ gap_from before x 0 (At rows (row x)) → Stand rows xs ≡ with_one before x (Stand rows xs)
      stays_old e = sym (put_there x (Stand rows xs) (sorted_stand rows xs s) (there_by_row e))

      -- one that does not stand, put in among all that came
      pub noted_seen : stands before row rows x ≡ false → Stand rows (with_one before x xs) ≡ Stand rows xs
      noted_seen gone =
          filter_put before order total (stands before row rows) x xs s ∙ ap (λ t. cond t (with_one before x (Stand rows xs)) (Stand rows xs)) gone

      pub noted_rows : stands before row rows x ≡ false → AreRows before row rows (with_one before x xs)
      noted_rows gone n = h n ∙ ap (filter (of_row n)) (sym (noted_seen gone))

    -- rows that are the same at each number
    module _ (old now : List (List X)) (same : (n : ℕ) → At now n ≡ At old n) where
      pub standing_same : (xs : List X) → Stand now xs ≡ Stand old xs
      standing_same xs = filter_alike (stands before row now) (stands before row old) (λ x. ap (is_among before x) (same (row x))) xs

      pub rows_same : (xs : List X) → AreRows before row old xs → AreRows before row now xs
      rows_same xs h n = same n ∙ (h n ∙ ap (filter (of_row n)) (sym (standing_same xs)))

    -- an empty row behind the others
    pub row_more : (rows now : List (List X)) (new : List X) → new ≡ [] → now ≡ rows ++ new ∷ [] → (n : ℕ) → At now n ≡ At rows n
    row_more rows now new none is n =
        ap (λ (rs : List (List X)). At rs n) (is ∙ ap (λ (r : List X). rows ++ r ∷ []) none) ∙ at rows n
      where
        at : (rs : List (List X)) (k : ℕ) → At (rs ++ [] ∷ []) k ≡ At rs k
        at [] zero = refl
        at [] (suc k) = refl
        at (r ∷ rs) zero = refl
        at (r ∷ rs) (suc k) = at rs k

    -- a row that is written
    pub row_here : (rows now : List (List X)) (m : ℕ) (new : List X) → m < length rows → now ≡ slice_set rows m new → At now m ≡ new
    row_here rows now m new l is = ap (λ (rs : List (List X)). At rs m) is ∙ get_or-set_same rows m new [] l

    pub row_else : (rows now : List (List X)) (m : ℕ) (new : List X) → now ≡ slice_set rows m new → (n : ℕ) → (m ≡ n → ⊥) → At now n ≡ At rows n
    row_else rows now m new is n apart = ap (λ (rs : List (List X)). At rs n) is ∙ get_or-set_other rows m n new [] (λ e. apart (sym e))

    -- one row is another one afterwards
    module _ (old now : List (List X)) (m : ℕ) (rest : (n : ℕ) → (m ≡ n → ⊥) → At now n ≡ At old n) where
      -- some of its things are left
      module _ (keep : X → Bool) (here : At now m ≡ filter keep (At old m)) (stay : (x : X) → (m ≡ row x → ⊥) → keep x ≡ true) where
        stands_left : (x : X) → stands before row now x ≡ (stands before row old x && keep x)
        stands_left x = at (m == row x) refl
          where
            at : (t : Bool) → (m == row x) ≡ t → stands before row now x ≡ (stands before row old x && keep x)
            at true e =
                let own : At now (row x) ≡ filter keep (At old (row x)) = subst (λ (n : ℕ). At now n ≡ filter keep (At old n)) (eqb-true m (row x) e) here in
                ap (is_among before x) own ∙ any_left x keep (At old (row x))
            at false e =
                let apart : m ≡ row x → ⊥ = eqb-false m (row x) e in
                ap (is_among before x) (rest (row x) apart)
                ∙ sym (ap (λ b. stands before row old x && b) (stay x apart) ∙ and-true (stands before row old x))

        pub standing_left : (xs : List X) → Stand now xs ≡ filter keep (Stand old xs)
        standing_left xs =
            filter_alike (stands before row now) (λ x. stands before row old x && keep x) stands_left xs ∙ filter_both (stands before row old) keep xs

        kept : (n : ℕ) → (m ≡ n → ⊥) → (ys : List X) → filter (of_row n) (filter keep ys) ≡ filter (of_row n) ys
        kept n apart ys =
            sym (filter_both keep (of_row n) ys)
            ∙ filter_alike (λ x. keep x && of_row n x) (of_row n) (λ x. within (of_row n x) (keep x) (λ e. stay x (λ q. apart (q ∙ eqb-true (row x) n e)))) ys

        pub rows_left : (xs : List X) → AreRows before row old xs → AreRows before row now xs
        rows_left xs h n = at (m == n) refl
          where
            at : (t : Bool) → (m == n) ≡ t → At now n ≡ filter (of_row n) (Stand now xs)
            at true e =
                subst (λ (k : ℕ). At now k ≡ filter keep (At old k)) (eqb-true m n e) here
                ∙ (ap (filter keep) (h n) ∙ (filter_swap keep (of_row n) (Stand old xs) ∙ ap (filter (of_row n)) (sym (standing_left xs))))
            at false e =
                let apart : m ≡ n → ⊥ = eqb-false m n e in
                rest n apart ∙ (h n ∙ (sym (kept n apart (Stand old xs)) ∙ ap (filter (of_row n)) (sym (standing_left xs))))

      -- one is put in
      module _ (x : X) (own : m ≡ row x) (here : At now m ≡ with_one before x (At old m)) (xs : List X) (s : IsSorted before xs) (gone : stands before row old x ≡ false) where
        stands_put : (y : X) → stands before row now y ≡ (stands before row old y || is_one before y x)
        stands_put y = at (m == row y) refl
          where
            at : (t : Bool) → (m == row y) ≡ t → stands before row now y ≡ (stands before row old y || is_one before y x)
            at true e =
                let mine : At now (row y) ≡ with_one before x (At old (row y)) = subst (λ (n : ℕ). At now n ≡ with_one before x (At old n)) (eqb-true m (row y) e) here in
                ap (is_among before y) mine ∙ any_put y x (At old (row y))
            at false e =
                let apart : m ≡ row y → ⊥ = eqb-false m (row y) e in
                let other : is_one before y x ≡ false = false_from_ne_true (is_one before y x) (λ f. apart (own ∙ sym (ap row (one_is y x f)))) in
                ap (is_among before y) (rest (row y) apart)
                ∙ sym (ap (λ b. stands before row old y || b) other ∙ or-false (stands before row old y))

        pub standing_more : Stand now (with_one before x xs) ≡ with_one before x (Stand old xs)
        standing_more = standing_put x (stands before row old) (stands before row now) gone stands_put xs s

        pub rows_put : AreRows before row old xs → AreRows before row now (with_one before x xs)
        rows_put h n = at (m == n) refl
          where
            split : filter (of_row n) (Stand now (with_one before x xs)) ≡ cond (of_row n x) (with_one before x (filter (of_row n) (Stand old xs))) (filter (of_row n) (Stand old xs))
            split = ap (filter (of_row n)) standing_more ∙ filter_put before order total (of_row n) x (Stand old xs) (sorted_stand old xs s)

            at : (t : Bool) → (m == n) ≡ t → At now n ≡ filter (of_row n) (Stand now (with_one before x xs))
            at true e =
                let same : m ≡ n = eqb-true m n e in
                let mine : of_row n x ≡ true = eq-eqb (row x) n (sym own ∙ same) in
                subst (λ (k : ℕ). At now k ≡ with_one before x (At old k)) same here
                ∙ (ap (with_one before x) (h n)
                ∙ sym (split ∙ ap (λ t. cond t (with_one before x (filter (of_row n) (Stand old xs))) (filter (of_row n) (Stand old xs))) mine))
            at false e =
                let apart : m ≡ n → ⊥ = eqb-false m n e in
                let other : of_row n x ≡ false = ne_eqb (row x) n (λ q. apart (own ∙ q)) in
                rest n apart
                ∙ (h n ∙ sym (split ∙ ap (λ t. cond t (with_one before x (filter (of_row n) (Stand old xs))) (filter (of_row n) (Stand old xs))) other))

      -- its first thing, which is the first of all, is taken out
      module _ (x : X) (xs : List X) (own : m ≡ row x) (here : At now m ≡ drop 1 (At old m)) (s : IsSorted before (x ∷ xs)) (stays : stands before row old x ≡ true) (h : AreRows before row old (x ∷ xs)) where
        seen : Stand old (x ∷ xs) ≡ x ∷ Stand old xs
        seen = ap (λ t. cond t (x ∷ Stand old xs) (Stand old xs)) stays

        abbrev mine : List X
        mine = filter (of_row m) (Stand old xs)

        row_of_first : At old m ≡ x ∷ mine
        row_of_first =
            h m ∙ (ap (filter (of_row m)) seen ∙ ap (λ t. cond t (x ∷ mine) mine) (eq-eqb (row x) m (sym own)))

        row_now : At now m ≡ mine
        row_now = here ∙ ap (drop 1) row_of_first

        stands_rest : (y : X) → before x y ≡ true → stands before row now y ≡ stands before row old y
        stands_rest y e = at (m == row y) refl
          where
            at : (t : Bool) → (m == row y) ≡ t → stands before row now y ≡ stands before row old y
            at true f =
                let same : m ≡ row y = eqb-true m (row y) f in
                let after : At now (row y) ≡ mine = ap (λ (n : ℕ). At now n) (sym same) ∙ row_now in
                let ahead : At old (row y) ≡ x ∷ mine = ap (λ (n : ℕ). At old n) (sym same) ∙ row_of_first in
                ap (is_among before y) after
                ∙ sym (ap (is_among before y) ahead ∙ ap (λ b. b || is_among before y mine) (one_same.behind y x e))
            at false f = ap (is_among before y) (rest (row y) (eqb-false m (row y) f))

        rest_same : Stand now xs ≡ Stand old xs
        rest_same =
            filter_alike_all (stands before row now) (stands before row old) xs
            (all_more (λ y. before x y ≡ true) (λ y. stands before row now y ≡ stands before row old y) stands_rest xs s.0)

        pub first_taken : Stand old (x ∷ xs) ≡ x ∷ Stand now xs
        first_taken = seen ∙ ap (λ ys. x ∷ ys) (sym rest_same)

        pub rows_rest : AreRows before row now xs
        rows_rest n = at (m == n) refl
          where
            at : (t : Bool) → (m == n) ≡ t → At now n ≡ filter (of_row n) (Stand now xs)
            at true e =
                let same : m ≡ n = eqb-true m n e in
                subst (λ (k : ℕ). At now k ≡ filter (of_row k) (Stand old xs)) same row_now ∙ ap (filter (of_row n)) (sym rest_same)
            at false e =
                let apart : m ≡ n → ⊥ = eqb-false m n e in
                let other : of_row n x ≡ false = ne_eqb (row x) n (λ q. apart (own ∙ q)) in
                rest n apart
                ∙ (h n
                ∙ (ap (filter (of_row n)) seen
                ∙ (ap (λ t. cond t (x ∷ filter (of_row n) (Stand old xs)) (filter (of_row n) (Stand old xs))) other
                ∙ ap (filter (of_row n)) (sym rest_same))))

    -- the first of all that came stands no longer, and is left out
    pub record IsPopped (rows : List (List X)) (items now : List X) : Type 0 where
      pub sorted : IsSorted before now
      pub stand : AreRows before row rows now
      pub seen : Stand rows now ≡ Stand rows items
      pub fewer : length now < length items

    pub popped : (rows : List (List X)) (items now : List X) → is_first_gone before row rows items ≡ true → now ≡ drop 1 items → IsSorted before items → AreRows before row rows items → IsPopped rows items now
    popped rows [] now e is s h = absurd (cc)
    popped rows (x ∷ xs) now e is s h =
        let left : Stand rows (x ∷ xs) ≡ Stand rows xs = ap (λ t. cond t (x ∷ Stand rows xs) (Stand rows xs)) (not-true (stands before row rows x) e) in
        let base : IsPopped rows (x ∷ xs) xs = record {
          sorted = s.1;
          stand = λ n. h n ∙ ap (filter (of_row n)) left;
          seen = sym left;
          fewer = omega arith;
        } in
        subst (λ (ys : List X). IsPopped rows (x ∷ xs) ys) (sym is) base
