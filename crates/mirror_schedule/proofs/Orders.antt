-- Lists in an order, and what is put into them.
use Rattle.std.proofs.Common.{◌≡◌, ℕ, ◌+◌, ◌-◌, ◌≤◌, Bool, true, false, cond, List, [], ◌∷◌, length, zero, suc, Some, None, is_some, refl, ap, sym, ◌∙◌, arith}
use Rattle.std.specs.List.{AllByRecursion, filter, insert, remove}
use Rattle.mirror_schedule.specs.Sorted.{IsSorted, first_if, with_one, gap_from, without_first}
use Rattle.mirror_schedule.proofs.Timed.{all_remove}

-- what a comparison is to do: nothing comes before itself, and what comes before a second that comes before a third comes before that
pub record IsOrder {X : Type 0} (before : X → X → Bool) : Type 0 where
  pub irreflexive : (x : X) → before x x ≡ false
  pub transitive : (x y z : X) → before x y ≡ true → before y z ≡ true → before x z ≡ true

-- facts of every element
pub all_filter : {X : Type 0} (P : X → Type 0) (test : X → Bool) (xs : List X) → AllByRecursion P xs → AllByRecursion P (filter test xs)
all_filter P test [] h = tt
all_filter P test (x ∷ xs) h =
    elim (test x) as (λ t. AllByRecursion P (cond t (x ∷ filter test xs) (filter test xs))) [
      | true ↦ (h.0, all_filter P test xs h.1)
      | false ↦ all_filter P test xs h.1
    ]

pub all_more : {X : Type 0} (P Q : X → Type 0) → ((x : X) → P x → Q x) → (xs : List X) → AllByRecursion P xs → AllByRecursion Q xs
all_more P Q f [] h = tt
all_more P Q f (x ∷ xs) h = (f x h.0, all_more P Q f xs h.1)

module _ {X : Type 0} (before : X → X → Bool) where
  pub all_with_one : (P : X → Type 0) (x : X) (xs : List X) → AllByRecursion P xs → P x → AllByRecursion P (with_one before x xs)
  all_with_one P x [] h here = (here, tt)
  all_with_one P x (y ∷ ys) h here =
      let rest = all_with_one P x ys h.1 here in
      elim (before x y) as (λ b. AllByRecursion P (cond b (x ∷ y ∷ ys) (cond (before y x) (y ∷ with_one before x ys) (y ∷ ys)))) [
        | true ↦ (here, h)
        | false ↦ elim (before y x) as (λ b. AllByRecursion P (cond b (y ∷ with_one before x ys) (y ∷ ys))) [
          | true ↦ (h.0, rest)
          | false ↦ h
        ]
      ]

  pub all_without_first : (P : X → Type 0) (test : X → Bool) (xs : List X) → AllByRecursion P xs → AllByRecursion P (without_first test xs)
  all_without_first P test [] h = tt
  all_without_first P test (x ∷ xs) h =
      elim (test x) as (λ b. AllByRecursion P (cond b xs (x ∷ without_first test xs))) [
        | true ↦ h.1
        | false ↦ (h.0, all_without_first P test xs h.1)
      ]

  -- what is left of a list in order is in order
  pub sorted_filter : (test : X → Bool) (xs : List X) → IsSorted before xs → IsSorted before (filter test xs)
  sorted_filter test [] h = tt
  sorted_filter test (x ∷ xs) h =
      elim (test x) as (λ t. IsSorted before (cond t (x ∷ filter test xs) (filter test xs))) [
        | true ↦ (all_filter (λ y. before x y ≡ true) test xs h.0, sorted_filter test xs h.1)
        | false ↦ sorted_filter test xs h.1
      ]

  pub sorted_remove : (xs : List X) (i : ℕ) → IsSorted before xs → IsSorted before (remove xs i)
  sorted_remove [] zero h = tt
  sorted_remove [] (suc i) h = tt
  sorted_remove (x ∷ xs) zero h = h.1
  sorted_remove (x ∷ xs) (suc i) h = (all_remove (λ y. before x y ≡ true) xs i h.0, sorted_remove xs i h.1)

  -- if what comes behind one that fails a test fails it, and the first one does, all do
  pub none_pass : (test : X → Bool) → ((x y : X) → test x ≡ false → before x y ≡ true → test y ≡ false) → (xs : List X) → IsSorted before xs → is_some (first_if test xs) ≡ false
      → AllByRecursion (λ x. test x ≡ false) xs
  none_pass test later [] s none = tt
  none_pass test later (x ∷ xs) s none = at (test x) refl none
    where
      at : (t : Bool) → test x ≡ t → is_some (cond t (Some x) None) ≡ false → AllByRecursion (λ y. test y ≡ false) (x ∷ xs)
      at true is none = absurd (cc)
      at false is none = (is, all_more (λ y. before x y ≡ true) (λ y. test y ≡ false) (λ y f. later x y is f) xs s.0)

  -- an element put into a list in order, by what the two tests give at the first one
  sorted_put : IsOrder before → (x y : X) (ys : List X) (a b : Bool) → before x y ≡ a → before y x ≡ b → IsSorted before (y ∷ ys) → IsSorted before (with_one before x ys)
      → IsSorted before (cond a (x ∷ y ∷ ys) (cond b (y ∷ with_one before x ys) (y ∷ ys)))
  sorted_put order x y ys true b e f h rest =
      ((e, all_more (λ z. before y z ≡ true) (λ z. before x z ≡ true) (λ z g. order.transitive x y z e g) ys h.0), h)
  sorted_put order x y ys false true e f h rest = (all_with_one (λ z. before y z ≡ true) x ys h.0 f, rest)
  sorted_put order x y ys false false e f h rest = h

  pub sorted_with_one : IsOrder before → (x : X) (xs : List X) → IsSorted before xs → IsSorted before (with_one before x xs)
  sorted_with_one order x [] h = (tt, tt)
  sorted_with_one order x (y ∷ ys) h =
      sorted_put order x y ys (before x y) (before y x) refl refl h (sorted_with_one order x ys h.1)

  -- no place: the element is there, and the list stays
  gap_none : (x y : X) (n : ℕ) (ys : List X) (a b : Bool) → (gap_from before x (n + 1) ys ≡ None → with_one before x ys ≡ ys)
      → cond a (Some n) (cond b (gap_from before x (n + 1) ys) None) ≡ None
      → cond a (x ∷ y ∷ ys) (cond b (y ∷ with_one before x ys) (y ∷ ys)) ≡ y ∷ ys
  gap_none x y n ys true b rest e = absurd (cc)
  gap_none x y n ys false true rest e = ap (λ zs. y ∷ zs) (rest e)
  gap_none x y n ys false false rest e = refl

  pub with_one-there : (x : X) (n : ℕ) (xs : List X) → gap_from before x n xs ≡ None → with_one before x xs ≡ xs
  with_one-there x n [] e = absurd (cc)
  with_one-there x n (y ∷ ys) e = gap_none x y n ys (before x y) (before y x) (with_one-there x (n + 1) ys) e

  -- a place: the element is put in there
  pub record IsGap (x : X) (xs : List X) (n place : ℕ) : Type 0 where
    pub low : n ≤ place
    pub high : place ≤ n + length xs
    pub put : with_one before x xs ≡ insert xs (place - n) x

  gap_some : (x y : X) (n place : ℕ) (ys : List X) (a b : Bool) → before x y ≡ a → before y x ≡ b → (gap_from before x (n + 1) ys ≡ Some place → IsGap x ys (n + 1) place)
      → cond a (Some n) (cond b (gap_from before x (n + 1) ys) None) ≡ Some place
      → IsGap x (y ∷ ys) n place
  gap_some x y n place ys true b f g rest e =
      let at : n ≡ place = cc in
      let none : place - n ≡ 0 = omega arith in
      record { low = omega arith; high = omega arith; put = rw (none, f) refl }
  gap_some x y n place ys false true f g rest e =
      let r = rest e in
      let more : place - n ≡ suc (place - (n + 1)) = omega (arith, r.low) in
      record {
        low = omega (arith, r.low);
        high = omega (arith, r.high);
        put = rw (more, f, g) (ap (λ zs. y ∷ zs) r.put);
      }
  gap_some x y n place ys false false f g rest e = absurd (cc)

  pub with_one-new : (x : X) (n place : ℕ) (xs : List X) → gap_from before x n xs ≡ Some place → IsGap x xs n place
  with_one-new x n place [] e =
      let at : n ≡ place = cc in
      let none : place - n ≡ 0 = omega arith in
      record { low = omega arith; high = omega arith; put = rw none refl }
  with_one-new x n place (y ∷ ys) e = gap_some x y n place ys (before x y) (before y x) refl refl (with_one-new x (n + 1) place ys) e

  -- what is put in at the place that was found
  pub put_high : (x : X) (xs : List X) (place : ℕ) → Some place ≡ gap_from before x 0 xs → place ≤ length xs
  put_high x xs place e = omega (arith, (with_one-new x 0 place xs (sym e)).high)

  pub put_at : (x : X) (xs ys : List X) (place : ℕ) → Some place ≡ gap_from before x 0 xs → xs ≡ ys → insert ys place x ≡ with_one before x ys
  put_at x xs ys place e same =
      let new : gap_from before x 0 ys ≡ Some place = sym (e ∙ ap (λ (zs : List X). gap_from before x 0 zs) same) in
      let at : place - 0 ≡ place = omega arith in
      sym (ap (λ (n : ℕ). insert ys n x) at) ∙ sym (with_one-new x 0 place ys new).put
