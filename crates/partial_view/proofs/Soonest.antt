-- The first line of all buckets that passes a test is the soonest of the first ones of each.
use Rattle.std.proofs.Common.{◌≡◌, ℕ, ◌+◌, ◌-◌, ◌<◌, ◌≤◌, zero, suc, Bool, true, false, cond, List, [], ◌∷◌, length, get_or, drop, find, Option, Some, None, IfSome, refl, sym, ap, subst, ◌∙◌, arith}
use Rattle.std.specs.List.{AllByRecursion}
use Rattle.std.proofs.lemmas.Bool.{both_ways}
use Rattle.tiger_base.specs.declared.number.Instance.{Instance}
use Rattle.slot_plan.specs.declared.params.Params.{Params}
use Rattle.slot_plan.specs.Keys.{Key, IsKey, is_earlier}
use Rattle.slot_plan.proofs.Keys.{is_earlier-asymmetric, is_earlier-transitive}
use Rattle.partial_view.specs.declared.line.Line.{Line}
use Rattle.partial_view.specs.Lines.{key_of, same}
use Rattle.partial_view.specs.Views.{Seen, IsBefore, IsWalk, with_line, next_behind, first_of}
use Rattle.partial_view.specs.Wheel.{joined, AreBuckets, lines_of, all_lines, IsWheel, sooner}
use Rattle.partial_view.proofs.Order.{other_earlier}
use Rattle.partial_view.proofs.Places.{later_all}
use Rattle.partial_view.proofs.Merged.{AreApart, Fit, walk-joined, all-fit}
use Rattle.partial_view.proofs.Turns.{found-holds}

-- a line that comes before what is found stays the sooner one
stays-first : (p : Params) (x : Line) (o : Option Line) → IfSome o (λ z. is_earlier p (key_of x) (key_of z) ≡ true) → Some x ≡ sooner p (Some x) o
stays-first p x None h = refl
stays-first p x (Some z) h = sym (rw (is_earlier-asymmetric p (key_of x) (key_of z) h) refl)

found-later : (P : Line → Type 0) (test : Line → Bool) (lines : List Line) → AllByRecursion P lines → IfSome (find test lines) P
found-later P test lines h = at_find (find test lines) refl
  where
    at_find : (o : Option Line) → find test lines ≡ o → IfSome o P
    at_find None e = tt
    at_find (Some x) e = found-holds P test lines x h e

-- a line that is put in
put-at : (p : Params) (test : Line → Bool) (x y : Line) (ys : List Line) (t a b : Bool) → is_earlier p (key_of x) (key_of y) ≡ t → test x ≡ a → test y ≡ b → same (key_of x) (key_of y) ≡ false → IsWalk p (y ∷ ys)
    → find test (with_line p x ys) ≡ sooner p (cond a (Some x) None) (find test ys)
    → find test (cond t (x ∷ y ∷ ys) (y ∷ with_line p x ys)) ≡ sooner p (cond a (Some x) None) (cond b (Some y) (find test ys))
put-at p test x y ys true true true e ia ib apart w r = rw ia (rw (is_earlier-asymmetric p (key_of x) (key_of y) e) refl)
put-at p test x y ys true true false e ia ib apart w r =
    rw ia (stays-first p x (find test ys) (found-later (λ z. is_earlier p (key_of x) (key_of z) ≡ true) test ys (later_all p (key_of x) y ys e w.1)))
put-at p test x y ys true false true e ia ib apart w r = rw (ia, ib) refl
put-at p test x y ys true false false e ia ib apart w r = rw (ia, ib) refl
put-at p test x y ys false true true e ia ib apart w r = rw ib (rw (other_earlier p (key_of x) (key_of y) apart e) refl)
put-at p test x y ys false true false e ia ib apart w r = rw ib r
put-at p test x y ys false false true e ia ib apart w r = rw ib refl
put-at p test x y ys false false false e ia ib apart w r = rw ib r

first-put : (p : Params) (test : Line → Bool) (x : Line) (ys : List Line) → IsWalk p ys → AreApart (key_of x) ys → find test (with_line p x ys) ≡ sooner p (cond (test x) (Some x) None) (find test ys)
unfolding with_line
first-put p test x [] w apart = elim (test x) as (λ t. cond t (Some x) None ≡ sooner p (cond t (Some x) None) None) [ true ↦ refl | false ↦ refl ]
first-put p test x (y ∷ ys) w apart = put-at p test x y ys (is_earlier p (key_of x) (key_of y)) (test x) (test y) refl refl refl apart.0 w (first-put p test x ys w.2 apart.1)

-- of three, of which the first comes before the second
of-three : (p : Params) (x z : Line) (m : Option Line) → is_earlier p (key_of x) (key_of z) ≡ true → sooner p (Some x) (sooner p (Some z) m) ≡ sooner p (Some x) m
of-three p x z None h = sym (stays-first p x (Some z) h)
of-three p x z (Some w) h = at_test (is_earlier p (key_of w) (key_of z)) (is_earlier p (key_of w) (key_of x)) refl refl
  where
    at_test : (s t : Bool) → is_earlier p (key_of w) (key_of z) ≡ s → is_earlier p (key_of w) (key_of x) ≡ t → sooner p (Some x) (cond s (Some w) (Some z)) ≡ cond t (Some w) (Some x)
    at_test true true es et = rw et refl
    at_test true false es et = rw et refl
    at_test false true es et = absurd (both_ways (is_earlier p (key_of w) (key_of z)) es (is_earlier-transitive p (key_of w) (key_of x) (key_of z) et h))
    at_test false false es et = rw (is_earlier-asymmetric p (key_of x) (key_of z) h) refl

step-at : (p : Params) (test : Line → Bool) (x : Line) (xs m : List Line) (a : Bool) (f : Option Line) → test x ≡ a → find test xs ≡ f → IsBefore p (key_of x) xs
    → sooner p (cond a (Some x) None) (sooner p f (find test m)) ≡ sooner p (cond a (Some x) f) (find test m)
step-at p test x xs m false f ia is w = refl
step-at p test x xs m true None ia is w = refl
step-at p test x xs m true (Some z) ia is w = of-three p x z (find test m) (found-holds (λ y. is_earlier p (key_of x) (key_of y) ≡ true) test xs z w is)

first-joined : (p : Params) (test : Line → Bool) (xs m : List Line) → IsWalk p xs → Fit p xs m → find test (joined p xs m) ≡ sooner p (find test xs) (find test m)
first-joined p test [] m w f = refl
first-joined p test (x ∷ xs) m w f =
    first-put p test x (joined p xs m) (walk-joined p xs m f.2) f.1
    ∙ (ap (λ o. sooner p (cond (test x) (Some x) None) o) (first-joined p test xs m w.2 f.2) ∙ step-at p test x xs m (test x) (find test xs) refl refl w.1)

-- the buckets from one on
buckets-drop : (p : Params) (j i : ℕ) (bs : List Seen) → AreBuckets p j (lines_of bs) → AreBuckets p (j + i) (lines_of (drop i bs))
buckets-drop p j zero bs h = let e : j ≡ j + 0 = omega arith in subst (λ n. AreBuckets p n (lines_of bs)) e h
buckets-drop p j (suc i) [] h = tt
buckets-drop p j (suc i) (b ∷ bs) h = let e : suc j + i ≡ j + suc i = omega arith in subst (λ n. AreBuckets p n (lines_of (drop i bs))) e (buckets-drop p (suc j) i bs h.2)

buckets-from : (p : Params) (i : ℕ) (bs : List Seen) → AreBuckets p 0 (lines_of bs) → AreBuckets p i (lines_of (drop i bs))
buckets-from p i bs h = let e : 0 + i ≡ i = omega arith in subst (λ n. AreBuckets p n (lines_of (drop i bs))) e (buckets-drop p 0 i bs h)

drop-here : (bs : List Seen) (m : ℕ) (b : Seen) → m < length bs → b ≡ get_or bs m b → drop m bs ≡ b ∷ drop (suc m) bs
drop-here [] m b l e = absurd (omega arith)
drop-here (c ∷ cs) zero b l e = ap (λ d. d ∷ cs) (sym e)
drop-here (c ∷ cs) (suc m) b l e = drop-here cs m b (omega arith) e

first-step : (p : Params) (test : Line → Bool) (bs : List Seen) (m : ℕ) (b : Seen) → IsWheel p bs → m < length bs → b ≡ get_or bs m b
    → sooner p (find test b.lines) (find test (all_lines p (drop (suc m) bs))) ≡ find test (all_lines p (drop m bs))
first-step p test bs m b h l e =
    let parts = drop-here bs m b l e in
    let here : AreBuckets p m (lines_of (b ∷ drop (suc m) bs)) = subst (λ ds. AreBuckets p m (lines_of ds)) parts (buckets-from p m bs h.own) in
    let fit = all-fit p m (lines_of (b ∷ drop (suc m) bs)) here in
    sym (ap (λ ds. find test (all_lines p ds)) parts ∙ first-joined p test b.lines (all_lines p (drop (suc m) bs)) here.0 fit.0.0)

params-at : (p : Params) (bs : List Seen) (m : ℕ) (b : Seen) → AllByRecursion (λ (s : Seen). s.params ≡ p) bs → m < length bs → b ≡ get_or bs m b → b.params ≡ p
params-at p [] m b h l e = absurd (omega arith)
params-at p (c ∷ cs) zero b h l e = subst (λ (s : Seen). s.params ≡ p) (sym e) h.0
params-at p (c ∷ cs) (suc m) b h l e = params-at p cs m b h.1 (omega arith) e

none-left : (bs : List Seen) → drop (length bs) bs ≡ []
none-left [] = refl
none-left (b ∷ bs) = none-left bs

pub none-past : (p : Params) (test : Line → Bool) (bs : List Seen) → None ≡ find test (all_lines p (drop (length bs) bs))
none-past p test bs = ap (λ ds. find test (all_lines p ds)) (sym (none-left bs))

pub walk-left : (p : Params) (bs : List Seen) (i : ℕ) → IsWheel p bs → IsWalk p (all_lines p (drop i bs))
walk-left p bs i h = (all-fit p i (lines_of (drop i bs)) (buckets-from p i bs h.own)).1

-- the line that is found is the plan's
pub found-key : (p : Params) (test : Line → Bool) (lines : List Line) (o : Option Line) → IsWalk p lines → o ≡ find test lines → IfSome o (λ x. IsKey p (key_of x))
found-key p test lines o w e = subst (λ (q : Option Line). IfSome q (λ x. IsKey p (key_of x))) (sym e) (found-later (λ x. IsKey p (key_of x)) test lines (keys lines w))
  where
    keys : (ls : List Line) → IsWalk p ls → AllByRecursion (λ x. IsKey p (key_of x)) ls
    keys [] v = tt
    keys (y ∷ ys) v = (v.0, keys ys v.2)

-- a turn of the search: the bucket before those that were looked into
pub sooner-step : (p : Params) (test : Line → Bool) (bs : List Seen) (i : ℕ) (b : Seen) (best first : Option Line) {result : Option Line} → IsWheel p bs → 0 < i → i ≤ length bs → b ≡ get_or bs (i - 1) b
    → best ≡ find test (all_lines p (drop i bs)) → first ≡ find test b.lines → result ≡ sooner p first best → result ≡ find test (all_lines p (drop (i - 1) bs))
sooner-step p test bs i b best first h pos l e be fi re =
    let on : i ≡ suc (i - 1) = omega (arith, pos) in
    re ∙ (ap (λ o. sooner p o best) fi ∙ (ap (λ o. sooner p (find test b.lines) o) (be ∙ ap (λ n. find test (all_lines p (drop n bs))) on) ∙ first-step p test bs (i - 1) b h (omega (arith, pos, l)) e))

module _ (p : Params) (bs : List Seen) (i : ℕ) (b : Seen) (h : IsWheel p bs) (pos : 0 < i) (l : i ≤ length bs) (e : b ≡ get_or bs (i - 1) b) where
  plan-here : b.params ≡ p
  plan-here = params-at p bs (i - 1) b h.plans (omega arith) e

  walk-here : IsWalk p b.lines
  walk-here =
      let here : AreBuckets p (i - 1) (lines_of (b ∷ drop (suc (i - 1)) bs)) = subst (λ ds. AreBuckets p (i - 1) (lines_of ds)) (drop-here bs (i - 1) b (omega (arith, pos, l)) e) (buckets-from p (i - 1) bs h.own) in
      here.0

  -- the line that is found in the bucket is the plan's
  pub behind-here : (key : Option Key) {o : Option Line} → o ≡ next_behind b.params key b.lines → IfSome o (λ x. IsKey p (key_of x))
  unfolding next_behind
  behind-here key {o} is = found-key p _ b.lines o walk-here (is ∙ ap (λ q. next_behind q key b.lines) plan-here)

  pub of-here : (v : Instance) {o : Option Line} → o ≡ first_of v b.lines → IfSome o (λ x. IsKey p (key_of x))
  unfolding first_of
  of-here v {o} is = found-key p _ b.lines o walk-here is

  pub behind-step : (key : Option Key) {best first result : Option Line} → best ≡ next_behind p key (all_lines p (drop i bs)) → first ≡ next_behind b.params key b.lines → result ≡ sooner p first best
      → result ≡ next_behind p key (all_lines p (drop (i - 1) bs))
  unfolding next_behind
  behind-step key {best} {first} be fi re = sooner-step p _ bs i b best first h pos l e be (fi ∙ ap (λ q. next_behind q key b.lines) plan-here) re

  pub of-step : (v : Instance) {best first result : Option Line} → best ≡ first_of v (all_lines p (drop i bs)) → first ≡ first_of v b.lines → result ≡ sooner p first best
      → result ≡ first_of v (all_lines p (drop (i - 1) bs))
  unfolding first_of
  of-step v {best} {first} be fi re = sooner-step p _ bs i b best first h pos l e be fi re

module _ (p : Params) (bs : List Seen) where
  pub behind-init : (key : Option Key) → None ≡ next_behind p key (all_lines p (drop (length bs) bs))
  unfolding next_behind
  behind-init key = none-past p _ bs

  pub of-init : (v : Instance) → None ≡ first_of v (all_lines p (drop (length bs) bs))
  unfolding first_of
  of-init v = none-past p _ bs

  module _ (h : IsWheel p bs) (i : ℕ) where
    pub behind-key : (key : Option Key) {o : Option Line} → o ≡ next_behind p key (all_lines p (drop i bs)) → IfSome o (λ x. IsKey p (key_of x))
    unfolding next_behind
    behind-key key {o} e = found-key p _ (all_lines p (drop i bs)) o (walk-left p bs i h) e

    pub of-key : (v : Instance) {o : Option Line} → o ≡ first_of v (all_lines p (drop i bs)) → IfSome o (λ x. IsKey p (key_of x))
    unfolding first_of
    of-key v {o} e = found-key p _ (all_lines p (drop i bs)) o (walk-left p bs i h) e
