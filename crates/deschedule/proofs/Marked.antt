-- What the marks of instances tell as deschedules come, are passed on and end.
use Rattle.std.proofs.Common.{◌≡◌, ◌∙◌, ℕ, List, [], ◌∷◌, ◌++◌, Bool, true, false, not, cond, ◌||◌, ◌&&◌, ◌==◌, get_or, refl, sym, ap, subst}
use Rattle.std.specs.List.{list_any}
use Rattle.std.proofs.Math.Bool.{or-false, and-true}
use Rattle.std.proofs.lemmas.Bool.{and_parts, eqb-true}
use Rattle.std.proofs.lemmas.List.Folds.{list_any-append}
use Rattle.tiger_base.specs.declared.number.Instance.{Instance}
use Rattle.deschedule.specs.declared.held.Holding.{Holding}
use Rattle.deschedule.specs.Holds.{is_of, is_held, IsOnce, must_pass, once_passed, with_pass, is_kept, has_ended, holds_at}
use Rattle.instance_marks.specs.Marks.{AreMarked}
use Rattle.instance_marks.proofs.Marked.{and-false}
use Rattle.deschedule.proofs.Once.{none_of}

-- the marks once those of all deschedules are taken away that have ended
pub marked_left : (old after : List Bool) (test now : Instance → Bool) (holds : List Holding) (reading : ℕ) → AreMarked old test
    → ((v : Instance) → get_or after v.0 false ≡ (get_or old v.0 false && not (has_ended holds reading v))) → ((w : Instance) → now w ≡ (test w && not (has_ended holds reading w))) → AreMarked after now
marked_left old after test now holds reading h is left w small =
    is w ∙ ap (λ b. b && not (has_ended holds reading w)) (h w small) ∙ sym (left w)

-- with one more deschedule
pub held_with : (holds : List Holding) (new : Holding) (w : Instance) → is_held (holds ++ new ∷ []) w ≡ (is_held holds w || is_of w new)
held_with holds new w = list_any-append (is_of w) holds (new ∷ []) ∙ ap (λ b. is_held holds w || b) (or-false (is_of w new))

pub unpassed_with : (holds : List Holding) (new : Holding) (w : Instance) → new.passed ≡ false → must_pass (holds ++ new ∷ []) w ≡ (must_pass holds w || is_of w new)
unpassed_with holds new w e =
    list_any-append (λ h. is_of w h && not h.passed) holds (new ∷ []) ∙ ap (λ b. must_pass holds w || b) (or-false (is_of w new && not new.passed) ∙ (ap (λ b. is_of w new && not b) e ∙ and-true (is_of w new)))

-- with one passed on
module _ (n v w : ℕ) (b : Bool) where
  passed_here : (n == v) ≡ true → ((n == w) && false) ≡ (((n == w) && not b) && not (v == w))
  passed_here e = subst (λ (m : ℕ). ((n == w) && false) ≡ (((n == w) && not b) && not (m == w))) (eqb-true n v e) (tests (n == w) b)
    where
      tests : (s c : Bool) → (s && false) ≡ ((s && not c) && not s)
      tests true true = refl
      tests true false = refl
      tests false c = refl

  passed_other : (n == v) ≡ false → ((n == w) && not b) ≡ (((n == w) && not b) && not (v == w))
  passed_other e = cases (v == w) refl
    where
      cases : (t : Bool) → (v == w) ≡ t → ((n == w) && not b) ≡ (((n == w) && not b) && not t)
      cases true f =
          let apart : (n == w) ≡ false = subst (λ (m : ℕ). (n == m) ≡ false) (eqb-true v w f) e in
          rw apart refl
      cases false f = sym (and-true ((n == w) && not b))

passed_one : (v w : Instance) (h : Holding) → (is_of w (once_passed v h) && not (once_passed v h).passed) ≡ ((is_of w h && not h.passed) && not (v.0 == w.0))
passed_one v w h = cases (is_of v h) refl
  where
    cases : (t : Bool) → is_of v h ≡ t → (is_of w (cond t (record h { passed = true }) h) && not (cond t (record h { passed = true }) h).passed) ≡ ((is_of w h && not h.passed) && not (v.0 == w.0))
    cases true e = passed_here h.instance.0 v.0 w.0 h.passed e
    cases false e = passed_other h.instance.0 v.0 w.0 h.passed e

pub unpassed_pass : (holds : List Holding) (v w : Instance) → must_pass (with_pass holds v) w ≡ (must_pass holds w && not (v.0 == w.0))
unpassed_pass [] v w = refl
unpassed_pass (h ∷ hs) v w =
    let is_w : Holding → Bool = λ x. is_of w x && not x.passed in
    ap (λ b. b || must_pass (with_pass hs v) w) (passed_one v w h) ∙ ap (λ b. (is_w h && not (v.0 == w.0)) || b) (unpassed_pass hs v w) ∙ both (is_w h) (must_pass hs w) (not (v.0 == w.0))
  where
    both : (a b c : Bool) → ((a && c) || (b && c)) ≡ ((a || b) && c)
    both true b true = refl
    both true b false = and-false b
    both false b c = refl

-- with those alone that are left at a reading: m and s tell whether the first one passes the test and is of the instance, p whether
-- another one passes the test, e whether another one has ended
kept_first : (m s p e left : Bool) → left ≡ (p && not e) → (s ≡ true → (p ≡ false) × (e ≡ false)) → (m ≡ true → s ≡ true) → (m || left) ≡ ((m || p) && not ((s && false) || e))
kept_first true true p e left is once of = rw ((once refl).1) refl
kept_first true false p e left is once of = let no : false ≡ true = of refl in absurd (cc)
kept_first false true p e left is once of = is
kept_first false false p e left is once of = is

gone_first : (m s p e left : Bool) → left ≡ (p && not e) → (s ≡ true → (p ≡ false) × (e ≡ false)) → (m ≡ true → s ≡ true) → left ≡ ((m || p) && not ((s && true) || e))
gone_first true true p e left is once of = is ∙ ap (λ b. b && not e) (once refl).0
gone_first true false p e left is once of = let no : false ≡ true = of refl in absurd (cc)
gone_first false true p e left is once of =
    is ∙ ap (λ b. b && not e) (once refl).0 ∙ sym (and-false p)
gone_first false false p e left is once of = is

-- no other one is of the instance of the first
none_other : (f : Holding → Bool) (hs : List Holding) (w : Instance) → is_held hs w ≡ false → list_any (λ x. is_of w x && f x) hs ≡ false
none_other f [] w e = refl
none_other f (h ∷ hs) w e =
    let both = none_of (is_of w h) (is_held hs w) e in
    rw (both.0) (none_other f hs w both.1)

once_of : (h : Holding) (hs : List Holding) (w : Instance) → IsOnce (h ∷ hs) → is_of w h ≡ true → is_held hs w ≡ false
once_of h hs w o e = subst (λ (n : ℕ). list_any (λ (x : Holding). x.instance.0 == n) hs ≡ false) (eqb-true _ _ e) o.0

pub held_left_marks : (holds : List Holding) (reading : ℕ) (w : Instance) → IsOnce holds → is_held (holds_at holds reading) w ≡ (is_held holds w && not (has_ended holds reading w))
held_left_marks [] reading w o = refl
held_left_marks (h ∷ hs) reading w o =
    let once : is_of w h ≡ true → (is_held hs w ≡ false) × (has_ended hs reading w ≡ false) =
    λ e. (once_of h hs w o e, none_other (λ x. not (is_kept reading x)) hs w (once_of h hs w o e)) in
    let ih = held_left_marks hs reading w o.1 in
    elim (is_kept reading h) as (λ b. is_held (cond b (h ∷ holds_at hs reading) (holds_at hs reading)) w ≡ ((is_of w h || is_held hs w) && not ((is_of w h && not b) || has_ended hs reading w))) [
      | true ↦ kept_first (is_of w h) (is_of w h) _ _ _ ih once (λ e. e)
      | false ↦ gone_first (is_of w h) (is_of w h) _ _ _ ih once (λ e. e)
    ]

pub unpassed_left : (holds : List Holding) (reading : ℕ) (w : Instance) → IsOnce holds → must_pass (holds_at holds reading) w ≡ (must_pass holds w && not (has_ended holds reading w))
unpassed_left [] reading w o = refl
unpassed_left (h ∷ hs) reading w o =
    let once : is_of w h ≡ true → (must_pass hs w ≡ false) × (has_ended hs reading w ≡ false) =
    λ e. (none_other (λ x. not x.passed) hs w (once_of h hs w o e), none_other (λ x. not (is_kept reading x)) hs w (once_of h hs w o e)) in
    let ih = unpassed_left hs reading w o.1 in
    let of : (is_of w h && not h.passed) ≡ true → is_of w h ≡ true = λ e. (and_parts (is_of w h) (not h.passed) e).0 in
    elim (is_kept reading h) as (λ b. must_pass (cond b (h ∷ holds_at hs reading) (holds_at hs reading)) w ≡ (((is_of w h && not h.passed) || must_pass hs w) && not ((is_of w h && not b) || has_ended hs reading w))) [
      | true ↦ kept_first (is_of w h && not h.passed) (is_of w h) _ _ _ ih once of
      | false ↦ gone_first (is_of w h && not h.passed) (is_of w h) _ _ _ ih once of
    ]
