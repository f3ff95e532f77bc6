-- What keeps each instance held at most once, and the loop that passes one on.
use Rattle.std.proofs.Common.{◌≡◌, ℕ, ◌<◌, ◌==◌, zero, suc, subst, List, [], ◌∷◌, ◌++◌, Bool, true, false, refl, sym, ap, get_or, length, arith, ◌∙◌, cond, eqb, ◌||◌}
use Rattle.std.proofs.Math.ListN.{set}
use Rattle.std.specs.List.{list_any}
use Rattle.std.proofs.lemmas.Bool.{eqb-true}
use Rattle.std.proofs.lemmas.Bool.Decides.{nat_tests}
use Rattle.tiger_base.specs.declared.number.Instance.{Instance}
use Rattle.deschedule.specs.declared.held.Holding.{Holding}
use Rattle.deschedule.specs.Holds.{is_of, is_held, IsOnce, once_passed, with_pass, is_kept, holds_at}

-- the instance of a deschedule stays as it is passed on
once_passed-instance : (v : Instance) (h : Holding) → (once_passed v h).instance ≡ h.instance
once_passed-instance v h = elim (is_of v h) as (λ b. (cond b (record h { passed = true }) h).instance ≡ h.instance) [ true ↦ refl | false ↦ refl ]

pub with_pass-held : (holds : List Holding) (v w : Instance) → is_held (with_pass holds v) w ≡ is_held holds w
with_pass-held [] v w = refl
with_pass-held (h ∷ hs) v w =
    ap (λ (x : Instance). eqb x.0 w.0 || is_held (with_pass hs v) w) (once_passed-instance v h) ∙ ap (λ b. eqb h.instance.0 w.0 || b) (with_pass-held hs v w)

pub IsOnce-with_pass : (holds : List Holding) (v : Instance) → IsOnce holds → IsOnce (with_pass holds v)
IsOnce-with_pass [] v o = tt
IsOnce-with_pass (h ∷ hs) v o =
    (ap (λ x. is_held (with_pass hs v) x) (once_passed-instance v h) ∙ (with_pass-held hs v h.instance ∙ o.0), IsOnce-with_pass hs v o.1)

-- neither of two tests holds where one or the other does not
pub none_of : (a b : Bool) → (a || b) ≡ false → (a ≡ false) × (b ≡ false)
none_of true b e = (e, cc)
none_of false b e = (refl, e)

still_apart : (holds : List Holding) (h new : Holding) → is_held holds h.instance ≡ false → is_of new.instance h ≡ false → is_held (holds ++ new ∷ []) h.instance ≡ false
still_apart [] h new e n = grind (arith, nat_tests)
still_apart (g ∷ gs) h new e n =
    let both = none_of (is_of h.instance g) (is_held gs h.instance) e in
    rw (both.0) (still_apart gs h new both.1 n)

pub IsOnce-more : (holds : List Holding) (new : Holding) → IsOnce holds → is_held holds new.instance ≡ false → IsOnce (holds ++ new ∷ [])
IsOnce-more [] new o e = (refl, tt)
IsOnce-more (h ∷ hs) new o e =
    let both = none_of (is_of new.instance h) (is_held hs new.instance) e in
    (still_apart hs h new o.0 both.0, IsOnce-more hs new o.1 both.1)

pub holds_at-held : (holds : List Holding) (reading : ℕ) (v : Instance) → is_held holds v ≡ false → is_held (holds_at holds reading) v ≡ false
holds_at-held [] reading v e = refl
holds_at-held (h ∷ hs) reading v e =
    let both = none_of (is_of v h) (is_held hs v) e in
    elim (is_kept reading h) as (λ b. is_held (cond b (h ∷ holds_at hs reading) (holds_at hs reading)) v ≡ false) [ true ↦ rw (both.0) (holds_at-held hs reading v both.1) | false ↦ holds_at-held hs reading v both.1 ]

pub IsOnce-holds_at : (holds : List Holding) (reading : ℕ) → IsOnce holds → IsOnce (holds_at holds reading)
IsOnce-holds_at [] reading o = tt
IsOnce-holds_at (h ∷ hs) reading o =
    elim (is_kept reading h) as (λ b. IsOnce (cond b (h ∷ holds_at hs reading) (holds_at hs reading))) [ true ↦ (holds_at-held hs reading h.instance o.0, IsOnce-holds_at hs reading o.1) | false ↦ IsOnce-holds_at hs reading o.1 ]

-- nothing is passed on where the instance is not held
pub with_pass-none : (holds : List Holding) (v : Instance) → is_held holds v ≡ false → with_pass holds v ≡ holds
with_pass-none [] v e = refl
with_pass-none (h ∷ hs) v e =
    let both = none_of (is_of v h) (is_held hs v) e in
    rw (both.0) (ap (λ (xs : List Holding). h ∷ xs) (with_pass-none hs v both.1))

held-at : (holds : List Holding) (i : ℕ) (d : Holding) (v : Instance) → i < length holds → is_of v (get_or holds i d) ≡ true → is_held holds v ≡ true
held-at [] i d v h e = absurd (omega arith)
held-at (x ∷ xs) zero d v h e = rw e refl
held-at (x ∷ xs) (suc i) d v h e = or-true (is_of v x) (is_held xs v) (held-at xs i d v (omega arith) e)
  where
    or-true : (s t : Bool) → t ≡ true → (s || t) ≡ true
    or-true true t e = refl
    or-true false t e = e

others_not : (x : Holding) (xs : List Holding) (v : Instance) → is_held xs x.instance ≡ false → is_of v x ≡ true → is_held xs v ≡ false
others_not x xs v o e = subst (λ (n : ℕ). list_any (λ (h : Holding). h.instance.0 == n) xs ≡ false) (eqb-true _ _ e) o

-- the deschedule at a place is of the instance, and so no other one is
pub passed-at : (holds : List Holding) (i : ℕ) (d : Holding) (v : Instance) → IsOnce holds → i < length holds → is_of v (get_or holds i d) ≡ true
    → set holds i (record (get_or holds i d) { passed = true }) ≡ with_pass holds v
passed-at [] i d v o h e = absurd (omega arith)
passed-at (x ∷ xs) zero d v o h e = rw e (ap (λ (ys : List Holding). record x { passed = true } ∷ ys) (sym (with_pass-none xs v (others_not x xs v o.0 e))))
passed-at (x ∷ xs) (suc i) d v o h e = cases (is_of v x) refl (passed-at xs i d v o.1 (omega arith) e) (held-at xs i d v (omega arith) e)
  where
    cases : (t : Bool) → is_of v x ≡ t → set xs i (record (get_or xs i d) { passed = true }) ≡ with_pass xs v → is_held xs v ≡ true
        → set (x ∷ xs) (suc i) (record (get_or (x ∷ xs) (suc i) d) { passed = true }) ≡ with_pass (x ∷ xs) v
    cases true t ih there = let none = others_not x xs v o.0 t in absurd (cc)
    cases false t ih there = rw t (ap (λ (ys : List Holding). x ∷ ys) ih)
