-- What the marks of instances tell once one is set or taken away.
use Rattle.std.proofs.Common.{◌≡◌, ◌∙◌, ℕ, ◌<◌, suc, zero, List, [], ◌∷◌, Bool, true, false, not, ◌||◌, ◌&&◌, ◌==◌, length, get_or, refl, sym, ap, subst, arith}
use Rattle.std.specs.Prelude.{slice_set}
use Rattle.std.proofs.Math.Bool.{or-false, and-true}
use Rattle.std.proofs.lemmas.Bool.{eqb-true, eqb-false}
use Rattle.tiger_base.specs.declared.number.Instance.{Instance}
use Rattle.instance_marks.specs.Marks.{AreMarked, IsNoted, most_marked}

-- a mark is set, or taken away
put-mark : (marks : List Bool) (i : ℕ) → i < length marks → get_or (slice_set marks i true) i false ≡ true
put-mark [] i h = absurd (omega arith)
put-mark (x ∷ xs) zero h = refl
put-mark (x ∷ xs) (suc i) h = put-mark xs i (omega arith)

drop-mark : (marks : List Bool) (i : ℕ) → get_or (slice_set marks i false) i false ≡ false
drop-mark [] i = refl
drop-mark (x ∷ xs) zero = refl
drop-mark (x ∷ xs) (suc i) = drop-mark xs i

-- another mark stays
keep-mark : (marks : List Bool) (i n : ℕ) (mark : Bool) → (i ≡ n → ⊥) → get_or (slice_set marks i mark) n false ≡ get_or marks n false
keep-mark [] i n mark e = refl
keep-mark (x ∷ xs) zero zero mark e = absurd (e refl)
keep-mark (x ∷ xs) zero (suc n) mark e = refl
keep-mark (x ∷ xs) (suc i) zero mark e = refl
keep-mark (x ∷ xs) (suc i) (suc n) mark e = keep-mark xs i n mark (λ q. e (ap suc q))

pub and-false : (b : Bool) → (b && false) ≡ false
and-false true = refl
and-false false = refl

pub or-true : (b : Bool) → (b || true) ≡ true
or-true true = refl
or-true false = refl

pub dropped-mark : (marks : List Bool) (i n : ℕ) → get_or (slice_set marks i false) n false ≡ (get_or marks n false && not (i == n))
dropped-mark marks i n = cases (i == n) refl
  where
    cases : (t : Bool) → (i == n) ≡ t → get_or (slice_set marks i false) n false ≡ (get_or marks n false && not t)
    cases true e =
        subst (λ (m : ℕ). get_or (slice_set marks i false) m false ≡ false) (eqb-true _ _ e) (drop-mark marks i) ∙ sym (and-false (get_or marks n false))
    cases false e = keep-mark marks i n false (eqb-false i n e) ∙ sym (and-true (get_or marks n false))

-- the marks once an instance is marked
pub marked_more : (old grown after : List Bool) (test now : Instance → Bool) (v : Instance) → AreMarked old test → ((n : ℕ) → get_or grown n false ≡ get_or old n false)
    → (v.0 < most_marked → v.0 < length grown) → after ≡ slice_set grown v.0 true → ((w : Instance) → now w ≡ (test w || v.0 == w.0)) → AreMarked after now
marked_more old grown after test now v h same place is more w small = cases (v.0 == w.0) refl
  where
    read : ℕ → List Bool → Bool
    read n marks = get_or marks n false

    cases : (t : Bool) → (v.0 == w.0) ≡ t → read w.0 after ≡ now w
    cases true e =
        let one : v.0 ≡ w.0 = eqb-true _ _ e in
        let there : read v.0 (slice_set grown v.0 true) ≡ true = put-mark grown v.0 (place (omega (arith, one, small))) in
        ap (read w.0) is ∙ subst (λ (n : ℕ). read n (slice_set grown v.0 true) ≡ true) one there ∙ sym (or-true (test w)) ∙ ap (λ b. test w || b) (sym e) ∙ sym (more w)
    cases false e =
        ap (read w.0) is ∙ keep-mark grown v.0 w.0 true (eqb-false _ _ e) ∙ same w.0 ∙ h w small ∙ sym (or-false (test w)) ∙ ap (λ b. test w || b) (sym e) ∙ sym (more w)

-- the marks once the mark of an instance is taken away
pub marked_less : (old after : List Bool) (test now : Instance → Bool) (v : Instance) → AreMarked old test → after ≡ slice_set old v.0 false
    → ((w : Instance) → now w ≡ (test w && not (v.0 == w.0))) → AreMarked after now
marked_less old after test now v h is less w small =
    ap (λ (marks : List Bool). get_or marks w.0 false) is ∙ dropped-mark old v.0 w.0 ∙ ap (λ b. b && not (v.0 == w.0)) (h w small) ∙ sym (less w)

-- what is noted once one more is
pub noted_one : (grown after : List Bool) (v : Instance) → (v.0 < most_marked → v.0 < length grown) → after ≡ slice_set grown v.0 true → IsNoted after v
noted_one grown after v place is small = ap (λ (ms : List Bool). get_or ms v.0 false) is ∙ put-mark grown v.0 (place small)

pub length-mark : (marks : List Bool) (i : ℕ) → length (slice_set marks i true) ≡ length marks
length-mark [] i = refl
length-mark (x ∷ xs) zero = refl
length-mark (x ∷ xs) (suc i) = ap suc (length-mark xs i)

-- one that is noted has a place
pub noted_place : (marks : List Bool) (n : ℕ) → get_or marks n false ≡ true → n < length marks
noted_place [] n e = absurd (cc)
noted_place (x ∷ xs) zero e = omega arith
noted_place (x ∷ xs) (suc n) e = let rest = noted_place xs n e in omega (arith, rest)

noted_still : (marks : List Bool) (i n : ℕ) → get_or marks n false ≡ true → get_or (slice_set marks i true) n false ≡ true
noted_still [] i n e = e
noted_still (x ∷ xs) zero zero e = refl
noted_still (x ∷ xs) zero (suc n) e = e
noted_still (x ∷ xs) (suc i) zero e = e
noted_still (x ∷ xs) (suc i) (suc n) e = noted_still xs i n e

pub noted_more : (old grown after : List Bool) (v w : Instance) → ((n : ℕ) → get_or grown n false ≡ get_or old n false) → after ≡ slice_set grown v.0 true → IsNoted old w → IsNoted after w
noted_more old grown after v w same is noted small =
    ap (λ (ms : List Bool). get_or ms w.0 false) is ∙ noted_still grown v.0 w.0 (same w.0 ∙ noted small)

-- and once another one's note is taken away
pub noted_less : (old after : List Bool) (v w : Instance) → after ≡ slice_set old v.0 false → IsNoted old w → (w.0 == v.0) ≡ false → IsNoted after w
noted_less old after v w is noted other small =
    ap (λ (ms : List Bool). get_or ms w.0 false) is ∙ (keep-mark old v.0 w.0 false (λ e. eqb-false w.0 v.0 other (sym e)) ∙ noted small)
