-- What the marks of instances tell as starts come and go.
use Rattle.std.proofs.Common.{◌≡◌, ◌∙◌, ℕ, List, [], ◌∷◌, ◌++◌, Bool, true, false, not, cond, ◌||◌, ◌&&◌, ◌==◌, refl, sym, ap, subst}
use Rattle.std.proofs.Math.Bool.{or-false}
use Rattle.std.proofs.lemmas.Bool.{eqb-true}
use Rattle.std.proofs.lemmas.List.Folds.{list_any-append}
use Rattle.tiger_base.specs.declared.number.Instance.{Instance}
use Rattle.tiger_base.specs.declared.tenancy.Ask.{Ask}
use Rattle.insert_queue.specs.Queues.{is_of, has_start, without}
use Rattle.instance_marks.proofs.Marked.{and-false, or-true}

-- with one more start that waits, or one more redundant one
one_more : (asks : List Ask) (new : Ask) (w : Instance) → has_start (asks ++ new ∷ []) w ≡ (has_start asks w || is_of w new)
one_more asks new w = list_any-append (is_of w) asks (new ∷ []) ∙ ap (λ b. has_start asks w || b) (or-false (is_of w new))

pub more_waits : (waiting redundant : List Ask) (new : Ask) (w : Instance) → (has_start (waiting ++ new ∷ []) w || has_start redundant w) ≡ ((has_start waiting w || has_start redundant w) || is_of w new)
more_waits waiting redundant new w =
    ap (λ b. b || has_start redundant w) (one_more waiting new w) ∙ turned (has_start waiting w) (is_of w new) (has_start redundant w)
  where
    turned : (a b c : Bool) → ((a || b) || c) ≡ ((a || c) || b)
    turned true b c = refl
    turned false true c = sym (or-true c)
    turned false false c = sym (or-false c)

pub more_redundant : (waiting redundant : List Ask) (new : Ask) (w : Instance) → (has_start waiting w || has_start (redundant ++ new ∷ []) w) ≡ ((has_start waiting w || has_start redundant w) || is_of w new)
more_redundant waiting redundant new w =
    ap (λ b. has_start waiting w || b) (one_more redundant new w) ∙ grouped (has_start waiting w) (has_start redundant w) (is_of w new)
  where
    grouped : (a b c : Bool) → (a || (b || c)) ≡ ((a || b) || c)
    grouped true b c = refl
    grouped false b c = refl

-- without the starts of an instance
one_less : (asks : List Ask) (v w : Instance) → has_start (without asks v) w ≡ (has_start asks w && not (v.0 == w.0))
one_less [] v w = refl
one_less (a ∷ rest) v w = cases (is_of v a) refl (one_less rest v w)
  where
    first : (t s : Bool) → (v.0 == w.0) ≡ t → is_of w a ≡ s → is_of v a ≡ false → (s || (has_start rest w && not t)) ≡ ((s || has_start rest w) && not t)
    first true true t s apart = let here : is_of v a ≡ true = subst (λ (n : ℕ). (a.instance.0 == n) ≡ true) (sym (eqb-true _ _ t)) s in absurd (cc)
    first true false t s apart = refl
    first false true t s apart = refl
    first false false t s apart = refl

    gone : (t s : Bool) → (v.0 == w.0) ≡ t → is_of w a ≡ s → is_of v a ≡ true → (has_start rest w && not t) ≡ ((s || has_start rest w) && not t)
    gone true s t e here = and-false (has_start rest w) ∙ sym (and-false (s || has_start rest w))
    gone false true t e here = let other : (v.0 == w.0) ≡ true = subst (λ (n : ℕ). (n == w.0) ≡ true) (eqb-true _ _ here) e in absurd (cc)
    gone false false t e here = refl

    cases : (t : Bool) → is_of v a ≡ t → has_start (without rest v) w ≡ (has_start rest w && not (v.0 == w.0)) → has_start (cond (not t) (a ∷ without rest v) (without rest v)) w ≡ (has_start (a ∷ rest) w && not (v.0 == w.0))
    cases true e ih = ih ∙ gone (v.0 == w.0) (is_of w a) refl refl e
    cases false e ih = ap (λ b. is_of w a || b) ih ∙ first (v.0 == w.0) (is_of w a) refl refl e

pub less_of_both : (waiting redundant : List Ask) (v w : Instance) → (has_start (without waiting v) w || has_start (without redundant v) w) ≡ ((has_start waiting w || has_start redundant w) && not (v.0 == w.0))
less_of_both waiting redundant v w =
    ap (λ b. b || has_start (without redundant v) w) (one_less waiting v w) ∙ ap (λ b. (has_start waiting w && not (v.0 == w.0)) || b) (one_less redundant v w) ∙ both (has_start waiting w) (has_start redundant w) (not (v.0 == w.0))
  where
    both : (a b c : Bool) → ((a && c) || (b && c)) ≡ ((a || b) && c)
    both true b true = refl
    both true b false = and-false b
    both false b c = refl

-- once the redundant ones wait
pub all_wait : (waiting redundant : List Ask) (w : Instance) → (has_start (waiting ++ redundant) w || false) ≡ (has_start waiting w || has_start redundant w)
all_wait waiting redundant w = or-false (has_start (waiting ++ redundant) w) ∙ list_any-append (is_of w) waiting redundant
