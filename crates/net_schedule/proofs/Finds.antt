-- What is found in a list of entries once it has changed.
use Rattle.std.proofs.Common.{◌≡◌, ◌∙◌, ℕ, ◌<◌, ◌||◌, ◌==◌, Bool, true, false, not, cond, List, [], ◌∷◌, Some, None, Option, refl, sym, ap, subst, arith, nat_lt, eq-eqb}
use Rattle.std.specs.Prelude.{filter, find}
use Rattle.std.specs.List.{AllByRecursion, list_any}
use Rattle.std.proofs.lemmas.Bool.{eqb-true}
use Rattle.tiger_base.specs.declared.number.Instance.{Instance}
use Rattle.net_schedule.specs.declared.ring.Entry.{Entry}
use Rattle.net_schedule.specs.declared.ring.NetState.{NetState}
use Rattle.net_schedule.specs.declared.ring.Own.{Own}
use Rattle.net_schedule.specs.Cubs.{IsRising, is_of, is_for, put_in, with_state}

pub clash : {t : Bool} → t ≡ true → t ≡ false → ⊥
clash a b = cc

pub same_instance : (u v : Instance) → u.0 ≡ v.0 → u ≡ v
same_instance u v e = let z : ◌≡◌ {A = Instance} (record { 0 = u.0 }) (record { 0 = v.0 }) = rw e refl in z

pub one_some : {X : Type 0} {o : Option X} (x y : X) → o ≡ Some x → o ≡ Some y → x ≡ y
one_some x y a b = cc

pub never : {X : Type 0} {o : Option X} (x : X) → o ≡ Some x → o ≡ None → ⊥
never x a b = cc

pub none_any : {X : Type 0} (p : X → Bool) (xs : List X) → list_any p xs ≡ false → find p xs ≡ None
none_any p [] e = refl
none_any p (x ∷ xs) e = cases (p x) e (λ g. none_any p xs g)
  where
    cases : (b : Bool) → (b || list_any p xs) ≡ false → (list_any p xs ≡ false → find p xs ≡ None) → cond b (Some x) (find p xs) ≡ None
    cases true g ih = absurd (cc)
    cases false g ih = ih g

pub some_any : {X : Type 0} (p : X → Bool) (xs : List X) → list_any p xs ≡ true → (x : X) × (find p xs ≡ Some x)
some_any p [] e = absurd (cc)
some_any p (x ∷ xs) e = cases (p x) e (λ g. some_any p xs g)
  where
    cases : (b : Bool) → (b || list_any p xs) ≡ true → (list_any p xs ≡ true → (y : _) × (find p xs ≡ Some y)) → (y : _) × (cond b (Some x) (find p xs) ≡ Some y)
    cases true g ih = (x, refl)
    cases false g ih = ih g

-- a further element is found, and those of other tests as before
pub put_found : {X : Type 0} (number : X → ℕ) (p : X → Bool) (x : X) (ys : List X) → p x ≡ true → find p ys ≡ None → find p (put_in number x ys) ≡ Some x
put_found number p x [] t none = rw t refl
put_found number p x (y ∷ ys) t none = cases (nat_lt (number x) (number y)) (p y) refl none (λ g. put_found number p x ys t g)
  where
    cases : (b e : Bool) → p y ≡ e → cond e (Some y) (find p ys) ≡ None → (find p ys ≡ None → find p (put_in number x ys) ≡ Some x) → find p (cond b (x ∷ y ∷ ys) (y ∷ put_in number x ys)) ≡ Some x
    cases true e te none ih = rw t refl
    cases false true te none ih = absurd (cc)
    cases false false te none ih = rw te (ih none)

pub put_others : {X : Type 0} (number : X → ℕ) (p : X → Bool) (x : X) (ys : List X) → p x ≡ false → find p (put_in number x ys) ≡ find p ys
put_others number p x [] t = rw t refl
put_others number p x (y ∷ ys) t = cases (nat_lt (number x) (number y)) (put_others number p x ys t)
  where
    cases : (b : Bool) → find p (put_in number x ys) ≡ find p ys → find p (cond b (x ∷ y ∷ ys) (y ∷ put_in number x ys)) ≡ find p (y ∷ ys)
    cases true ih = rw t refl
    cases false ih = ap (λ z. cond (p y) (Some y) z) ih

-- what is found of an instance in another state, and of the others
pub state_found : (v : Instance) (x : NetState) (own : List Own) (o : Own) → find (is_of v) own ≡ Some o → find (is_of v) (with_state v x own) ≡ Some (record o { state = x })
state_found v x [] o e = absurd (cc)
state_found v x (y ∷ ys) o e = cases (is_of v y) refl e (λ g. state_found v x ys o g)
  where
    cases : (b : Bool) → is_of v y ≡ b → cond b (Some y) (find (is_of v) ys) ≡ Some o → (find (is_of v) ys ≡ Some o → find (is_of v) (with_state v x ys) ≡ Some (record o { state = x }))
        → find (is_of v) (cond b (record y { state = x } ∷ ys) (y ∷ with_state v x ys)) ≡ Some (record o { state = x })
    cases true t g ih = let same : y ≡ o = cc in rw t (ap (λ (z : Own). Some (record z { state = x })) same)
    cases false t g ih = rw t (ih g)

pub state_others : (v u : Instance) (x : NetState) (own : List Own) → (v.0 ≡ u.0 → ⊥) → find (is_of u) (with_state v x own) ≡ find (is_of u) own
state_others v u x [] ne = refl
state_others v u x (y ∷ ys) ne = cases (is_of v y) refl (is_of u y) refl (state_others v u x ys ne)
  where
    cases : (b : Bool) → is_of v y ≡ b → (e : Bool) → is_of u y ≡ e → find (is_of u) (with_state v x ys) ≡ find (is_of u) ys
        → find (is_of u) (cond b (record y { state = x } ∷ ys) (y ∷ with_state v x ys)) ≡ cond (is_of u y) (Some y) (find (is_of u) ys)
    cases true t true te ih = absurd (ne (sym (eqb-true y.entry.instance.0 v.0 t) ∙ eqb-true y.entry.instance.0 u.0 te))
    cases true t false te ih = rw te refl
    cases false t e te ih = ap (λ z. cond (is_of u y) (Some y) z) ih

-- nothing is found of an instance that was released, and of the others what was
pub released_none : (v : Instance) (kept : List Entry) → find (is_for v) (filter (λ e. not (is_for v e)) kept) ≡ None
released_none v [] = refl
released_none v (y ∷ ys) = cases (is_for v y) refl (released_none v ys)
  where
    cases : (b : Bool) → is_for v y ≡ b → find (is_for v) (filter (λ e. not (is_for v e)) ys) ≡ None → find (is_for v) (cond (not b) (y ∷ filter (λ e. not (is_for v e)) ys) (filter (λ e. not (is_for v e)) ys)) ≡ None
    cases true t ih = ih
    cases false t ih = rw t ih

pub released_others : (v u : Instance) (kept : List Entry) → (v.0 ≡ u.0 → ⊥) → find (is_for u) (filter (λ e. not (is_for v e)) kept) ≡ find (is_for u) kept
released_others v u [] ne = refl
released_others v u (y ∷ ys) ne = cases (is_for v y) refl (is_for u y) refl (released_others v u ys ne)
  where
    cases : (b : Bool) → is_for v y ≡ b → (e : Bool) → is_for u y ≡ e → find (is_for u) (filter (λ e. not (is_for v e)) ys) ≡ find (is_for u) ys
        → find (is_for u) (cond (not b) (y ∷ filter (λ e. not (is_for v e)) ys) (filter (λ e. not (is_for v e)) ys)) ≡ cond (is_for u y) (Some y) (find (is_for u) ys)
    cases true t true te ih = absurd (ne (sym (eqb-true y.instance.0 v.0 t) ∙ eqb-true y.instance.0 u.0 te))
    cases true t false te ih = rw te ih
    cases false t e te ih = ap (λ z. cond (is_for u y) (Some y) z) ih

-- an element of a list whose numbers rise is the one that is found of its number
pub all_found : {X : Type 0} (number : X → ℕ) (P : X → Type 0) (xs : List X) → IsRising number xs
    → ((x : X) → find (λ y. number y == number x) xs ≡ Some x → P x) → AllByRecursion P xs
all_found number P [] rises give = tt
all_found number P (x ∷ xs) rises give = (
  give x (let t : (number x == number x) ≡ true = eq-eqb _ _ refl in rw t refl),
  all_found number P xs rises.1 (λ y f. give y (behind y f)),
)
  where
    above : (y : _) (zs : List _) → AllByRecursion (λ z. number x < number z) zs → find (λ z. number z == number y) zs ≡ Some y → number x < number y
    above y [] h f = absurd (cc)
    above y (z ∷ zs) h f = cases (number z == number y) f (λ g. above y zs h.1 g)
      where
        cases : (b : Bool) → cond b (Some z) (find (λ w. number w == number y) zs) ≡ Some y → (find (λ w. number w == number y) zs ≡ Some y → number x < number y) → number x < number y
        cases true g ih = let same : z ≡ y = cc in subst (λ w. number x < number w) same h.0
        cases false g ih = ih g

    behind : (y : _) → find (λ z. number z == number y) xs ≡ Some y → cond (number x == number y) (Some x) (find (λ z. number z == number y) xs) ≡ Some y
    behind y f = cases (number x == number y) refl
      where
        cases : (b : Bool) → (number x == number y) ≡ b → cond b (Some x) (find (λ z. number z == number y) xs) ≡ Some y
        cases true t = let same : number x ≡ number y = eqb-true _ _ t in absurd (omega (arith, above y xs rises.0 f, same))
        cases false t = f
