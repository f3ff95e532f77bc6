-- Lists of entries by instance: what a further entry, another state and a release change.
use Rattle.std.proofs.Common.{◌≡◌, ◌∙◌, ℕ, zero, suc, ◌+◌, ◌<◌, ◌≤◌, ◌||◌, ◌==◌, Bool, true, false, not, cond, List, [], ◌∷◌, ◌++◌, length, get_or, take, drop, Some, None, refl, sym, ap, subst, arith, nat_lt, ⊎_elim, eq-or-lt_of_le, eq-eqb}
use Rattle.std.proofs.Math.ListN.{set}
use Rattle.std.specs.Prelude.{filter, find, sum_by}
use Rattle.std.specs.List.{AllByRecursion, list_any}
use Rattle.std.proofs.lemmas.Bool.{ltb-true, ltb-false, eqb-true}
use Rattle.std.proofs.lemmas.List.Sums.{sum_by-cons}
use Rattle.tiger_base.specs.declared.number.Instance.{Instance}
use Rattle.net_schedule.specs.declared.ring.NetRing.{NetRing}
use Rattle.net_schedule.specs.declared.ring.Entry.{Entry}
use Rattle.net_schedule.specs.declared.ring.NetState.{NetState}
use Rattle.net_schedule.specs.declared.ring.Own.{Own}
use Rattle.net_schedule.specs.Cubs.{IsRising, is_live, is_of, is_for, number_of, put_in, with_state, own_rate, kept_rate}

-- the entry at a place is the instance's: what stands before it stays
pub set_front : (xs : List Own) (i : ℕ) (d : Own) (v : Instance) (x : NetState) → i < length xs → is_of v (get_or xs i d) ≡ true
    → set xs i (record (get_or xs i d) { state = x }) ≡ take i xs ++ with_state v x (drop i xs)
set_front [] i d v x h e = absurd (omega arith)
set_front (y ∷ ys) zero d v x h e = rw e refl
set_front (y ∷ ys) (suc i) d v x h e = ap (λ (zs : List Own). y ∷ zs) (set_front ys i d v x (omega arith) e)

-- what holds of all elements holds of them and of a further one
pub all_put : {X : Type 0} (P : X → Type 0) (number : X → ℕ) (x : X) (ys : List X) → P x → AllByRecursion P ys → AllByRecursion P (put_in number x ys)
all_put P number x [] p h = (p, tt)
all_put P number x (y ∷ ys) p h =
    let ih = all_put P number x ys p h.1 in
    elim (nat_lt (number x) (number y)) as (λ b. AllByRecursion P (cond b (x ∷ y ∷ ys) (y ∷ put_in number x ys))) [ true ↦ (p, h) | false ↦ (h.0, ih) ]

-- a further element adds what it counts
pub sum_put : {X : Type 0} (f : X → ℕ) (number : X → ℕ) (x : X) (ys : List X) → sum_by f (put_in number x ys) ≡ f x + sum_by f ys
sum_put f number x [] = sum_by-cons f x []
sum_put f number x (y ∷ ys) =
    let ih = sum_put f number x ys in
    cases (nat_lt (number x) (number y)) ih
  where
    cases : (b : Bool) → sum_by f (put_in number x ys) ≡ f x + sum_by f ys → sum_by f (cond b (x ∷ y ∷ ys) (y ∷ put_in number x ys)) ≡ f x + sum_by f (y ∷ ys)
    cases true ih = sum_by-cons f x (y ∷ ys)
    cases false ih = omega (arith, ih, sum_by-cons f y (put_in number x ys), sum_by-cons f y ys)

above : {X : Type 0} (number : X → ℕ) (a b : ℕ) (ys : List X) → a < b → AllByRecursion (λ y. b < number y) ys → AllByRecursion (λ y. a < number y) ys
above number a b [] less h = tt
above number a b (y ∷ ys) less h = (omega (arith, less, h.0), above number a b ys less h.1)

-- a list whose numbers rise does so with a further number
pub rises_put : {X : Type 0} (number : X → ℕ) (x : X) (ys : List X) → IsRising number ys → list_any (λ y. number y == number x) ys ≡ false → IsRising number (put_in number x ys)
rises_put number x [] h new = (tt, tt)
rises_put number x (y ∷ ys) h new = cases (number y == number x) (nat_lt (number x) (number y)) refl refl new (λ n. rises_put number x ys h.1 n)
  where
    cases : (e b : Bool) → (number y == number x) ≡ e → nat_lt (number x) (number y) ≡ b → (e || list_any (λ z. number z == number x) ys) ≡ false
        → (list_any (λ z. number z == number x) ys ≡ false → IsRising number (put_in number x ys))
        → IsRising number (cond b (x ∷ y ∷ ys) (y ∷ put_in number x ys))
    cases true b ee eb n ih = absurd (cc)
    cases false true ee eb n ih = let less : number x < number y = ltb-true _ _ eb in ((less, above number (number x) (number y) ys less h.0), h)
    cases false false ee eb n ih =
        let most : number y ≤ number x = ltb-false _ _ eb in
        let less : number y < number x = ⊎_elim (λ (same : number y ≡ number x). absurd (clash (eq-eqb _ _ same) ee)) (λ l. l) (eq-or-lt_of_le most) in
        (all_put (λ z. number y < number z) number x ys less h.0, ih n)
      where
        clash : {t : Bool} → t ≡ true → t ≡ false → ⊥
        clash a b = cc

-- another state leaves the numbers, and what says nothing of the state
pub all_state : (P : Own → Type 0) (v : Instance) (x : NetState) (ys : List Own) → ((o : Own) → P o → P (record o { state = x })) → AllByRecursion P ys → AllByRecursion P (with_state v x ys)
all_state P v x [] keep h = tt
all_state P v x (y ∷ ys) keep h =
    let ih = all_state P v x ys keep h.1 in
    elim (is_of v y) as (λ b. AllByRecursion P (cond b (record y { state = x } ∷ ys) (y ∷ with_state v x ys))) [ true ↦ (keep y h.0, h.1) | false ↦ (h.0, ih) ]

pub rises_state : (v : Instance) (x : NetState) (ys : List Own) → IsRising number_of ys → IsRising number_of (with_state v x ys)
rises_state v x [] h = tt
rises_state v x (y ∷ ys) h =
    let ih = rises_state v x ys h.1 in
    let more = all_state (λ o. number_of y < number_of o) v x ys (λ o p. p) h.0 in
    elim (is_of v y) as (λ b. IsRising number_of (cond b (record y { state = x } ∷ ys) (y ∷ with_state v x ys))) [ true ↦ (h.0, h.1) | false ↦ (more, ih) ]

-- an entry that counts and does so no more takes its rate out
pub sum_ended : (r : NetRing) (k : ℕ) (v : Instance) (x : NetState) (own : List Own) (o : Own) → find (is_of v) own ≡ Some o → is_live o.state ≡ true → is_live x ≡ false
    → sum_by (own_rate r k) own ≡ sum_by (own_rate r k) (with_state v x own) + kept_rate r k o.entry
sum_ended r k v x [] o f live dead = absurd (cc)
sum_ended r k v x (y ∷ ys) o f live dead = cases (is_of v y) f (λ g. sum_ended r k v x ys o g live dead)
  where
    cases : (b : Bool) → cond b (Some y) (find (is_of v) ys) ≡ Some o
        → (find (is_of v) ys ≡ Some o → sum_by (own_rate r k) ys ≡ sum_by (own_rate r k) (with_state v x ys) + kept_rate r k o.entry)
        → sum_by (own_rate r k) (y ∷ ys) ≡ sum_by (own_rate r k) (cond b (record y { state = x } ∷ ys) (y ∷ with_state v x ys)) + kept_rate r k o.entry
    cases true g ih =
        let same : y ≡ o = cc in
        let before : own_rate r k y ≡ kept_rate r k o.entry = subst (λ (z : Own). own_rate r k z ≡ kept_rate r k o.entry) (sym same) (rw live refl) in
        let after : own_rate r k (record y { state = x }) ≡ 0 = rw dead refl in
        omega (arith, sum_by-cons (own_rate r k) y ys, sum_by-cons (own_rate r k) (record y { state = x }) ys, before, after)
    cases false g ih = omega (arith, ih g, sum_by-cons (own_rate r k) y ys, sum_by-cons (own_rate r k) y (with_state v x ys))

-- one that counts in either state takes as much
pub sum_same : (r : NetRing) (k : ℕ) (v : Instance) (x : NetState) (own : List Own) (o : Own) → find (is_of v) own ≡ Some o → is_live o.state ≡ true → is_live x ≡ true
    → sum_by (own_rate r k) (with_state v x own) ≡ sum_by (own_rate r k) own
sum_same r k v x [] o f live too = refl
sum_same r k v x (y ∷ ys) o f live too = cases (is_of v y) f (λ g. sum_same r k v x ys o g live too)
  where
    cases : (b : Bool) → cond b (Some y) (find (is_of v) ys) ≡ Some o
        → (find (is_of v) ys ≡ Some o → sum_by (own_rate r k) (with_state v x ys) ≡ sum_by (own_rate r k) ys)
        → sum_by (own_rate r k) (cond b (record y { state = x } ∷ ys) (y ∷ with_state v x ys)) ≡ sum_by (own_rate r k) (y ∷ ys)
    cases true g ih =
        let same : y ≡ o = cc in
        let before : own_rate r k y ≡ kept_rate r k y.entry = rw (ap (λ (z : Own). is_live z.state) same ∙ live) refl in
        let after : own_rate r k (record y { state = x }) ≡ kept_rate r k y.entry = rw too refl in
        omega (arith, sum_by-cons (own_rate r k) y ys, sum_by-cons (own_rate r k) (record y { state = x }) ys, before, after)
    cases false g ih = omega (arith, ih g, sum_by-cons (own_rate r k) y ys, sum_by-cons (own_rate r k) y (with_state v x ys))

-- What holds of all elements holds of those that are left.
pub all_filter : {X : Type 0} (P : X → Type 0) (p : X → Bool) (ys : List X) → AllByRecursion P ys → AllByRecursion P (filter p ys)
all_filter P p [] h = tt
all_filter P p (y ∷ ys) h =
    let ih = all_filter P p ys h.1 in
    elim (p y) as (λ b. AllByRecursion P (cond b (y ∷ filter p ys) (filter p ys))) [ true ↦ (h.0, ih) | false ↦ ih ]

pub rises_filter : {X : Type 0} (number : X → ℕ) (p : X → Bool) (ys : List X) → IsRising number ys → IsRising number (filter p ys)
rises_filter number p [] h = tt
rises_filter number p (y ∷ ys) h =
    let ih = rises_filter number p ys h.1 in
    elim (p y) as (λ b. IsRising number (cond b (y ∷ filter p ys) (filter p ys))) [ true ↦ (all_filter (λ z. number y < number z) p ys h.0, ih) | false ↦ ih ]

-- what is not of an instance is all that is left
pub none_for : (v : Instance) (ys : List Entry) → AllByRecursion (λ e. v.0 < e.instance.0) ys → filter (λ e. not (is_for v e)) ys ≡ ys
none_for v [] h = refl
none_for v (y ∷ ys) h = cases (is_for v y) refl (none_for v ys h.1)
  where
    cases : (b : Bool) → is_for v y ≡ b → filter (λ e. not (is_for v e)) ys ≡ ys → cond (not b) (y ∷ filter (λ e. not (is_for v e)) ys) (filter (λ e. not (is_for v e)) ys) ≡ y ∷ ys
    cases true e ih = let same : y.instance.0 ≡ v.0 = eqb-true _ _ e in absurd (omega (arith, h.0, same))
    cases false e ih = ap (λ (zs : List Entry). y ∷ zs) ih

pub not_there : (v : Instance) (ys : List Entry) → find (is_for v) ys ≡ None → filter (λ e. not (is_for v e)) ys ≡ ys
not_there v [] n = refl
not_there v (y ∷ ys) n = cases (is_for v y) n (λ m. not_there v ys m)
  where
    cases : (b : Bool) → cond b (Some y) (find (is_for v) ys) ≡ None → (find (is_for v) ys ≡ None → filter (λ e. not (is_for v e)) ys ≡ ys)
        → cond (not b) (y ∷ filter (λ e. not (is_for v e)) ys) (filter (λ e. not (is_for v e)) ys) ≡ y ∷ ys
    cases true n ih = absurd (cc)
    cases false n ih = ap (λ (zs : List Entry). y ∷ zs) (ih n)

-- one that is kept no more takes its rate out
pub sum_released : (r : NetRing) (k : ℕ) (v : Instance) (kept : List Entry) (e : Entry) → IsRising (λ (x : Entry). x.instance.0) kept → find (is_for v) kept ≡ Some e
    → sum_by (kept_rate r k) kept ≡ sum_by (kept_rate r k) (filter (λ x. not (is_for v x)) kept) + kept_rate r k e
sum_released r k v [] e rises f = absurd (cc)
sum_released r k v (y ∷ ys) e rises f = cases (is_for v y) refl f (λ g. sum_released r k v ys e rises.1 g)
  where
    cases : (b : Bool) → is_for v y ≡ b → cond b (Some y) (find (is_for v) ys) ≡ Some e
        → (find (is_for v) ys ≡ Some e → sum_by (kept_rate r k) ys ≡ sum_by (kept_rate r k) (filter (λ x. not (is_for v x)) ys) + kept_rate r k e)
        → sum_by (kept_rate r k) (y ∷ ys) ≡ sum_by (kept_rate r k) (cond (not b) (y ∷ filter (λ x. not (is_for v x)) ys) (filter (λ x. not (is_for v x)) ys)) + kept_rate r k e
    cases true t g ih =
        let same : y ≡ e = cc in
        let number : y.instance.0 ≡ v.0 = eqb-true _ _ t in
        let rest = none_for v ys (subst (λ (n : ℕ). AllByRecursion (λ (x : Entry). n < x.instance.0) ys) number rises.0) in
        let less = ap (λ (zs : List Entry). sum_by (kept_rate r k) zs) rest in
        let mine = ap (kept_rate r k) same in
        omega (arith, sum_by-cons (kept_rate r k) y ys, less, mine)
    cases false t g ih = omega (arith, ih g, sum_by-cons (kept_rate r k) y ys, sum_by-cons (kept_rate r k) y (filter (λ x. not (is_for v x)) ys))
