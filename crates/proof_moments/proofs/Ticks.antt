-- What stands up to the end of a tick is a front of the order.
use Rattle.std.proofs.Common.{◌≡◌, ℕ, ◌<◌, ◌≤◌, List, ◌++◌, filter, not, true, false, sym, subst, ◌∙◌, arith, ⊎_elim, inl, inr}
use Rattle.std.specs.Prelude.{◌⊎◌, ◌==◌, ◌||◌, ◌&&◌, nat_lt, nat_le}
use Rattle.std.proofs.lemmas.Bool.{cases_Bool, eqb-true, eq-eqb, and_parts, and_from, or_left, or_right, ltb-true, leb-true, le-leb, lt-ltb, true≢false}
use Rattle.node_kit.specs.declared.journal.Entry.{Entry}
use Rattle.run_facts.specs.Order.{Noted, beat_of, order_of, IsNotAfter}
use Rattle.run_model.specs.Orders.{is_up_to}
use Rattle.proof_moments.proofs.Sorted.{passing_front}
use Rattle.proof_moments.proofs.Orders.{order_sorted}

-- which entries stand up to the end of a tick
pub up_to_parts : (beat n : ℕ) (x : Noted) → is_up_to beat n x ≡ true → (beat_of x < beat) ⊎ ((beat_of x ≡ beat) × (x.node ≤ n))
up_to_parts beat n x e = ⊎_elim
    (λ (t : nat_lt (beat_of x) beat ≡ true). inl (ltb-true _ _ t))
    (λ (f : nat_lt (beat_of x) beat ≡ false).
    let both = and_parts (beat_of x == beat) (nat_le x.node n) (subst (λ b. (b || ((beat_of x == beat) && nat_le x.node n)) ≡ true) f e) in
    inr (eqb-true _ _ both.0, leb-true _ _ both.1))
    (cases_Bool (nat_lt (beat_of x) beat))

pub up_to_by : (beat n : ℕ) (x : Noted) → (beat_of x < beat) ⊎ ((beat_of x ≡ beat) × (x.node ≤ n)) → is_up_to beat n x ≡ true
up_to_by beat n x h = ⊎_elim
    (λ l. or_left (nat_lt (beat_of x) beat) ((beat_of x == beat) && nat_le x.node n) (lt-ltb _ _ l))
    (λ q. or_right (nat_lt (beat_of x) beat) ((beat_of x == beat) && nat_le x.node n) (and_from _ _ (eq-eqb _ _ q.0) (le-leb _ _ q.1)))
    h

up_to_down : (beat n : ℕ) (x y : Noted) → IsNotAfter x y → is_up_to beat n y ≡ true → is_up_to beat n x ≡ true
up_to_down beat n x y o t = up_to_by beat n x (⊎_elim
    (λ l. ⊎_elim
    (λ k. let z : beat_of x < beat = omega arith in inl z)
    (λ k. let k0 = k.0 in let z : beat_of x < beat = omega arith in inl z)
    (up_to_parts beat n y t))
    (λ q. let q0 = q.0 in let q1 = q.1 in ⊎_elim
    (λ k. let z : beat_of x < beat = omega arith in inl z)
    (λ k. let k0 = k.0 in let k1 = k.1 in let z : beat_of x ≡ beat = omega arith in let m : x.node ≤ n = omega arith in inr (z, m))
    (up_to_parts beat n y t))
    o)

up_to_later : (beat n : ℕ) (x y : Noted) → IsNotAfter x y → is_up_to beat n x ≡ false → is_up_to beat n y ≡ false
up_to_later beat n x y o f = ⊎_elim
    (λ (t : is_up_to beat n y ≡ true). absurd (true≢false (sym (up_to_down beat n x y o t) ∙ f)))
    (λ (g : is_up_to beat n y ≡ false). g)
    (cases_Bool (is_up_to beat n y))

-- the entries up to the end of a tick are a front of the order
pub tick_front : (beat c beats : ℕ) (js : List (List Entry)) → filter (is_up_to beat c) (order_of beats js) ++ filter (λ x. not (is_up_to beat c x)) (order_of beats js) ≡ order_of beats js
tick_front beat c beats js = passing_front IsNotAfter (is_up_to beat c) (λ x y o f. up_to_later beat c x y o f) (order_of beats js) (order_sorted 0 beats js)
