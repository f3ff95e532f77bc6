-- The entries up to the end of a tick are a front of a log in order.
use Rattle.std.proofs.Common.{◌≡◌, ℕ, ◌<◌, ◌≤◌, true, false, not, List, [], ◌∷◌, ◌++◌, filter, refl, ap, arith, ⊎_elim}
use Rattle.std.specs.List.{AllByRecursion}
use Rattle.std.proofs.lemmas.Bool.{cases_Bool}
use Rattle.std.proofs.lemmas.Bool.Decides.{nat_tests}
use Rattle.run_facts.specs.Order.{Noted, beat_of, IsNotAfter, IsInOrder}
use Rattle.run_model.specs.Orders.{is_up_to}

-- behind an entry that is past the tick there is none up to it
past_stays : (beat n : ℕ) (x y : Noted) → is_up_to beat n x ≡ false → IsNotAfter x y → is_up_to beat n y ≡ false
past_stays beat n x y h o = ⊎_elim
    (λ (l : beat_of x < beat_of y). grind (arith, nat_tests))
    (λ (m : (beat_of x ≡ beat_of y) × (x.node ≤ y.node)). grind (arith, nat_tests))
    o

none_left : (beat n : ℕ) (x : Noted) (ys : List Noted) → is_up_to beat n x ≡ false → AllByRecursion (IsNotAfter x) ys
    → (filter (is_up_to beat n) ys ≡ []) × (filter (λ y. not (is_up_to beat n y)) ys ≡ ys)
none_left beat n x [] h o = (refl, refl)
none_left beat n x (y ∷ ys) h o =
    let past : is_up_to beat n y ≡ false = past_stays beat n x y h o.0 in
    let rest = none_left beat n x ys h o.1 in
    (rw past rest.0, rw past (ap (λ zs. y ∷ zs) rest.1))

pub ticks_end_fronts : (nodes beats beat n : ℕ) (log : List Noted) → IsInOrder nodes beats log
    → filter (is_up_to beat n) log ++ filter (λ x. not (is_up_to beat n x)) log ≡ log
ticks_end_fronts nodes beats beat n [] h = refl
ticks_end_fronts nodes beats beat n (x ∷ xs) h = ⊎_elim
    (λ (e : is_up_to beat n x ≡ true). rw e (ap (λ zs. x ∷ zs) (ticks_end_fronts nodes beats beat n xs h.3)))
    (λ (e : is_up_to beat n x ≡ false). let rest = none_left beat n x xs e h.2 in rw (e, rest.0, rest.1) refl)
    (cases_Bool (is_up_to beat n x))
