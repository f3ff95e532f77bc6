-- A beat begins within a span of time after another exactly if it is so many whole beats behind it at most.
use Rattle.std.proofs.Common.{◌≡◌, ℕ, ◌+◌, ◌-◌, ◌*◌, ◌/◌, ◌<◌, ◌≤◌, Bool, true, false, IsTrue, nat_le, refl, sym, ap, subst, ⊎_elim, arith}
use Rattle.std.proofs.lemmas.Bool.{cases_lt}
use Rattle.std.proofs.lemmas.Nat.{le-div, div-add-mod'}
use Rattle.slot_plan.specs.declared.params.Params.{Params}
use Rattle.slot_plan.specs.Times.{time_of}
use Rattle.slot_plan.proofs.Times.{time_mono}
use Rattle.run_model.proofs.Reflects.{at_most}

pub same_test : (a b : Bool) → (IsTrue a → IsTrue b) → (IsTrue b → IsTrue a) → a ≡ b
same_test true true f g = refl
same_test true false f g = sym (f refl)
same_test false true f g = g refl
same_test false false f g = refl

span_there : (p : Params) (beat other span : ℕ) → beat - other ≤ span / p.beat → time_of p beat ≤ time_of p other + span
unfolding time_of
span_there p beat other span le =
    let most : beat * p.beat ≤ (other + span / p.beat) * p.beat = time_mono p beat (other + span / p.beat) (omega (arith, le)) in
    let rest = div-add-mod' span p.beat in
    omega (arith, most, rest)

span_of : (g other k beat span : ℕ) → beat ≡ other + k → beat * g ≤ other * g + span → k * g ≤ span
span_of g other k beat span is le =
    let times : beat * g ≡ (other + k) * g = ap (λ (n : ℕ). n * g) is in omega (arith, times, le)

span_back : (p : Params) (beat other span : ℕ) → 1 ≤ p.beat → time_of p beat ≤ time_of p other + span → beat - other ≤ span / p.beat
unfolding time_of
span_back p beat other span some le = le-div (beat - other) span p.beat (omega (arith, some)) (⊎_elim
    (λ (l : beat < other).
    let none : beat - other ≡ 0 = omega (arith, l) in subst (λ (k : ℕ). k * p.beat ≤ span) (sym none) (omega arith))
    (λ (g : other ≤ beat). span_of p.beat other (beat - other) beat span (omega (arith, g)) le)
    (cases_lt beat other))

pub within_is : (p : Params) (beat other span : ℕ) → 1 ≤ p.beat
    → nat_le (beat - other) (span / p.beat) ≡ nat_le (time_of p beat) (time_of p other + span)
within_is p beat other span some = same_test
    (nat_le (beat - other) (span / p.beat)) (nat_le (time_of p beat) (time_of p other + span))
    (λ h. (at_most (time_of p beat) (time_of p other + span)).1 (span_there p beat other span ((at_most (beat - other) (span / p.beat)).0 h)))
    (λ h. (at_most (beat - other) (span / p.beat)).1 (span_back p beat other span some ((at_most (time_of p beat) (time_of p other + span)).0 h)))
