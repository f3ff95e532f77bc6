-- If the oldest message under way is not late, then none is.
use Rattle.std.proofs.Common.{◌≡◌, ℕ, ◌+◌, ◌≤◌, List, [], ◌∷◌, true, false, Some, None, refl, ap, ◌∙◌, arith, cond, ⊎_elim}
use Rattle.std.specs.Prelude.{nat_le}
use Rattle.std.specs.List.{AllByRecursion}
use Rattle.std.proofs.lemmas.Bool.{cases_Bool}
use Rattle.std.proofs.lemmas.Bool.Decides.{nat_tests}
use Rattle.std.proofs.lemmas.Option.{none-some}
use Rattle.run_facts.specs.Accounts.{Rising}
use Rattle.run_facts.specs.Events.{Dated}
use Rattle.ring_world.specs.declared.event.StepFault.TheVariants as fault
use Rattle.ring_world.specs.Machine.{first_in}
use Rattle.ring_world.specs.Faults.{late_in}

none_late : {M : Type 0} (l most beat low : ℕ) (ds : List (Dated M)) → nat_le (low + most) beat ≡ false
    → AllByRecursion (λ (d : Dated M). low ≤ d.beat) ds → late_in l most beat ds ≡ None
none_late l most beat low [] t all = refl
none_late {M} l most beat low (d ∷ ds) t all =
    let above = all.0 in
    let u : nat_le (d.beat + most) beat ≡ false = grind (arith, nat_tests, t, above) in
    ap (λ b. cond b (Some (fault.TooLate (record { 0 = l }) d.beat)) (late_in l most beat ds)) u
    ∙ none_late l most beat low ds t all.1

pub oldest_late : {M : Type 0} (l most beat : ℕ) (ds : List (Dated M)) (d : Dated M) → first_in ds ≡ Some d
    → Rising (λ (x : Dated M). x.beat) ds
    → late_in l most beat ds ≡ cond (nat_le (d.beat + most) beat) (Some (fault.TooLate (record { 0 = l }) d.beat)) None
oldest_late l most beat [] d h rising = absurd (none-some d h)
oldest_late {M} l most beat (x ∷ xs) d h rising =
    let same : x ≡ d = cc in
    let now : late_in l most beat (x ∷ xs) ≡ cond (nat_le (x.beat + most) beat) (Some (fault.TooLate (record { 0 = l }) x.beat)) None = ⊎_elim
    (λ (t : nat_le (x.beat + most) beat ≡ true). rw t refl)
    (λ (f : nat_le (x.beat + most) beat ≡ false). rw f (none_late l most beat x.beat xs f rising.0))
    (cases_Bool (nat_le (x.beat + most) beat)) in
    now ∙ ap (λ (y : Dated M). cond (nat_le (y.beat + most) beat) (Some (fault.TooLate (record { 0 = l }) y.beat)) None) same
