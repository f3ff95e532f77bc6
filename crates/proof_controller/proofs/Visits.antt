-- At which visit a tenancy is stopped: at the last that is due, or at the first where none is.
use Rattle.std.proofs.Common.{◌≡◌, ℕ, ◌+◌, ◌<◌, ◌≤◌, max, Option, Some, None, MatchOption, refl, sym, subst, arith, ⊎_elim, inl, inr}
use Rattle.std.specs.Prelude.{◌⊎◌}
use Rattle.std.proofs.lemmas.Bool.{cases_lt}
use Rattle.tiger_base.specs.declared.tenancy.Tenancy.{Tenancy}
use Rattle.slot_plan.specs.declared.params.Params.{Params}
use Rattle.slot_plan.specs.Conditions.{IsInRange}
use Rattle.slot_plan.specs.Times.{due, visit_by, IsLatest}
use Rattle.slot_plan.proofs.Times.{due_mono, visit_by_latest}
use Rattle.controller_core.specs.Rules.{due_last, visit_due}

-- from a time that is not after the reading, and the reading's own
pub record IsLastDue (p : Params) (t : Tenancy) (time reading n : ℕ) : Type 0 where
  pub low : t.first ≤ n
  pub last : ((due p t.slot.0 n ≤ reading) × (time < due p t.slot.0 (n + 1))) ⊎ ((n ≡ t.first) × (time < due p t.slot.0 n))

pub due_from : (p : Params) (t : Tenancy) (time reading : ℕ) (o : Option ℕ) → time ≤ reading → MatchOption o (reading < due p t.slot.0 0) (λ n. IsLatest p t.slot.0 reading n)
    → IsLastDue p t time reading (due_last t.first o)
due_from p t time reading None early h =
    let up = due_mono p t.slot.0 0 t.first (omega arith) in
    let same : t.first ≤ t.first = omega arith in
    record { low = same; last = inr (refl, omega arith) }
due_from p t time reading (Some k) early h = ⊎_elim
    (λ (before : k < t.first).
    let z : max t.first k ≡ t.first = omega arith in
    let same : t.first ≤ t.first = omega arith in
    let late : reading < due p t.slot.0 t.first =
    ⊎_elim (λ (l : reading < due p t.slot.0 t.first). l) (λ (g : due p t.slot.0 t.first ≤ reading). let q = h.latest t.first g in absurd (omega arith)) (cases_lt reading (due p t.slot.0 t.first)) in
    subst (IsLastDue p t time reading) (sym z) (record { low = same; last = inr (refl, omega arith) }))
    (λ (from : t.first ≤ k).
    let z : max t.first k ≡ k = omega arith in
    let next : reading < due p t.slot.0 (k + 1) =
    ⊎_elim (λ (l : reading < due p t.slot.0 (k + 1)). l) (λ (g : due p t.slot.0 (k + 1) ≤ reading). let q = h.latest (k + 1) g in absurd (omega arith)) (cases_lt reading (due p t.slot.0 (k + 1))) in
    let begun = h.begun in
    subst (IsLastDue p t time reading) (sym z) (record { low = from; last = inl (begun, omega arith) }))
    (cases_lt k t.first)

pub last_due : (p : Params) (t : Tenancy) (time reading : ℕ) → IsInRange p → time ≤ reading → IsLastDue p t time reading (visit_due p t reading)
unfolding visit_due
last_due p t time reading ranges early = due_from p t time reading (visit_by p t.slot.0 reading) early (visit_by_latest p t.slot.0 reading (visit_by p t.slot.0 reading) ranges refl)
