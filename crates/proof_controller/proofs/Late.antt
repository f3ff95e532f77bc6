-- A stop comes too late where the visit after the tenancy's last is due.
use Rattle.std.proofs.Common.{◌≡◌, ℕ, ◌+◌, ◌<◌, ◌≤◌, true, false, nat_lt, nat_le, max, Option, Some, None, MatchOption, IsTrue, arith, refl, ⊎_elim}
use Rattle.std.proofs.lemmas.Bool.{cases_lt, lt-ltb, le-ltb, le-leb, lt-leb}
use Rattle.std.proofs.lemmas.Grind.{common_steps}
use Rattle.tiger_base.specs.declared.tenancy.Tenancy.{Tenancy}
use Rattle.slot_plan.specs.declared.params.Params.{Params}
use Rattle.slot_plan.specs.Conditions.{IsPlan}
use Rattle.slot_plan.specs.Times.{due, visit_by, IsLatest}
use Rattle.slot_plan.proofs.Times.{due_mono, visit_by_latest}
use Rattle.node_kit.specs.Form.{is_tenancy}
use Rattle.controller_core.specs.Rules.{due_last, visit_due}

late_by : (p : Params) (s first last r : ℕ) (o : Option ℕ) → first ≤ last → MatchOption o (r < due p s 0) (λ n. IsLatest p s r n)
    → nat_lt last (due_last first o) ≡ nat_le (due p s (last + 1)) r
late_by p s first last r None order h =
    let up = due_mono p s 0 (last + 1) (omega arith) in
    let one : nat_lt last first ≡ false = le-ltb _ _ order in
    let two : nat_le (due p s (last + 1)) r ≡ false = lt-leb _ _ (omega arith) in
    rw (one, two) refl
late_by p s first last r (Some n) order h =
    ⊎_elim
    (λ (more : last < n).
    let begun = h.begun in
    let up = due_mono p s (last + 1) n (omega arith) in
    let one : nat_lt last (max first n) ≡ true = lt-ltb _ _ (omega arith) in
    let two : nat_le (due p s (last + 1)) r ≡ true = le-leb _ _ (omega arith) in
    rw (one, two) refl)
    (λ (less : n ≤ last).
    let one : nat_lt last (max first n) ≡ false = le-ltb _ _ (omega arith) in
    let two : nat_le (due p s (last + 1)) r ≡ false =
    ⊎_elim
    (λ (before : r < due p s (last + 1)). lt-leb _ _ before)
    (λ (after : due p s (last + 1) ≤ r). absurd (let up = h.latest (last + 1) after in omega arith))
    (cases_lt r (due p s (last + 1))) in
    rw (one, two) refl)
    (cases_lt last n)

ordered : (p : Params) (t : Tenancy) → IsTrue (is_tenancy p t) → t.first ≤ t.last
ordered p t form = grind (arith, common_steps)

pub late_is_due : (p : Params) (t : Tenancy) (r : ℕ) → IsPlan p → IsTrue (is_tenancy p t)
    → nat_lt t.last (visit_due p t r) ≡ nat_le (due p t.slot.0 (t.last + 1)) r
unfolding visit_due
late_is_due p t r plan form =
    late_by p t.slot.0 t.first t.last r (visit_by p t.slot.0 r) (ordered p t form) (visit_by_latest p t.slot.0 r (visit_by p t.slot.0 r) plan.ranges refl)
