use Rattle.std.proofs.Common.{◌≡◌, ◌∙◌, ℕ, refl, ap, arith}
use Rattle.net_schedule.specs.declared.ring.Entry.{Entry}
use Rattle.net_schedule.specs.declared.ring.Own.{Own}
use Rattle.net_schedule.specs.Samples.{placed}
use Rattle.net_schedule.proofs.Finds.{one_some}
use Rattle.net_schedule.proofs.rows.whole_ring.Goals as goal

pub returns-clause-too_much : goal.returns-clause-too_much
returns-clause-too_much c = λ h. omega (arith, h 5 (omega arith))

pub returns-clause-other_rate : goal.returns-clause-other_rate
returns-clause-other_rate c = λ h.
    let w = (h 1 (omega arith)).0 in
    let one = one_some (placed 0 2 6) w.0 refl w.1 in
    let rate : ◌≡◌ {A = ℕ} 6 5 = ap (λ (o : Own). o.entry.rate) one ∙ ap (λ (e : Entry). e.rate) w.2 in
    omega (arith, rate)
