use Rattle.std.proofs.Common.{ℕ, zero, suc, ◌≤◌, [], ◌∷◌, take, refl, arith}
use Rattle.slot_plan.specs.Samples.{small}
use Rattle.run_model.specs.Samples.{gets, sends, block}
use Rattle.run_claims.specs.Turns.{AreInTurn}
use Rattle.audit_schedule.proofs.rows.turns.Goals as goal

pub returns-clause-a_beat_later : goal.returns-clause-a_beat_later
returns-clause-a_beat_later c = (((λ v n. omega arith), tt), tt)

fronts : (j : ℕ) → j ≤ 1 → AreInTurn small (take j (gets 0 150 (block 0 0 50 0 4) ∷ sends 1 150 (block 0 1 150 4 4) ∷ []))
fronts zero h = tt
fronts (suc zero) h = (tt, tt)
fronts (suc (suc j)) h = absurd (omega (arith, h))

pub returns-clause-in_the_beat : goal.returns-clause-in_the_beat
returns-clause-in_the_beat c = record {
  inside = omega arith;
  before = fronts;
  with_it = λ h. let before = h.0.0 refl (omega arith) in omega (arith, before);
  whole = λ h. let before = h.0.0 refl (omega arith) in omega (arith, before);
}
