use Rattle.std.proofs.Common.{◌≡◌, ℕ, zero, suc, ◌<◌, [], Some, None, refl, ⊎_elim, inl, inr, arith}
use Rattle.slot_plan.specs.Conditions.{IsPlan}
use Rattle.slot_plan.specs.Samples.{small}
use Rattle.node_kit.specs.declared.course.Kept.{Kept}
use Rattle.run_model.specs.Samples.{kept, dying}
use Rattle.audit_orders.specs.Timing.{OneLives}
use Rattle.audit_orders.proofs.rows.neighbours.Goals as goal

pub returns-clause-first_two : goal.returns-clause-first_two
returns-clause-first_two c k plan = record {
  cub = omega arith;
  lower = λ m low. absurd (omega (arith, low));
  both = λ h. ⊎_elim (λ (e : Some 5 ≡ None). absurd (cc)) (λ (e : Some 4 ≡ None). absurd (cc)) h;
}

-- of the cubs from 0 to 6 each or the next one lives on
others : (k : Kept) (plan : IsPlan small) (m : ℕ) → m < 7 → OneLives (kept k plan 10 (dying (Some 5) None (Some 4)) [] []).course m
others k plan zero low = inr refl
others k plan (suc zero) low = inl refl
others k plan (suc (suc zero)) low = inl refl
others k plan (suc (suc (suc zero))) low = inl refl
others k plan (suc (suc (suc (suc zero)))) low = inl refl
others k plan (suc (suc (suc (suc (suc zero))))) low = inl refl
others k plan (suc (suc (suc (suc (suc (suc zero)))))) low = inl refl
others k plan (suc (suc (suc (suc (suc (suc (suc m))))))) low = absurd (omega (arith, low))

pub returns-clause-last_and_first : goal.returns-clause-last_and_first
returns-clause-last_and_first c k plan = record {
  cub = omega arith;
  lower = others k plan;
  both = λ h. ⊎_elim (λ (e : Some 4 ≡ None). absurd (cc)) (λ (e : Some 5 ≡ None). absurd (cc)) h;
}
