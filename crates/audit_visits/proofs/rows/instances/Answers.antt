use Rattle.std.proofs.Common.{◌≡◌, ℕ, zero, suc, ◌≤◌, [], ◌∷◌, take, refl, ap, arith}
use Rattle.tiger_base.specs.declared.number.Instance.{Instance}
use Rattle.slot_plan.specs.Samples.{small}
use Rattle.run_model.specs.Samples.{later, sends, piece, first_block}
use Rattle.run_claims.specs.Visits.{AreServedOnce}
use Rattle.audit_visits.proofs.rows.instances.Goals as goal

pub returns-clause-of_one : goal.returns-clause-of_one
returns-clause-of_one c = record {
  instance = (
    ((λ s n. refl), ((λ s n. refl), ((λ s n. absurd (omega (arith, n))), tt))),
    (
      ((λ s n. refl), ((λ s n. refl), ((λ s n. absurd (omega (arith, n))), tt))),
      (((λ s n. absurd (omega (arith, n))), ((λ s n. absurd (omega (arith, n))), ((λ s n. refl), tt))), tt),
    ),
  );
  ask = (tt, (tt, (tt, tt)));
  dead = (tt, (tt, (tt, tt)));
}

one_block : AreServedOnce small (sends 0 50 first_block ∷ [])
one_block = record { instance = (((λ s n. refl), tt), tt); ask = (tt, tt); dead = (tt, tt) }

fronts : (j : ℕ) → j ≤ 2
    → AreServedOnce small (take j (sends 0 50 first_block ∷ later 60 ∷ sends 2 100 (piece 1 0 2 100 2 2) ∷ later 101 ∷ []))
fronts zero h = record { instance = tt; ask = tt; dead = tt }
fronts (suc zero) h = one_block
fronts (suc (suc zero)) h = record { instance = (((λ s n. refl), tt), tt); ask = (tt, (tt, tt)); dead = (tt, (tt, tt)) }
fronts (suc (suc (suc j))) h = absurd (omega (arith, h))

pub returns-clause-of_two : goal.returns-clause-of_two
returns-clause-of_two c = record {
  inside = omega arith;
  before = fronts;
  with_it = λ h. let same : 0 ≡ 1 = ap (λ (v : Instance). v.0) (h.instance.0.1.0 refl refl) in omega (arith, same);
  whole = λ h. let same : 0 ≡ 1 = ap (λ (v : Instance). v.0) (h.instance.0.1.0 refl refl) in omega (arith, same);
}
