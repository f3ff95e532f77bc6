use Rattle.std.proofs.Common.{ℕ, zero, suc, ◌≤◌, [], ◌∷◌, take, inl, inr, refl, arith}
use Rattle.tiger_base.specs.declared.message.Note.TheVariants.{Heartbeat}
use Rattle.slot_plan.specs.Conditions.{IsPlan}
use Rattle.slot_plan.specs.Samples.{small}
use Rattle.node_kit.specs.declared.course.Kept.{Kept}
use Rattle.run_model.proofs.OnSamples.{on_samples}
use Rattle.run_model.proofs.Timely.{timed}
use Rattle.run_model.specs.Runs.{IsTimedRun, order_in}
use Rattle.run_model.specs.Samples.{gets, kept, of_none, sends}
use Rattle.audit_orders.specs.Carrying.{IsUncarriedAt}
use Rattle.audit_orders.specs.Samples.{writes}
use Rattle.audit_orders.specs.Timing.{IsUntimedAt}
use Rattle.audit_orders.specs.declared.carrying.Uncarried.TheVariants as uncarried
use Rattle.audit_orders.specs.declared.flaw.Flaw.TheVariants as flaw
use Rattle.audit_orders.specs.declared.timing.Untimed.TheVariants as untimed
use Rattle.audit_orders.proofs.Denying.{untimed_denies}
use Rattle.audit_orders.proofs.Earliest.{none_wrong_before, nowhere_stray}
use Rattle.audit_orders.proofs.OnRows.{ends_if}
use Rattle.audit_orders.proofs.Refuting.{uncarried_denies}
use Rattle.audit_verdict.specs.Clocks.{ShowClocks, ShowsClocks}
use Rattle.audit_verdict.proofs.Clauses.{none_before}
use Rattle.audit_verdict.proofs.Silent.{carried_before}
use Rattle.audit_verdict.proofs.rows.late.Goals as goal

abbrev with_message : Kept → IsPlan small → Kept
with_message k plan = kept k plan 10 of_none [] (sends 0 3 Heartbeat ∷ gets 0 6 Heartbeat ∷ [])

abbrev with_entry : Kept → IsPlan small → Kept
with_entry k plan = kept k plan 10 of_none [] (writes 2 20000 ∷ writes 3 34001 ∷ [])

got_late : (k : Kept) (plan : IsPlan small)
    → IsUncarriedAt (with_message k plan).course (with_message k plan).journals (uncarried.Got (record { 0 = 17 }) 0)
unfolding on_samples
got_late k plan = (
  nowhere_stray (with_message k plan).course (with_message k plan).journals (ends_if small (with_message k plan).journals refl),
  record {
    here = record {
      journal = (gets 0 6 Heartbeat).entry ∷ [];
      here = refl;
      inside = omega arith;
      stream = 32;
      before = tt;
      with_it = λ h. let late = h.2 in omega (arith, late);
    };
    none_before = none_wrong_before (with_message k plan).course (with_message k plan).journals 17 0 ((gets 0 6 Heartbeat).entry ∷ []) refl
        (λ s. tt);
  },
)

pub returns-clause-message : goal.returns-clause-message
returns-clause-message c k plan = record {
  lower = none_before (with_message k plan) 1 (omega arith);
  broken = λ h. uncarried_denies (with_message k plan) (uncarried.Got (record { 0 = 17 }) 0) refl (got_late k plan) h;
  where_it_is = (uncarried.Got (record { 0 = 17 }) 0, refl, got_late k plan);
}

written_late : (k : Kept) (plan : IsPlan small)
    → IsUntimedAt (with_entry k plan).course (with_entry k plan).journals (untimed.Journal (record { 0 = 0 }) (flaw.Entry 1))
unfolding on_samples
written_late k plan = record {
  lower = λ m journal low at. absurd (omega (arith, low));
  journal = (writes 2 20000).entry ∷ (writes 3 34001).entry ∷ [];
  here = refl;
  flawed = record {
    inside = omega arith;
    before = (
      [],
      record {
        reads = (record { low = omega arith; high = omega arith }, tt);
        rising = (tt, tt);
        early = (omega arith, tt);
        death = (refl, tt);
      },
    );
    with_it = λ more. let high = more.1.reads.1.0.high in omega (arith, high);
  };
}

pub returns-clause-entry : goal.returns-clause-entry
returns-clause-entry c k plan = record {
  lower = carried_before (with_entry k plan) refl;
  broken = λ h. untimed_denies (with_entry k plan) (untimed.Journal (record { 0 = 0 }) (flaw.Entry 1)) (written_late k plan) h.0;
  where_it_is = inl (untimed.Journal (record { 0 = 0 }) (flaw.Entry 1), refl, written_late k plan);
}

abbrev with_reading : Kept → IsPlan small → Kept
with_reading k plan = kept k plan 10 of_none [] (writes 2 20000 ∷ writes 3 30001 ∷ [])

in_time : (k : Kept) (plan : IsPlan small) → IsTimedRun (with_reading k plan)
unfolding on_samples
in_time k plan = (timed (with_reading k plan)).0 refl

shown_before : (k : Kept) (plan : IsPlan small) (j : ℕ) → j ≤ 1
    → ShowClocks (with_reading k plan).course (take j (order_in (with_reading k plan)))
shown_before k plan zero le = tt
shown_before k plan (suc zero) le = (refl, tt)
shown_before k plan (suc (suc j)) le = absurd (omega (arith, le))

not_shown : (k : Kept) (plan : IsPlan small) → ShowsClocks (with_reading k plan) → ⊥
not_shown k plan h = let ahead = h.1.0 in omega (arith, ahead)

pub returns-clause-reading : goal.returns-clause-reading
returns-clause-reading c k plan = record {
  lower = carried_before (with_reading k plan) refl;
  broken = λ h. not_shown k plan h.1;
  where_it_is = inr (
    in_time k plan,
    (
      1,
      record {
        noted = writes 3 30001;
        in_log = refl;
        node = refl;
        journal = (writes 2 20000).entry ∷ (writes 3 30001).entry ∷ [];
        here = refl;
        in_journal = refl;
        behind = refl;
      },
      record { inside = omega arith; before = shown_before k plan; with_it = not_shown k plan; whole = not_shown k plan },
    ),
  );
}
