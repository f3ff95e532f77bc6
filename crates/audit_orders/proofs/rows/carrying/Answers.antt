use Rattle.std.proofs.Common.{◌≡◌, ℕ, List, [], ◌∷◌, Option, Some, slice_get, refl, ap, inl, ⊎_elim, arith}
use Rattle.std.specs.Prelude.{unwrap_or}
use Rattle.tiger_base.specs.declared.message.Note.TheVariants.{Heartbeat}
use Rattle.node_kit.specs.declared.journal.What.TheVariants.{Got}
use Rattle.run_model.proofs.OnSamples.{on_samples}
use Rattle.node_kit.specs.declared.course.Course.{Course}
use Rattle.node_kit.specs.declared.course.Kept.{Kept}
use Rattle.node_kit.specs.declared.journal.Entry.{Entry}
use Rattle.slot_plan.specs.Conditions.{IsPlan}
use Rattle.slot_plan.specs.Samples.{small}
use Rattle.run_facts.specs.Order.{Noted}
use Rattle.run_model.specs.Samples.{all, at, gets, kept, later, of_none, sends}
use Rattle.audit_orders.specs.Carrying.{IsStrayEntry, IsLost}
use Rattle.audit_orders.proofs.Earliest.{none_at_first, none_earlier, none_wrong_before, nowhere_stray, nowhere_wrong}
use Rattle.audit_orders.proofs.OnRows.{ends_below, ends_if}
use Rattle.audit_orders.proofs.rows.carrying.Goals as goal

-- the course of these runs, and their journals
abbrev course_of : Kept → IsPlan small → Course
course_of k plan = (kept k plan 10 of_none [] []).course

abbrev with_late : List (List Entry)
with_late = all (sends 0 3 Heartbeat ∷ gets 0 6 Heartbeat ∷ [])

abbrev with_lost : List (List Entry)
with_lost = all (sends 0 3 Heartbeat ∷ later 4 ∷ [])

abbrev gets_at : ℕ → Noted
gets_at cub = at cub 4 (Got (record { 0 = 16 }) Heartbeat)

abbrev with_stray : List (List Entry)
with_stray = all (gets_at 5 ∷ [])

abbrev with_two : List (List Entry)
with_two = all (gets_at 5 ∷ gets_at 6 ∷ [])

pub returns-clause-late : goal.returns-clause-late
unfolding on_samples
returns-clause-late c k plan = (
  nowhere_stray (course_of k plan) with_late (ends_if small with_late refl),
  record {
    here = record {
      journal = (gets 0 6 Heartbeat).entry ∷ [];
      here = refl;
      inside = omega arith;
      stream = 32;
      before = tt;
      with_it = λ h. let late = h.2 in omega (arith, late);
    };
    none_before = none_wrong_before (course_of k plan) with_late 17 0 ((gets 0 6 Heartbeat).entry ∷ []) refl (λ s. tt);
  },
)

pub returns-clause-lost : goal.returns-clause-lost
unfolding on_samples
returns-clause-lost c k plan = (
  nowhere_stray (course_of k plan) with_lost (ends_if small with_lost refl),
  nowhere_wrong (course_of k plan) with_lost (λ s. tt),
  record {
    here = record {
      journal = (sends 0 3 Heartbeat).entry ∷ [];
      here = refl;
      entry = (sends 0 3 Heartbeat).entry;
      at = refl;
      link = record { 0 = 16 };
      note = Heartbeat;
      sends = refl;
      behind = omega arith;
      needed = λ h. ⊎_elim (λ end. omega (arith, end)) (λ died. died.0) h;
    };
    none_before = none_at_first (IsLost (course_of k plan) with_lost);
  },
)

-- cub 5 gets what is the viewers'
stray_at_five : (k : Kept) (plan : IsPlan small) (journals : List (List Entry)) → slice_get journals 5 ≡ Some ((gets_at 5).entry ∷ [])
    → IsStrayEntry (course_of k plan) journals 5 0
unfolding on_samples
stray_at_five k plan journals here = record {
  journal = (gets_at 5).entry ∷ [];
  here = here;
  entry = (gets_at 5).entry;
  at = refl;
  stray = λ h. let ends = ap (λ (o : Option (ℕ × ℕ)). (unwrap_or o (0, 0)).1) h.1 in omega (arith, ends);
}

pub returns-clause-stray : goal.returns-clause-stray
unfolding on_samples
returns-clause-stray c k plan = record {
  here = stray_at_five k plan with_stray refl;
  none_before = none_earlier (IsStrayEntry (course_of k plan) with_stray) 5 0 (ends_below (course_of k plan) with_stray 5 refl)
      (λ j low h. omega (arith, low));
}

pub returns-clause-not_the_second : goal.returns-clause-not_the_second
returns-clause-not_the_second c k plan h = h.none_before 5 0 (inl (omega arith)) (stray_at_five k plan with_two refl)
