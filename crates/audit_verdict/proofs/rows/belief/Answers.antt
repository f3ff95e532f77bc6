use Rattle.std.proofs.Common.{ℕ, zero, suc, ◌<◌, ◌≤◌, ◌==◌, Bool, true, false, [], ◌∷◌, take, refl, sym, arith}
use Rattle.std.specs.Prelude.{if◌then◌else◌}
use Rattle.std.specs.List.{AllByRecursion}
use Rattle.std.proofs.lemmas.Bool.{false≢true}
use Rattle.std.proofs.lemmas.Option.{same_Some}
use Rattle.slot_plan.specs.Conditions.{IsPlan}
use Rattle.slot_plan.specs.Samples.{small}
use Rattle.node_kit.specs.declared.course.Kept.{Kept}
use Rattle.tiger_base.specs.declared.tenancy.Rec.{Rec}
use Rattle.run_model.proofs.OnSamples.{on_samples}
use Rattle.run_model.proofs.Timely.{timed}
use Rattle.run_model.specs.Parts.{ViewsAreAlwaysPart}
use Rattle.run_model.specs.Runs.{order_in}
use Rattle.run_model.specs.Samples.{believes, kept, of_none}
use Rattle.run_claims.specs.Truths.{BeliefsAreTrue}
use Rattle.audit_views.proofs.Steps.{opening_part}
use Rattle.audit_verdict.specs.Clauses.{MeetsClause, number_of_clause}
use Rattle.audit_verdict.specs.declared.clause.Clause.{Clause}
use Rattle.audit_verdict.specs.declared.clause.Clause.TheVariants as clause
use Rattle.audit_verdict.proofs.Silent.{none_gone, none_ordered, silent}
use Rattle.audit_verdict.proofs.rows.belief.Goals as goal

abbrev run : Kept → IsPlan small → Kept
run k plan = kept k plan 1 of_none [] (believes 1 0 0 ∷ [])

-- behind the entry a cub has no record, whether it wrote it or not
none_held : (P : Rec → Type 0) (t : Bool) → AllByRecursion P (if t then [] else [])
none_held P true = tt
none_held P false = tt

always_part : (k : Kept) (plan : IsPlan small) → ViewsAreAlwaysPart small (order_in (run k plan))
unfolding on_samples
always_part k plan = (opening_part small, (λ c low. none_held _ (1 == c)))

met_before : (k : Kept) (plan : IsPlan small) (d : Clause) → number_of_clause d < 8 → MeetsClause (run k plan) d
unfolding on_samples
met_before k plan clause.Carried low = silent (run k plan) refl
met_before k plan clause.Timed low = ((timed (run k plan)).0 refl, (refl, tt))
met_before k plan clause.Commanded low = record {
  controller = λ journal at. none_ordered small 1 _ journal (sym (same_Some [] journal at));
  others = λ n journal other at. none_gone (run k plan).journals n journal refl at;
}
met_before k plan clause.FreePuts low = (tt, tt)
met_before k plan clause.PartViews low = record { always = always_part k plan; local = ((λ cub. tt), tt) }
met_before k plan clause.NoReturn low = (tt, tt)
met_before k plan clause.OnePerVisit low = record { instance = tt; ask = (tt, tt); dead = (tt, tt) }
met_before k plan other low = absurd (omega (arith, low))

true_before : (k : Kept) (plan : IsPlan small) (j : ℕ) → j ≤ 0 → BeliefsAreTrue (take j (order_in (run k plan)))
true_before k plan zero le = tt
true_before k plan (suc j) le = absurd (omega (arith, le))

pub returns : goal.returns
unfolding on_samples
returns c k plan = record {
  lower = met_before k plan;
  broken = λ h. false≢true h.0;
  where_it_is = (
    0,
    record {
      noted = believes 1 0 0;
      in_log = refl;
      node = refl;
      journal = (believes 1 0 0).entry ∷ [];
      here = refl;
      in_journal = refl;
      behind = refl;
    },
    record { inside = omega arith; before = true_before k plan; with_it = λ h. false≢true h.0; whole = λ h. false≢true h.0 },
  );
}
