use Rattle.std.proofs.Common.{◌<◌, [], refl, arith}
use Rattle.slot_plan.specs.Conditions.{IsPlan}
use Rattle.slot_plan.specs.Samples.{small}
use Rattle.node_kit.specs.declared.course.Kept.{Kept}
use Rattle.run_facts.specs.Commanded.{starts_ordered, starts_sent}
use Rattle.run_model.proofs.OnSamples.{on_samples}
use Rattle.run_model.proofs.Timely.{timed}
use Rattle.run_model.specs.Samples.{kept, of_none, ordered}
use Rattle.audit_orders.specs.Commanding.{IsUncommandedAt, clock_of, starts_due}
use Rattle.audit_orders.specs.declared.commanding.Uncommanded.TheVariants as uncommanded
use Rattle.audit_orders.proofs.Denying.{uncommanded_denies}
use Rattle.audit_verdict.specs.Clauses.{MeetsClause, number_of_clause}
use Rattle.audit_verdict.specs.declared.clause.Clause.{Clause}
use Rattle.audit_verdict.specs.declared.clause.Clause.TheVariants as clause
use Rattle.audit_verdict.proofs.Silent.{none_gone, silent}
use Rattle.audit_verdict.proofs.rows.unsent.Goals as goal

abbrev run : Kept → IsPlan small → Kept
run k plan = kept k plan 1 of_none ordered []

not_sent : (k : Kept) (plan : IsPlan small)
    → IsUncommandedAt small 1 (clock_of (run k plan).course) ordered (run k plan).journals (uncommanded.Unsent 0)
unfolding starts_sent starts_ordered
not_sent k plan = (
  λ n journal other at. none_gone (run k plan).journals n journal refl at,
  [],
  refl,
  record {
    order = record { beat = 0; what = _ };
    here = refl;
    early = omega arith;
    lower_beats = λ a low. absurd (omega (arith, low));
    sent = (starts_due small 1 ordered 0, refl);
    lower = ([], refl);
    lacks = λ f. let none = f.1 in absurd (cc none);
  },
)

met_before : (k : Kept) (plan : IsPlan small) (d : Clause) → number_of_clause d < 3 → MeetsClause (run k plan) d
unfolding on_samples
met_before k plan clause.Carried low = silent (run k plan) refl
met_before k plan clause.Timed low = ((timed (run k plan)).0 refl, tt)
met_before k plan other low = absurd (omega (arith, low))

pub returns : goal.returns
returns c k plan = record {
  lower = met_before k plan;
  broken = λ h. uncommanded_denies (run k plan) (uncommanded.Unsent 0) (not_sent k plan) h;
  where_it_is = (uncommanded.Unsent 0, refl, not_sent k plan);
}
