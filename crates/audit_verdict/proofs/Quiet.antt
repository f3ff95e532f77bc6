-- A run of one beat, in which nobody writes anything, meets all clauses.
use Rattle.std.proofs.Common.{[], refl, sym}
use Rattle.std.proofs.lemmas.Option.{same_Some}
use Rattle.slot_plan.specs.Samples.{small}
use Rattle.slot_plan.specs.Conditions.{IsPlan}
use Rattle.node_kit.specs.declared.course.Kept.{Kept}
use Rattle.run_model.proofs.OnSamples.{on_samples}
use Rattle.run_model.proofs.Timely.{timed}
use Rattle.run_model.specs.Samples.{kept, of_none}
use Rattle.run_claims.specs.Accounts.{account_of}
use Rattle.audit_orders.specs.Verdicts.{FollowsOrders}
use Rattle.audit_views.proofs.Steps.{opening_part}
use Rattle.audit_waits.proofs.OnRuns.{idle, in_one_beat}
use Rattle.audit_verdict.specs.Clauses.{MeetsAllClauses}
use Rattle.audit_verdict.proofs.Silent.{none_gone, none_ordered, silent}

pub quiet_meets : (k : Kept) (plan : IsPlan small) → MeetsAllClauses (kept k plan 1 of_none [] [])
unfolding on_samples
quiet_meets k plan =
    let run = kept k plan 1 of_none [] [] in
    let orders : FollowsOrders (account_of run) = record {
      controller = λ journal at. none_ordered small 1 _ journal (sym (same_Some [] journal at));
      others = λ n journal other at. none_gone run.journals n journal refl at;
    } in
    record {
      carried = silent run refl;
      timed = (timed run).0 refl;
      clocks = tt;
      commanded = orders;
      claims = record {
        free = tt;
        part = record { always = opening_part small; local = tt };
        no_return = tt;
        one_per_visit = record { instance = tt; ask = tt; dead = tt };
        true_belief = tt;
        true_faults = tt;
        delivery = record { settled = tt; got = tt };
        in_order = tt;
        starts = record { patient = in_one_beat run refl refl (λ cub low ends. idle _ _ _ _ _ _ refl); commanded = orders };
      };
    }
