-- Each output of a cub has its cause.
use Rattle.std.proofs.Common.{ℕ, refl}
use Rattle.tiger_base.specs.declared.number.Stamp.{Stamp}
use Rattle.tiger_base.specs.declared.message.Msg.{Msg}
use Rattle.slot_plan.specs.declared.params.Params.{Params}
use Rattle.node_kit.specs.declared.outbox.Out.{Out}
use Rattle.node_kit.specs.Steps.{Input, stamp_of}
use Rattle.node_kit.specs.Steps.Input.{Take, Tick}
use Rattle.cub_rules.specs.declared.store.Store.{Store}
use Rattle.cub_changes.specs.Causes.{Stage, IsStageOf}
use Rattle.cub_changes.specs.Causes.Stage.{OnMessage}
use Rattle.cub_changes.specs.Laws.{HasCause, OutputsHaveCauses}
use Rattle.cub_changes.proofs.Closed.{OfEach}
use Rattle.cub_changes.proofs.Messages.{taking_by}
use Rattle.cub_changes.proofs.Ticks.{IsOfTick, ticking_by}
use Rattle.cub_changes.proofs.Outputs.{forms_of, Puts, puts_closed}

of_tick : (stamp : Stamp) (old : Store) (g : Stage) (from : Store) → IsOfTick g → IsStageOf (Tick stamp) old g from
of_tick stamp old (OnMessage link m) from t = t
of_tick stamp old other from t = tt

each : (p : Params) (c : ℕ) (i : Input Msg) (old : Store) (g : Stage) (from : Store) → IsStageOf i old g from
    → OfEach (Puts p c (stamp_of i) (HasCause p c i old)) p c (stamp_of i) g from
each p c i old g from of x h cause =
    forms_of p c (stamp_of i) (HasCause p c i old) x h
    (λ o comes. record {
      stage = g;
      from = from;
      of_event = of;
      before = h;
      change = x;
      cause = cause;
      form = o;
      comes = comes;
      is = refl;
    })

pub have_causes : OutputsHaveCauses
have_causes p c (Take stamp link m) h =
    let Q : Out Msg → Type 0 = HasCause p c (Take stamp link m) h in
    taking_by (Puts p c stamp Q) (puts_closed p c stamp Q) p c stamp link m h
    (each p c (Take stamp link m) h (OnMessage link m) h (refl, refl))
have_causes p c (Tick stamp) h =
    let Q : Out Msg → Type 0 = HasCause p c (Tick stamp) h in
    ticking_by (Puts p c stamp Q) (puts_closed p c stamp Q) p c stamp h
    (λ g from t. each p c (Tick stamp) h g from (of_tick stamp h g from t))
