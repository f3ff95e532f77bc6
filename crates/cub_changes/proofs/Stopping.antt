-- No output of a cub is Gone, since none of the forms is.
use Rattle.std.proofs.Common.{ℕ, Option}
use Rattle.std.specs.List.{AllByRecursion}
use Rattle.std.proofs.lemmas.Bool.{cond_both}
use Rattle.tiger_base.specs.declared.number.Stamp.{Stamp}
use Rattle.tiger_base.specs.declared.message.Msg.{Msg}
use Rattle.slot_plan.specs.declared.params.Params.{Params}
use Rattle.node_kit.specs.Deeds.{then_do}
use Rattle.node_kit.specs.Steps.{Deed}
use Rattle.node_kit.specs.Steps.Input.{Take, Tick}
use Rattle.cub_rules.specs.declared.store.Store.{Store}
use Rattle.cub_rules.specs.Ticks.{ticking}
use Rattle.cub_rules.specs.Cubs.{was_away, coming_back, ending}
use Rattle.cub_changes.specs.Changes.{Change, did}
use Rattle.cub_changes.specs.Outputs.{Output, output}
use Rattle.cub_changes.specs.Outputs.Output.{Took}
use Rattle.cub_changes.specs.Laws.{IsNotGone, CubsStopNothing}
use Rattle.cub_changes.proofs.Messages.{taking_by}
use Rattle.cub_changes.proofs.Ticks.{ticking_by}
use Rattle.cub_changes.proofs.Outputs.{forms_of, Puts, puts_closed}

form : (p : Params) (c : ℕ) (stamp : Stamp) (o : Output) → IsNotGone (output p c stamp o)
form p c stamp (Took r) = tt
form p c stamp other = tt

each : (p : Params) (c : ℕ) (stamp : Stamp) (x : Change) (h : Store) → Puts p c stamp IsNotGone h (did p c stamp x h)
each p c stamp x h = forms_of p c stamp IsNotGone x h (λ o comes. form p c stamp o)

tick_stops : (p : Params) (c : ℕ) (stamp : Stamp) (h : Store) → AllByRecursion IsNotGone (ticking p c stamp h).outs
tick_stops p c stamp h =
    ticking_by (Puts p c stamp IsNotGone) (puts_closed p c stamp IsNotGone) p c stamp h
    (λ g from t x q cause. each p c stamp x q)

ending_stops : (p : Params) (c : ℕ) (last : Option ℕ) (stamp : Stamp) (h : Store)
    → AllByRecursion IsNotGone (ending p c last stamp h).outs
unfolding ending
ending_stops p c last stamp h =
    let back : Store → Deed Msg Store = coming_back p c stamp in
    let tick : Store → Deed Msg Store = ticking p c stamp in
    cond_both (was_away last stamp.beat) (then_do back tick h) (tick h) (λ d. AllByRecursion IsNotGone d.outs)
    (λ _. (tt, (tt, tick_stops p c stamp (back h).state))) (λ _. tick_stops p c stamp h)

pub cubs_stop : CubsStopNothing
cubs_stop s (Take stamp link m) =
    taking_by (Puts s.params s.cub stamp IsNotGone)
    (puts_closed s.params s.cub stamp IsNotGone) s.params s.cub stamp link m s.store
    (λ x h cause. each s.params s.cub stamp x h)
cubs_stop s (Tick stamp) = ending_stops s.params s.cub s.last stamp s.store
