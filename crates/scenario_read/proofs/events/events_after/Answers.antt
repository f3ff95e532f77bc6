use Rattle.std.proofs.Common.{[], ◌∷◌, length-append, arith, sym, ◌∙◌, ◌≡◌, None, Some}
use Rattle.serde_json.specs.View.{view}
use Rattle.scenario_read.specs.Events.{event_after}
use Rattle.scenario_read.proofs.EventFacts.{starts_in-push, latest_beat-push, event_in-along}
use Rattle.scenario_read.proofs.Loop.{GoesOn-more, GoesOn-fault, GoesOn-all}
use Rattle.scenario_read.proofs.events.events_after.Goals as goal

pub returns-in_default-clause-gives : goal.returns-in_default-clause-gives
returns-in_default-clause-gives c =
    let front = c.loop-value.events.items in
    let d = view c.value-item.result in
    let refused : event_after c.args.beats c.args.files front d ≡ None =
    event_in-along c.args.beats c.args.files c.loop-value.latest c.loop-value.starts front d _ c.loop-value.invariant.latest c.loop-value.invariant.starts (sym c.event_in.ensures ∙ c.in_default.is) in
    rw c.broken.ensures (GoesOn-fault 9 (event_after c.args.beats c.args.files) front c.args.values.now c.loop-value.value-index c.value-item.result c.len.result (omega (arith, c.len.ensures, c.loop-value.events.ok.0)) (omega arith) c.value-item.is refused c.loop-value.invariant.meaning)

pub loop-value-preserved : goal.loop-value-preserved
loop-value-preserved c =
    let front = c.loop-value.events.items in
    let event = c.in-Some.event in
    let d = view c.value-item.result in
    let means : event_after c.args.beats c.args.files front d ≡ Some event =
    event_in-along c.args.beats c.args.files c.loop-value.latest c.loop-value.starts front d _ c.loop-value.invariant.latest c.loop-value.invariant.starts (sym c.event_in.ensures ∙ c.in-Some.is) in
    record {
      count = rw c.in_ok-push.ensures.items (omega (arith, length-append front (event ∷ [])));
      latest = rw c.in_ok-push.ensures.items (omega (arith, latest_beat-push front event, c.loop-value.invariant.latest, c.beat_of.ensures, c.max-latest.ensures));
      starts = rw c.in_ok-push.ensures.items (omega (arith, starts_in-push front event, c.loop-value.invariant.starts, c.starts_with-starts.ensures));
      meaning = rw c.in_ok-push.ensures.items (GoesOn-more 9 (event_after c.args.beats c.args.files) front c.args.values.now c.loop-value.value-index c.value-item.result event (omega arith) c.value-item.is means c.loop-value.invariant.meaning);
    }

pub returns-clause-gives : goal.returns-clause-gives
returns-clause-gives c = GoesOn-all 9 (event_after c.args.beats c.args.files) c.loop-value.events.items c.args.values.now c.loop-value.value-index (omega arith) c.loop-value.invariant.meaning
