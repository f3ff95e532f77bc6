use Rattle.std.proofs.Common.{◌≡◌, List, [], ◌∷◌, length-append, Some, None, arith, subst, sym, ◌∙◌}
use Rattle.serde_json.specs.View.{view}
use Rattle.scenario_read.specs.declared.deaths.Death.{Death}
use Rattle.scenario_read.specs.Deaths.{death_after}
use Rattle.scenario_read.proofs.Loop.{GoesOn-more, GoesOn-fault, GoesOn-all}
use Rattle.scenario_read.proofs.deaths.deaths_after.Goals as goal

pub returns-in_default : goal.returns-in_default
returns-in_default c =
    let refused = subst (λ (front : List Death). death_after c.args.cubs c.args.beats front (view c.value-item.result) ≡ None) c.deref.ensures.value (sym c.death_after.ensures ∙ c.in_default.is) in
    rw c.broken.ensures (GoesOn-fault 11 (death_after c.args.cubs c.args.beats) c.loop-value.deaths.items c.args.values.now c.loop-value.value-index c.value-item.result c.len.result (omega (arith, c.len.ensures, c.loop-value.deaths.ok.0)) (omega arith) c.value-item.is refused c.loop-value.invariant.meaning)

pub loop-value-preserved : goal.loop-value-preserved
loop-value-preserved c =
    let front = c.loop-value.deaths.items in
    let death = c.in-Some.death in
    let means = subst (λ (ds : List Death). death_after c.args.cubs c.args.beats ds (view c.value-item.result) ≡ Some death) c.deref.ensures.value (sym c.death_after.ensures ∙ c.in-Some.is) in
    record {
      count = rw c.in_ok-push.ensures.items (omega (arith, length-append front (death ∷ [])));
      meaning = rw c.in_ok-push.ensures.items (GoesOn-more 11 (death_after c.args.cubs c.args.beats) front c.args.values.now c.loop-value.value-index c.value-item.result death (omega arith) c.value-item.is means c.loop-value.invariant.meaning);
    }

pub returns : goal.returns
returns c = GoesOn-all 11 (death_after c.args.cubs c.args.beats) c.loop-value.deaths.items c.args.values.now c.loop-value.value-index (omega arith) c.loop-value.invariant.meaning
