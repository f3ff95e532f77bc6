use Rattle.std.proofs.Common.{[], ◌∷◌, length-append, arith, sym, ◌∙◌}
use Rattle.scenario_read.specs.Timing.{offset_after}
use Rattle.scenario_read.proofs.Loop.{GoesOn-more, GoesOn-fault, GoesOn-all}
use Rattle.scenario_read.proofs.timing.offsets_after.Goals as goal

pub returns-in_default : goal.returns-in_default
returns-in_default c =
    let refused = sym c.offset_in.ensures ∙ c.in_default.is in
    rw c.broken.ensures (GoesOn-fault 7 (offset_after c.args.skew) c.loop-value.offsets.items c.args.values.now c.loop-value.value-index c.value-item.result c.len.result (omega (arith, c.len.ensures, c.loop-value.offsets.ok.0)) (omega arith) c.value-item.is refused c.loop-value.invariant.meaning)

pub loop-value-preserved : goal.loop-value-preserved
loop-value-preserved c =
    let front = c.loop-value.offsets.items in
    let offset = c.in-Some.offset in
    let means = sym c.offset_in.ensures ∙ c.in-Some.is in
    record {
      count = rw c.in_ok-push.ensures.items (omega (arith, length-append front (offset ∷ [])));
      meaning = rw c.in_ok-push.ensures.items (GoesOn-more 7 (offset_after c.args.skew) front c.args.values.now c.loop-value.value-index c.value-item.result offset (omega arith) c.value-item.is means c.loop-value.invariant.meaning);
    }

pub returns : goal.returns
returns c = GoesOn-all 7 (offset_after c.args.skew) c.loop-value.offsets.items c.args.values.now c.loop-value.value-index (omega arith) c.loop-value.invariant.meaning
