use Rattle.std.proofs.Common.{◌+◌, drop, ◌∙◌}
use Rattle.std.proofs.lemmas.List.{at_drop_all}
use Rattle.run_facts.specs.Carried.{sent_on}
use Rattle.run_model.specs.Ways.{halved}
use Rattle.run_model.proofs.Carriage.{sent_step, sent_none, step_on, step_stops, none_left, joined}
use Rattle.run_model.proofs.carrying.half_carries.Goals as goal

pub returns-in-None : goal.returns-in-None
returns-in-None c =
    let way = c.args.way.now in
    let then = halved way (sent_on way.link.0 (drop (c.loop-e.e-index + 1) c.args.sender.now)) in
    step_stops way _ _ then _ _
    (sent_step way c.loop-e.e-index c.args.sender.now _ c.loop-e-test.true)
    c.loop-e.invariant.rest (c.in-None.ensures.stop then)

pub loop-e-preserved : goal.loop-e-preserved
loop-e-preserved c =
    let way = c.args.way.now in
    let then = halved way (sent_on way.link.0 (drop (c.loop-e.e-index + 1) c.args.sender.now)) in
    record {
      inside = c.in-Some.ensures.inside;
      rest =
          step_on way _ _ then _ _ _
          (sent_step way c.loop-e.e-index c.args.sender.now _ c.loop-e-test.true)
          c.loop-e.invariant.rest (c.in-Some.ensures.on then);
    }

pub returns : goal.returns
returns c =
    let way = c.args.way.now in
    let end =
    at_drop_all (λ es. halved way (sent_on way.link.0 es)) c.args.sender.now c.loop-e.e-index c.loop-e-test.false
    ∙ sent_none way in
    joined _ _ _ (rw end at c.loop-e.invariant.rest)
    (none_left way c.loop-e.next c.args.receiver.now c.next_got.result c.is_none.result c.next_got.ensures c.is_none.ensures)
