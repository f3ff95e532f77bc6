use Rattle.std.proofs.Common.{◌∙◌, ◌+◌, ◌++◌, ap, arith}
use Rattle.std.proofs.lemmas.List.{at_drop_all}
use Rattle.run_facts.specs.Carried.{got_on}
use Rattle.run_model.specs.Ways.{halved, got_from}
use Rattle.run_model.proofs.Carriage.{got_step, got_none}
use Rattle.run_model.proofs.carrying.next_got.Goals as goal

pub returns-in-Some : goal.returns-in-Some
returns-in-Some c = record {
  inside = omega arith;
  first =
      c.loop-i.invariant ∙ got_step c.args.way.now c.loop-i.i c.args.receiver.now _ c.loop-i-test.true
      ∙ ap (λ xs. xs ++ got_from c.args.way.now (c.loop-i.i + 1) c.args.receiver.now) c.in-Some.ensures;
}

pub loop-i-preserved : goal.loop-i-preserved
loop-i-preserved c =
    c.loop-i.invariant ∙ got_step c.args.way.now c.loop-i.i c.args.receiver.now _ c.loop-i-test.true
    ∙ ap (λ xs. xs ++ got_from c.args.way.now (c.loop-i.i + 1) c.args.receiver.now) c.in-None.ensures

pub returns : goal.returns
returns c =
    let way = c.args.way.now in
    c.loop-i.invariant
    ∙ at_drop_all (λ es. halved way (got_on way.link.0 es)) c.args.receiver.now c.loop-i.i c.loop-i-test.false
    ∙ got_none way
