use Rattle.std.proofs.Common.{string_bytes}
use Rattle.tiger_check.specs.Ends.{OfSaid}
use Rattle.tiger_check.proofs.Endings.{wrote_said, of_scenario}
use Rattle.tiger_check.proofs.check.say_scenario.Goals as goal

pub returns-clause-said : goal.returns-clause-said
returns-clause-said g c =
    let out = g.K.Sink.state in
    let inputs = c.args.inputs.now in
    let text = string_bytes c.in-Ok.text in
    wrote_said c.written.result (out c.args.out.now) (out c.written.new.out) text (OfSaid inputs) (of_scenario inputs text c.in-Ok.ensures)
    (rw c.as_bytes.ensures.value at c.written.ensures.wrote)
