use Rattle.tiger_check.specs.Ends.{CheckSink}
use Rattle.tiger_check.specs.Statuses.{as_run, NamesConditions}
use Rattle.tiger_input.specs.Ending.{EndsInputs}
use Rattle.tiger_top.proofs.Checks.{of_end, known, refuses, done_or_no_memory}
use Rattle.tiger_top.proofs.check.check_scenario.Goals as goal

pub returns-clause-input : goal.returns-clause-input
returns-clause-input g c =
    let old = g.F.Files.state c.args.files.now in
    let new = g.F.Files.state c.write_check.new.files in
    rw c.of_check.ensures (of_end (λ end. EndsInputs c.args.name.now old new (as_run end)) c.write_check.result c.write_check.ensures.input)

pub returns-clause-sink : goal.returns-clause-sink
returns-clause-sink g c =
    let old = g.F.Files.state c.args.files.now in
    let new = g.F.Files.state c.write_check.new.files in
    let out = g.K.Sink.state c.args.out.now in
    let out_new = g.K.Sink.state c.write_check.new.out in
    rw c.of_check.ensures (of_end (CheckSink c.args.name.now old new out out_new) c.write_check.result c.write_check.ensures.sink)

pub returns-clause-conditions : goal.returns-clause-conditions
returns-clause-conditions g c = rw c.of_check.ensures (of_end NamesConditions c.write_check.result c.write_check.ensures.conditions)

pub returns-clause-known : goal.returns-clause-known
returns-clause-known g c =
    let old = g.F.Files.state c.args.files.now in
    let new = g.F.Files.state c.write_check.new.files in
    rw c.of_check.ensures (known c.write_check.result c.args.name.now old new c.write_check.ensures.input)

pub returns-clause-silent : goal.returns-clause-silent
returns-clause-silent g c =
    rw c.of_check.ensures (λ refusal. c.write_check.ensures.silent (refuses c.write_check.result refusal))

pub returns-clause-complete : goal.returns-clause-complete
returns-clause-complete g c = λ runnable read put.
    rw c.of_check.ensures (done_or_no_memory c.write_check.result (c.write_check.ensures.complete runnable read put))
