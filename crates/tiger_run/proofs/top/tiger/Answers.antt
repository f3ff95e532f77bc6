use Rattle.std.proofs.Common.{ℕ, List, subst}
use Rattle.run_report.specs.Text.{report_text}
use Rattle.tiger_input.specs.Words.{IsRun, IsMake, texts_of}
use Rattle.tiger_input.specs.Ending.{EndsInputs}
use Rattle.tiger_input.proofs.WordLists.{IsRun-name}
use Rattle.tiger_run.proofs.Endings.{EndsSink-run, EndsSink-make, words-run}
use Rattle.tiger_input.proofs.Completeness.{run_completes}
use Rattle.tiger_run.proofs.Answering.{one_answer, asked_by_name, asked_by_number}
use Rattle.tiger_run.proofs.top.tiger.Goals as goal

pub returns-in-Some-Run-clause-sink : goal.returns-in-Some-Run-clause-sink
returns-in-Some-Run-clause-sink g c =
    let words = texts_of c.args.words.now.items in
    let run : IsRun words c.in-Some-Run.name.now c.in-Some-Run.workers = rw (c.as_slice.ensures.value, c.in-Some-Run.field-0-is) at c.in-Some-Run.ensures in
    EndsSink-run words c.in-Some-Run.name.now c.in-Some-Run.workers (g.K.Sink.state c.args.out.now) (g.K.Sink.state c.run_named.new.out) c.run_named.result.kept c.run_named.result.status run c.run_named.ensures.sink

pub returns-in-Some-Run-clause-complete : goal.returns-in-Some-Run-clause-complete
returns-in-Some-Run-clause-complete g c = λ command none_failed put_all.
    let words = texts_of c.args.words.now.items in
    let run : IsRun words c.in-Some-Run.name.now c.in-Some-Run.workers = rw (c.as_slice.ensures.value, c.in-Some-Run.field-0-is) at c.in-Some-Run.ensures in
    let same = IsRun-name words c.in-Some-Run.name.now command.name c.in-Some-Run.workers command.workers run command.asked in
    let old = g.F.Files.state c.args.files.now in
    let new = g.F.Files.state c.run_named.new.files in
    let status = c.run_named.result.status in
    let ends = subst (λ (n : List ℕ). EndsInputs n old new status) same c.run_named.ensures.input in
    run_completes status command.name old new (g.K.Sink.state c.args.out.now) (g.K.Sink.state c.run_named.new.out) report_text c.run_named.result.kept command.runnable none_failed put_all ends c.run_named.ensures.sink

pub returns-in-Some-Make-clause-sink : goal.returns-in-Some-Make-clause-sink
returns-in-Some-Make-clause-sink g c =
    let words = texts_of c.args.words.now.items in
    let make : IsMake words c.in-Some-Make.number = rw (c.as_slice.ensures.value, c.in-Some-Make.field-0-is) at c.in-Some-Make.ensures in
    EndsSink-make words c.in-Some-Make.number (g.K.Sink.state c.args.out.now) (g.K.Sink.state c.run_made.new.out) c.run_made.result.kept c.run_made.result.status make c.run_made.ensures.sink

pub returns-in-Some-Run-clause-words : goal.returns-in-Some-Run-clause-words
returns-in-Some-Run-clause-words g c =
    let words = texts_of c.args.words.now.items in
    let run : IsRun words c.in-Some-Run.name.now c.in-Some-Run.workers = rw (c.as_slice.ensures.value, c.in-Some-Run.field-0-is) at c.in-Some-Run.ensures in
    words-run words c.in-Some-Run.name.now c.in-Some-Run.workers (g.F.Files.state c.args.files.now) (g.F.Files.state c.run_named.new.files) c.run_named.result.status run c.run_named.ensures.input

pub returns-in-Some-Run-clause-one_answer : goal.returns-in-Some-Run-clause-one_answer
returns-in-Some-Run-clause-one_answer g c = λ all.
    let words = texts_of c.args.words.now.items in
    let run : IsRun words c.in-Some-Run.name.now c.in-Some-Run.workers = rw (c.as_slice.ensures.value, c.in-Some-Run.field-0-is) at c.in-Some-Run.ensures in
    let old = g.F.Files.state c.args.files.now in
    let new = g.F.Files.state c.run_named.new.files in
    one_answer g.row.G.Denot old new words c.run_named.result.kept all
    (asked_by_name g.row.G.Denot old new words c.in-Some-Run.name.now c.in-Some-Run.workers c.run_named.result.kept run c.run_named.ensures.ran)

pub returns-in-Some-Make-clause-one_answer : goal.returns-in-Some-Make-clause-one_answer
returns-in-Some-Make-clause-one_answer g c = λ all.
    let words = texts_of c.args.words.now.items in
    let make : IsMake words c.in-Some-Make.number = rw (c.as_slice.ensures.value, c.in-Some-Make.field-0-is) at c.in-Some-Make.ensures in
    let old = g.F.Files.state c.args.files.now in
    one_answer g.row.G.Denot old old words c.run_made.result.kept all
    (asked_by_number g.row.G.Denot old old words c.in-Some-Make.number c.run_made.result.kept make c.run_made.ensures.ran)
