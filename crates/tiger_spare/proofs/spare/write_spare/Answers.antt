use Rattle.std.proofs.Common.{◌∙◌, None, Some}
use Rattle.run_report.specs.Text.{report_text}
use Rattle.tiger_input.proofs.Completeness.{run_completes}
use Rattle.tiger_journal.proofs.Ends.{EndsSink-wrote, wrote_ends}
use Rattle.tiger_spare.proofs.Causes.{refused_sink, refused_spare}
use Rattle.tiger_spare.proofs.Completeness.{as_ends, deadly_ends, deadly_is_not_run}
use Rattle.tiger_spare.proofs.spare.write_spare.Goals as goal

pub returns-clause-sink : goal.returns-clause-sink
returns-clause-sink g c =
    EndsSink-wrote (g.K.Sink.state c.args.out.now) (g.K.Sink.state c.written.new.out) report_text c.in-Ok.run'.kept c.as_slice-2.result.now c.written.result (c.as_slice-2.ensures.value ∙ c.in-Ok-report_of.ensures) c.written.ensures.wrote

pub returns-in-Err-clause-complete : goal.returns-in-Err-clause-complete
returns-in-Err-clause-complete g c = λ r same puts.
    let old = g.F.Files.state c.args.files.now in
    let new = g.F.Files.state c.named_spare.new.files in
    let out = g.K.Sink.state c.args.out.now in
    let name = c.args.name.now in
    let cause = c.in-Err.ensures.input in
    let ends = as_ends c.in-Err.status name old new r (refused_spare c.in-Err.status name old new cause) in
    rw c.refused.ensures (run_completes c.in-Err.status name old new out out report_text None r.runnable same puts ends
    (refused_sink c.in-Err.status name old new out report_text cause))

pub returns-clause-complete : goal.returns-clause-complete
returns-clause-complete g c = λ r same puts.
    let old = g.F.Files.state c.args.files.now in
    let new = g.F.Files.state c.named_spare.new.files in
    let was = g.K.Sink.state c.args.out.now in
    let is = g.K.Sink.state c.written.new.out in
    run_completes c.written.result c.args.name.now old new was is report_text (Some c.in-Ok.run'.kept) r.runnable same puts
    (wrote_ends c.written.result c.args.name.now old new was is c.as_slice-2.result.now c.written.ensures.wrote)
    (EndsSink-wrote was is report_text c.in-Ok.run'.kept c.as_slice-2.result.now c.written.result (c.as_slice-2.ensures.value ∙ c.in-Ok-report_of.ensures) c.written.ensures.wrote)

pub returns-in-Err-clause-deadly : goal.returns-in-Err-clause-deadly
returns-in-Err-clause-deadly g c = λ d same.
    let old = g.F.Files.state c.args.files.now in
    let new = g.F.Files.state c.named_spare.new.files in
    rw c.refused.ensures (deadly_ends c.in-Err.status c.args.name.now old new d same c.in-Err.ensures.input)

pub returns-clause-deadly : goal.returns-clause-deadly
returns-clause-deadly g c = λ d same.
    let old = g.F.Files.state c.args.files.now in
    let new = g.F.Files.state c.named_spare.new.files in
    absurd (deadly_is_not_run _ c.args.name.now old new c.in-Ok.run'.kept d c.in-Ok.ensures.ran)
