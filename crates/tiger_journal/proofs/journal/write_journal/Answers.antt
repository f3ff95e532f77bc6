use Rattle.std.proofs.Common.{◌∙◌}
use Rattle.std.specs.Prelude.{None, Some}
use Rattle.audit_text.specs.Texts.{text_of}
use Rattle.tiger_run.proofs.Answering.{named_once}
use Rattle.tiger_input.proofs.Completeness.{run_completes}
use Rattle.tiger_run.proofs.Endings.{EndsSink-wrote}
use Rattle.tiger_journal.proofs.Ends.{refused_ends, refused_sinks, wrote_ends}
use Rattle.tiger_journal.proofs.journal.write_journal.Goals as goal

pub returns-clause-one_answer : goal.returns-clause-one_answer
returns-clause-one_answer g c = λ all old new other same run.
    named_once g.row.G.Denot (g.F.Files.state c.args.files.now) (g.F.Files.state c.named_run.new.files) old new c.args.name.now c.in-Ok.run'.kept other all same c.in-Ok.ensures.ran run

pub returns-clause-sink : goal.returns-clause-sink
returns-clause-sink g c =
    EndsSink-wrote (g.K.Sink.state c.args.out.now) (g.K.Sink.state c.written.new.out) text_of c.in-Ok.run'.kept c.as_slice.result.now c.written.result (c.as_slice.ensures.value ∙ c.in-Ok-write_kept.ensures) c.written.ensures.wrote

pub returns-in-Err-clause-complete : goal.returns-in-Err-clause-complete
returns-in-Err-clause-complete g c = λ r same puts.
    let old = g.F.Files.state c.args.files.now in
    let new = g.F.Files.state c.named_run.new.files in
    let out = g.K.Sink.state c.args.out.now in
    let cause = c.in-Err.ensures.input in
    rw c.refused.ensures (run_completes c.in-Err.status c.args.name.now old new out out text_of None r same puts
    (refused_ends c.in-Err.status c.args.name.now old new cause) (refused_sinks c.in-Err.status c.args.name.now old new out text_of cause))

pub returns-clause-complete : goal.returns-clause-complete
returns-clause-complete g c = λ r same puts.
    let old = g.F.Files.state c.args.files.now in
    let new = g.F.Files.state c.named_run.new.files in
    let was = g.K.Sink.state c.args.out.now in
    let is = g.K.Sink.state c.written.new.out in
    run_completes c.written.result c.args.name.now old new was is text_of (Some c.in-Ok.run'.kept) r same puts
    (wrote_ends c.written.result c.args.name.now old new was is c.as_slice.result.now c.written.ensures.wrote)
    (EndsSink-wrote was is text_of c.in-Ok.run'.kept c.as_slice.result.now c.written.result (c.as_slice.ensures.value ∙ c.in-Ok-write_kept.ensures) c.written.ensures.wrote)
