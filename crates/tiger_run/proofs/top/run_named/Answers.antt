use Rattle.std.proofs.Common.{◌∙◌}
use Rattle.run_report.specs.Text.{report_text}
use Rattle.tiger_run.proofs.Endings.{EndsSink-wrote}
use Rattle.tiger_run.proofs.top.run_named.Goals as goal

pub returns-clause-sink : goal.returns-clause-sink
returns-clause-sink g c =
    EndsSink-wrote (g.K.Sink.state c.args.out.now) (g.K.Sink.state c.written.new.out) report_text c.in-Ok.run'.kept c.as_slice-2.result.now c.written.result (c.as_slice-2.ensures.value ∙ c.in-Ok-report_of.ensures) c.written.ensures.wrote
