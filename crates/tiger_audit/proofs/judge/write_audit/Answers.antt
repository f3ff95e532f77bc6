use Rattle.tiger_audit.proofs.Endings.{answer_cause, answer_sink, completes}
use Rattle.tiger_audit.proofs.judge.write_audit.Goals as goal

pub returns-in-Ok-clause-cause : goal.returns-in-Ok-clause-cause
returns-in-Ok-clause-cause g c =
    let files = g.F.Files.state in
    answer_cause c.answer.result c.in-Ok.kept c.args.name.now (files c.args.files.now) (files c.read_run.new.files) c.in-Ok.ensures.read c.answer.ensures.cause

pub returns-in-Ok-clause-sink : goal.returns-in-Ok-clause-sink
returns-in-Ok-clause-sink g c =
    let file = (g.F.Files.state c.args.files.now).told c.args.name.now in
    let out = g.K.Sink.state in
    answer_sink c.answer.result c.in-Ok.kept file (out c.args.out.now) (out c.answer.new.out) c.in-Ok.ensures.read c.answer.ensures.sink

pub returns-in-Ok-clause-complete : goal.returns-in-Ok-clause-complete
returns-in-Ok-clause-complete g c = λ sound read put.
    let files = g.F.Files.state in
    let out = g.K.Sink.state in
    completes c.answer.result c.args.name.now (files c.args.files.now) (files c.read_run.new.files) (out c.args.out.now) (out c.answer.new.out)
    sound read put (returns-in-Ok-clause-cause g c) (returns-in-Ok-clause-sink g c)
