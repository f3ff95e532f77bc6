use Rattle.std.proofs.Common.{string_bytes}
use Rattle.tiger_audit.proofs.Endings.{said_sink}
use Rattle.tiger_audit.proofs.judge.answer.Goals as goal

pub returns-in-Ok-clause-sink : goal.returns-in-Ok-clause-sink
returns-in-Ok-clause-sink g c =
    let out = g.K.Sink.state in
    said_sink c.written.result c.args.kept.now (out c.args.out.now) (out c.written.new.out) (string_bytes c.in-Ok.text) c.in-Ok.ensures.yes
    (rw c.as_bytes.ensures.value at c.written.ensures.wrote)
