use Rattle.tiger_audit.specs.Ends.{AuditCause, AuditSink, IsJudged}
use Rattle.tiger_top.proofs.Audits.{of_audited, audit_known, audit_refuses, audit_done_or_no_memory}
use Rattle.tiger_top.proofs.audit.audit_text.Goals as goal

pub returns-clause-cause : goal.returns-clause-cause
returns-clause-cause g c =
    let old = g.F.Files.state c.args.files.now in
    let new = g.F.Files.state c.write_audit.new.files in
    rw c.of_audit.ensures (of_audited (AuditCause c.args.name.now old new) c.write_audit.result c.write_audit.ensures.cause)

pub returns-clause-sink : goal.returns-clause-sink
returns-clause-sink g c =
    let old = g.F.Files.state c.args.files.now in
    let out = g.K.Sink.state c.args.out.now in
    let out_new = g.K.Sink.state c.write_audit.new.out in
    rw c.of_audit.ensures (of_audited (AuditSink (old.told c.args.name.now) out out_new) c.write_audit.result c.write_audit.ensures.sink)

pub returns-clause-complete : goal.returns-clause-complete
returns-clause-complete g c = λ sound read put.
    rw c.of_audit.ensures (audit_done_or_no_memory c.write_audit.result (c.write_audit.ensures.complete sound read put))

pub returns-clause-judged : goal.returns-clause-judged
returns-clause-judged g c = λ told read put.
    rw c.of_audit.ensures (of_audited IsJudged c.write_audit.result (c.write_audit.ensures.judged told read put))

pub returns-clause-known : goal.returns-clause-known
returns-clause-known g c =
    let old = g.F.Files.state c.args.files.now in
    let new = g.F.Files.state c.write_audit.new.files in
    rw c.of_audit.ensures (audit_known c.write_audit.result c.args.name.now old new c.write_audit.ensures.cause)

pub returns-clause-silent : goal.returns-clause-silent
returns-clause-silent g c =
    rw c.of_audit.ensures (λ refusal. c.write_audit.ensures.silent (audit_refuses c.write_audit.result refusal))
