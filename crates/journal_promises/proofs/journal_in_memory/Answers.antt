use Rattle.node_kit.specs.declared.gate.OpenGate.{OpenGate}
use Rattle.outside.specs.Memory.{source_of}
use Rattle.audit_read.specs.Writable.{IsWritable}
use Rattle.audit_verdict.specs.Clauses.{MeetsAllClauses}
use Rattle.journal_promises.specs.Promises.{IsReadBack, GetsYes, PassesAudit}
use Rattle.journal_promises.specs.Runs.{HasReadings}
use Rattle.journal_promises.proofs.Kept.{done_written, named_meets, named_readings, read_back, gets_yes, passes, if_named, if_writable}
use Rattle.journal_promises.proofs.journal_in_memory.Goals as goal

-- ---- what is written

pub returns-clause-text : goal.returns-clause-text
returns-clause-text g c =
    done_written c.args.out.now c.write_journal-ended.new.out c.write_journal-ended.result.kept c.write_journal-ended.result.status c.write_journal-ended.ensures.sink

pub returns-clause-writable : goal.returns-clause-writable
returns-clause-writable g c =
    if_writable OpenGate (source_of c.args.files.now) (source_of c.write_journal-ended.new.files) c.args.name.now IsWritable c.write_journal-ended.result.kept
    (λ k writable meets. writable) c.write_journal-ended.ensures.ran c.numbers_fit.ensures

pub returns-clause-read_back : goal.returns-clause-read_back
returns-clause-read_back g c =
    if_writable OpenGate (source_of c.args.files.now) (source_of c.write_journal-ended.new.files) c.args.name.now IsReadBack c.write_journal-ended.result.kept
    (λ k writable meets. read_back k writable) c.write_journal-ended.ensures.ran c.numbers_fit.ensures

-- ---- what the auditor says of it

pub returns-clause-clauses : goal.returns-clause-clauses
returns-clause-clauses g c =
    if_named OpenGate (source_of c.args.files.now) (source_of c.write_journal-ended.new.files) c.args.name.now MeetsAllClauses c.write_journal-ended.result.kept
    (λ k named. named_meets OpenGate (source_of c.args.files.now) (source_of c.write_journal-ended.new.files) c.args.name.now k named)
    c.write_journal-ended.ensures.ran

pub returns-clause-yes : goal.returns-clause-yes
returns-clause-yes g c =
    if_named OpenGate (source_of c.args.files.now) (source_of c.write_journal-ended.new.files) c.args.name.now GetsYes c.write_journal-ended.result.kept
    (λ k named. gets_yes k (named_meets OpenGate (source_of c.args.files.now) (source_of c.write_journal-ended.new.files) c.args.name.now k named))
    c.write_journal-ended.ensures.ran

pub returns-clause-passes : goal.returns-clause-passes
returns-clause-passes g c =
    if_writable OpenGate (source_of c.args.files.now) (source_of c.write_journal-ended.new.files) c.args.name.now PassesAudit c.write_journal-ended.result.kept
    (λ k writable meets. passes k writable meets) c.write_journal-ended.ensures.ran c.numbers_fit.ensures

pub returns-clause-readings : goal.returns-clause-readings
returns-clause-readings g c =
    if_named OpenGate (source_of c.args.files.now) (source_of c.write_journal-ended.new.files) c.args.name.now HasReadings c.write_journal-ended.result.kept
    (λ k named. named_readings OpenGate (source_of c.args.files.now) (source_of c.write_journal-ended.new.files) c.args.name.now k named)
    c.write_journal-ended.ensures.ran
