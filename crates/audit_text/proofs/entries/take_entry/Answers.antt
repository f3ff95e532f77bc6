use Rattle.audit_text.proofs.Taking.{entry_taken}
use Rattle.audit_text.proofs.entries.take_entry.Goals as goal

pub returns : goal.returns
returns c =
    entry_taken _ c.word_in-word.result c.args.bytes.now c.in_ok-rest.rest.now c.in_ok-beat.rest.now c.in_ok-reading.rest.now c.in_ok-what.rest.now
    c.in_ok-rest.ensures c.in_ok-beat.ensures c.in_ok-reading.ensures c.in_ok-what.ensures.0 c.in_ok-what.ensures.1
