use Rattle.audit_text.proofs.Taking.{zero_taken, digits_taken}
use Rattle.audit_text.proofs.entries.take_number.Goals as goal

pub returns-then-first-eq0 : goal.returns-then-first-eq0
returns-then-first-eq0 c =
    zero_taken c.args.bytes.now c.in_ok-space.digits.now c.in_ok-first.rest.now c.in_ok-space.space.now c.in_ok-first.first
    (c.in_ok-space.ensures.cases).0 c.if-space-ne32.false c.in_ok-first.ensures.1 c.if-first-eq0.true

pub returns : goal.returns
returns c =
    digits_taken c.args.bytes.now c.in_ok-space.digits.now c.in_ok-first.rest.now c.in_ok-space.space.now c.in_ok-first.first c.take_digits.result
    (c.in_ok-space.ensures.cases).0 c.if-space-ne32.false c.in_ok-first.ensures.1 c.in_ok-first.ensures.0 c.take_digits.ensures
