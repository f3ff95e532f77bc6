use Rattle.std.proofs.Common.{◌++◌, arith}
use Rattle.std.specs.Fmt.{decimal}
use Rattle.audit_text.proofs.Taking.{digit_taken}
use Rattle.audit_text.proofs.entries.take_digits.Goals as goal

pub loop-digit-preserved : goal.loop-digit-preserved
loop-digit-preserved c = (
  digit_taken (decimal c.args.first ++ c.args.bytes.now) c.loop-digit.n c.in-Some.digit c.loop-digit.rest.now c.in-Some.behind.now
      c.loop-digit.invariant.0 c.in-Some.ensures.1 c.loop-digit.invariant.1 c.if-n-ge-LONG.false c.in-Some.ensures.0,
  omega (arith, c.loop-digit.invariant.1),
)
