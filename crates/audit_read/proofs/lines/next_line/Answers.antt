use Rattle.std.proofs.Common.{refl}
use Rattle.audit_read.proofs.Cutting.{cut_read}
use Rattle.audit_read.proofs.lines.next_line.Goals as goal

pub returns-in-Some : goal.returns-in-Some
returns-in-Some c =
    cut_read c.args.bytes.now c.in-Some.entry c.in-Some.behind.now _ c.in-Some.ensures.found c.in-Some.ensures.fits refl
