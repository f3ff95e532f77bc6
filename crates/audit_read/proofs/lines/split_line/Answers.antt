use Rattle.audit_read.proofs.Cutting.{feed_found, no_feed_found}
use Rattle.audit_read.proofs.lines.split_line.Goals as goal

pub returns-in-Some : goal.returns-in-Some
returns-in-Some c = feed_found c.args.bytes.now c.in-Some.at (c.in-Some.ensures).0 (c.in-Some.ensures).1

pub returns-in-None : goal.returns-in-None
returns-in-None c = no_feed_found c.args.bytes.now c.in-None.ensures
