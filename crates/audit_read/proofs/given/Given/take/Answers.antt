use Rattle.std.proofs.Common.{rules}
use Rattle.audit_read.proofs.given.Given.take.Goals as goal
use Rattle.audit_read.proofs.given.Given.take.Goals.{in-Death+in_ok-yes-in-Death, in-Fault+in_ok-yes-in-Fault, in-File+in_ok-yes-in-File, in-Order+in_ok-yes-in-Order, in-Node, in_default}

pub returns : goal.returns
returns c =
    elim c.match-line.branch [
      | in-Death+in_ok-yes-in-Death w ↦ search rules
      | in-Fault+in_ok-yes-in-Fault w ↦ search rules
      | in-File+in_ok-yes-in-File w ↦ search rules
      | in-Order+in_ok-yes-in-Order w ↦ search rules
      | in-Node w ↦ search rules
      | in_default w ↦ search rules
    ]
