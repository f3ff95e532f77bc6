use Rattle.audit_read.proofs.Ends.{catalogue_is}
use Rattle.audit_read.proofs.given.Given.finish.Goals as goal

pub invariant_of-result-2 : goal.invariant_of-result-2
invariant_of-result-2 c = record { sound = catalogue_is c.args.self c.requires }
