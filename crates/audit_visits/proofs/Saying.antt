-- What is decided of the log of a kept run is decided of its account.
use Rattle.run_claims.specs.Visits.{AreServedOnce}
use Rattle.audit_frame.proofs.Saying.{says}
use Rattle.audit_visits.specs.Verdicts.{VisitsOfAccounts}

pub visits_of_accounts : VisitsOfAccounts
visits_of_accounts k lines answer a = says (AreServedOnce k.course.plan.params) _ _ answer a.told a.decided
