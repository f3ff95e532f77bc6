-- What the answer of the walk along the log of a kept run says of the fourth claim of its account.
use Rattle.std.specs.Prelude.{ℕ, List, Option}
use Rattle.node_kit.specs.declared.course.Kept.{Kept}
use Rattle.run_claims.specs.Accounts.{account_of}
use Rattle.run_claims.specs.Claims.{OnePerVisit}
use Rattle.run_claims.specs.Visits.{AreServedOnce}
use Rattle.audit_frame.specs.Said.{SaysOf, IsDecidedAs}
use Rattle.audit_frame.specs.declared.lines.Line.{Line}

abbrev pub VisitsOfAccounts : Type 0
VisitsOfAccounts = (k : Kept) (lines : List Line) (answer : Option ℕ)
    → IsDecidedAs k lines (AreServedOnce k.course.plan.params) answer → SaysOf answer (OnePerVisit (account_of k))
