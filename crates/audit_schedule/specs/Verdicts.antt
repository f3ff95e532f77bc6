-- What the answers of walks along the log of a kept run say of the claims of its account.
use Rattle.std.specs.Prelude.{◌≡◌, ℕ, List, Option}
use Rattle.std.specs.List.{AllByRecursion}
use Rattle.node_kit.specs.declared.course.Kept.{Kept}
use Rattle.node_kit.specs.declared.journal.Entry.{Entry}
use Rattle.run_model.specs.Orders.{PutsAreFair}
use Rattle.run_model.specs.Runs.{order_in}
use Rattle.run_claims.specs.Accounts.{account_of}
use Rattle.run_claims.specs.Claims.{FreePuts, NoReturn, TrueBelief, TrueFaults, VisitsInOrder}
use Rattle.run_claims.specs.Returns.{NobodyComesBack}
use Rattle.run_claims.specs.Truths.{BeliefsAreTrue, FailuresAreTrue}
use Rattle.run_claims.specs.Turns.{AreInTurn}
use Rattle.audit_frame.specs.Lines.{told_by}
use Rattle.audit_frame.specs.Said.{SaysOf, IsDecidedAs}
use Rattle.audit_frame.specs.declared.lines.Line.{Line}
use Rattle.audit_schedule.specs.Fair.{IsEarlyPut, IsEarlyLine}

abbrev pub PutsOfAccounts : Type 0
PutsOfAccounts = (k : Kept) (lines : List Line) (answer : Option ℕ)
    → IsDecidedAs k lines (PutsAreFair k.course.plan.params k.orders) answer → SaysOf answer (FreePuts (account_of k))

abbrev pub ReturnsOfAccounts : Type 0
ReturnsOfAccounts = (k : Kept) (lines : List Line) (answer : Option ℕ)
    → IsDecidedAs k lines (NobodyComesBack k.course.plan.params) answer → SaysOf answer (NoReturn (account_of k))

abbrev pub BeliefsOfAccounts : Type 0
BeliefsOfAccounts = (k : Kept) (lines : List Line) (answer : Option ℕ)
    → IsDecidedAs k lines BeliefsAreTrue answer → SaysOf answer (TrueBelief (account_of k))

abbrev pub FailuresOfAccounts : Type 0
FailuresOfAccounts = (k : Kept) (lines : List Line) (answer : Option ℕ)
    → IsDecidedAs k lines (FailuresAreTrue k.course.plan.params k.course.faults) answer → SaysOf answer (TrueFaults (account_of k))

abbrev pub TurnsOfAccounts : Type 0
TurnsOfAccounts = (k : Kept) (lines : List Line) (answer : Option ℕ)
    → IsDecidedAs k lines (AreInTurn k.course.plan.params) answer → SaysOf answer (VisitsInOrder (account_of k))

-- the Puts of journals name no visit that is too late for a time
abbrev pub AreEarlyJournals : List (List Entry) → Type 0
AreEarlyJournals journals = AllByRecursion (λ journal. AllByRecursion (λ e. IsEarlyPut e.what) journal) journals

-- and so do the lines that tell their order
abbrev pub LinesAreEarly : Type 0
LinesAreEarly = (k : Kept) (lines : List Line) → AreEarlyJournals k.journals → told_by lines ≡ order_in k
    → AllByRecursion IsEarlyLine lines
