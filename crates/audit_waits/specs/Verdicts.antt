-- What the answer of a walk along the log of a kept run says of the first half of the ninth claim of its account.
use Rattle.std.specs.Prelude.{◌≡◌, List, Option, Some, None}
use Rattle.node_kit.specs.declared.course.Kept.{Kept}
use Rattle.run_model.specs.Runs.{order_in}
use Rattle.run_claims.specs.Accounts.{Account, account_of, log_of, ticks_in}
use Rattle.run_claims.specs.Claims.{FairStarts}
use Rattle.run_claims.specs.Patience.{NobodyIsPassedOver}
use Rattle.audit_frame.specs.Lines.{told_by}
use Rattle.audit_frame.specs.declared.lines.Line.{Line}
use Rattle.audit_waits.specs.Ticks.{DecidesPatience, NoneIsBehind}
use Rattle.audit_waits.specs.declared.walk.PassedOver.{PassedOver}

-- the first half of the claim
abbrev pub IsPatient : Account → Type 0
IsPatient a = NobodyIsPassedOver a.plan a.orders a.ticked (log_of a)

-- an answer that names no tick says that it holds; one that names a tick says that it does not, nor does the claim
abbrev pub SaysPatience : Account → Option PassedOver → Type 0
SaysPatience a None = IsPatient a
SaysPatience a (Some f) = (IsPatient a → ⊥) × (FairStarts a → ⊥)

abbrev pub PatienceOfAccounts : Type 0
PatienceOfAccounts = (k : Kept) (lines : List Line) (answer : Option PassedOver) → told_by lines ≡ order_in k
    → DecidesPatience k.course.plan.params k.orders (ticks_in k.course) (told_by lines) answer → SaysPatience (account_of k) answer

-- no line of a kept run stands behind a later one
abbrev pub LinesAreInOrder : Type 0
LinesAreInOrder = (k : Kept) (lines : List Line) → told_by lines ≡ order_in k → NoneIsBehind (told_by lines)
