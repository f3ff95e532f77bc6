-- What the answer of a walk along the log of a kept run says of the second claim of its account.
use Rattle.std.specs.Prelude.{ℕ, List, Option}
use Rattle.slot_plan.specs.declared.params.Params.{Params}
use Rattle.node_kit.specs.declared.course.Kept.{Kept}
use Rattle.run_facts.specs.Order.{Noted}
use Rattle.run_model.specs.Parts.{ViewsAreAlwaysPart, EntriesAreLocal}
use Rattle.run_claims.specs.Accounts.{account_of}
use Rattle.run_claims.specs.Claims.{PartViews}
use Rattle.audit_frame.specs.Said.{IsDecidedAs, SaysOf}
use Rattle.audit_frame.specs.declared.lines.Line.{Line}

-- both halves of the claim on views
abbrev pub ArePartAndLocal : Params → List Noted → Type 0
ArePartAndLocal p log = ViewsAreAlwaysPart p log × EntriesAreLocal p log

-- an answer decides whether views are always part and all entries are local
abbrev pub ViewsOfAccounts : Type 0
ViewsOfAccounts = (k : Kept) (lines : List Line) (answer : Option ℕ)
    → IsDecidedAs k lines (ArePartAndLocal k.course.plan.params) answer → SaysOf answer (PartViews (account_of k))
