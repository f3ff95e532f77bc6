-- Where the entries of a log are first not as they should be, and what that says of the claim that all are served.
use Rattle.std.specs.Prelude.{◌≡◌, ℕ, ◌+◌, List, [], ◌∷◌, ◌++◌, Option, Some, None, take}
use Rattle.std.specs.List.{AllByRecursion}
use Rattle.slot_plan.specs.declared.params.Params.{Params}
use Rattle.stripe_layout.specs.declared.catalogue.Catalogue.{Catalogue}
use Rattle.node_kit.specs.declared.course.Kept.{Kept}
use Rattle.node_kit.specs.declared.journal.Entry.{Entry}
use Rattle.node_kit.specs.declared.journal.What.{What}
use Rattle.node_kit.specs.declared.journal.What.TheVariants as what
use Rattle.run_facts.specs.Order.{Noted}
use Rattle.run_model.specs.Runs.{order_in}
use Rattle.run_model.specs.Served.{IsPut}
use Rattle.run_claims.specs.Accounts.{account_of}
use Rattle.run_claims.specs.Claims.{FullDelivery}
use Rattle.run_claims.specs.Served.{IsServedIfPut, IsOfPutIfViewers}
use Rattle.audit_frame.specs.Said.{SaysOf}
use Rattle.audit_blocks.specs.Serving.{end_of_run}

-- an entry is as it should be: each visit of a tenancy that it puts and that is settled by the end was delivered or is
-- excused, and what the viewers get by it is of a visit of a tenancy that was put
pub record IsServedEntry (p : Params) (catalogue : Catalogue) (journals : List (List Entry)) (end : ℕ) (x : Noted) : Type 0 where
  pub served : IsServedIfPut p catalogue journals end x.entry.what
  pub of_put : IsOfPutIfViewers p catalogue journals x

-- and so of a kept run
abbrev pub IsServedIn : Kept → Noted → Type 0
IsServedIn k = IsServedEntry k.course.plan.params k.catalogue k.journals (end_of_run k)

-- P is false of an entry of a log, and holds of all entries before it
pub record IsFirstWithout (P : Noted → Type 0) (log : List Noted) (i : ℕ) : Type 0 where
  pub before : AllByRecursion P (take i log)
  pub entry : Noted
  pub there : take (i + 1) log ≡ take i log ++ entry ∷ []
  pub fails : P entry → ⊥

-- an answer names no entry if P holds of each, and else the first of which it does not
abbrev pub FindsFirst : (Noted → Type 0) → List Noted → Option ℕ → Type 0
FindsFirst P log None = AllByRecursion P log
FindsFirst P log (Some i) = IsFirstWithout P log i

-- the tenancy that an entry puts is one that a journal of the run says was put
abbrev pub IsPutIfPut : List (List Entry) → What → Type 0
IsPutIfPut journals (what.Put t) = IsPut journals t
IsPutIfPut journals other = Unit {0}

abbrev pub IsPutHere : Kept → Noted → Type 0
IsPutHere k x = IsPutIfPut k.journals x.entry.what

-- what an answer says of the claim, if the log is that of the run
abbrev pub DeliveryOfAccounts : Type 0
DeliveryOfAccounts = (k : Kept) (log : List Noted) (answer : Option ℕ) → log ≡ order_in k
    → FindsFirst (IsServedIn k) log answer → SaysOf answer (FullDelivery (account_of k))
