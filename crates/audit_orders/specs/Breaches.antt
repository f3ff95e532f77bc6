-- Where a list, as a journal, breaks a claim: at one of its elements, or in what it lacks.
use Rattle.std.specs.Prelude.{ℕ, ◌+◌, ◌<◌, List, ◌++◌, length, take, Option, Some, None}
use Rattle.audit_orders.specs.declared.flaw.Flaw.{Flaw}
use Rattle.audit_orders.specs.declared.flaw.Flaw.TheVariants as flaw

-- a list can be gone on with so that a claim holds
abbrev pub CanGoOn : {X : Type 0} → (List X → Type 0) → List X → Type 0
CanGoOn {X} Claim front = (rest : List X) × Claim (front ++ rest)

-- what stands before an element can be gone on with so that the claim holds, and with the element nothing can
pub record IsBreach {X : Type 0} (Claim : List X → Type 0) (list : List X) (i : ℕ) : Type 0 where
  pub inside : i < length list
  pub before : CanGoOn Claim (take i list)
  pub with_it : CanGoOn Claim (take (i + 1) list) → ⊥

-- no element breaks the claim, and yet it does not hold
pub record IsUnfinished {X : Type 0} (Claim : List X → Type 0) (list : List X) : Type 0 where
  pub more : CanGoOn Claim list
  pub not_yet : Claim list → ⊥

-- an answer decides a claim on a list: it names no flaw if the claim holds, and else the element that breaks it, or
-- that something is missing
abbrev pub DecidesList : {X : Type 0} → (List X → Type 0) → List X → Option Flaw → Type 0
DecidesList Claim list None = Claim list
DecidesList Claim list (Some (flaw.Entry i)) = IsBreach Claim list i
DecidesList Claim list (Some flaw.Missing) = IsUnfinished Claim list
