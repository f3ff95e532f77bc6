-- Where a claim on logs is first false, which is what an auditor's walk along a log finds.
use Rattle.std.specs.Prelude.{ℕ, ◌+◌, ◌<◌, ◌≤◌, List, length, take, Option, Some, None}
use Rattle.run_facts.specs.Order.{Noted}

-- A claim holds of each front of a log up to an entry, and of the front with this entry it does not; nor does it of the
-- whole log.
pub record IsFirstFalse (Claim : List Noted → Type 0) (log : List Noted) (i : ℕ) : Type 0 where
  pub inside : i < length log
  pub before : (j : ℕ) → j ≤ i → Claim (take j log)
  pub with_it : Claim (take (i + 1) log) → ⊥
  pub whole : Claim log → ⊥

-- an answer decides a claim: it names no entry if the claim holds of the log, and else the first with which it is false
abbrev pub Decides : (List Noted → Type 0) → List Noted → Option ℕ → Type 0
Decides Claim log None = Claim log
Decides Claim log (Some i) = IsFirstFalse Claim log i
