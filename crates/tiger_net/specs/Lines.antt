-- What was read of a plan's file, and the lines that the run of the plan writes.
use Rattle.std.specs.Prelude.{◌≡◌, ℕ, ◌≤◌, List, length, Ok}
use Rattle.outside.specs.Told.{Told, AreTold}
use Rattle.net_read.specs.Meaning.{net_meaning}
use Rattle.net_read.specs.Plans.{NetSaid}
use Rattle.net_run.specs.Text.{net_text}

-- how many bytes a plan's file may have
abbrev pub most_plan : ℕ
most_plan = 4194304

-- these bytes were read of a plan's file: they are the told ones, if something is told, and within the limit
abbrev pub IsPlanRead : Told → List ℕ → Type 0
IsPlanRead file bytes = AreTold file bytes × (length bytes ≤ most_plan)

-- what was read of a plan's file means a plan, and this holds of the lines of its run
pub record HasLines (file : Told) (P : List ℕ → Type 0) : Type 0 where
  pub bytes : List ℕ
  pub read : IsPlanRead file bytes
  pub plan : NetSaid
  pub means : net_meaning bytes ≡ Ok plan
  pub holds : P (net_text plan)

-- these are the lines of the plan that was read
abbrev pub AreLinesOf : Told → List ℕ → Type 0
AreLinesOf file text = HasLines file (λ lines. text ≡ lines)
