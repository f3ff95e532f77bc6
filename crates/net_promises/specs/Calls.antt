-- What `net NAME` asks for, and why it is refused, in terms of what files in memory tell.
use Rattle.std.specs.Prelude.{◌≡◌, ℕ, ◌<◌, ◌≤◌, List, [], ◌∷◌, length, Ok, Err, codes, ◌⊎◌}
use Rattle.outside.specs.Told.{bytes, absent}
use Rattle.outside.specs.Memory.{MemoryFiles, Entries, told_of}
use Rattle.net_read.specs.declared.fault.NetFault.{NetFault}
use Rattle.net_read.specs.declared.fault.NetFault.TheVariants as faults
use Rattle.net_read.specs.Meaning.{net_meaning}
use Rattle.net_read.specs.Plans.{NetSaid}
use Rattle.tiger_input.specs.Tellings.{AreMoreThan}
use Rattle.tiger_net.specs.Lines.{most_plan}
use Rattle.tiger_input.specs.declared.status.Status.TheVariants as statuses
use Rattle.tiger_top.specs.declared.status.TopStatus.{TopStatus}
use Rattle.tiger_top.specs.declared.status.TopStatus.TheVariants as tops

-- the words `net NAME`
abbrev pub AskForPlan : List (List ℕ) → List ℕ → Type 0
AskForPlan words name = words ≡ codes "net" ∷ name ∷ []

-- the bytes of this name are told, are short enough, and mean a plan of which this holds
pub record IsToldPlan (entries : Entries) (name : List ℕ) (P : NetSaid → Type 0) : Type 0 where
  pub text : List ℕ
  pub is_told : told_of entries name ≡ bytes text
  pub is_short : length text ≤ most_plan
  pub plan : NetSaid
  pub means : net_meaning text ≡ Ok plan
  pub holds : P plan

-- the told bytes mean no plan, in this way
abbrev pub IsNoPlan : Entries → List ℕ → NetFault → Type 0
IsNoPlan entries name fault =
    (text : List ℕ) × (told_of entries name ≡ bytes text) × (net_meaning text ≡ Err fault)

-- why the plan of this name was refused: by rule 1 if the told bytes are no JSON text, by rule 2 if they are another one
abbrev pub IsPlanCause : MemoryFiles → MemoryFiles → List ℕ → TopStatus → Type 0
IsPlanCause old new name (tops.Tiger (statuses.Absent file)) = told_of old.entries name ≡ absent
IsPlanCause old new name (tops.Tiger (statuses.ReadFault file)) = old.counts.faults < new.counts.faults
IsPlanCause old new name (tops.Tiger (statuses.TooLong file given most)) =
    AreMoreThan most_plan (told_of old.entries name)
IsPlanCause old new name (tops.Net rule) =
    ((rule ≡ 1) × IsNoPlan old.entries name faults.NoJson)
    ⊎ ((rule ≡ 2) × IsNoPlan old.entries name faults.BadForm)
IsPlanCause old new name tops.Device = ⊥
IsPlanCause old new name (tops.Damaged disk at kept found) = ⊥
IsPlanCause old new name tops.ImageExists = ⊥
IsPlanCause old new name (tops.Unsound fault) = ⊥
IsPlanCause old new name (tops.Journal line) = ⊥
IsPlanCause old new name (tops.Audit c here line) = ⊥
IsPlanCause old new name (tops.Tiger statuses.Words) = ⊥
IsPlanCause old new name (tops.Tiger (statuses.Scenario fault)) = ⊥
IsPlanCause old new name _ = Unit {0}
