-- How the command ends.
use Rattle.std.specs.Prelude.{◌≡◌, ℕ, ◌+◌, List, length, Err, ◌⊎◌}
use Rattle.outside.specs.Told.{Told, FilesState}
use Rattle.outside.specs.Written.{SinkState}
use Rattle.scenario_read.specs.declared.stop.ScenarioFault.{ScenarioFault}
use Rattle.scenario_read.specs.Meaning.{meaning}
use Rattle.scenario_check.specs.Lines.{plan_lines, check_lines}
use Rattle.scenario_check.specs.Numbers.{OfPlan}
use Rattle.scenario_check.specs.Scenarios.{OfCatalogue}
use Rattle.tiger_input.specs.declared.inputs.Inputs.{Inputs}
use Rattle.tiger_input.specs.declared.status.Status.{Status}
use Rattle.tiger_input.specs.declared.status.Status.TheVariants as statuses
use Rattle.tiger_input.specs.Inputs.{AreInputs, IsRead, MadeCalls}
use Rattle.tiger_input.specs.Ending.{IsWritten, IsBegun, PutFailed}
use Rattle.tiger_check.specs.declared.status.CheckStatus.{CheckStatus}
use Rattle.tiger_check.specs.declared.status.CheckStatus.TheVariants as ends
use Rattle.tiger_check.specs.declared.status.Refusal.{Refusal}
use Rattle.tiger_check.specs.declared.status.Refusal.TheVariants as refusals
use Rattle.tiger_check.specs.Statuses.{condition_rule, IsNoCondition}

-- this holds of what is said of inputs
abbrev pub OfSaid : Inputs → (List ℕ → Type 0) → Type 0
OfSaid inputs P = OfCatalogue inputs.scenario inputs.library (λ c. P (check_lines inputs.scenario c))

-- the scenario of a name was read, and then its files, with one call for each, and this holds of what is said of them
pub record OfChecked (old new : FilesState) (name : List ℕ) (P : List ℕ → Type 0) : Type 0 where
  pub inputs : Inputs
  pub read : AreInputs old.told name inputs
  pub calls : MadeCalls (1 + length inputs.scenario.files) old new
  pub said : OfSaid inputs P

-- what was read of a scenario is refused for a condition of its plan, and this holds of the lines of all false ones
pub record OfUnsound (scenario : Told) (fault : ScenarioFault) (P : List ℕ → Type 0) : Type 0 where
  pub bytes : List ℕ
  pub read : IsRead scenario bytes
  pub means : meaning bytes ≡ Err fault
  pub condition : fault.rule ≡ condition_rule
  pub said : OfPlan bytes fault (λ p. P (plan_lines p))

-- this holds of what is said of a scenario: of its counts and warnings, or of its plan's false conditions
abbrev pub OfEither : FilesState → FilesState → List ℕ → (List ℕ → Type 0) → Type 0
OfEither old new name P =
    OfChecked old new name P ⊎ ((fault : ScenarioFault) × OfUnsound (old.told name) fault P)

-- what was written with each status: all that is said, or a front of it, or nothing
abbrev pub CheckSink : List ℕ → FilesState → FilesState → SinkState → SinkState → CheckStatus → Type 0
CheckSink name old new out out_new (ends.Run statuses.Done) =
    OfChecked old new name (IsWritten out out_new)
CheckSink name old new out out_new (ends.Unsound fault) =
    OfUnsound (old.told name) fault (IsWritten out out_new)
CheckSink name old new out out_new (ends.Run statuses.WriteFault) =
    PutFailed out out_new × OfEither old new name (IsBegun out out_new)
CheckSink name old new out out_new (ends.Run statuses.NoMemory) =
    (out_new.written ≡ out.written) ⊎ OfEither old new name (IsBegun out out_new)
CheckSink name old new out out_new (ends.Run status) = out_new.written ≡ out.written

-- ---- parts of it

-- how the saying of something ended: this holds of its text
abbrev pub SaidAll : SinkState → SinkState → ((List ℕ → Type 0) → Type 0) → Status → Type 0
SaidAll out out_new Of statuses.Done = Of (IsWritten out out_new)
SaidAll out out_new Of statuses.WriteFault = PutFailed out out_new × Of (IsBegun out out_new)
SaidAll out out_new Of statuses.NoMemory =
    (out_new.written ≡ out.written) ⊎ Of (IsBegun out out_new)
SaidAll out out_new Of _ = ⊥

-- what is known of the bytes of a scenario that is refused for a condition
pub record IsUnsoundRead (scenario : Told) (fault : ScenarioFault) (bytes : List ℕ) : Type 0 where
  pub read : IsRead scenario bytes
  pub means : meaning bytes ≡ Err fault
  pub condition : fault.rule ≡ condition_rule

-- a refusal has the scenario's bytes exactly if it is for a condition of the plan
abbrev pub HasBytesOf : Told → Refusal → Type 0
HasBytesOf scenario (refusals.Input status) = IsNoCondition status
HasBytesOf scenario (refusals.Plan fault bytes) = IsUnsoundRead scenario fault bytes.items
