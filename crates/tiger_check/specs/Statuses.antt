-- What is said of how the command ended.
use Rattle.std.specs.Prelude.{◌≢◌, ℕ}
use Rattle.scenario_read.specs.declared.stop.ScenarioFault.{ScenarioFault}
use Rattle.tiger_input.specs.declared.status.Status.{Status}
use Rattle.tiger_input.specs.declared.status.Status.TheVariants as statuses
use Rattle.tiger_input.specs.Ending.{IsRefusal}
use Rattle.tiger_check.specs.declared.status.CheckStatus.{CheckStatus}
use Rattle.tiger_check.specs.declared.status.CheckStatus.TheVariants as ends
use Rattle.tiger_check.specs.declared.status.Refusal.{Refusal}
use Rattle.tiger_check.specs.declared.status.Refusal.TheVariants as refusals

-- the rule that each condition of the plan holds
abbrev pub condition_rule : ℕ
condition_rule = 4

-- the end as one of `run`, which has its line and its exit status
abbrev pub as_run : CheckStatus → Status
as_run (ends.Run status) = status
as_run (ends.Unsound fault) = statuses.Scenario fault

-- a refusal as the status of `run`
abbrev pub refused_as : Refusal → Status
refused_as (refusals.Input status) = status
refused_as (refusals.Plan fault bytes) = statuses.Scenario fault

-- no condition of a plan is the cause
abbrev pub IsNoCondition : Status → Type 0
IsNoCondition (statuses.Scenario fault) = fault.rule ≢ condition_rule
IsNoCondition _ = Unit {0}

-- if a condition of the plan is the cause, its false conditions were written
abbrev pub NamesConditions : CheckStatus → Type 0
NamesConditions (ends.Run status) = IsNoCondition status
NamesConditions (ends.Unsound fault) = Unit {0}

-- an input was refused, and for no condition of a plan
abbrev pub IsCheckRefusal : CheckStatus → Type 0
IsCheckRefusal (ends.Run status) = IsRefusal status
IsCheckRefusal (ends.Unsound fault) = ⊥

-- the end with lines of false conditions that ended so
abbrev pub unsound_unless : ScenarioFault → Status → CheckStatus
unsound_unless fault statuses.Done = ends.Unsound fault
unsound_unless fault status = ends.Run status
