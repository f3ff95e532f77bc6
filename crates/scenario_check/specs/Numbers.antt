-- The numbers of the plan in a scenario's bytes, whether or not they meet its conditions.
use Rattle.std.specs.Prelude.{◌≡◌, ℕ, List, Option, Some, None, option_and_then, Result, Ok, Err, codes}
use Rattle.serde_json.specs.Data.{Data}
use Rattle.serde_json.specs.Find.{get}
use Rattle.json_look.specs.Json.{json_of}
use Rattle.slot_plan.specs.declared.params.Params.{Params}
use Rattle.slot_plan.specs.Conditions.{IsInRange, plan_fault}
use Rattle.scenario_read.specs.declared.stop.ScenarioFault.{ScenarioFault}
use Rattle.scenario_read.specs.Plan.{params_of}

-- the value of a meaning that is one
abbrev pub value_of : {A : Type 0} → Result A ScenarioFault → Option A
value_of (Ok x) = Some x
value_of (Err fault) = None

-- the numbers under the keys of the value's plan, if each is there and in its range
abbrev pub numbers_under : Data → Option Params
numbers_under d = option_and_then (λ plan. value_of (params_of plan)) (get (codes "plan") d)

unfoldable pub plan_numbers : List ℕ → Option Params
plan_numbers bytes = option_and_then numbers_under (json_of bytes)

-- The numbers of the plan in these bytes, of which the refusal names the first false condition with its sides, and of
-- which this holds.
pub record OfPlan (bytes : List ℕ) (fault : ScenarioFault) (P : Params → Type 0) : Type 0 where
  pub params : Params
  pub numbers : plan_numbers bytes ≡ Some params
  pub ranges : IsInRange params
  pub named : plan_fault params
      ≡ Some (record { condition = fault.item; left = fault.left; right = fault.right })
  pub holds : P params
