-- The lines that are said of a scenario.
use Rattle.std.specs.Prelude.{ℕ, ◌+◌, ◌-◌, nat_lt, if◌then◌else◌, List, [], ◌∷◌, ◌++◌, length, Option, Some, None, codes}
use Rattle.std.specs.Fmt.{decimal}
use Rattle.slot_plan.specs.declared.params.Params.{Params}
use Rattle.stripe_layout.specs.declared.catalogue.Catalogue.{Catalogue}
use Rattle.plan_faults.specs.declared.condition.PlanField.{PlanField}
use Rattle.plan_faults.specs.declared.condition.PlanField.TheVariants as fields
use Rattle.plan_faults.specs.declared.condition.Condition.{Condition}
use Rattle.plan_faults.specs.Faults.{false_conditions, mend_of}
use Rattle.scenario_read.specs.declared.scenario.Scenario.{Scenario}
use Rattle.scenario_read.specs.Orders.{orders_from}
use Rattle.scenario_check.specs.declared.stays.Crowd.{Crowd}
use Rattle.scenario_check.specs.declared.stays.Stay.{Stay}
use Rattle.scenario_check.specs.Stays.{stays_of, crowd_among}
use Rattle.scenario_check.specs.Memory.{memory_bound}

-- ---- of a plan that is refused for a condition

-- the key of a number of a plan
abbrev pub key_of : PlanField → List ℕ
key_of fields.Cubs = codes "cubs"
key_of fields.Play = codes "play"
key_of fields.WindowA = codes "window_a"
key_of fields.WindowB = codes "window_b"
key_of fields.ReadLead = codes "read_lead"
key_of fields.MinLead = codes "min_lead"
key_of fields.MaxLead = codes "max_lead"
key_of fields.Deadman = codes "deadman"
key_of fields.Hold = codes "hold"

-- the key and the least number with which the condition holds, if the key may have it
abbrev pub mend_text : PlanField → Option ℕ → List ℕ
mend_text field (Some number) = codes " needs " ++ key_of field ++ codes " " ++ decimal number
mend_text field None = codes " needs more"

abbrev pub condition_line : Condition → List ℕ
condition_line c =
    codes "condition " ++ decimal c.number ++ codes " left " ++ decimal c.left
    ++ codes " right " ++ decimal c.right ++ mend_text c.field (mend_of c) ++ codes "\n"

abbrev pub condition_lines : List Condition → List ℕ
condition_lines [] = []
condition_lines (c ∷ cs) = condition_line c ++ condition_lines cs

-- a line for each false condition
abbrev pub plan_lines : Params → List ℕ
plan_lines p = condition_lines (false_conditions p)

-- ---- of a scenario that breaks no rule

-- its counts
unfoldable pub sizes_text : Params → ℕ → ℕ → List ℕ
sizes_text p beats starts =
    codes "scenario cubs " ++ decimal p.cubs ++ codes " slots " ++ decimal p.slots
    ++ codes " starts " ++ decimal starts ++ codes " beats " ++ decimal beats

-- the bound of its run's memory
unfoldable pub memory_text : ℕ → List ℕ
memory_text bytes = codes " memory " ++ decimal bytes ++ codes "\n"

abbrev pub scenario_line : Params → ℕ → ℕ → List ℕ
scenario_line p beats starts =
    sizes_text p beats starts ++ memory_text (memory_bound p beats starts)

-- a warning if the window is shorter than a beat
abbrev pub window_line : Params → List ℕ
window_line p =
    if nat_lt (p.window_a - p.window_b) p.beat
    then codes "warning window " ++ decimal (p.window_a - p.window_b) ++ codes " beat "
    ++ decimal p.beat ++ codes "\n"
    else []

-- a warning if there are more viewers in a beat than slots
unfoldable pub viewers_text : Params → Crowd → List ℕ
viewers_text p c =
    codes "warning viewers " ++ decimal c.viewers ++ codes " slots " ++ decimal p.slots
    ++ codes " beat " ++ decimal c.beat

abbrev pub crowd_line : Params → Option Crowd → List ℕ
crowd_line p None = []
crowd_line p (Some c) = viewers_text p c ++ codes "\n"

abbrev pub warning_lines : Params → List Stay → List ℕ
warning_lines p stays = window_line p ++ crowd_line p (crowd_among p stays stays)

abbrev pub stay_lines : Params → ℕ → List Stay → List ℕ
stay_lines p beats stays = scenario_line p beats (length stays) ++ warning_lines p stays

-- what is said of a scenario and the catalogue of its files
abbrev pub check_lines : Scenario → Catalogue → List ℕ
check_lines s c = stay_lines s.course.plan.params s.course.beats (stays_of (orders_from c 0 s.events))
