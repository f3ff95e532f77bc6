-- The plan: its keys with their ranges, and its conditions.
use Rattle.std.specs.Prelude.{ℕ, Bool, Option, Some, None, is_some, List, [], ◌∷◌, Result, Ok, Err, ⊤, codes}
use Rattle.serde_json.specs.Data.{Data}
use Rattle.serde_json.specs.Find.{as_object}
use Rattle.slot_plan.specs.declared.params.Params.{Params}
use Rattle.slot_plan.specs.declared.params.PlanFault.{PlanFault}
use Rattle.slot_plan.specs.Conditions.{plan_fault}
use Rattle.scenario_read.specs.declared.stop.ScenarioFault.{ScenarioFault}
use Rattle.scenario_read.specs.Fault.{◌>>=◌, broken, keeps, found}
use Rattle.json_look.specs.Json.{ranged_at, has_only, is_one_of}

-- the plan's key of this number, from low to high
unfoldable pub plan_key : ℕ → List ℕ → ℕ → ℕ → Data → Result ℕ ScenarioFault
plan_key item name low high d = found (ranged_at name low high d) (broken 3 item)

abbrev pub plan_keys : List (List ℕ)
plan_keys = codes "cubs" ∷ codes "disks" ∷ codes "slots" ∷ codes "play" ∷ codes "pieces" ∷ codes "block" ∷ codes "beat" ∷ codes "delay" ∷ codes "skew" ∷ codes "window_a" ∷ codes "window_b" ∷ codes "read_lead" ∷ codes "min_lead" ∷ codes "max_lead" ∷ codes "batch" ∷ codes "heart" ∷ codes "deadman" ∷ codes "hold" ∷ []

-- the numbers under the plan's keys
unfoldable pub params_of : Data → Result Params ScenarioFault
params_of d = do
  cubs ← plan_key 1 (codes "cubs") 3 64 d
  disks ← plan_key 2 (codes "disks") 1 8 d
  slots ← plan_key 3 (codes "slots") 1 4096 d
  play ← plan_key 4 (codes "play") 10000 100000000 d
  pieces ← plan_key 5 (codes "pieces") 1 8 d
  block ← plan_key 6 (codes "block") 1 1048576 d
  beat ← plan_key 7 (codes "beat") 1 1000000 d
  delay ← plan_key 8 (codes "delay") 1 16 d
  skew ← plan_key 9 (codes "skew") 0 1000000 d
  window_a ← plan_key 10 (codes "window_a") 1 1000000000 d
  window_b ← plan_key 11 (codes "window_b") 1 1000000000 d
  read_lead ← plan_key 12 (codes "read_lead") 1 1000000000 d
  min_lead ← plan_key 13 (codes "min_lead") 1 1000000000 d
  max_lead ← plan_key 14 (codes "max_lead") 1 10000000000 d
  batch ← plan_key 15 (codes "batch") 1 100000 d
  heart ← plan_key 16 (codes "heart") 1 100000 d
  deadman ← plan_key 17 (codes "deadman") 1 1000000000 d
  hold ← plan_key 18 (codes "hold") 1 1000000000 d
  Ok (record {
    cubs = cubs;
    disks = disks;
    slots = slots;
    play = play;
    pieces = pieces;
    block = block;
    beat = beat;
    delay = delay;
    skew = skew;
    window_a = window_a;
    window_b = window_b;
    read_lead = read_lead;
    min_lead = min_lead;
    max_lead = max_lead;
    batch = batch;
    heart = heart;
    deadman = deadman;
    hold = hold;
  })

-- no condition is false, or the first false one with its two sides
abbrev pub meets : Option PlanFault → Result ⊤ ScenarioFault
meets None = Ok tt
meets (Some fault) = Err (record { rule = 4; item = fault.condition; left = fault.left; right = fault.right })

abbrev pub is_object : Data → Bool
is_object d = is_some (as_object d)

-- an object with exactly the plan's keys, whose numbers lie in their ranges and meet every condition
unfoldable pub plan_of : Data → Result Params ScenarioFault
plan_of d = do
  object ← keeps (is_object d) (broken 3 0)
  params ← params_of d
  others ← keeps (has_only (is_one_of plan_keys) d) (broken 3 19)
  conditions ← meets (plan_fault params)
  Ok params
