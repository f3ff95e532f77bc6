-- What a scenario's bytes mean, or the first broken rule.
use Rattle.std.specs.Prelude.{ℕ, Bool, ◌&&◌, List, [], ◌∷◌, length, replicate, Option, None, is_some, Result, Ok, codes}
use Rattle.serde_json.specs.Data.{Data}
use Rattle.serde_json.specs.Find.{get}
use Rattle.link_timing.specs.declared.Delay.{Delay}
use Rattle.slot_plan.specs.declared.params.Params.{Params}
use Rattle.slot_plan.specs.Times.{disk_count}
use Rattle.node_kit.specs.declared.course.ReadFault.{ReadFault}
use Rattle.scenario_read.specs.declared.stop.ScenarioFault.{ScenarioFault}
use Rattle.scenario_read.specs.declared.scenario.FileLine.{FileLine}
use Rattle.scenario_read.specs.declared.scenario.ScEvent.{ScEvent}
use Rattle.scenario_read.specs.declared.scenario.Scenario.{Scenario}
use Rattle.scenario_read.specs.Fault.{◌>>=◌, broken, keeps, found}
use Rattle.json_look.specs.Json.{json_of, has_only, is_one_of}
use Rattle.scenario_read.specs.Plan.{plan_of}
use Rattle.scenario_read.specs.Timing.{beats_of, links_of, offsets_of}
use Rattle.scenario_read.specs.Files.{files_of}
use Rattle.scenario_read.specs.Events.{starts_in, events_of, few_blocks}
use Rattle.scenario_read.specs.Deaths.{deaths_of}
use Rattle.scenario_read.specs.ReadFaults.{read_faults_of}

-- what a scenario says; the deaths stand by cub, and what they cut off, and the returns
pub record Said : Type 0 where
  pub plan : Params
  pub beats : ℕ
  pub offsets : List ℕ
  pub deaths : List (Option ℕ)
  pub cuts : List (Option ℕ)
  pub backs : List (Option ℕ)
  pub faults : List ReadFault
  pub delay : Delay
  pub files : List FileLine
  pub events : List ScEvent

-- what a scenario that was read says
abbrev pub said_by : Scenario → Said
said_by s = record {
  plan = s.course.plan.params;
  beats = s.course.beats;
  offsets = s.course.offsets;
  deaths = s.course.deaths;
  cuts = s.course.cuts;
  backs = s.course.backs;
  faults = s.course.faults;
  delay = s.course.delay;
  files = s.files;
  events = s.events;
}

abbrev pub scenario_keys : List (List ℕ)
scenario_keys = codes "plan" ∷ codes "beats" ∷ codes "links" ∷ codes "offsets" ∷ codes "files" ∷ codes "events" ∷ codes "deaths" ∷ codes "read_faults" ∷ []

abbrev pub has_key : Data → List ℕ → Bool
has_key d key = is_some (get key d)

-- an object with all needed keys, and no unknown one
unfoldable pub has_keys : Data → Bool
has_keys d = has_only (is_one_of scenario_keys) d && has_key d (codes "plan") && has_key d (codes "beats") && has_key d (codes "links") && has_key d (codes "files") && has_key d (codes "events")

-- of each of so many cubs nothing
abbrev pub of_none : ℕ → List (Option ℕ)
of_none cubs = replicate cubs None

-- what a scenario's object means: its rules in their order
unfoldable pub scenario_of : Data → Result Said ScenarioFault
scenario_of d = do
  keys ← keeps (has_keys d) (broken 2 0)
  plan ← found (get (codes "plan") d) (broken 3 0) >>= plan_of
  beats ← beats_of plan.cubs d
  delay ← links_of plan.delay d
  offsets ← offsets_of plan d
  files ← files_of (disk_count plan) d
  events ← events_of beats (length files) d
  blocks ← few_blocks plan beats (starts_in events)
  rows ← deaths_of plan.cubs beats d
  faults ← read_faults_of (disk_count plan) beats d
  Ok (record {
    plan = plan;
    beats = beats;
    offsets = offsets;
    deaths = rows.deaths;
    cuts = rows.cuts;
    backs = rows.backs;
    faults = faults;
    delay = delay;
    files = files;
    events = events;
  })

-- what the bytes mean
unfoldable pub meaning : List ℕ → Result Said ScenarioFault
meaning bytes = found (json_of bytes) (broken 1 0) >>= scenario_of
