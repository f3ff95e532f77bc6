-- The events: starts, which make the instances in order, and stops of instances that were started before.
use Rattle.std.specs.Prelude.{ℕ, ◌+◌, ◌*◌, ◌/◌, Bool, true, false, max, nat_le, nat_lt, if◌then◌else◌, List, [], ◌∷◌, Option, Some, None, option_and_then, option_map, Result, ⊤, codes}
use Rattle.std.specs.List.{count_by}
use Rattle.serde_json.specs.Data.{Data}
use Rattle.serde_json.specs.Find.{get}
use Rattle.slot_plan.specs.declared.params.Params.{Params}
use Rattle.slot_plan.specs.Times.{time_of}
use Rattle.scenario_read.specs.declared.stop.ScenarioFault.{ScenarioFault}
use Rattle.scenario_read.specs.declared.scenario.ScEvent.{ScEvent}
use Rattle.scenario_read.specs.declared.scenario.ScEvent.TheVariants.{Begin, Finish}
use Rattle.scenario_read.specs.Fault.{◌>>=◌, broken, exceeded, keeps, found}
use Rattle.json_look.specs.Json.{has_only, is_one_of, below_at}
use Rattle.scenario_read.specs.Items.{items_of}

abbrev pub beat_of : ScEvent → ℕ
beat_of (Begin beat file) = beat
beat_of (Finish beat instance) = beat

abbrev pub is_start : ScEvent → Bool
is_start (Begin beat file) = true
is_start (Finish beat instance) = false

-- how many of the events are starts
abbrev pub starts_in : List ScEvent → ℕ
starts_in events = count_by is_start events

-- the greatest beat of the events, 0 where there is none
abbrev pub latest_beat : List ScEvent → ℕ
latest_beat [] = 0
latest_beat (e ∷ es) = max (beat_of e) (latest_beat es)

-- a beat of the run that is not below the latest
unfoldable pub beat_from : ℕ → ℕ → Data → Option ℕ
beat_from beats latest d = option_and_then (λ beat. if nat_le latest beat then Some beat else None) (below_at (codes "beat") beats d)

-- the start of one of so many files, where there are fewer than 2000 in front
unfoldable pub start_in : ℕ → ℕ → ℕ → ℕ → Data → Option ScEvent
start_in beats files latest starts d =
    if nat_lt starts 2000
    then option_and_then (λ beat. option_map (λ file. Begin beat (record { 0 = file })) (below_at (codes "start") files d)) (beat_from beats latest d)
    else None

-- the stop of one of so many instances that were started in front
unfoldable pub stop_in : ℕ → ℕ → ℕ → Data → Option ScEvent
stop_in beats latest starts d =
    option_and_then (λ beat. option_map (λ instance. Finish beat (record { 0 = instance })) (below_at (codes "stop") starts d)) (beat_from beats latest d)

-- an event behind others, by their latest beat and how many of them are starts
unfoldable pub event_in : ℕ → ℕ → ℕ → ℕ → Data → Option ScEvent
event_in beats files latest starts d =
    if has_only (is_one_of (codes "beat" ∷ codes "start" ∷ [])) d then start_in beats files latest starts d
    else if has_only (is_one_of (codes "beat" ∷ codes "stop" ∷ [])) d then stop_in beats latest starts d
    else None

abbrev pub event_after : ℕ → ℕ → List ScEvent → Data → Option ScEvent
event_after beats files front d = event_in beats files (latest_beat front) (starts_in front) d

-- at most 4000 events
unfoldable pub events_of : ℕ → ℕ → Data → Result (List ScEvent) ScenarioFault
events_of beats files d = found (get (codes "events") d) (broken 9 4000) >>= items_of 9 0 4000 4000 (event_after beats files)

-- the most blocks that the viewers of so many starts can be sent in the run's time
unfoldable pub most_blocks : Params → ℕ → ℕ → ℕ
most_blocks p beats starts = starts * (time_of p beats / p.play + 1)

-- they are at most 400000
unfoldable pub few_blocks : Params → ℕ → ℕ → Result ⊤ ScenarioFault
few_blocks p beats starts = keeps (nat_le (most_blocks p beats starts) 400000) (exceeded 10 (most_blocks p beats starts) 400000)
