-- The run's beats, how long messages are under way, and how far the clocks are ahead.
use Rattle.std.specs.Prelude.{ℕ, ◌+◌, ◌*◌, nat_le, if◌then◌else◌, List, [], ◌∷◌, replicate, Option, Some, None, option_and_then, option_map, Result, Ok, codes}
use Rattle.tiger_base.specs.Limits.{most_beats}
use Rattle.serde_json.specs.Data.{Data}
use Rattle.serde_json.specs.Find.{get, as_number, as_u64}
use Rattle.link_timing.specs.declared.Delay.{Delay}
use Rattle.link_timing.specs.declared.Delay.TheVariants.{Fixed, Drawn}
use Rattle.slot_plan.specs.declared.params.Params.{Params}
use Rattle.scenario_read.specs.declared.stop.ScenarioFault.{ScenarioFault}
use Rattle.scenario_read.specs.Fault.{◌>>=◌, broken, exceeded, keeps, found}
use Rattle.json_look.specs.Json.{has_only, is_one_of, whole_at, ranged_at}
use Rattle.scenario_read.specs.Items.{items_of, given_or}

-- the number of beats: from 1 to 100000, and in all cubs together at most 2000000
unfoldable pub beats_of : ℕ → Data → Result ℕ ScenarioFault
beats_of cubs d = do
  beats ← found (ranged_at (codes "beats") 1 most_beats d) (broken 5 0)
  product ← keeps (nat_le (beats * cubs) 2000000) (exceeded 5 (beats * cubs) 2000000)
  Ok beats

-- always the same number of beats, from 1 to the most, or drawn from a start
unfoldable pub delay_of : ℕ → Data → Option Delay
delay_of most d =
    if has_only (is_one_of (codes "fixed" ∷ [])) d then option_map (λ n. Fixed n) (ranged_at (codes "fixed") 1 most d)
    else if has_only (is_one_of (codes "drawn" ∷ [])) d then option_map (λ n. Drawn n) (whole_at (codes "drawn") d)
    else None

-- the delay under its key
unfoldable pub links_of : ℕ → Data → Result Delay ScenarioFault
links_of most d = found (option_and_then (delay_of most) (get (codes "links") d)) (broken 6 0)

-- an offset of at most the skew
unfoldable pub offset_in : ℕ → Data → Option ℕ
offset_in skew d = option_and_then (λ n. if nat_le n skew then Some n else None) (option_and_then as_u64 (as_number d))

abbrev pub offset_after : ℕ → List ℕ → Data → Option ℕ
offset_after skew front d = offset_in skew d

-- an offset for each cub and for the controller; zeros where none are given
unfoldable pub offsets_of : Params → Data → Result (List ℕ) ScenarioFault
offsets_of p d =
    given_or (replicate (p.cubs + 1) 0) (items_of 7 (p.cubs + 1) (p.cubs + 1) (p.cubs + 1) (offset_after p.skew)) (get (codes "offsets") d)
