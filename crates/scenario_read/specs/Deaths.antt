-- The deaths of cubs, of which no two may stand side by side in the ring: what they cut off, and who comes back.
use Rattle.std.specs.Prelude.{ℕ, ◌+◌, ◌%◌, Bool, ◌||◌, ◌==◌, nat_le, if◌then◌else◌, is_some, List, [], ◌∷◌, map, Option, Some, None, option_and_then, option_map, Result, Ok, codes}
use Rattle.std.specs.List.{list_any, range_with_len}
use Rattle.std.specs.Option.{option_or}
use Rattle.serde_json.specs.Data.{Data}
use Rattle.serde_json.specs.Find.{get}
use Rattle.scenario_read.specs.declared.stop.ScenarioFault.{ScenarioFault}
use Rattle.scenario_read.specs.declared.deaths.Death.{Death}
use Rattle.scenario_read.specs.declared.deaths.DeathRows.{DeathRows}
use Rattle.scenario_read.specs.Fault.{◌>>=◌}
use Rattle.json_look.specs.Json.{has_only, is_one_of, below_at}
use Rattle.scenario_read.specs.Items.{items_of, given_or}

-- the same cub, or two that stand side by side in a ring of so many
unfoldable pub are_close : ℕ → ℕ → ℕ → Bool
are_close cubs a b = (a == b) || ((a + 1) % cubs == b) || ((b + 1) % cubs == a)

-- the greatest number of messages that a cub may still send in the beat in which its death cuts it off
abbrev pub most_left : ℕ
most_left = 1000

-- after how many messages a death comes, if that is told
unfoldable pub after_of : Data → Option (Option ℕ)
after_of d = if is_some (get (codes "after") d) then option_map Some (below_at (codes "after") (most_left + 1) d) else Some None

-- a beat, if it is two beats behind a death or later
abbrev pub if_behind : ℕ → ℕ → Option ℕ
if_behind death beat = if nat_le (death + 2) beat then Some beat else None

-- in which of so many beats a cub comes back that dies in this one, if that is told
unfoldable pub return_of : ℕ → ℕ → Data → Option (Option ℕ)
return_of beats death d =
    if is_some (get (codes "back") d)
    then option_map Some (option_and_then (if_behind death) (below_at (codes "back") beats d))
    else Some None

-- the death of a cub in this beat, with what else is told of it
unfoldable pub death_in_beat : ℕ → ℕ → Data → ℕ → Option Death
death_in_beat beats cub d beat =
    option_and_then (λ after. option_map (λ back. record { cub = cub; beat = beat; after = after; back = back })
    (return_of beats beat d)) (after_of d)

-- the death of a cub that is not close to one that dies in front
unfoldable pub death_after : ℕ → ℕ → List Death → Data → Option Death
death_after cubs beats front d =
    if has_only (is_one_of (codes "cub" ∷ codes "beat" ∷ codes "after" ∷ codes "back" ∷ [])) d
    then option_and_then (λ cub.
    if list_any (λ e. are_close cubs e.cub cub) front then None
    else option_and_then (death_in_beat beats cub d) (below_at (codes "beat") beats d)) (below_at (codes "cub") cubs d)
    else None

-- at most 32 deaths; none where none are given
unfoldable pub deaths_given : ℕ → ℕ → Data → Result (List Death) ScenarioFault
deaths_given cubs beats d = given_or [] (items_of 11 0 32 32 (death_after cubs beats)) (get (codes "deaths") d)

-- a death, if it is this cub's
abbrev pub death_for : ℕ → Death → Option Death
death_for cub e = if e.cub == cub then Some e else None

-- the death of a cub, if it dies
abbrev pub death_in : List Death → ℕ → Option Death
death_in [] cub = None
death_in (e ∷ es) cub = option_or (death_for cub e) (death_in es cub)

-- the beat of a death, to how many messages it cuts its cub off there, and the beat of the return
abbrev pub beat_of_death : Death → Option ℕ
beat_of_death e = Some e.beat

abbrev pub cut_of_death : Death → Option ℕ
cut_of_death e = e.after

abbrev pub return_of_death : Death → Option ℕ
return_of_death e = e.back

-- one of these for each cub
unfoldable pub by_cub : (Death → Option ℕ) → ℕ → List Death → List (Option ℕ)
by_cub part cubs deaths = map (λ cub. option_and_then part (death_in deaths cub)) (range_with_len 0 cubs)

-- and all three
abbrev pub rows_of : ℕ → List Death → DeathRows
rows_of cubs deaths = record {
  deaths = by_cub beat_of_death cubs deaths;
  cuts = by_cub cut_of_death cubs deaths;
  backs = by_cub return_of_death cubs deaths;
}

-- the deaths that are given, by cub
unfoldable pub deaths_of : ℕ → ℕ → Data → Result DeathRows ScenarioFault
deaths_of cubs beats d = deaths_given cubs beats d >>= λ deaths. Ok (rows_of cubs deaths)
