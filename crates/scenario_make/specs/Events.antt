-- The events: starts, and a stop after each fifth start, in beats that rise by draws.
use Rattle.std.specs.Prelude.{ℕ, ◌+◌, ◌*◌, ◌/◌, ◌%◌, ◌==◌, if◌then◌else◌, List, [], ◌∷◌, sum, map}
use Rattle.std.specs.List.{flat_map, range_with_len}
use Rattle.rand_pcg.specs.Lcg.{Lcg}
use Rattle.scenario_read.specs.declared.scenario.ScEvent.{ScEvent}
use Rattle.scenario_read.specs.declared.scenario.ScEvent.TheVariants.{Begin, Finish}
use Rattle.scenario_make.specs.Draws.{after, draw}

-- the generator at start j: two draws for each start, and one for each stop
unfoldable pub at_start : Lcg → ℕ → Lcg
at_start g j = after (2 * j + j / 5) g

-- the beat of the last of the first n starts: each comes up to 9 beats after the one before it
unfoldable pub beat_by : Lcg → ℕ → ℕ
beat_by g n = sum (map (λ i. draw (at_start g i) 0 10) (range_with_len 0 n))

-- how many draws start j takes
abbrev pub draws_of : ℕ → ℕ
draws_of j = if j % 5 == 4 then 3 else 2

-- start j of one of 8 files, and where it is a fifth one, a stop of an instance up to its own
unfoldable pub events_at : Lcg → ℕ → ℕ → List ScEvent
events_at g j beat =
    Begin beat (record { 0 = draw g 1 8 })
    ∷ (if j % 5 == 4 then Finish beat (record { 0 = draw g 2 (j + 1) }) ∷ [] else [])

-- the events of the first n starts
unfoldable pub events_by : Lcg → ℕ → List ScEvent
events_by g n = flat_map (λ j. events_at (at_start g j) j (beat_by g (j + 1))) (range_with_len 0 n)
