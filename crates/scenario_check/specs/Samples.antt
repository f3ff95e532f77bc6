-- Stays and plans of which the worked rows speak.
use Rattle.std.specs.Prelude.{ℕ, List, [], ◌∷◌, Option, None}
use Rattle.slot_plan.specs.declared.params.Params.{Params}
use Rattle.slot_plan.specs.Samples.{small}
use Rattle.scenario_check.specs.declared.stays.Stay.{Stay}

-- the small plan with two slots, and with another time at which windows open
abbrev pub two_slots : Params
two_slots = record small { slots = 2 }

abbrev pub opens : ℕ → Params
opens before = record small { window_a = before }

-- three blocks from a beat on, until a stop if there is one
abbrev pub stay : ℕ → Option ℕ → Stay
stay beat stop = record { from = beat; blocks = 3; stopped = stop }

-- two viewers in the first beats, and a third one later
abbrev pub third_at : ℕ → List Stay
third_at beat = stay 0 None ∷ stay 5 None ∷ stay beat None ∷ []
