-- Conditions of which the worked rows speak.
use Rattle.std.specs.Prelude.{ℕ, false}
use Rattle.plan_faults.specs.declared.condition.Condition.{Condition}
use Rattle.plan_faults.specs.declared.condition.PlanField.TheVariants as fields

-- the second condition of the small plan with a block play time of 700000 microseconds
abbrev pub short_play : Condition
short_play = record { number = 2; holds = false; left = 814000; right = 700000; field = fields.Play; least = 814000 }

-- the seventh of it, for which so many cubs are needed
abbrev pub round_of : ℕ → Condition
round_of cubs =
    record { number = 7; holds = false; left = 6800000; right = 5600000; field = fields.Cubs; least = cubs }
