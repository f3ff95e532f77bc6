-- The numbers of a plan that a condition may have on its right side.
use Rattle.std.specs.Prelude.{ℕ}
use Rattle.slot_plan.specs.declared.params.Params.{Params}
use Rattle.plan_faults.specs.declared.condition.PlanField.{PlanField}
use Rattle.plan_faults.specs.declared.condition.PlanField.TheVariants as fields

-- the most that a number may be
abbrev pub most_of : PlanField → ℕ
most_of fields.Cubs = 64
most_of fields.Play = 100000000
most_of fields.WindowA = 1000000000
most_of fields.WindowB = 1000000000
most_of fields.ReadLead = 1000000000
most_of fields.MinLead = 1000000000
most_of fields.MaxLead = 10000000000
most_of fields.Deadman = 1000000000
most_of fields.Hold = 1000000000

-- a plan's numbers with another one in one place
abbrev pub with_number : PlanField → ℕ → Params → Params
with_number fields.Cubs n p = record p { cubs = n }
with_number fields.Play n p = record p { play = n }
with_number fields.WindowA n p = record p { window_a = n }
with_number fields.WindowB n p = record p { window_b = n }
with_number fields.ReadLead n p = record p { read_lead = n }
with_number fields.MinLead n p = record p { min_lead = n }
with_number fields.MaxLead n p = record p { max_lead = n }
with_number fields.Deadman n p = record p { deadman = n }
with_number fields.Hold n p = record p { hold = n }
