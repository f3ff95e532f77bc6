-- Which conditions of a plan are false.
use Rattle.std.specs.Prelude.{ℕ, ◌+◌, ◌*◌, nat_le, not, if◌then◌else◌, List, [], ◌∷◌, filter, Option, Some, None}
use Rattle.std.specs.Int.{div_ceil}
use Rattle.slot_plan.specs.declared.params.Params.{Params}
use Rattle.slot_plan.specs.declared.params.PlanFault.{PlanFault}
use Rattle.slot_plan.specs.Conditions.{Test, tests, longest_way}
use Rattle.plan_faults.specs.declared.condition.PlanField.{PlanField}
use Rattle.plan_faults.specs.declared.condition.PlanField.TheVariants as fields
use Rattle.plan_faults.specs.declared.condition.Condition.{Condition}
use Rattle.plan_faults.specs.Fields.{most_of}

-- for each condition the number of the plan with which its right side grows, and the least that this number may be
abbrev pub bounds : Params → List (PlanField × ℕ)
bounds p =
    (fields.WindowA, p.window_b + 1)
    ∷ (fields.Play, p.window_a + p.skew + p.beat)
    ∷ (fields.ReadLead, p.beat + 2 * longest_way p + p.skew)
    ∷ (fields.WindowB, p.read_lead + p.skew + longest_way p + p.beat)
    ∷ (fields.MinLead, p.window_a + 2 * p.play + p.skew)
    ∷ (fields.MaxLead, p.min_lead + p.batch * p.beat)
    ∷ (fields.Cubs, div_ceil (p.max_lead + 4 * p.play) p.play)
    ∷ (fields.Play, (p.cubs + 4) * longest_way p)
    ∷ (fields.Play, p.pieces * (p.beat + longest_way p + p.skew))
    ∷ (fields.Cubs, p.pieces + 2)
    ∷ (fields.Deadman, p.heart * p.beat + longest_way p + p.skew)
    ∷ (fields.Hold, 2 * p.play + p.skew)
    ∷ []

-- tests with their bounds, numbered from n on
abbrev pub numbered_tests : ℕ → List Test → List (PlanField × ℕ) → List Condition
numbered_tests n [] bs = []
numbered_tests n (t ∷ ts) [] = []
numbered_tests n (t ∷ ts) (b ∷ bs) =
    record { number = n; holds = t.0; left = t.1; right = t.2; field = b.0; least = b.1 }
    ∷ numbered_tests (n + 1) ts bs

-- the conditions in their order
unfoldable pub conditions : Params → List Condition
conditions p = numbered_tests 1 (tests p) (bounds p)

-- those that are false
abbrev pub false_conditions : Params → List Condition
false_conditions p = filter (λ c. not c.holds) (conditions p)

-- the first of them, as the refusal of a plan names it
abbrev pub first_fault : List Condition → Option PlanFault
first_fault [] = None
first_fault (c ∷ cs) = Some (record { condition = c.number; left = c.left; right = c.right })

-- the least that the number of a condition may be, if that is no more than the number may be
abbrev pub mend_of : Condition → Option ℕ
mend_of c = if nat_le c.least (most_of c.field) then Some c.least else None
