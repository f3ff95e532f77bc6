-- No start is passed over at the tick of a cub.
use Rattle.std.specs.Prelude.{ℕ, ◌<◌, List}
use Rattle.slot_plan.specs.declared.params.Params.{Params}
use Rattle.node_kit.specs.declared.course.Order.{Order}
use Rattle.run_facts.specs.Order.{Noted}
use Rattle.run_model.specs.Orders.{IsNotPassedOver, end_of_tick}

-- at the end of each of these ticks of a cub no start is passed over
abbrev pub NobodyIsPassedOver : Params → List Order → (ℕ → ℕ → ℕ → Type 0) → List Noted → Type 0
NobodyIsPassedOver p orders ticked log =
    (cub beat reading : ℕ) → cub < p.cubs → ticked cub beat reading
    → IsNotPassedOver p orders (end_of_tick beat cub log) cub beat reading
