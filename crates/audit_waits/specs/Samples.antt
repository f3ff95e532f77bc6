-- A tick by its numbers, and what is decided of a kept run, by which worked runs are tried.
use Rattle.std.specs.Prelude.{ℕ, Option}
use Rattle.node_kit.specs.declared.course.Kept.{Kept}
use Rattle.run_model.specs.Runs.{order_in}
use Rattle.run_claims.specs.Accounts.{ticks_in}
use Rattle.audit_waits.specs.Ticks.{DecidesPatience}
use Rattle.audit_waits.specs.declared.walk.PassedOver.{PassedOver}

-- the tick of a cub in a beat, and the place of the last entry up to it
abbrev pub passed_at : ℕ → ℕ → Option ℕ → PassedOver
passed_at cub beat place = record { cub = record { 0 = cub }; beat = beat; place = place }

-- an answer decides of a kept run whether nobody is passed over
abbrev pub IsDecidedOf : Kept → Option PassedOver → Type 0
IsDecidedOf k answer = DecidesPatience k.course.plan.params k.orders (ticks_in k.course) (order_in k) answer
