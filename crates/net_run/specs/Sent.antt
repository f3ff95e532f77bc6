-- What holds between two steps: which packets may be under way, and where the orders of the next step begin.
use Rattle.std.specs.Prelude.{◌≡◌, ℕ, ◌<◌, ◌≤◌, ◌==◌, Bool, false, List, length, drop, None}
use Rattle.std.specs.List.{AllByRecursion}
use Rattle.tiger_base.specs.declared.number.Instance.{Instance}
use Rattle.net_schedule.specs.declared.world.NetEvent.{NetEvent}
use Rattle.net_schedule.specs.declared.world.NetEvent.TheVariants as event
use Rattle.net_schedule.specs.Worlds.{WorldState, asked_at}
use Rattle.net_read.specs.declared.plan.NetOrder.{NetOrder}
use Rattle.net_read.specs.Orders.{AreOrdersFrom}
use Rattle.net_run.specs.Runs.{ordered}

-- numbers that are below another one
abbrev pub AreBelow : ℕ → List ℕ → Type 0
AreBelow n ns = AllByRecursion (λ k. k < n) ns

-- the packets of these numbers were sent
abbrev pub WereSent : WorldState → List ℕ → Type 0
WereSent w out = AreBelow (length w.sent) out

-- an event asks for an instance
abbrev pub is_ask_of : Instance → NetEvent → Bool
is_ask_of u (event.Ask v at rate) = v.0 == u.0
is_ask_of u (event.Stop v) = false
is_ask_of u (event.Renew c) = false
is_ask_of u (event.Deliver n) = false

-- what was not asked for is not asked for by an event but by its own ask
abbrev pub StaysUnasked : NetEvent → WorldState → WorldState → Type 0
StaysUnasked e old new = (u : Instance) → is_ask_of u e ≡ false → asked_at old u ≡ None → asked_at new u ≡ None

-- no instance is asked for in between
abbrev pub NoneIsAsked : WorldState → WorldState → Type 0
NoneIsAsked old new = (u : Instance) → asked_at old u ≡ None → asked_at new u ≡ None

-- only instances below this number were asked for
abbrev pub OnlyBelow : WorldState → ℕ → Type 0
OnlyBelow w asks = (v : Instance) → asks ≤ v.0 → asked_at w v ≡ None

-- What is ordered in a step, and in any later one, stands from this place on; and what stands there may still be
-- ordered, since the next ask is of an instance that was not asked for.
pub record IsAtStep (w : WorldState) (orders : List NetOrder) (step first : ℕ) : Type 0 where
  pub rest : (j : ℕ) → step ≤ j → ordered (drop first orders) j ≡ ordered orders j
  pub steps : ℕ
  pub asks : ℕ
  pub possible : AreOrdersFrom w.ring steps step asks (drop first orders)
  pub new : OnlyBelow w asks
