-- What is used of a kept run, and short words for what stands in it at the end of a tick.
use Rattle.std.specs.Prelude.{◌≡◌, ℕ, ◌+◌, true, List, length}
use Rattle.tiger_base.specs.declared.tenancy.Ask.{Ask}
use Rattle.node_kit.specs.declared.course.Kept.{Kept}
use Rattle.node_kit.specs.declared.course.Order.{Order}
use Rattle.node_kit.specs.declared.course.OrderKind.TheVariants as kind
use Rattle.node_kit.specs.Life.{lifetime_of}
use Rattle.node_kit.specs.Links.{links_of, viewers_of}
use Rattle.run_facts.specs.Carried.{AreCarried}
use Rattle.run_facts.specs.Timed.{AreTimed}
use Rattle.run_model.specs.Fronts.{AnyByRecursion}
use Rattle.run_model.specs.Moments.{Moment}
use Rattle.run_model.specs.Orders.{end_of_tick}
use Rattle.run_model.specs.Runs.{order_in}
use Rattle.run_model.specs.Schedule.{is_stopped}
use Rattle.run_claims.specs.Accounts.{account_of}
use Rattle.run_claims.specs.Claims.{MeetsClaims}

-- A kept run of which the promises are: each node has one journal, what was sent was got, entries were written at their
-- times, and the nine claims hold. That the plan is a plan is kept in its type.
pub record IsKeptWell (k : Kept) : Type 0 where
  pub count : length k.journals ≡ viewers_of (links_of k.course.plan.params) + 1
  pub carried : AreCarried k.course.plan.params k.course.beats (lifetime_of k.course) k.journals
  pub timed : AreTimed k.course.plan.params k.course.beats (lifetime_of k.course) k.journals
  pub claims : MeetsClaims (account_of k)

-- the end of the tick of a cub in a beat
abbrev pub after_tick : Kept → ℕ → ℕ → Moment
after_tick k cub beat = end_of_tick beat cub (order_in k)

-- by a moment an instance was put; and it was stopped
abbrev pub WasPut : Moment → ℕ → Type 0
WasPut m v = m.put v ≡ true

abbrev pub WasStopped : Moment → ℕ → Type 0
WasStopped m v = is_stopped v m.schedule.stops ≡ true

-- a start of this was ordered in a beat
abbrev pub IsOrderedIn : List Order → Ask → ℕ → Type 0
IsOrderedIn orders ask beat = AnyByRecursion (λ o. (o.beat ≡ beat) × (o.what ≡ kind.Begin ask)) orders
