-- The orders that a controller is given.
use Rattle.std.specs.Prelude.{◌≡◌, ℕ, ◌<◌, ◌==◌, List, [], ◌∷◌, Option, Some, None, filter, slice_get, if◌then◌else◌}
use Rattle.std.specs.Option.{option_or}
use Rattle.std.specs.List.Sorted.{IsNonDecreasingBy}
use Rattle.tiger_base.specs.declared.number.Instance.{Instance}
use Rattle.tiger_base.specs.declared.tenancy.Ask.{Ask}
use Rattle.slot_plan.specs.declared.params.Params.{Params}
use Rattle.slot_plan.specs.Times.{disk_count}
use Rattle.node_kit.specs.declared.course.Order.{Order}
use Rattle.node_kit.specs.declared.course.OrderKind.{OrderKind}
use Rattle.node_kit.specs.declared.course.OrderKind.TheVariants.{Begin, Finish}

-- the order at place k is a start, or a stop
abbrev pub Starts : List Order → ℕ → Ask → Type 0
Starts orders k ask = (beat : ℕ) × (slice_get orders k ≡ Some (record { beat = beat; what = Begin ask }))

abbrev pub Stops : List Order → ℕ → Instance → Type 0
Stops orders k v = (beat : ℕ) × (slice_get orders k ≡ Some (record { beat = beat; what = Finish v }))

-- Orders that can be given: their beats never fall, a start's disk is one of the plan's, no two starts are of one
-- instance, and a stop names an instance whose start stands earlier.
pub record AreOrders (p : Params) (orders : List Order) : Type 0 where
  pub in_time : IsNonDecreasingBy (λ o. o.beat) orders
  pub on_disks : (k : ℕ) (ask : Ask) → Starts orders k ask → ask.disk.0 < disk_count p
  pub once : (j k : ℕ) (a b : Ask) → Starts orders j a → Starts orders k b → a.instance.0 ≡ b.instance.0 → j ≡ k
  pub after_start : (k : ℕ) (v : Instance) → Stops orders k v
      → (j : ℕ) × (ask : Ask) × (j < k) × Starts orders j ask × (ask.instance.0 ≡ v.0)

-- the orders of a beat, in their list's order
unfoldable pub orders_in : ℕ → List Order → List Order
orders_in beat orders = filter (λ o. o.beat == beat) orders

abbrev pub start_by : Instance → OrderKind → Option Ask
start_by v (Begin ask) = if ask.instance.0 == v.0 then Some ask else None
start_by v (Finish other) = None

-- the start of an instance: the first, if there is one
abbrev pub start_of : List Order → Instance → Option Ask
start_of [] v = None
start_of (o ∷ rest) v = option_or (start_by v o.what) (start_of rest v)
