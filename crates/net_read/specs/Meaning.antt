-- What the bytes of a plan mean.
use Rattle.std.specs.Prelude.{◌≡◌, ℕ, ◌+◌, ◌&&◌, nat_le, if◌then◌else◌, List, [], ◌∷◌, Option, Some, None, option_and_then, option_map, Result, Ok, Err, codes}
use Rattle.serde_json.specs.Data.{Data}
use Rattle.serde_json.specs.Find.{get, as_number, as_u64}
use Rattle.json_look.specs.Json.{json_of, ranged_at, below_at, has_only, is_one_of, sized_array}
use Rattle.net_schedule.specs.declared.ring.NetRing.{NetRing}
use Rattle.net_schedule.specs.Rings.{quanta_in, fewest_cubs, most_cubs, most_own, most_capacity}
use Rattle.net_read.specs.declared.fault.NetFault.{NetFault}
use Rattle.net_read.specs.declared.fault.NetFault.TheVariants as faults
use Rattle.net_read.specs.declared.plan.NetOrder.{NetOrder}
use Rattle.net_read.specs.declared.plan.NetOrder.TheVariants as order
use Rattle.net_read.specs.Orders.{most_orders, step_of, asks_of}
use Rattle.net_read.specs.Plans.{most_steps, NetSaid}

-- ---- the orders

-- the entry of an ask, by the next instance
unfoldable pub ask_in : NetRing → ℕ → ℕ → Data → Option NetOrder
ask_in r step asks d =
    option_and_then (λ at. option_map (λ rate. order.Ask step (record { instance = record { 0 = asks }; at = at; rate = rate }))
    (ranged_at (codes "rate") 1 r.capacity d)) (below_at (codes "at") (quanta_in r) d)

-- the stop of an instance that was asked for
unfoldable pub stop_in : ℕ → ℕ → Data → Option NetOrder
stop_in step asks d = option_map (λ v. order.Stop step (record { 0 = v })) (below_at (codes "stop") asks d)

-- an order in a step, behind so many asks: it has either `at` and `rate`, or `stop`, and nothing else
unfoldable pub order_at : NetRing → ℕ → ℕ → Data → Option NetOrder
order_at r step asks d =
    if has_only (is_one_of (codes "step" ∷ codes "at" ∷ codes "rate" ∷ [])) d then ask_in r step asks d
    else if has_only (is_one_of (codes "step" ∷ codes "stop" ∷ [])) d then stop_in step asks d
    else None

-- the same, in a step of the run that is not before another one
unfoldable pub order_in : NetRing → ℕ → ℕ → ℕ → Data → Option NetOrder
order_in r steps latest asks d =
    option_and_then (λ step. if nat_le latest step then order_at r step asks d else None) (below_at (codes "step") steps d)

-- what the items of an array mean behind orders, of which the last is in this step, and so many are asks
unfoldable pub orders_from : NetRing → ℕ → ℕ → ℕ → List Data → Option (List NetOrder)
orders_from r steps latest asks [] = Some []
orders_from r steps latest asks (d ∷ ds) =
    option_and_then (λ o. option_map (λ os. o ∷ os) (orders_from r steps (step_of o) (asks + asks_of o) ds)) (order_in r steps latest asks d)

-- the orders under their name
unfoldable pub orders_of : NetRing → ℕ → Data → Option (List NetOrder)
orders_of r steps d =
    option_and_then (orders_from r steps 0 0) (option_and_then (sized_array 0 most_orders) (get (codes "events") d))

-- ---- the plan

-- the numbers of the ring, each in its range
unfoldable pub ring_of : Data → Option NetRing
ring_of d =
    option_and_then (λ cubs.
    option_and_then (λ quanta.
    option_map (λ capacity. record { cubs = cubs; quanta = quanta; capacity = capacity })
    (ranged_at (codes "capacity") 1 most_capacity d)) (ranged_at (codes "quanta") 1 most_own d)) (ranged_at (codes "cubs") fewest_cubs most_cubs d)

-- what stands under a name that may be missing; if it is there, it is to mean something
abbrev pub given : {X : Type 0} → (Data → Option X) → Option Data → Option (Option X)
given meaning None = Some None
given meaning (Some d) = option_map (λ x. Some x) (meaning d)

-- a whole number of 64 bits
abbrev pub whole_of : Data → Option ℕ
whole_of d = option_and_then as_u64 (as_number d)

-- the same, from 1 to the most steps
unfoldable pub count_of : Data → Option ℕ
count_of d = option_and_then (λ n. if nat_le 1 n && nat_le n most_steps then Some n else None) (whole_of d)

abbrev pub seed_of : Data → Option (Option ℕ)
seed_of d = given whole_of (get (codes "seed") d)

abbrev pub renew_of : Data → Option (Option ℕ)
renew_of d = given count_of (get (codes "renew") d)

abbrev pub plan_keys : List (List ℕ)
plan_keys = codes "cubs" ∷ codes "quanta" ∷ codes "capacity" ∷ codes "steps" ∷ codes "seed" ∷ codes "renew" ∷ codes "events" ∷ []

-- what an object means that has no other names than a plan's
unfoldable pub plan_in : Data → Option NetSaid
plan_in d =
    option_and_then (λ ring.
    option_and_then (λ steps.
    option_and_then (λ seed.
    option_and_then (λ renew.
    option_map (λ orders. record { ring = ring; steps = steps; seed = seed; renew = renew; orders = orders })
    (orders_of ring steps d)) (renew_of d)) (seed_of d)) (ranged_at (codes "steps") 1 most_steps d)) (ring_of d)

unfoldable pub plan_of : Data → Option NetSaid
plan_of d = if has_only (is_one_of plan_keys) d then plan_in d else None

-- what is there, or that the form is broken
abbrev pub formed : {X : Type 0} → Option X → Result X NetFault
formed (Some x) = Ok x
formed None = Err faults.BadForm

-- what bytes mean that are this value, if they are one
abbrev pub read_as : Option Data → Result NetSaid NetFault
read_as None = Err faults.NoJson
read_as (Some d) = formed (plan_of d)

-- what the bytes mean: they are no JSON text, or not in the form of a plan, or say one
unfoldable pub net_meaning : List ℕ → Result NetSaid NetFault
net_meaning bytes = read_as (json_of bytes)

-- a reader stopped as the meaning says, or for want of memory
abbrev pub Stops : {X : Type 0} → NetFault → Result X NetFault → Type 0
Stops faults.NoJson meaning = meaning ≡ Err faults.NoJson
Stops faults.BadForm meaning = meaning ≡ Err faults.BadForm
Stops faults.NoMemory meaning = Unit {0}

-- a reader gives what the meaning says, of which what was read is seen, unless memory ran out
abbrev pub GivesAs : {X Y : Type 0} → (X → Y) → Result X NetFault → Result Y NetFault → Type 0
GivesAs seen (Ok x) meaning = meaning ≡ Ok (seen x)
GivesAs seen (Err fault) meaning = Stops fault meaning
