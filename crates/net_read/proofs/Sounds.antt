-- What holds of the orders that were read.
use Rattle.std.proofs.Common.{◌≡◌, ℕ, ◌+◌, ◌≤◌, ◌<◌, Bool, true, false, cond, List, [], ◌∷◌, length, nat_le, Option, Some, None, option_and_then, option_map, Ok, refl, sym, subst, arith}
use Rattle.std.specs.Prelude.{codes}
use Rattle.std.proofs.lemmas.Bool.{leb-true}
use Rattle.std.proofs.lemmas.Option.{same_Some}
use Rattle.serde_json.specs.Data.{Data}
use Rattle.serde_json.specs.Find.{get}
use Rattle.json_look.specs.Json.{has_only, is_one_of, ranged_at, below_at, sized_array}
use Rattle.json_look.proofs.Inversions.{then-some, map-some, tested-some, ranged_at-range, below_at-range, sized-range}
use Rattle.net_schedule.specs.declared.ring.NetRing.{NetRing}
use Rattle.net_schedule.specs.Rings.{quanta_in}
use Rattle.net_read.specs.declared.plan.NetOrder.{NetOrder}
use Rattle.net_read.specs.declared.plan.NetOrder.TheVariants as order
use Rattle.net_read.specs.Orders.{most_orders, step_of, asks_of, IsPossibleOrder, IsOrderIn, AreOrdersFrom, AreOrders}
use Rattle.net_read.specs.Meaning.{ask_in, stop_in, order_at, order_in, orders_from, orders_of, formed}

-- an order that stands in a step, and is possible
abbrev IsAt : NetRing → ℕ → ℕ → NetOrder → Type 0
IsAt r step asks o = (step_of o ≡ step) × IsPossibleOrder r asks o

ask-sound : (r : NetRing) (step asks : ℕ) (d : Data) (o : NetOrder) → ask_in r step asks d ≡ Some o → IsAt r step asks o
unfolding ask_in
ask-sound r step asks d o e =
    let made : ℕ → ℕ → NetOrder = λ (at rate : ℕ). order.Ask step (record { instance = record { 0 = asks }; at = at; rate = rate }) in
    let a = then-some (λ (at : ℕ). option_map (λ (rate : ℕ). order.Ask step (record { instance = record { 0 = asks }; at = at; rate = rate })) (ranged_at (codes "rate") 1 r.capacity d)) (below_at (codes "at") (quanta_in r) d) o e in
    let b = map-some (λ (rate : ℕ). order.Ask step (record { instance = record { 0 = asks }; at = a.0; rate = rate })) (ranged_at (codes "rate") 1 r.capacity d) o a.2 in
    let range = ranged_at-range (codes "rate") 1 r.capacity d b.0 b.1 in
    subst (IsAt r step asks) b.2 (refl, (refl, record { at = below_at-range (codes "at") (quanta_in r) d a.0 a.1; some = range.0; few = range.1 }))

stop-sound : (r : NetRing) (step asks : ℕ) (d : Data) (o : NetOrder) → stop_in step asks d ≡ Some o → IsAt r step asks o
unfolding stop_in
stop-sound r step asks d o e =
    let a = map-some (λ (v : ℕ). order.Stop step (record { 0 = v })) (below_at (codes "stop") asks d) o e in
    subst (IsAt r step asks) a.2 (refl, below_at-range (codes "stop") asks d a.0 a.1)

at-sound : (r : NetRing) (step asks : ℕ) (d : Data) (o : NetOrder) → order_at r step asks d ≡ Some o → IsAt r step asks o
unfolding order_at
at-sound r step asks d o e =
    cases (has_only (is_one_of (codes "step" ∷ codes "at" ∷ codes "rate" ∷ [])) d) (has_only (is_one_of (codes "step" ∷ codes "stop" ∷ [])) d) e
  where
    cases : (a b : Bool) → cond a (ask_in r step asks d) (cond b (stop_in step asks d) None) ≡ Some o → IsAt r step asks o
    cases true b e = ask-sound r step asks d o e
    cases false true e = stop-sound r step asks d o e
    cases false false e = absurd (cc)

order-sound : (r : NetRing) (n latest asks : ℕ) (d : Data) (o : NetOrder) → order_in r n latest asks d ≡ Some o → IsOrderIn r n latest asks o
unfolding order_in
order-sound r n latest asks d o e =
    let a = then-some (λ (step : ℕ). cond (nat_le latest step) (order_at r step asks d) None) (below_at (codes "step") n d) o e in
    let b = tested-some (nat_le latest a.0) (order_at r a.0 asks d) o a.2 in
    let early = below_at-range (codes "step") n d a.0 a.1 in
    let is = at-sound r a.0 asks d o b.1 in
    record { late = subst (λ (k : ℕ). latest ≤ k) (sym is.0) (leb-true latest a.0 b.0); early = subst (λ (k : ℕ). k < n) (sym is.0) early; possible = is.1 }

from-sound : (r : NetRing) (n latest asks : ℕ) (ds : List Data) (os : List NetOrder) → orders_from r n latest asks ds ≡ Some os → AreOrdersFrom r n latest asks os × (length os ≡ length ds)
unfolding orders_from
from-sound r n latest asks [] os e = subst (λ (xs : List NetOrder). AreOrdersFrom r n latest asks xs × (length xs ≡ 0)) (same_Some [] os e) (tt, refl)
from-sound r n latest asks (d ∷ ds) os e =
    let a = then-some (λ (o : NetOrder). option_map (λ (xs : List NetOrder). o ∷ xs) (orders_from r n (step_of o) (asks + asks_of o) ds)) (order_in r n latest asks d) os e in
    let b = map-some (λ (xs : List NetOrder). a.0 ∷ xs) (orders_from r n (step_of a.0) (asks + asks_of a.0) ds) os a.2 in
    let rest = from-sound r n (step_of a.0) (asks + asks_of a.0) ds b.0 b.1 in
    subst (λ (xs : List NetOrder). AreOrdersFrom r n latest asks xs × (length xs ≡ length (d ∷ ds))) b.2
    ((order-sound r n latest asks d a.0 a.1, rest.0), omega (arith, rest.1))

pub orders-sound : (r : NetRing) (n : ℕ) (d : Data) (os : List NetOrder) → orders_of r n d ≡ Some os → AreOrders r n os
unfolding orders_of
orders-sound r n d os e =
    let a = then-some (orders_from r n 0 0) (option_and_then (sized_array 0 most_orders) (get (codes "events") d)) os e in
    let b = then-some (sized_array 0 most_orders) (get (codes "events") d) a.0 a.1 in
    let few = sized-range 0 most_orders b.0 a.0 b.2 in
    let is = from-sound r n 0 0 a.0 os a.2 in
    record { few = omega (arith, is.1, few.1); each = is.0 }

-- the same of a meaning that is not refused
pub formed-sound : (r : NetRing) (n : ℕ) (d : Data) (os : List NetOrder) → formed (orders_of r n d) ≡ Ok os → AreOrders r n os
formed-sound r n d os e = orders-sound r n d os (some (orders_of r n d) e)
  where
    some : (o : Option (List NetOrder)) → formed o ≡ Ok os → o ≡ Some os
    some (Some x) g = cc
    some None g = absurd (cc)
