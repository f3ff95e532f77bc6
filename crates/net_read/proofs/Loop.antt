-- Reading orders one behind the other, as a loop does.
use Rattle.std.proofs.Common.{◌≡◌, ◌∙◌, ℕ, suc, ◌+◌, ◌≤◌, ◌<◌, List, [], ◌∷◌, ◌++◌, length, map, drop, get_or, Option, Some, None, option_and_then, option_map, sym, ap, refl, add-one, drop-cons, append_assoc, append-nil}
use Rattle.std.proofs.lemmas.List.{at_drop_all}
use Rattle.serde_json.specs.Data.{Data}
use Rattle.serde_json.specs.View.{view}
use Rattle.serde_json.specs.declared.value.Value.{Value}
use Rattle.net_schedule.specs.declared.ring.NetRing.{NetRing}
use Rattle.net_read.specs.declared.plan.NetOrder.{NetOrder}
use Rattle.net_read.specs.Orders.{step_of, asks_of}
use Rattle.net_read.specs.Meaning.{order_in, orders_from}

-- what the values from an index on mean, behind the orders so far, is what all values mean
pub record IsLeft (r : NetRing) (n latest asks : ℕ) (front : List NetOrder) (vs : List Value) (i : ℕ) : Type 0 where
  pub same : orders_from r n 0 0 (map view vs) ≡ option_map (λ os. front ++ os) (orders_from r n latest asks (map view (drop i vs)))

split : (vs : List Value) (i : ℕ) (v : Value) → i < length vs → v ≡ get_or vs i v → drop i vs ≡ v ∷ drop (i + 1) vs
split vs i v lt is = rw (add-one, drop-cons vs i v) (ap (λ (w : Value). w ∷ drop (suc i) vs) (sym is))

-- what an order and those behind it mean
abbrev with_next : NetRing → ℕ → ℕ → List Data → Option NetOrder → Option (List NetOrder)
with_next r n asks ds o = option_and_then (λ o. option_map (λ os. o ∷ os) (orders_from r n (step_of o) (asks + asks_of o) ds)) o

turn : (r : NetRing) (n latest asks : ℕ) (front : List NetOrder) (vs : List Value) (i : ℕ) (v : Value) → i < length vs → v ≡ get_or vs i v → IsLeft r n latest asks front vs i
    → orders_from r n 0 0 (map view vs) ≡ option_map (λ os. front ++ os) (with_next r n asks (map view (drop (i + 1) vs)) (order_in r n latest asks (view v)))
unfolding orders_from
turn r n latest asks front vs i v lt is so_far =
    so_far.same ∙ ap (λ (ws : List Value). option_map (λ os. front ++ os) (orders_from r n latest asks (map view ws))) (split vs i v lt is)

behind : (front : List NetOrder) (o : NetOrder) (x : Option (List NetOrder))
    → option_map (λ (os : List NetOrder). front ++ os) (option_map (λ (os : List NetOrder). o ∷ os) x) ≡ option_map (λ (os : List NetOrder). (front ++ o ∷ []) ++ os) x
behind front o None = refl
behind front o (Some os) = ap (λ (xs : List NetOrder). Some xs) (sym (append_assoc front (o ∷ []) os))

pub IsLeft-more : (r : NetRing) (n latest asks : ℕ) (front : List NetOrder) (vs : List Value) (i : ℕ) (v : Value) (o : NetOrder) → i < length vs → v ≡ get_or vs i v
    → order_in r n latest asks (view v) ≡ Some o → IsLeft r n latest asks front vs i → IsLeft r n (step_of o) (asks + asks_of o) (front ++ o ∷ []) vs (i + 1)
IsLeft-more r n latest asks front vs i v o lt is e so_far = record {
  same =
      turn r n latest asks front vs i v lt is so_far
      ∙ ap (λ (x : Option NetOrder). option_map (λ os. front ++ os) (with_next r n asks (map view (drop (i + 1) vs)) x)) e
      ∙ behind front o (orders_from r n (step_of o) (asks + asks_of o) (map view (drop (i + 1) vs)));
}

pub IsLeft-none : (r : NetRing) (n latest asks : ℕ) (front : List NetOrder) (vs : List Value) (i : ℕ) (v : Value) → i < length vs → v ≡ get_or vs i v
    → order_in r n latest asks (view v) ≡ None → IsLeft r n latest asks front vs i → orders_from r n 0 0 (map view vs) ≡ None
IsLeft-none r n latest asks front vs i v lt is e so_far =
    turn r n latest asks front vs i v lt is so_far
    ∙ ap (λ (x : Option NetOrder). option_map (λ os. front ++ os) (with_next r n asks (map view (drop (i + 1) vs)) x)) e

pub IsLeft-all : (r : NetRing) (n latest asks : ℕ) (front : List NetOrder) (vs : List Value) (i : ℕ) → length vs ≤ i → IsLeft r n latest asks front vs i
    → orders_from r n 0 0 (map view vs) ≡ Some front
unfolding orders_from
IsLeft-all r n latest asks front vs i le so_far =
    so_far.same ∙ at_drop_all (λ (ws : List Value). option_map (λ os. front ++ os) (orders_from r n latest asks (map view ws))) vs i le
    ∙ ap (λ (xs : List NetOrder). Some xs) (append-nil front)
