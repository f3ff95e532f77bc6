-- A start in beat 0 and two stops of it are orders.
use Rattle.std.proofs.Common.{◌≡◌, ℕ, zero, suc, ◌<◌, ◌≤◌, List, [], ◌∷◌, Option, Some, None, arith, refl, sym, ap, ◌∙◌}
use Rattle.std.specs.List.Sorted.{IsNonDecreasingBy}
use Rattle.tiger_base.specs.declared.number.Instance.{Instance}
use Rattle.tiger_base.specs.declared.tenancy.Ask.{Ask}
use Rattle.slot_plan.specs.declared.params.Params.{Params}
use Rattle.slot_plan.specs.Times.{disk_count}
use Rattle.node_kit.specs.declared.course.Order.{Order}
use Rattle.node_kit.specs.declared.course.OrderKind.{OrderKind}
use Rattle.node_kit.specs.declared.course.OrderKind.TheVariants.{Begin, Finish}
use Rattle.controller_core.specs.Orders.{AreOrders, Starts, Stops}

abbrev pub start_and_stops : Ask → ℕ → ℕ → List Order
start_and_stops ask first second =
    record { beat = 0; what = Begin ask }
    ∷ record { beat = first; what = Finish (record { 0 = 0 }) }
    ∷ record { beat = second; what = Finish (record { 0 = 0 }) }
    ∷ []

in_time : (ask : Ask) (first second : ℕ) → first ≤ second → IsNonDecreasingBy (λ (o : Order). o.beat) (start_and_stops ask first second)
in_time ask first second order zero j d low inside = omega arith
in_time ask first second order (suc zero) zero d low inside = absurd (omega arith)
in_time ask first second order (suc zero) (suc zero) d low inside = omega arith
in_time ask first second order (suc zero) (suc (suc zero)) d low inside = order
in_time ask first second order (suc zero) (suc (suc (suc j))) d low inside = absurd (omega arith)
in_time ask first second order (suc (suc i)) zero d low inside = absurd (omega arith)
in_time ask first second order (suc (suc i)) (suc zero) d low inside = absurd (omega arith)
in_time ask first second order (suc (suc zero)) (suc (suc zero)) d low inside = omega arith
in_time ask first second order (suc (suc (suc i))) (suc (suc zero)) d low inside = absurd (omega arith)
in_time ask first second order (suc (suc i)) (suc (suc (suc j))) d low inside = absurd (omega arith)

abbrev kind_of : Option Order → OrderKind
kind_of None = Finish (record { 0 = 0 })
kind_of (Some o) = o.what

abbrev asked_by : OrderKind → Ask → Ask
asked_by (Begin ask) other = ask
asked_by (Finish v) other = other

abbrev stopped_by : OrderKind → Instance
stopped_by (Begin ask) = record { 0 = 0 }
stopped_by (Finish v) = v

-- only the first order is a start
the_start : (ask other : Ask) (first second : ℕ) (k : ℕ) → Starts (start_and_stops ask first second) k other → (k ≡ 0) × (other ≡ ask)
the_start ask other first second zero s = (refl, sym (ap (λ kind. asked_by kind ask) (ap kind_of s.1)))
the_start ask other first second (suc zero) s = absurd (let e = ap kind_of s.1 in cc)
the_start ask other first second (suc (suc zero)) s = absurd (let e = ap kind_of s.1 in cc)
the_start ask other first second (suc (suc (suc k))) s = absurd (cc)

after_start : (ask : Ask) (first second : ℕ) (k : ℕ) (v : Instance) → ask.instance.0 ≡ 0 → Stops (start_and_stops ask first second) k v
    → (j : ℕ) × (other : Ask) × (j < k) × Starts (start_and_stops ask first second) j other × (other.instance.0 ≡ v.0)
after_start ask first second zero v e s = absurd (let f = ap kind_of s.1 in cc)
after_start ask first second (suc zero) v e s =
    (0, ask, omega arith, (0, refl), e ∙ ap (λ (w : Instance). w.0) (ap stopped_by (ap kind_of s.1)))
after_start ask first second (suc (suc zero)) v e s =
    (0, ask, omega arith, (0, refl), e ∙ ap (λ (w : Instance). w.0) (ap stopped_by (ap kind_of s.1)))
after_start ask first second (suc (suc (suc k))) v e s = absurd (cc)

pub are_orders : (p : Params) (ask : Ask) (first second : ℕ) → first ≤ second → ask.disk.0 < disk_count p → ask.instance.0 ≡ 0
    → AreOrders p (start_and_stops ask first second)
are_orders p ask first second order inside e = record {
  in_time = in_time ask first second order;
  on_disks = λ k other s. rw ((the_start ask other first second k s).1) inside;
  once = λ j k a b s t same. let f = (the_start ask a first second j s).0 in let g = (the_start ask b first second k t).0 in rw (f, g) refl;
  after_start = λ k v s. after_start ask first second k v e s;
}
