-- Bytes that mean a plan mean one that meets every condition.
use Rattle.std.proofs.Common.{◌≡◌, ℕ, ◌&&◌, nat_le, cond, List, Option, Some, None, Ok, option_and_then, option_map, subst}
use Rattle.std.specs.Prelude.{IfSome, codes}
use Rattle.std.proofs.lemmas.Option.{same_Some}
use Rattle.serde_json.specs.Data.{Data}
use Rattle.serde_json.specs.Find.{get}
use Rattle.json_look.specs.Json.{json_of, has_only, is_one_of, ranged_at}
use Rattle.json_look.proofs.Inversions.{then-some, map-some, tested-some, in-range, ranged_at-range}
use Rattle.net_schedule.specs.declared.ring.NetRing.{NetRing}
use Rattle.net_schedule.specs.Rings.{IsRing, fewest_cubs, most_cubs, most_own, most_capacity}
use Rattle.net_read.specs.declared.plan.NetOrder.{NetOrder}
use Rattle.net_read.specs.Meaning.{ring_of, whole_of, count_of, seed_of, renew_of, given, orders_of, plan_in, plan_of, plan_keys, read_as, formed, net_meaning}
use Rattle.net_read.specs.Plans.{most_steps, IsCount, NetSaid, IsNetPlan}
use Rattle.net_read.proofs.Sounds.{orders-sound}

abbrev ring_with : ℕ → ℕ → ℕ → NetRing
ring_with cubs quanta capacity = record { cubs = cubs; quanta = quanta; capacity = capacity }

ring-sound : (d : Data) (r : NetRing) → ring_of d ≡ Some r → IsRing r
unfolding ring_of
ring-sound d r e =
    let a = then-some (λ (cubs : ℕ). option_and_then (λ (quanta : ℕ). option_map (λ (capacity : ℕ). ring_with cubs quanta capacity) (ranged_at (codes "capacity") 1 most_capacity d)) (ranged_at (codes "quanta") 1 most_own d)) (ranged_at (codes "cubs") 3 most_cubs d) r e in
    let b = then-some (λ (quanta : ℕ). option_map (λ (capacity : ℕ). ring_with a.0 quanta capacity) (ranged_at (codes "capacity") 1 most_capacity d)) (ranged_at (codes "quanta") 1 most_own d) r a.2 in
    let k = map-some (λ (capacity : ℕ). ring_with a.0 b.0 capacity) (ranged_at (codes "capacity") 1 most_capacity d) r b.2 in
    let cubs = ranged_at-range (codes "cubs") fewest_cubs most_cubs d a.0 a.1 in
    let quanta = ranged_at-range (codes "quanta") 1 most_own d b.0 b.1 in
    let capacity = ranged_at-range (codes "capacity") 1 most_capacity d k.0 k.1 in
    subst IsRing k.2 (record {
      some_cubs = cubs.0;
      few_cubs = cubs.1;
      some_quanta = quanta.0;
      few_quanta = quanta.1;
      some = capacity.0;
      few = capacity.1;
    })

count-sound : (d : Data) (n : ℕ) → count_of d ≡ Some n → IsCount n
unfolding count_of
count-sound d n e =
    let a = then-some (λ (k : ℕ). cond (nat_le 1 k && nat_le k most_steps) (Some k) None) (whole_of d) n e in
    let t = tested-some (nat_le 1 a.0 && nat_le a.0 most_steps) (Some a.0) n a.2 in
    subst IsCount (same_Some a.0 n t.1) (in-range 1 most_steps a.0 t.0)

renew-sound : (d : Data) (k : Option ℕ) → renew_of d ≡ Some k → IfSome k IsCount
renew-sound d k e = cases (get (codes "renew") d) e
  where
    cases : (o : Option Data) → given count_of o ≡ Some k → IfSome k IsCount
    cases None g = subst (λ (x : Option ℕ). IfSome x IsCount) (same_Some None k g) tt
    cases (Some x) g =
        let a = map-some (λ (n : ℕ). Some n) (count_of x) k g in
        subst (λ (y : Option ℕ). IfSome y IsCount) a.2 (count-sound x a.0 a.1)

abbrev plan_with : NetRing → ℕ → Option ℕ → Option ℕ → List NetOrder → NetSaid
plan_with ring steps seed renew orders = record { ring = ring; steps = steps; seed = seed; renew = renew; orders = orders }

in-sound : (d : Data) (p : NetSaid) → plan_in d ≡ Some p → IsNetPlan p
unfolding plan_in
in-sound d p e =
    let a = then-some (λ (ring : NetRing). option_and_then (λ (steps : ℕ). option_and_then (λ (seed : Option ℕ). option_and_then (λ (renew : Option ℕ). option_map (λ (os : List NetOrder). plan_with ring steps seed renew os) (orders_of ring steps d)) (renew_of d)) (seed_of d)) (ranged_at (codes "steps") 1 most_steps d)) (ring_of d) p e in
    let b = then-some (λ (steps : ℕ). option_and_then (λ (seed : Option ℕ). option_and_then (λ (renew : Option ℕ). option_map (λ (os : List NetOrder). plan_with a.0 steps seed renew os) (orders_of a.0 steps d)) (renew_of d)) (seed_of d)) (ranged_at (codes "steps") 1 most_steps d) p a.2 in
    let s = then-some (λ (seed : Option ℕ). option_and_then (λ (renew : Option ℕ). option_map (λ (os : List NetOrder). plan_with a.0 b.0 seed renew os) (orders_of a.0 b.0 d)) (renew_of d)) (seed_of d) p b.2 in
    let w = then-some (λ (renew : Option ℕ). option_map (λ (os : List NetOrder). plan_with a.0 b.0 s.0 renew os) (orders_of a.0 b.0 d)) (renew_of d) p s.2 in
    let o = map-some (λ (os : List NetOrder). plan_with a.0 b.0 s.0 w.0 os) (orders_of a.0 b.0 d) p w.2 in
    subst IsNetPlan o.2 (record {
      ring = ring-sound d a.0 a.1;
      steps = ranged_at-range (codes "steps") 1 most_steps d b.0 b.1;
      renew = renew-sound d w.0 w.1;
      orders = orders-sound a.0 b.0 d o.0 o.1;
    })

of-sound : (d : Data) (p : NetSaid) → plan_of d ≡ Some p → IsNetPlan p
unfolding plan_of
of-sound d p e = in-sound d p (tested-some (has_only (is_one_of plan_keys) d) (plan_in d) p e).1

pub meaning-sound : (text : List ℕ) (p : NetSaid) → net_meaning text ≡ Ok p → IsNetPlan p
unfolding net_meaning
meaning-sound text p e = cases (json_of text) e
  where
    was : (o : Option NetSaid) → formed o ≡ Ok p → o ≡ Some p
    was (Some x) g = cc
    was None g = absurd (cc)

    cases : (o : Option Data) → read_as o ≡ Ok p → IsNetPlan p
    cases None g = absurd (cc)
    cases (Some d) g = of-sound d p (was (plan_of d) g)
