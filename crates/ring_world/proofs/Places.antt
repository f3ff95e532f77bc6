-- The nodes of a plan have their place.
use Rattle.std.proofs.Common.{arith}
use Rattle.std.proofs.Math.Nat.{mul-le-mul}
use Rattle.slot_plan.specs.Times.{time_of}
use Rattle.node_kit.specs.Links.{links_of}
use Rattle.node_kit.proofs.Ring.{from_counted, to_counted}
use Rattle.node_kit.proofs.Ways.{links_sound}
use Rattle.ring_world.specs.Laws.{PlansArePlaces}

pub plans-places : PlansArePlaces
unfolding time_of
plans-places p beats plan few =
    let cubs = plan.ranges.cubs in
    record {
      linked = λ l from to ends.
          let low = from_counted (links_of p) from to l (links_sound p plan) ends in
          let high = to_counted (links_of p) from to l (links_sound p plan) ends in
          (omega (arith, low), omega (arith, high));
      two_cubs = (let least = cubs.0 in omega (arith, least));
      cubs = omega arith;
      delay = plan.ranges.delay.0;
      short = λ b h.
          let beat = plan.ranges.beat in
          let skew = plan.ranges.skew in
          let most = mul-le-mul {n₁ = b} {m₁ = p.beat} {n₂ = 100000} {m₂ = 1000000} (omega (arith, h, few)) beat.1 in
          omega (arith, most, skew);
    }
