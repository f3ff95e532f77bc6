-- The arrivals on a link, one send after the other.
use Rattle.std.proofs.Common.{ℕ, ◌+◌, ◌%◌, ◌<◌, ◌≤◌, max, List, [], ◌∷◌, arith}
use Rattle.tiger_base.specs.Limits.{most_beats}
use Rattle.rand_pcg.specs.Pcg.{pcg32}
use Rattle.link_timing.specs.declared.Delay.{Delay}
use Rattle.link_timing.specs.declared.Delay.TheVariants as delays
use Rattle.link_timing.specs.declared.clock.Pace.{Pace}
use Rattle.link_timing.specs.declared.clock.Pace.TheVariants as paces
use Rattle.link_timing.specs.Clock.{Clock, pace_of, new_clock, arrival_at, pace_after, after_send, arrivals_of, FixedIsWithin, IsPace, IsClock, AreSends, AreArrivals, KeepsOrder}

-- what one send in order gives
pub record GoesOn (c : Clock) (sent : ℕ) : Type 0 where
  pub in_order : c.last_arrival ≤ arrival_at c sent
  pub later : sent < arrival_at c sent
  pub soon : arrival_at c sent ≤ sent + c.most
  pub pace : IsPace (pace_after c.pace) c.most sent (arrival_at c sent)

record IsDrawn (most low sent arrival : ℕ) : Type 0 where
  in_order : low ≤ arrival
  later : sent < arrival
  soon : arrival ≤ sent + most

drawn_arrival : (most low sent word : ℕ) → 1 ≤ most → low ≤ sent + most → IsDrawn most low sent (max (sent + 1 + word % most) low)
drawn_arrival most low sent word positive ahead = record { in_order = omega arith; later = omega arith; soon = omega arith }

goes_on : (pace : Pace) (most send arrival sent : ℕ) → 1 ≤ most → send ≤ sent → IsPace pace most send arrival
    → GoesOn (record { pace = pace; most = most; last_send = send; last_arrival = arrival }) sent
unfolding arrival_at pace_after
goes_on (paces.Fixed beats) most send arrival sent positive rises p =
    record { in_order = omega arith; later = omega arith; soon = omega arith; pace = (p.0, p.1, omega arith) }
goes_on (paces.Drawn generator) most send arrival sent positive rises p =
    let d = drawn_arrival most arrival sent (pcg32 generator).0 positive (omega arith) in
    record { in_order = d.in_order; later = d.later; soon = d.soon; pace = d.soon }

-- a send that does not fall gives an arrival in range and in order
pub GoesOn-from_IsClock : (c : Clock) (sent : ℕ) → IsClock c → c.last_send ≤ sent → GoesOn c sent
GoesOn-from_IsClock c sent k rises = goes_on c.pace c.most c.last_send c.last_arrival sent k.positive rises k.pace

-- the clock after a send is a clock again
pub IsClock-after_send : (c : Clock) (sent : ℕ) → IsClock c → c.last_send ≤ sent → sent ≤ most_beats → IsClock (after_send c sent)
IsClock-after_send c sent k rises early =
    record { positive = k.positive; small = k.small; early = early; pace = (GoesOn-from_IsClock c sent k rises).pace }

-- so are all clocks of a link
pub IsClock-new_clock : (link : ℕ) (delay : Delay) (most : ℕ) → 1 ≤ most → most ≤ 16 → FixedIsWithin delay most → IsClock (new_clock link delay most)
unfolding pace_of
IsClock-new_clock link (delays.Fixed beats) most positive small within =
    record { positive = positive; small = small; early = omega arith; pace = (within.0, within.1, omega arith) }
IsClock-new_clock link (delays.Drawn number) most positive small within =
    record { positive = positive; small = small; early = omega arith; pace = omega arith }

-- the arrivals of sends that follow on a clock
pub AreArrivals-arrivals_of : (c : Clock) (sends : List ℕ) → IsClock c → AreSends c.last_send sends → AreArrivals c.most c.last_arrival sends (arrivals_of c sends)
AreArrivals-arrivals_of c [] k s = tt
AreArrivals-arrivals_of c (sent ∷ sends) k s =
    let g = GoesOn-from_IsClock c sent k s.0 in
    (g.in_order, g.later, g.soon, AreArrivals-arrivals_of (after_send c sent) sends (IsClock-after_send c sent k s.0 s.1) s.2)

pub KeepsOrder-holds : KeepsOrder
KeepsOrder-holds link most delay sends positive small within s =
    AreArrivals-arrivals_of (new_clock link delay most) sends (IsClock-new_clock link delay most positive small within) s
