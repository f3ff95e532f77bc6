-- In which beats a link's messages arrive, by the link's number, its delay and the beats of its
-- sends.
use Rattle.std.specs.Prelude.{ℕ, ◌+◌, ◌%◌, ◌≤◌, ◌<◌, max, List, [], ◌∷◌}
use Rattle.tiger_base.specs.Limits.{most_beats}
use Rattle.rand_pcg.specs.Lcg.{started, increment_of}
use Rattle.rand_pcg.specs.Pcg.{multiplier_64, pcg32}
use Rattle.link_timing.specs.declared.Delay.{Delay}
use Rattle.link_timing.specs.declared.Delay.TheVariants as delays
use Rattle.link_timing.specs.declared.clock.Pace.{Pace}
use Rattle.link_timing.specs.declared.clock.Pace.TheVariants as paces

-- a link's clock between two sends: its pace, the greatest delay, and the beats of the last send
-- and its arrival
pub record Clock : Type 0 where
  pub pace : Pace
  pub most : ℕ
  pub last_send : ℕ
  pub last_arrival : ℕ

-- the pace of a link before its first send: drawn delays come from the generator of the link's own
-- stream
unfoldable pub pace_of : ℕ → Delay → Pace
pace_of link (delays.Fixed beats) = paces.Fixed beats
pace_of link (delays.Drawn number) =
    paces.Drawn (started 64 multiplier_64 number (increment_of 64 link))

-- the clock of a link on which nothing was sent yet
abbrev pub new_clock : ℕ → Delay → ℕ → Clock
new_clock link delay most =
    record { pace = pace_of link delay; most = most; last_send = 0; last_arrival = 0 }

abbrev arrival_by : Pace → ℕ → ℕ → ℕ → ℕ
arrival_by (paces.Fixed beats) most last sent = sent + beats
arrival_by (paces.Drawn generator) most last sent = max (sent + 1 + (pcg32 generator).0 % most) last

abbrev stepped : Pace → Pace
stepped (paces.Fixed beats) = paces.Fixed beats
stepped (paces.Drawn generator) = paces.Drawn (pcg32 generator).1

-- the beat in which the next message arrives, if it is sent in a given beat
unfoldable pub arrival_at : Clock → ℕ → ℕ
arrival_at c sent = arrival_by c.pace c.most c.last_arrival sent

-- the pace after one send
unfoldable pub pace_after : Pace → Pace
pace_after pace = stepped pace

-- the clock after one send
abbrev pub after_send : Clock → ℕ → Clock
after_send c sent =
    record {
      pace = pace_after c.pace;
      most = c.most;
      last_send = sent;
      last_arrival = arrival_at c sent;
    }

-- the clock after sends in these beats
abbrev pub after_sends : Clock → List ℕ → Clock
after_sends c [] = c
after_sends c (sent ∷ sends) = after_sends (after_send c sent) sends

-- the beats in which the messages of these sends arrive
abbrev pub arrivals_of : Clock → List ℕ → List ℕ
arrivals_of c [] = []
arrivals_of c (sent ∷ sends) = arrival_at c sent ∷ arrivals_of (after_send c sent) sends

-- a fixed delay is at least one beat and at most the greatest delay
abbrev pub FixedIsWithin : Delay → ℕ → Type 0
FixedIsWithin (delays.Fixed beats) most = (1 ≤ beats) × (beats ≤ most)
FixedIsWithin (delays.Drawn number) most = Unit {0}

-- a fixed pace is within the greatest delay, and the last arrival is no later than the next message
-- may arrive
abbrev pub IsPace : Pace → ℕ → ℕ → ℕ → Type 0
IsPace (paces.Fixed beats) most send arrival =
    (1 ≤ beats) × (beats ≤ most) × (arrival ≤ send + beats)
IsPace (paces.Drawn generator) most send arrival = arrival ≤ send + most

-- what holds of every clock
pub record IsClock (c : Clock) : Type 0 where
  pub positive : 1 ≤ c.most
  pub small : c.most ≤ 16
  pub early : c.last_send ≤ most_beats
  pub pace : IsPace c.pace c.most c.last_send c.last_arrival

-- beats of sends, none below the one before it
abbrev pub AreSends : ℕ → List ℕ → Type 0
AreSends low [] = Unit {0}
AreSends low (sent ∷ sends) = (low ≤ sent) × (sent ≤ most_beats) × AreSends sent sends

-- one arrival for each send, from one beat to the greatest delay after it, and none below the one
-- before it
abbrev pub AreArrivals : ℕ → ℕ → List ℕ → List ℕ → Type 0
AreArrivals most low [] [] = Unit {0}
AreArrivals most low [] (arrival ∷ arrivals) = ⊥
AreArrivals most low (sent ∷ sends) [] = ⊥
AreArrivals most low (sent ∷ sends) (arrival ∷ arrivals) =
    (low ≤ arrival) × (sent < arrival) × (arrival ≤ sent + most)
    × AreArrivals most arrival sends arrivals

-- the law of every link, whatever is sent on it in order
abbrev pub KeepsOrder : Type 0
KeepsOrder =
    (link most : ℕ) (delay : Delay) (sends : List ℕ)
    → 1 ≤ most → most ≤ 16 → FixedIsWithin delay most
    → AreSends 0 sends → AreArrivals most 0 sends (arrivals_of (new_clock link delay most) sends)
