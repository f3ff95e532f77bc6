-- The greatest sum of placed rates, and what of it an event can change.
use Rattle.std.specs.Prelude.{◌≡◌, ℕ, ◌+◌, ◌<◌, ◌≤◌, Bool, true, false, nat_lt, if◌then◌else◌, List, map, length, get_or, Option, Some, None, find, take, unwrap_or, slice_get, ◌/◌}
use Rattle.std.specs.List.{fold, range_with_len}
use Rattle.net_schedule.specs.declared.ring.NetRing.{NetRing}
use Rattle.net_schedule.specs.declared.ring.Entry.{Entry}
use Rattle.net_schedule.specs.declared.ring.Own.{Own}
use Rattle.net_schedule.specs.declared.packet.Packet.{Packet}
use Rattle.net_schedule.specs.declared.packet.Packet.TheVariants as packet
use Rattle.net_schedule.specs.declared.world.NetEvent.{NetEvent}
use Rattle.net_schedule.specs.declared.world.NetEvent.TheVariants as event
use Rattle.net_schedule.specs.Rings.{quanta_in, takes, most_quanta, most_capacity}
use Rattle.net_schedule.specs.Cubs.{is_of, is_placed, kept_rate}
use Rattle.net_schedule.specs.Worlds.{WorldState, cub_at, asked_at}
use Rattle.net_schedule.specs.Links.{IsWorld}
use Rattle.net_schedule.specs.Settled.{history}
use Rattle.net_schedule.specs.Claims.{ring_sum, KeepsToCapacity}
use Rattle.net_run.specs.declared.peak.Peak.{Peak}
use Rattle.net_run.specs.declared.place.Place.{Place}

-- before anything was placed
abbrev pub no_peak : Peak
no_peak = record { sum = 0; quantum = 0 }

-- the greater of two, and the first if they are as great
abbrev pub higher : Peak → Peak → Peak
higher p q = if nat_lt p.sum q.sum then q else p

-- what the placed entries take of each quantum, from the first one on
abbrev pub sums_of : WorldState → List Peak
sums_of w = map (λ k. record { sum = ring_sum w k; quantum = k }) (range_with_len 0 (quanta_in w.ring))

-- the peak, once a ring was looked at: the first of the greatest
abbrev pub peak_after : Peak → WorldState → Peak
peak_after p w = fold higher p (sums_of w)

-- ---- what an event can change

-- the instance whose entry a packet may place, at the cub that it is for
abbrev pub place_by : Packet → Option Place
place_by (packet.Reserve v at rate to) = None
place_by (packet.Confirm v to) = Some (record { cub = to.0; instance = v })
place_by (packet.Refuse v quantum sum to) = None
place_by (packet.Release v to) = None

abbrev pub place_for : Option Packet → Option Place
place_for None = None
place_for (Some p) = place_by p

-- the instance whose entry an event may place, or end once it is placed, at the cub that is asked for it
abbrev pub place_of : WorldState → NetEvent → Option Place
place_of w (event.Ask v at rate) = Some (record { cub = at / w.ring.quanta; instance = v })
place_of w (event.Stop v) = Some (record { cub = unwrap_or (asked_at w v) 0; instance = v })
place_of w (event.Renew c) = None
place_of w (event.Deliver n) = place_for (slice_get w.sent n)

-- an entry that was asked for, if it is placed
abbrev pub if_placed : Option Own → Option Entry
if_placed None = None
if_placed (Some o) = if is_placed o.state then Some o.entry else None

-- the entry of an instance at a cub, if it is placed
abbrev pub placed_at : WorldState → Option Place → Option Entry
placed_at w None = None
placed_at w (Some p) = if_placed (find (is_of p.instance) (cub_at w p.cub).own)

-- what an entry takes of a quantum, if there is one
abbrev pub rate_of : NetRing → ℕ → Option Entry → ℕ
rate_of r k None = 0
rate_of r k (Some e) = kept_rate r k e

-- a row has what the placed entries take of each quantum
pub record IsRow (w : WorldState) (row : List ℕ) : Type 0 where
  pub len : length row ≡ quanta_in w.ring
  pub is : (k : ℕ) → k < quanta_in w.ring → get_or row k 0 ≡ ring_sum w k

-- no number of a row is above another one
abbrev pub IsUnder : List ℕ → ℕ → Type 0
IsUnder row most = (k : ℕ) → k < length row → get_or row k 0 ≤ most

-- no quantum carries more than the capacity, and none has at any moment since the first event
abbrev pub AlwaysKeeps : WorldState → Type 0
AlwaysKeeps w = (n : ℕ) → KeepsToCapacity (history w.ring (take n w.events)).world

-- a row has, in each quantum, what another has and what an entry takes of it
pub record IsMoreIn (r : NetRing) (e : Entry) (low high : List ℕ) : Type 0 where
  pub len : length high ≡ length low
  pub more : (k : ℕ) → k < length low → get_or high k 0 ≡ get_or low k 0 + kept_rate r k e

-- where in a row of so many quanta those of an entry lie: before the first place, and from the second to the third
pub record AreParts (r : NetRing) (at len wrapped first end : ℕ) : Type 0 where
  pub apart : wrapped ≤ first
  pub order : first ≤ end
  pub low : end ≤ len
  pub between : (k : ℕ) → wrapped ≤ k → k < first → takes r at k ≡ false
  pub behind : (k : ℕ) → end ≤ k → k < len → takes r at k ≡ false

-- a row has, in each quantum from one place to another, what another has and what an entry takes of it, and is the same
-- elsewhere
pub record IsMoreWithin (r : NetRing) (e : Entry) (first end : ℕ) (low high : List ℕ) : Type 0 where
  pub len : length high ≡ length low
  pub more : (k : ℕ) → first ≤ k → k < end → get_or high k 0 ≡ get_or low k 0 + kept_rate r k e
  pub before : (k : ℕ) → k < first → get_or high k 0 ≡ get_or low k 0
  pub behind : (k : ℕ) → end ≤ k → get_or high k 0 ≡ get_or low k 0

-- a row has at least what an entry takes of each quantum
abbrev pub HasEntry : NetRing → Entry → List ℕ → Type 0
HasEntry r e row = (k : ℕ) → k < length row → kept_rate r k e ≤ get_or row k 0

-- an entry begins at a quantum that a ring may have, and its rate is possible
pub record IsFew (e : Entry) : Type 0 where
  pub at : e.at < most_quanta
  pub rate : e.rate ≤ most_capacity

-- an entry was placed
abbrev pub rises : Option Entry → Option Entry → Bool
rises None (Some e) = true
rises None None = false
rises (Some e) now = false

-- an entry that was placed and is so no more stands in a row
abbrev pub HasEnded : NetRing → List ℕ → Option Entry → Option Entry → Type 0
HasEnded r row (Some e) None = HasEntry r e row
HasEnded r row was now = Unit {0}

-- an entry that was placed and is so still is the same
abbrev pub StaysSame : Option Entry → Option Entry → Type 0
StaysSame (Some a) (Some b) = a ≡ b
StaysSame was now = Unit {0}

-- a row once it was changed as the entry at a place was
pub record IsChanged (r : NetRing) (old new : List ℕ) (was now : Option Entry) : Type 0 where
  pub len : length new ≡ length old
  pub sums : (k : ℕ) → k < length old → get_or new k 0 + rate_of r k was ≡ get_or old k 0 + rate_of r k now

-- what always holds of a ring that is looked at: what its quanta carry stands in a row; and if nothing was placed since
-- it was last looked at, none of them carries more than the peak
pub record IsScene (r : NetRing) (w : WorldState) (p : Peak) (row : List ℕ) (risen : Bool) : Type 0 where
  pub ring : r ≡ w.ring
  pub world : IsWorld w
  pub carried : IsRow w row
  pub seen : risen ≡ false → IsUnder row p.sum
  pub few : p.sum ≤ w.ring.capacity
