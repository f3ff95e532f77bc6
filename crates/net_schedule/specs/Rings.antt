-- The quanta of a ring: which of them an entry takes, and which cub keeps them.
use Rattle.std.specs.Prelude.{ℕ, ◌+◌, ◌*◌, ◌-◌, ◌<◌, ◌≤◌, ◌&&◌, ◌||◌, ◌==◌, ◌%◌, not, nat_le, nat_lt, Bool, if◌then◌else◌}
use Rattle.net_schedule.specs.declared.ring.NetRing.{NetRing}
use Rattle.net_schedule.specs.declared.ring.Entry.{Entry}

-- how few cubs a ring may have, and how many
abbrev pub fewest_cubs : ℕ
fewest_cubs = 3

abbrev pub most_cubs : ℕ
most_cubs = 64

-- the quanta that a cub keeps
abbrev pub most_own : ℕ
most_own = 1000

abbrev pub most_quanta : ℕ
most_quanta = most_cubs * most_own

-- what the rates in a quantum may sum to
abbrev pub most_capacity : ℕ
most_capacity = 1000000 * 1000000

-- the numbers of a ring lie in their ranges
pub record IsRing (r : NetRing) : Type 0 where
  pub some_cubs : fewest_cubs ≤ r.cubs
  pub few_cubs : r.cubs ≤ most_cubs
  pub some_quanta : 1 ≤ r.quanta
  pub few_quanta : r.quanta ≤ most_own
  pub some : 1 ≤ r.capacity
  pub few : r.capacity ≤ most_capacity

abbrev pub quanta_in : NetRing → ℕ
quanta_in r = r.cubs * r.quanta

-- an entry takes as many quanta as a cub keeps, from that at which it begins, and round the ring
abbrev pub takes : NetRing → ℕ → ℕ → Bool
takes r at k =
    (nat_le at k && nat_lt k (at + r.quanta)) || nat_lt (k + quanta_in r) (at + r.quanta)

-- it reaches into the successor's quanta unless it begins at the cub's first one
abbrev pub reaches : NetRing → ℕ → Bool
reaches r at = not (at % r.quanta == 0)

-- a quantum is one of cub c's
abbrev pub IsOwnQuantum : NetRing → ℕ → ℕ → Type 0
IsOwnQuantum r c k = (c * r.quanta ≤ k) × (k < c * r.quanta + r.quanta)

-- the successor of a cub
abbrev pub next_of : NetRing → ℕ → ℕ
next_of r c = if c + 1 == r.cubs then 0 else c + 1

-- the predecessor of a cub
abbrev pub before : NetRing → ℕ → ℕ
before r c = if c == 0 then r.cubs - 1 else c - 1

-- an entry may be asked of cub c: it begins at one of the cub's quanta, and its rate is possible
pub record IsEntryOf (r : NetRing) (c : ℕ) (e : Entry) : Type 0 where
  pub at : IsOwnQuantum r c e.at
  pub some : 1 ≤ e.rate
  pub few : e.rate ≤ r.capacity
