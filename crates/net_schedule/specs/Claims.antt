-- What is claimed of a ring at every moment, whatever the network did.
use Rattle.std.specs.Prelude.{◌≡◌, ℕ, ◌<◌, ◌≤◌, ◌&&◌, List, flat_map, sum_by, find, Some, if◌then◌else◌}
use Rattle.std.specs.List.{AllByRecursion}
use Rattle.net_schedule.specs.declared.ring.NetRing.{NetRing}
use Rattle.net_schedule.specs.declared.ring.Own.{Own}
use Rattle.net_schedule.specs.Rings.{takes, quanta_in, before}
use Rattle.net_schedule.specs.Cubs.{is_placed, is_of}
use Rattle.net_schedule.specs.Worlds.{WorldState, cub_at}

-- what an entry takes of a quantum, if it is placed
abbrev pub placed_rate : NetRing → ℕ → Own → ℕ
placed_rate r k o = if is_placed o.state && takes r o.entry.at k then o.entry.rate else 0

-- all entries that were asked for anywhere in the ring
abbrev pub all_own : WorldState → List Own
all_own w = flat_map (λ s. s.own) w.cubs

-- what all placed entries of the ring take of a quantum
abbrev pub ring_sum : WorldState → ℕ → ℕ
ring_sum w k = sum_by (placed_rate w.ring k) (all_own w)

-- no quantum carries more than the capacity
abbrev pub KeepsToCapacity : WorldState → Type 0
KeepsToCapacity w = (k : ℕ) → k < quanta_in w.ring → ring_sum w k ≤ w.ring.capacity

-- each entry that a cub keeps quanta for was asked for at its predecessor, with that quantum and rate
abbrev pub KeepsWhatIsAsked : WorldState → Type 0
KeepsWhatIsAsked w = (c : ℕ) → c < w.ring.cubs
    → AllByRecursion (λ e. (o : Own) × (find (is_of e.instance) (cub_at w (before w.ring c)).own ≡ Some o) × (o.entry ≡ e))
    (cub_at w c).kept
