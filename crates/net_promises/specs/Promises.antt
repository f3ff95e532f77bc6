-- What a user may rely on of the run of a plan.
use Rattle.std.specs.Prelude.{◌≡◌, ℕ, ◌+◌, ◌/◌, ◌<◌, ◌≤◌, List, [], ◌∷◌, ◌++◌, map, take, codes}
use Rattle.std.specs.Fmt.{decimal}
use Rattle.std.specs.List.{flat_map}
use Rattle.net_schedule.specs.declared.ring.NetRing.{NetRing}
use Rattle.net_schedule.specs.declared.ring.Entry.{Entry}
use Rattle.net_schedule.specs.declared.ring.Own.{Own}
use Rattle.net_schedule.specs.Rings.{quanta_in}
use Rattle.net_schedule.specs.Worlds.{WorldState}
use Rattle.net_schedule.specs.Settled.{history}
use Rattle.net_schedule.specs.Claims.{ring_sum}
use Rattle.net_read.specs.Plans.{NetSaid}
use Rattle.net_run.specs.Runs.{run_of, entry_of}
use Rattle.net_run.specs.Text.{net_text, state_text, peak_line}
use Rattle.net_run.specs.declared.peak.Peak.{Peak}

-- the ring at the end of a plan's run, and once the first n of its events were done
abbrev pub ring_at_end : NetSaid → WorldState
ring_at_end p = (run_of p).scene.world

abbrev pub ring_after : NetSaid → ℕ → WorldState
ring_after p n = (history p.ring (take n (ring_at_end p).events)).world

-- at no moment of the run do the placed rates sum to more than the capacity in a quantum
abbrev pub NeverExceeds : NetSaid → Type 0
NeverExceeds p = (n k : ℕ) → k < quanta_in p.ring → ring_sum (ring_after p n) k ≤ p.ring.capacity

-- the printed peak
abbrev pub peak_in : NetSaid → Peak
peak_in p = (run_of p).scene.peak

-- what a plan asks for, in order
abbrev pub asked_in : NetSaid → List Entry
asked_in p = flat_map entry_of p.orders

-- they have the numbers from one on
abbrev pub AreNumberedFrom : ℕ → List Entry → Type 0
AreNumberedFrom n [] = Unit {0}
AreNumberedFrom n (e ∷ es) = (e.instance.0 ≡ n) × AreNumberedFrom (n + 1) es

-- the line of an entry: its number, the cub of its quantum, that quantum, its rate, and how it stands
abbrev pub line_for : NetRing → Own → List ℕ
line_for r o =
    codes "entry " ++ decimal o.entry.instance.0 ++ codes " cub " ++ decimal (o.entry.at / r.quanta)
    ++ codes " at " ++ decimal o.entry.at ++ codes " rate " ++ decimal o.entry.rate ++ state_text o.state ++ codes "\n"

-- There is a line for each ask of the plan, in order, which tells how its entry stands, and then one of the peak.
pub record IsPrintedOf (p : NetSaid) (printed : List Own) : Type 0 where
  pub asks : map (λ o. o.entry) printed ≡ asked_in p
  pub numbers : AreNumberedFrom 0 (asked_in p)
  pub lines : net_text p ≡ flat_map (line_for p.ring) printed ++ peak_line (peak_in p)
