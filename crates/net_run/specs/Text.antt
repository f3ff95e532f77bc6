-- The lines that a run writes: each ends with one line feed, and numbers are decimal.
use Rattle.std.specs.Prelude.{ℕ, List, ◌++◌, ◌/◌, codes}
use Rattle.std.specs.Fmt.{decimal}
use Rattle.std.specs.List.{flat_map}
use Rattle.net_schedule.specs.declared.ring.NetRing.{NetRing}
use Rattle.net_schedule.specs.declared.ring.NetState.{NetState}
use Rattle.net_schedule.specs.declared.ring.NetState.TheVariants as state
use Rattle.net_schedule.specs.declared.ring.Own.{Own}
use Rattle.net_read.specs.Plans.{NetSaid}
use Rattle.net_run.specs.declared.peak.Peak.{Peak}
use Rattle.net_run.specs.Runs.{run_of, standings}

-- a word or words, and a number
abbrev pub worded : List ℕ → ℕ → List ℕ
worded words n = words ++ decimal n

-- how an entry stands; if it does not fit, the quantum that could not carry it and what that carried
abbrev pub state_text : NetState → List ℕ
state_text state.Placed = codes " placed"
state_text state.Waiting = codes " waiting"
state_text state.Stopped = codes " stopped"
state_text (state.Full quantum sum) = worded (codes " full ") quantum ++ worded (codes " sum ") sum
state_text (state.Refused quantum sum) = worded (codes " refused ") quantum ++ worded (codes " sum ") sum

-- the line of an ask: its number, the cub that keeps its quantum, that quantum, its rate, and how it stands
unfoldable pub entry_line : NetRing → Own → List ℕ
entry_line r o =
    worded (codes "entry ") o.entry.instance.0 ++ worded (codes " cub ") (o.entry.at / r.quanta)
    ++ worded (codes " at ") o.entry.at ++ worded (codes " rate ") o.entry.rate ++ state_text o.state ++ codes "\n"

-- the last line
unfoldable pub peak_line : Peak → List ℕ
peak_line p = worded (codes "peak ") p.sum ++ worded (codes " at ") p.quantum ++ codes "\n"

-- the lines of all asks, and the peak
unfoldable pub lines_of : NetRing → List Own → Peak → List ℕ
lines_of r entries peak = flat_map (entry_line r) entries ++ peak_line peak

-- what the run of a plan writes
abbrev pub net_text : NetSaid → List ℕ
net_text p = lines_of p.ring (standings p.orders (run_of p).scene.world) (run_of p).scene.peak
