-- Plans for the worked rows: a ring of three cubs with four quanta each, and a capacity of ten.
use Rattle.std.specs.Prelude.{ℕ, List, [], ◌∷◌, Option, None, length}
use Rattle.net_schedule.specs.declared.ring.NetState.{NetState}
use Rattle.net_schedule.specs.declared.ring.NetState.TheVariants as state
use Rattle.net_schedule.specs.declared.ring.Own.{Own}
use Rattle.net_schedule.specs.Samples.{four, viewer, entry}
use Rattle.net_read.specs.declared.plan.NetOrder.{NetOrder}
use Rattle.net_read.specs.declared.plan.NetOrder.TheVariants as order
use Rattle.net_read.specs.Plans.{NetSaid}
use Rattle.net_run.specs.declared.peak.Peak.{Peak}
use Rattle.net_run.specs.Runs.{Running, begun, happened, ordered, run_of, standings}
use Rattle.net_run.specs.Shortened.{renewed_by}

abbrev pub ask_in : ℕ → ℕ → ℕ → ℕ → NetOrder
ask_in step v at rate = order.Ask step (entry v at rate)

abbrev pub stop_in : ℕ → ℕ → NetOrder
stop_in step v = order.Stop step (viewer v)

-- five steps of it
abbrev pub five_steps : Option ℕ → List NetOrder → NetSaid
five_steps renew orders = record { ring = four; steps = 5; seed = None; renew = renew; orders = orders }

abbrev pub peak : ℕ → ℕ → Peak
peak sum quantum = record { sum = sum; quantum = quantum }

abbrev pub own : ℕ → ℕ → ℕ → NetState → Own
own v at rate x = record { entry = entry v at rate; state = x }

abbrev pub placed : NetState
placed = state.Placed

abbrev pub waiting : NetState
waiting = state.Waiting

abbrev pub stopped : NetState
stopped = state.Stopped

abbrev pub full : ℕ → ℕ → NetState
full quantum sum = state.Full quantum sum

abbrev pub refused : ℕ → ℕ → NetState
refused quantum sum = state.Refused quantum sum

-- how the entries of a plan stand at the end, and the peak
abbrev pub told_of : NetSaid → List Own
told_of p = standings p.orders (run_of p).scene.world

abbrev pub peak_of : NetSaid → Peak
peak_of p = (run_of p).scene.peak

-- an entry fills a quantum for another one, but not for a third
abbrev pub filled : NetSaid
filled = five_steps None (ask_in 0 0 2 6 ∷ ask_in 2 1 5 5 ∷ ask_in 2 2 6 5 ∷ [])

-- an entry is placed before another cub asks for its quantum
abbrev pub overtaken : NetSaid
overtaken = five_steps None (ask_in 0 0 4 8 ∷ ask_in 0 1 2 3 ∷ [])

-- an entry is stopped, and another one takes its quanta
abbrev pub freed : NetSaid
freed = five_steps None (ask_in 0 0 2 6 ∷ stop_in 3 0 ∷ ask_in 4 1 5 5 ∷ [])

-- one packet is under way: the Reserve of an entry that cub 0 was asked for
abbrev pub asked : Running
asked = happened (begun (five_steps None [])) (ordered (ask_in 0 0 2 6 ∷ []) 0)

-- how many are under way once cub 0 renewed, while so many steps are left
abbrev pub out_after : ℕ → ℕ
out_after left = length (renewed_by left asked 0).out
