-- Small histories in which nodes die, of which the worked rows speak.
use Rattle.std.specs.Prelude.{ℕ, zero, suc, ◌==◌, ◌||◌, if◌then◌else◌}
use Rattle.node_kit.specs.Steps.Input.{Tick}
use Rattle.run_facts.specs.Events.{NodeEvent}
use Rattle.run_facts.specs.Events.NodeEvent.{Dies, Ends, Returns}
use Rattle.run_facts.specs.Histories.{History}
use Rattle.run_facts.specs.Samples.{with_events, take}

-- a death in a beat
abbrev pub death : ℕ → NodeEvent ℕ
death beat = Dies (record { beat = beat; reading = 0 })

-- these two nodes die in beat 0, and nothing else happens
abbrev pub two_die : ℕ → ℕ → History ℕ ℕ
two_die a b = with_events (λ n. if n == a || n == b then 1 else 0) (λ n i. death 0)

-- the second event of a node is its death in this beat, and the first is a take in beat 1
abbrev take_then : ℕ → ℕ → NodeEvent ℕ
take_then beat zero = take 0
take_then beat (suc i) = death beat

-- node 3 takes a message in beat 1, and dies in this beat
abbrev pub takes_and_dies : ℕ → History ℕ ℕ
takes_and_dies beat = with_events (λ n. if n == 3 then 2 else 0) (λ n i. take_then beat i)

-- the second event of a node is its tick in beat 1, in which its death comes, and the first is a take in that beat
abbrev take_then_cut : ℕ → NodeEvent ℕ
take_then_cut zero = take 0
take_then_cut (suc i) = Ends (Tick (record { beat = 1; reading = 0 })) 0

-- node 3 takes a message in beat 1, and its death comes in the tick of that beat
abbrev pub takes_and_ends : History ℕ ℕ
takes_and_ends = with_events (λ n. if n == 3 then 2 else 0) (λ n i. take_then_cut i)

-- the first event of a node is its death in beat 1, and the second its return in beat 3
abbrev death_then : ℕ → NodeEvent ℕ
death_then zero = death 1
death_then (suc i) = Returns (record { beat = 3; reading = 0 })

-- node 3 dies in beat 1 and returns in beat 3, and nothing else happens
abbrev pub dies_and_returns : History ℕ ℕ
dies_and_returns = with_events (λ n. if n == 3 then 2 else 0) (λ n i. death_then i)
