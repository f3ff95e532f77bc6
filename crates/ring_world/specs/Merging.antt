-- The events of a ring's nodes in one list, as the machine is told them.
use Rattle.std.specs.Prelude.{◌≡◌, ℕ, ◌<◌, ◌==◌, List, [], ◌∷◌, ◌++◌, map, filter, if◌then◌else◌}
use Rattle.std.specs.List.{AllByRecursion}
use Rattle.node_kit.specs.Rows.{each_below}
use Rattle.node_kit.specs.Steps.{Input}
use Rattle.node_kit.specs.Steps.Input.{Take, Tick}
use Rattle.run_facts.specs.Accounts.{Rising}
use Rattle.run_facts.specs.Events.{NodeEvent, stamp_at}
use Rattle.run_facts.specs.Events.NodeEvent.{Does, Ends, Dies, Returns}
use Rattle.run_facts.specs.Histories.{History, place_behind}
use Rattle.ring_world.specs.declared.event.Act.{Act}
use Rattle.ring_world.specs.declared.event.Act.TheVariants as act
use Rattle.ring_world.specs.declared.event.Last.{Last}
use Rattle.ring_world.specs.declared.event.Last.TheVariants as last
use Rattle.ring_world.specs.declared.event.Event.{Event}

-- an event of a node, and the node
pub record Happening (M : Type 0) : Type 0 where
  pub node : ℕ
  pub event : NodeEvent M

abbrev pub beat_at : {M : Type 0} → Happening M → ℕ
beat_at x = (stamp_at x.event).beat

-- the events of node n in a list
abbrev pub own : {M : Type 0} → ℕ → List (Happening M) → List (NodeEvent M)
own n xs = map (λ x. x.event) (filter (λ x. x.node == n) xs)

-- the events with one more of node n
abbrev pub added : {M : Type 0} → ℕ → NodeEvent M → (ℕ → List (NodeEvent M)) → ℕ → List (NodeEvent M)
added n x es k = if k == n then es k ++ x ∷ [] else es k

-- the number on link l of the message that a node takes next behind these events, if number k was next before them, and
-- so many messages were sent there below its return
abbrev pub place_along : {M : Type 0} → (l lost k : ℕ) → List (NodeEvent M) → ℕ
place_along l lost k [] = k
place_along l lost k (e ∷ es) = place_along l lost (place_behind l lost e k) es

-- what a step of node n is called if these happened to the node before, and on each link so many messages were sent
-- below the return of its receiver: a message has as its number how many are gone on its link
abbrev pub act_by : {M : Type 0} → (ℕ → ℕ) → List (NodeEvent M) → ℕ → Input M → Act
act_by lost es n (Take stamp link msg) = act.Get link (place_along link.0 (lost link.0) 0 es)
act_by lost es n (Tick stamp) = act.Tick (record { 0 = n })

-- and one in which its death comes
abbrev pub last_by : {M : Type 0} → (ℕ → ℕ) → List (NodeEvent M) → ℕ → Input M → Last
last_by lost es n (Take stamp link msg) = last.Get link (place_along link.0 (lost link.0) 0 es)
last_by lost es n (Tick stamp) = last.Tick (record { 0 = n })

-- what an event is called
abbrev pub act_of : {M : Type 0} → (ℕ → ℕ) → List (NodeEvent M) → ℕ → NodeEvent M → Act
act_of lost es n (Does input) = act_by lost es n input
act_of lost es n (Ends input sends) = act.DieIn (last_by lost es n input) sends
act_of lost es n (Dies stamp) = act.Die (record { 0 = n })
act_of lost es n (Returns stamp) = act.Return (record { 0 = n })

abbrev pub told_as : {M : Type 0} → (ℕ → ℕ) → List (NodeEvent M) → Happening M → Event
told_as lost es x = record { stamp = stamp_at x.event; act = act_of lost es x.node x.event }

-- the list as the machine is told it, if these happened to each node before
abbrev pub told_from : {M : Type 0} → (ℕ → ℕ) → (ℕ → List (NodeEvent M)) → List (Happening M) → List Event
told_from lost es [] = []
told_from lost es (x ∷ xs) = told_as lost (es x.node) x ∷ told_from lost (added x.node x.event es) xs

-- A list of events is the events of a history's nodes in one list: each node's in their order, all of
-- them and no others, and their beats never fall.
pub record IsMerged {M S : Type 0} (h : History M S) (nodes : ℕ) (events : List Event) : Type 0 where
  pub merged : List (Happening M)
  pub told : events ≡ told_from h.before (λ _. []) merged
  pub of_nodes : AllByRecursion (λ x. x.node < nodes) merged
  pub rising : Rising beat_at merged
  pub each : (n : ℕ) → n < nodes → own n merged ≡ each_below (h.event n) (h.count n)
