-- A ring of nodes as a machine: what it keeps of each node and of each link, and what an event makes of them.
use Rattle.std.specs.Prelude.{ℕ, zero, suc, ◌+◌, ◌==◌, nat_lt, nat_le, Bool, false, ◌&&◌, ◌||◌, List, [], ◌∷◌, ◌++◌}
use Rattle.std.specs.Prelude.{map, filter, length, Option, Some, None, option_map, option_and_then, slice_get}
use Rattle.std.specs.Prelude.{if◌then◌else◌}
use Rattle.tiger_base.specs.declared.message.Note.{Note}
use Rattle.tiger_base.specs.declared.number.Stamp.{Stamp}
use Rattle.slot_plan.specs.declared.params.Params.{Params}
use Rattle.node_kit.specs.declared.journal.Entry.{Entry}
use Rattle.node_kit.specs.Life.{Lifetime, mortal}
use Rattle.node_kit.specs.Links.{links_of, ends_of, link_count, leads_to}
use Rattle.node_kit.specs.Steps.{Input, Deed}
use Rattle.node_kit.specs.Steps.Input.{Take, Tick}
use Rattle.run_facts.specs.Events.{NodeEvent, Past, Dated, opening, after, behind, outs_of, stamp_at, is_death}
use Rattle.run_facts.specs.Events.{is_return, is_take_on, sends_of}
use Rattle.run_facts.specs.Events.NodeEvent.{Does, Ends, Dies, Returns}
use Rattle.ring_world.specs.declared.event.Act.{Act}
use Rattle.ring_world.specs.declared.event.Act.TheVariants as act
use Rattle.ring_world.specs.declared.event.Last.{Last}
use Rattle.ring_world.specs.declared.event.Last.TheVariants as last
use Rattle.ring_world.specs.declared.event.Event.{Event}

-- A node: what it has lived through, the beat that is open to it, which is one more than that of its last tick or 0
-- before the first, or that of a return behind it; one more than the beat of its last event or 0 before the first, the
-- reading of that event, whether it is dead, the beat in which it died if it ever did, and whether it has returned.
pub record Being (S : Type 0) : Type 0 where
  pub past : Past S
  pub ticked : ℕ
  pub acted : ℕ
  pub reading : ℕ
  pub dead : Bool
  pub died : Option ℕ
  pub returned : Bool

-- a link: how many messages are gone from it, taken or lost, and those under way, the oldest first, each with the beat
-- in which it was sent
pub record Way (M : Type 0) : Type 0 where
  pub gone : ℕ
  pub under_way : List (Dated M)

-- the beat of the last event, the nodes and the links by number, and the events that happened, the oldest first
pub record Machine (M S : Type 0) : Type 0 where
  pub beat : ℕ
  pub beings : List (Being S)
  pub ways : List (Way M)
  pub events : List Event

-- the journals of the machine's nodes, and their states
abbrev pub journals_of : {M S : Type 0} → Machine M S → List (List Entry)
journals_of m = map (λ b. b.past.journal) m.beings

abbrev pub states_of : {M S : Type 0} → Machine M S → List S
states_of m = map (λ b. b.past.state) m.beings

-- the life of each node: no death is set, since a death is an event
abbrev pub undying : Lifetime
undying = mortal None

-- a node to which nothing has happened
abbrev pub being : {S : Type 0} → S → Being S
being s = record {
  past = opening s undying;
  ticked = 0;
  acted = 0;
  reading = 0;
  dead = false;
  died = None;
  returned = false;
}

-- so many links on which nothing was sent
abbrev pub empty_ways : {M : Type 0} → ℕ → List (Way M)
empty_ways zero = []
empty_ways (suc k) = (record { gone = 0; under_way = [] }) ∷ empty_ways k

-- the machine of these nodes before the first event
abbrev pub opening_machine : {M S : Type 0} → Params → List S → Machine M S
opening_machine p given =
    record { beat = 0; beings = map being given; ways = empty_ways (link_count (links_of p)); events = [] }

-- a list with each element changed by its number; the first has this number
abbrev pub each_at : {X : Type 0} → (ℕ → X → X) → ℕ → List X → List X
each_at f i [] = []
each_at f i (x ∷ xs) = f i x ∷ each_at f (suc i) xs

-- the node to which an event happens
abbrev pub receiver : Option (ℕ × ℕ) → ℕ
receiver None = 0
receiver (Some ends) = ends.1

abbrev pub node_of_last : Params → Last → ℕ
node_of_last p (last.Get link number) = receiver (ends_of (links_of p) link.0)
node_of_last p (last.Tick node) = node.0

abbrev pub node_of : Params → Act → ℕ
node_of p (act.Get link number) = receiver (ends_of (links_of p) link.0)
node_of p (act.Tick node) = node.0
node_of p (act.Die cub) = cub.0
node_of p (act.DieIn final sends) = node_of_last p final
node_of p (act.Return cub) = cub.0

abbrev pub first_in : {X : Type 0} → List X → Option X
first_in [] = None
first_in (x ∷ xs) = Some x

abbrev pub rest_of : {X : Type 0} → List X → List X
rest_of [] = []
rest_of (x ∷ xs) = xs

-- the oldest message under way on a link
abbrev pub oldest : {M : Type 0} → List (Way M) → ℕ → Option (Dated M)
oldest ways l = option_and_then (λ w. first_in w.under_way) (slice_get ways l)

-- what an event is to its node: with a message that is taken, there is none if none is under way
abbrev pub last_event : {M : Type 0} → List (Way M) → Stamp → ℕ → Last → Option (NodeEvent M)
last_event ways stamp sends (last.Get link number) =
    option_map (λ d. Ends (Take stamp link d.item) sends) (oldest ways link.0)
last_event ways stamp sends (last.Tick node) = Some (Ends (Tick stamp) sends)

abbrev pub node_event : {M : Type 0} → List (Way M) → Stamp → Act → Option (NodeEvent M)
node_event ways stamp (act.Get link number) = option_map (λ d. Does (Take stamp link d.item)) (oldest ways link.0)
node_event ways stamp (act.Tick node) = Some (Does (Tick stamp))
node_event ways stamp (act.Die cub) = Some (Dies stamp)
node_event ways stamp (act.DieIn final sends) = last_event ways stamp sends final
node_event ways stamp (act.Return cub) = Some (Returns stamp)

-- the node after an event of its own
abbrev pub lived : {M S : Type 0} → (M → Note) → (S → Input M → Deed M S) → NodeEvent M → Being S → Being S
lived note step x b = record {
  past = after note step x b.past;
  ticked = behind x b.ticked;
  acted = suc (stamp_at x).beat;
  reading = (stamp_at x).reading;
  dead = if is_return x then false else (b.dead || is_death x);
  died = if is_death x then Some (stamp_at x).beat else b.died;
  returned = b.returned || is_return x;
}

-- a link when its receiver returns in a beat: what was sent in lower beats is lost
abbrev pub dropped : {M : Type 0} → ℕ → Way M → Way M
dropped beat w = record {
  gone = w.gone + length (filter (λ d. nat_lt d.beat beat) w.under_way);
  under_way = filter (λ d. nat_le beat d.beat) w.under_way;
}

-- link l when an event of node n comes: what is lost, if the node returns and the link leads to it
abbrev pub lost_on : {M : Type 0} → Params → ℕ → NodeEvent M → ℕ → Way M → Way M
lost_on p n x l w = if is_return x && leads_to n (ends_of (links_of p) l) then dropped (stamp_at x).beat w else w

-- link l after an event of a node: a message that it took is no longer under way, and what it put out there is
abbrev pub gone_on : {M S : Type 0} → (S → Input M → Deed M S) → NodeEvent M → Past S → ℕ → Way M → Way M
gone_on step x past l w = record {
  gone = if is_take_on l x then suc w.gone else w.gone;
  under_way =
      (if is_take_on l x then rest_of w.under_way else w.under_way) ++ sends_of l (stamp_at x).beat (outs_of step x past);
}

-- the machine after an event, which is this one to node n, that has lived through this
abbrev pub moved : {M S : Type 0} → (M → Note) → (S → Input M → Deed M S) → Params
    → Machine M S → Event → ℕ → NodeEvent M → Past S → Machine M S
moved note step p m e n x past = record {
  beat = e.stamp.beat;
  beings = each_at (λ k b. if k == n then lived note step x b else b) 0 m.beings;
  ways = each_at (λ l w. gone_on step x past l (lost_on p n x l w)) 0 m.ways;
  events = m.events ++ e ∷ [];
}

abbrev pub happened : {M S : Type 0} → (M → Note) → (S → Input M → Deed M S) → Params
    → Machine M S → Event → ℕ → Option (NodeEvent M) → Option (Being S) → Machine M S
happened note step p m e n None b = m
happened note step p m e n (Some x) None = m
happened note step p m e n (Some x) (Some b) = moved note step p m e n x b.past

-- the machine after an event
abbrev pub happens : {M S : Type 0} → (M → Note) → (S → Input M → Deed M S) → Params → Machine M S → Event → Machine M S
happens note step p m e =
    happened note step p m e (node_of p e.act) (node_event m.ways e.stamp e.act) (slice_get m.beings (node_of p e.act))
