-- What an event needs of a machine's nodes and links, and what it makes of them.
use Rattle.std.specs.Prelude.{◌≡◌, ℕ, ◌≤◌, ◌==◌, false, List, length, map, Option, Some, slice_get, if◌then◌else◌}
use Rattle.tiger_base.specs.Limits.{most_beats, most_reading}
use Rattle.tiger_base.specs.declared.message.Note.{Note}
use Rattle.tiger_base.specs.declared.number.LinkNo.{LinkNo}
use Rattle.tiger_base.specs.declared.number.Stamp.{Stamp}
use Rattle.slot_plan.specs.declared.params.Params.{Params}
use Rattle.node_kit.specs.declared.journal.Entry.{Entry}
use Rattle.node_kit.specs.Links.{IsInLink}
use Rattle.node_kit.specs.Steps.{Input, Deed}
use Rattle.node_kit.specs.Steps.Input.{Take}
use Rattle.run_facts.specs.Events.{NodeEvent, Dated, event_to, stamp_at, is_return}
use Rattle.ring_world.specs.declared.event.Act.{Act}
use Rattle.ring_world.specs.declared.event.Act.TheVariants as act
use Rattle.ring_world.specs.declared.event.Last.{Last}
use Rattle.ring_world.specs.declared.event.Last.TheVariants as last
use Rattle.ring_world.specs.declared.event.Event.{Event}
use Rattle.ring_world.specs.Machine.{Being, Way, each_at, lived, lost_on, gone_on, last_event, node_event, oldest}
use Rattle.world.specs.Living.{StandsIn}
use Rattle.world.specs.Posting.{AreInOrder}

-- The journals of nodes.
abbrev pub journals_in : {S : Type 0} → List (Being S) → List (List Entry)
journals_in beings = map (λ b. b.past.journal) beings

-- There is a link of this number.
pub record HasLink {M : Type 0} (ways : List (Way M)) (l : ℕ) : Type 0 where
  pub way : Way M
  pub here : slice_get ways l ≡ Some way

-- A link on which node n takes a message leads to it.
abbrev pub CanTakeLast : {M : Type 0} → Params → ℕ → List (Way M) → Last → Type 0
CanTakeLast p n ways (last.Get link number) = IsInLink p n link.0 × HasLink ways link.0
CanTakeLast p n ways (last.Tick node) = Unit {0}

abbrev pub CanTake : {M : Type 0} → Params → ℕ → List (Way M) → Act → Type 0
CanTake p n ways (act.Get link number) = IsInLink p n link.0 × HasLink ways link.0
CanTake p n ways (act.Tick node) = Unit {0}
CanTake p n ways (act.Die cub) = Unit {0}
CanTake p n ways (act.DieIn final sends) = CanTakeLast p n ways final
CanTake p n ways (act.Return cub) = Unit {0}

-- An event can be done by a node.
pub record IsReadyFor {M S : Type 0} (stands : S → Params → ℕ → Type 0) (e : Event) (b : Being S)
    (ways : List (Way M)) : Type 0 where
  pub beat : e.stamp.beat ≤ most_beats
  pub reading : e.stamp.reading ≤ most_reading
  pub ticked : b.ticked ≤ e.stamp.beat
  pub place : StandsIn stands (length ways) b.past.state
  pub takes : CanTake place.params place.number ways e.act
  pub few : length ways ≤ 4000
  pub order : AreInOrder ways

-- And that is the node of a number.
pub record IsReady {M S : Type 0} (stands : S → Params → ℕ → Type 0) (n : ℕ) (e : Event) (beings : List (Being S))
    (ways : List (Way M)) : Type 0 where
  pub before : Being S
  pub here : slice_get beings n ≡ Some before
  pub ready : IsReadyFor stands e before ways

-- An event in which a node dies can be done by it.
pub record CanEnd {M S : Type 0} (stands : S → Params → ℕ → Type 0) (stamp : Stamp) (final : Last) (b : Being S)
    (ways : List (Way M)) : Type 0 where
  pub beat : stamp.beat ≤ most_beats
  pub reading : stamp.reading ≤ most_reading
  pub ticked : b.ticked ≤ stamp.beat
  pub place : StandsIn stands (length ways) b.past.state
  pub takes : CanTakeLast place.params place.number ways final

-- A node lived through an event, and what the event takes from each link and puts on it is taken and put.
pub record HasLivedThrough {M S : Type 0} (note : M → Note) (step : S → Input M → Deed M S)
    (stands : S → Params → ℕ → Type 0) (x : NodeEvent M) (old new : Being S) (before after : List (Way M)) : Type 0 where
  pub being : new ≡ lived note step x old
  pub ways : after ≡ each_at (gone_on step x old.past) 0 before
  pub stays : (p : Params) (k : ℕ) → stands old.past.state p k → stands new.past.state p k

-- It took the oldest message of a link, and died in that when so many messages had gone out, or did not.
pub record HasTaken {M S : Type 0} (note : M → Note) (step : S → Input M → Deed M S) (stands : S → Params → ℕ → Type 0)
    (stamp : Stamp) (link : LinkNo) (sends : Option ℕ) (old new : Being S) (before after : List (Way M)) : Type 0 where
  pub first : Dated M
  pub here : oldest before link.0 ≡ Some first
  pub through : HasLivedThrough note step stands (event_to (Take stamp link first.item) sends) old new before after

-- It lived through an event in which it died.
pub record HasEndedIn {M S : Type 0} (note : M → Note) (step : S → Input M → Deed M S) (stands : S → Params → ℕ → Type 0)
    (stamp : Stamp) (final : Last) (sends : ℕ) (old new : Being S) (before after : List (Way M)) : Type 0 where
  pub event : NodeEvent M
  pub told : last_event before stamp sends final ≡ Some event
  pub when : stamp_at event ≡ stamp
  pub whole : is_return event ≡ false
  pub through : HasLivedThrough note step stands event old new before after

-- A node of number n lived through an event, and what is lost, taken and put by it on each link is.
pub record HasComeThrough {M S : Type 0} (note : M → Note) (step : S → Input M → Deed M S)
    (stands : S → Params → ℕ → Type 0) (p : Params) (n : ℕ) (x : NodeEvent M) (old new : Being S)
    (before after : List (Way M)) : Type 0 where
  pub being : new ≡ lived note step x old
  pub ways : after ≡ each_at (λ l w. gone_on step x old.past l (lost_on p n x l w)) 0 before
  pub stays : (q : Params) (k : ℕ) → stands old.past.state q k → stands new.past.state q k

-- It lived through what the event is to it.
pub record HasLivedIn {M S : Type 0} (note : M → Note) (step : S → Input M → Deed M S) (stands : S → Params → ℕ → Type 0)
    (p : Params) (n : ℕ) (e : Event) (old new : Being S) (before after : List (Way M)) : Type 0 where
  pub event : NodeEvent M
  pub told : node_event before e.stamp e.act ≡ Some event
  pub when : stamp_at event ≡ e.stamp
  pub through : HasComeThrough note step stands p n event old new before after

-- The node of a number did, and all others are as they were.
pub record HasMoved {M S : Type 0} (note : M → Note) (step : S → Input M → Deed M S) (stands : S → Params → ℕ → Type 0)
    (p : Params) (n : ℕ) (e : Event) (beings beings' : List (Being S)) (ways ways' : List (Way M)) : Type 0 where
  pub old : Being S
  pub new : Being S
  pub here : slice_get beings n ≡ Some old
  pub lived_in : HasLivedIn note step stands p n e old new ways ways'
  pub nodes : beings' ≡ each_at (λ k b. if k == n then lived note step lived_in.event b else b) 0 beings
