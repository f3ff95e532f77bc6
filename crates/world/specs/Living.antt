-- What an event is to its node, but for the marks that the machine keeps of it.
use Rattle.std.specs.Prelude.{◌≡◌, ℕ, suc, Bool, true, false, List, ◌++◌, Option, Some, None, if◌then◌else◌}
use Rattle.tiger_base.specs.declared.number.Stamp.{Stamp}
use Rattle.tiger_base.specs.declared.message.Note.{Note}
use Rattle.slot_plan.specs.declared.params.Params.{Params}
use Rattle.node_kit.specs.declared.journal.Entry.{Entry}
use Rattle.node_kit.specs.declared.outbox.Out.{Out}
use Rattle.node_kit.specs.Life.{Lifetime}
use Rattle.node_kit.specs.Links.{links_of, link_count, IsInLink}
use Rattle.node_kit.specs.Outputs.{cut_at, with_death}
use Rattle.node_kit.specs.Steps.{Input, Deed, stamp_of, entries_of}
use Rattle.run_facts.specs.Events.{NodeEvent, after_death, outs_of, stamp_at}
use Rattle.ring_world.specs.Machine.{Being, Way, lived}
use Rattle.world.specs.Posting.{posted}

-- A node stands in a ring that has so many links.
pub record StandsIn {S : Type 0} (stands : S → Params → ℕ → Type 0) (links : ℕ) (s : S) : Type 0 where
  pub params : Params
  pub number : ℕ
  pub here : stands s params number
  pub all : link_count (links_of params) ≡ links

-- And a link leads to it there.
pub record StandsAt {S : Type 0} (stands : S → Params → ℕ → Type 0) (links link : ℕ) (s : S) : Type 0 where
  pub place : StandsIn stands links s
  pub leads : IsInLink place.params place.number link

-- What is left of an event's outputs, if the node dies in it when so many messages went out, or does not.
abbrev pub left_by : {M : Type 0} → Option ℕ → List (Out M) → List (Out M)
left_by None outs = outs
left_by (Some sends) outs = with_death (cut_at sends outs)

-- The life of a node to which no death is set, whose death came in the middle of an event or did not.
abbrev pub unending : Bool → Lifetime
unending cut = record { death = None; left = None; back = None; over = cut }

-- A node did its step, of whose messages so many went out if it died in it: this is its state, what it wrote, and what
-- became of the links; it stands wherever it stood.
pub record HasDone {M S : Type 0} (note : M → Note) (step : S → Input M → Deed M S) (stands : S → Params → ℕ → Type 0)
    (i : Input M) (sends : Option ℕ) (old new : S) (wrote : List Entry) (before after : List (Way M)) : Type 0 where
  pub state : new ≡ (step old i).state
  pub journal : wrote ≡ entries_of note i (left_by sends (step old i).outs)
  pub ways : after ≡ posted (stamp_of i).beat (left_by sends (step old i).outs) before
  pub stays : (p : Params) (n : ℕ) → stands old p n → stands new p n

-- A node of the machine did its step, and what is known of its last event is of this one.
pub record HasLived {M S : Type 0} (note : M → Note) (step : S → Input M → Deed M S) (stands : S → Params → ℕ → Type 0)
    (x : NodeEvent M) (old new : Being S) (before after : List (Way M)) : Type 0 where
  pub being : new ≡ lived note step x old
  pub ways : after ≡ posted (stamp_at x).beat (outs_of step x old.past) before
  pub stays : (p : Params) (n : ℕ) → stands old.past.state p n → stands new.past.state p n

-- A node whose journal has these entries more, of an event then, in which it died or did not.
abbrev pub marked : {S : Type 0} → Stamp → List Entry → Bool → Being S → Being S
marked stamp wrote dies b = record {
  past = record {
    state = b.past.state;
    life = if dies then record b.past.life { over = true } else b.past.life;
    journal = b.past.journal ++ wrote;
  };
  ticked = b.ticked;
  acted = suc stamp.beat;
  reading = stamp.reading;
  dead = if dies then true else b.dead;
  died = if dies then Some stamp.beat else b.died;
  returned = b.returned;
}

-- A node that wrote that it died, and is dead.
abbrev pub died : {S : Type 0} → Stamp → Being S → Being S
died stamp b = record {
  past = after_death stamp b.past;
  ticked = b.ticked;
  acted = suc stamp.beat;
  reading = stamp.reading;
  dead = true;
  died = Some stamp.beat;
  returned = b.returned;
}

-- A node that has returned.
abbrev pub returned : {S : Type 0} → Stamp → Being S → Being S
returned stamp b = record {
  past = b.past;
  ticked = stamp.beat;
  acted = suc stamp.beat;
  reading = stamp.reading;
  dead = false;
  died = b.died;
  returned = true;
}
