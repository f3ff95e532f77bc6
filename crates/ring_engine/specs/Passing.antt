-- The turns in a beat of nodes that stand at places: those from a place on, one after another.
use Rattle.std.specs.Prelude.{◌≡◌, ℕ, zero, suc, ◌+◌, ◌<◌, List, length, Some, slice_get}
use Rattle.tiger_base.specs.declared.message.Note.{Note}
use Rattle.tiger_base.specs.declared.number.NodeNo.{NodeNo}
use Rattle.tiger_base.specs.declared.number.Stamp.{Stamp}
use Rattle.slot_plan.specs.declared.params.Params.{Params}
use Rattle.node_kit.specs.declared.journal.Entry.{Entry}
use Rattle.node_kit.specs.Courses.{Setting, stamp_by}
use Rattle.node_kit.specs.Life.{Lifetime}
use Rattle.node_kit.specs.Links.{Links, links_of, link_count, in_links_of, viewers_of}
use Rattle.node_kit.specs.Steps.{Input, Deed}
use Rattle.run_facts.specs.Beats.{beat_events}
use Rattle.run_facts.specs.Rings.{Traffic, Ring}
use Rattle.ring_engine.specs.Traffic.{AreOpen, collected}
use Rattle.ring_engine.specs.Turns.{Scene, scene, turn, KeepsReady}
use Rattle.ring_engine.specs.Whole.{with_node}

-- each place has a node that stands at its number, a life and a journal, and there is a channel for each link of the
-- plan, over which a message may be sent in the beat
pub record IsManned {M S : Type 0} (stands : S → Params → ℕ → Type 0) (p : Params) (numbers : List NodeNo) (b : ℕ)
    (ring : Ring M S) : Type 0 where
  pub stand : (q : ℕ) (n : NodeNo) (s : S) → slice_get numbers q ≡ Some n → slice_get ring.nodes q ≡ Some s
      → stands s p n.0
  pub nodes : length ring.nodes ≡ length numbers
  pub lives : length ring.lives ≡ length numbers
  pub journals : length ring.journals ≡ length numbers
  pub channels : link_count (links_of p) ≡ length ring.channels
  pub are_open : AreOpen b ring.channels

-- so it is in a ring of these links, and each place has a clock and the number of a node
pub record AreAtHand {M S : Type 0} (stands : S → Params → ℕ → Type 0) (numbers : List NodeNo) (dials : List Setting)
    (links : Links) (b : ℕ) (ring : Ring M S) : Type 0 where
  pub params : Params
  pub links_are : links ≡ links_of params
  pub inside : (q : ℕ) (n : NodeNo) → slice_get numbers q ≡ Some n → n.0 < viewers_of links + 1
  pub clocks : length dials ≡ length numbers
  pub manned : IsManned stands params numbers b ring

-- the node at place q has its turn in beat b: it changes as its turn says, and so do the links, it puts out only what it
-- may, and all else stays
pub record TookTurn {M S : Type 0} (note : M → Note) (step : S → Input M → Deed M S) (stands : S → Params → ℕ → Type 0)
    (numbers : List NodeNo) (dials : List Setting) (links : Links) (b q : ℕ) (old new : Ring M S) : Type 0 where
  pub number : NodeNo
  pub seat : slice_get numbers q ≡ Some number
  pub dial : Setting
  pub clock : slice_get dials q ≡ Some dial
  pub stamp : Stamp
  pub shown : stamp ≡ stamp_by dial b
  pub state : S
  pub life : Lifetime
  pub journal : List Entry
  pub node_is : slice_get old.nodes q ≡ Some state
  pub life_is : slice_get old.lives q ≡ Some life
  pub journal_is : slice_get old.journals q ≡ Some journal
  pub then_state : S
  pub then_life : Lifetime
  pub then_journal : List Entry
  pub then_channels : List (Traffic M)
  pub turned : ◌≡◌ {A = Scene M S} (scene then_state then_life then_journal then_channels)
      (turn note step stamp (in_links_of links number.0) (scene state life journal old.channels))
  pub keeps : KeepsReady note step stands stamp.beat
      (beat_events note step stamp (collected stamp.beat (in_links_of links number.0) old.channels)
      (record { state = state; life = life; journal = journal }))
      (scene state life journal old.channels) (scene then_state then_life then_journal then_channels)
  pub after : new ≡ with_node old q then_state then_life then_journal then_channels

-- so have as many from a place on, one after another
abbrev pub TookTurns : {M S : Type 0} → (M → Note) → (S → Input M → Deed M S) → (S → Params → ℕ → Type 0) → List NodeNo
    → List Setting → Links → ℕ → ℕ → ℕ → Ring M S → Ring M S → Type 0
TookTurns note step stands numbers dials links b from zero old new = new ≡ old
TookTurns {M} {S} note step stands numbers dials links b from (suc more) old new =
    (mid : Ring M S) × TookTurns note step stands numbers dials links b from more old mid
    × TookTurn note step stands numbers dials links b (from + more) mid new

-- so have all from the one place up to but not with the other
pub record HaveTakenTurns {M S : Type 0} (note : M → Note) (step : S → Input M → Deed M S) (stands : S → Params → ℕ → Type 0)
    (numbers : List NodeNo) (dials : List Setting) (links : Links) (b from to : ℕ) (old new : Ring M S) : Type 0 where
  pub more : ℕ
  pub places : from + more ≡ to
  pub turns : TookTurns note step stands numbers dials links b from more old new
