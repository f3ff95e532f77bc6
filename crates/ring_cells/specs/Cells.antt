-- What one lock holds: a share, and what ties it to its run.
use Rattle.std.specs.Prelude.{◌≡◌, ℕ, ◌+◌, ◌<◌, ◌≤◌, nat_lt, ◌==◌, ◌&&◌, Bool, true, List, [], ◌∷◌, length, map, Some, slice_get}
use Rattle.tiger_base.specs.declared.message.Note.{Note}
use Rattle.tiger_base.specs.declared.number.NodeNo.{NodeNo}
use Rattle.slot_plan.specs.declared.params.Params.{Params}
use Rattle.node_kit.specs.declared.course.Course.{Course}
use Rattle.node_kit.specs.declared.journal.Entry.{Entry}
use Rattle.node_kit.specs.Courses.{IsCourse, Setting, setting_of}
use Rattle.node_kit.specs.Life.{Lifetime}
use Rattle.node_kit.specs.Links.{Links, links_of, viewers_of}
use Rattle.node_kit.specs.Steps.{Input, Deed}
use Rattle.run_facts.specs.Events.{NodeEvent}
use Rattle.run_facts.specs.Rings.{Traffic, Ring}
use Rattle.ring_links.specs.Ends.{LineId}
use Rattle.ring_engine.specs.Passing.{IsManned}
use Rattle.ring_cells.specs.Shares.{Entrance, Exit, holds, come_to, IsShare, IsFitted}

-- a share: its number; the number of beats and that of the next one; whether memory ran out in it; by place its members
-- with their clocks, lives and journals; the links of the run and what is under way on each; its in-ports; and by place
-- the out-ports of the first members
pub record Seen (M S : Type 0) : Type 0 where
  pub number : ℕ
  pub beats : ℕ
  pub next : ℕ
  pub spoilt : Bool
  pub numbers : List NodeNo
  pub dials : List Setting
  pub nodes : List S
  pub lives : List Lifetime
  pub journals : List (List Entry)
  pub links : Links
  pub channels : List (Traffic M)
  pub ins : List (Entrance M)
  pub outs : List (List (Exit M))

-- its members and links
abbrev pub ring_in : {M S : Type 0} → Seen M S → Ring M S
ring_in s = record { nodes = s.nodes; lives = s.lives; journals = s.journals; channels = s.channels }

-- a share in beat b of a run that is named by its course (a list of one), its nodes' openings and the line of each link:
-- the members at the places below q have had their turns in it
pub record IsAtWork {M S : Type 0} (note : M → Note) (step : S → Input M → Deed M S) (stands : S → Params → ℕ → Type 0)
    (courses : List Course) (opened : List S) (line_of : ℕ → LineId) (numbers : List NodeNo) (dials : List Setting)
    (links : Links) (b q : ℕ) (ring : Ring M S) (ins : List (Entrance M)) (outs : List (List (Exit M))) : Type 0 where
  pub course : Course
  pub named : courses ≡ course ∷ []
  pub is_course : IsCourse course
  pub dialled : dials ≡ map (λ n. setting_of course n.0) numbers
  pub links_are : links ≡ links_of course.plan.params
  pub first : ℕ → S
  pub opens : (k : ℕ) → holds numbers k ≡ true → slice_get opened k ≡ Some (first k)
  pub inside : (k : ℕ) → holds numbers k ≡ true → k < viewers_of (links_of course.plan.params) + 1
  pub seated : IsFitted course.plan.params numbers ins outs
  pub senders : length outs ≤ length numbers
  pub manned : IsManned stands course.plan.params numbers b ring
  pub events : ℕ → List (NodeEvent M)
  pub share : IsShare note step course first line_of numbers b (come_to numbers b q) events ring ins outs

-- these are the numbers of the nodes whose home is the share of a number, each once
pub record IsMembership (home : ℕ → ℕ) (p : Params) (number : ℕ) (numbers : List NodeNo) : Type 0 where
  pub once : (q r : ℕ) (n : NodeNo) → slice_get numbers q ≡ Some n → slice_get numbers r ≡ Some n → q ≡ r
  pub theirs : (k : ℕ) → holds numbers k ≡ (nat_lt k (viewers_of (links_of p) + 1) && (home k == number))

-- a share between two beats
pub record IsShareOf {M S : Type 0} (note : M → Note) (step : S → Input M → Deed M S) (stands : S → Params → ℕ → Type 0)
    (courses : List Course) (opened : List S) (line_of : ℕ → LineId) (home : ℕ → ℕ) (s : Seen M S) : Type 0 where
  pub work : IsAtWork note step stands courses opened line_of s.numbers s.dials s.links s.next 0 (ring_in s) s.ins s.outs
  pub membership : IsMembership home work.course.plan.params s.number s.numbers
  pub length_is : s.beats ≡ work.course.beats
  pub within : s.next ≤ s.beats
