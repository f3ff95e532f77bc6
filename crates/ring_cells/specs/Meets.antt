-- The shares of a run at its end, and what each link between two of them shows then.
use Rattle.std.specs.Prelude.{◌≡◌, ◌≢◌, ℕ, ◌≤◌, List, Some, slice_get}
use Rattle.tiger_base.specs.declared.message.Note.{Note}
use Rattle.slot_plan.specs.declared.params.Params.{Params}
use Rattle.tiger_base.specs.declared.number.NodeNo.{NodeNo}
use Rattle.node_kit.specs.declared.course.Course.{Course}
use Rattle.node_kit.specs.Links.{links_of, ends_of}
use Rattle.node_kit.specs.Steps.{Input, Deed}
use Rattle.ring_links.specs.Ends.{LineId}
use Rattle.ring_links.specs.Flights.{IsFront, IsOrdered}
use Rattle.ring_cells.specs.Cells.{Seen, IsShareOf}
use Rattle.ring_cells.specs.Shares.{Entrance, Exit}

-- the shares of a run by number, each at its end
pub record HasFinished {M S : Type 0} (note : M → Note) (step : S → Input M → Deed M S) (stands : S → Params → ℕ → Type 0)
    (courses : List Course) (opened : List S) (line_of : ℕ → LineId) (home : ℕ → ℕ) (number : ℕ) (s : Seen M S) : Type 0 where
  pub its_number : s.number ≡ number
  pub done : s.beats ≤ s.next
  pub kept : IsShareOf note step stands courses opened line_of home s

abbrev pub HaveFinished : {M S : Type 0} → (M → Note) → (S → Input M → Deed M S) → (S → Params → ℕ → Type 0)
    → List Course → List S → (ℕ → LineId) → (ℕ → ℕ) → List (Seen M S) → Type 0
HaveFinished {M} {S} note step stands courses opened line_of home shares =
    (i : ℕ) (s : Seen M S) → slice_get shares i ≡ Some s → HasFinished note step stands courses opened line_of home i s

-- something is what the member of a number has in some share
pub record IsOfMember {M S A : Type 0} (row : Seen M S → List A) (shares : List (Seen M S)) (k : ℕ) (x : A) : Type 0 where
  pub share : ℕ
  pub seen : Seen M S
  pub there : slice_get shares share ≡ Some seen
  pub place : ℕ
  pub seat : slice_get seen.numbers place ≡ Some (record { 0 = k })
  pub here : slice_get (row seen) place ≡ Some x

-- a port of link l through which it enters some share, and one through which it leaves one
pub record IsInPort {M S : Type 0} (shares : List (Seen M S)) (l : ℕ) (port : Entrance M) : Type 0 where
  pub share : ℕ
  pub seen : Seen M S
  pub there : slice_get shares share ≡ Some seen
  pub place : ℕ
  pub here : slice_get seen.ins place ≡ Some port
  pub number : port.link.0 ≡ l

pub record IsOutPort {M S : Type 0} (shares : List (Seen M S)) (l : ℕ) (port : Exit M) : Type 0 where
  pub share : ℕ
  pub seen : Seen M S
  pub there : slice_get shares share ≡ Some seen
  pub member : ℕ
  pub row : List (Exit M)
  pub its_row : slice_get seen.outs member ≡ Some row
  pub place : ℕ
  pub here : slice_get row place ≡ Some port
  pub number : port.link.0 ≡ l

-- what the end of a link between two shares shows: what came in is a front of what went out, in order, and the rest was
-- sent in beats that the receiver did not know to be closed
pub record HasMet {M S : Type 0} (shares : List (Seen M S)) (l : ℕ) : Type 0 where
  pub out : Exit M
  pub is_out : IsOutPort shares l out
  pub into : Entrance M
  pub is_into : IsInPort shares l into
  pub front : IsFront into.closed into.flights out.flights
  pub ordered : IsOrdered out.flights

-- so it is with each link between two shares
abbrev pub HaveMet : {M S : Type 0} → Params → (ℕ → ℕ) → List (Seen M S) → Type 0
HaveMet p home shares =
    (l from to : ℕ) → ends_of (links_of p) l ≡ Some (from, to) → home from ≢ home to → HasMet shares l
