-- A share before the first beat; and the line of no link.
use Rattle.std.specs.Prelude.{◌≡◌, ℕ, ◌≤◌, true, false, List, [], length, Some, slice_get}
use Rattle.tiger_base.specs.declared.number.NodeNo.{NodeNo}
use Rattle.slot_plan.specs.declared.params.Params.{Params}
use Rattle.node_kit.specs.declared.course.Course.{Course}
use Rattle.node_kit.specs.Links.{links_of, ends_of}
use Rattle.ring_links.specs.Ends.{LineId}
use Rattle.ring_cells.specs.Shares.{Entrance, Exit, holds, IsEntering, IsLeaving, AreApart, links_in, links_out}

-- the name that stands for lines where there is no run
abbrev pub no_line : LineId
no_line = ((0, 0), record { words = 0; slots = 0; views_name = 0; atom = 0; block = 0; offset = 0; slot_names = [] })

-- the nodes of these numbers, by place, are those with which the run opens, and each stands at its number
pub record AreGiven {S : Type 0} (stands : S → Params → ℕ → Type 0) (p : Params) (opened : List S)
    (numbers : List NodeNo) (nodes : List S) : Type 0 where
  pub some : 1 ≤ length opened
  pub size : length nodes ≡ length numbers
  pub each : (q : ℕ) (n : NodeNo) (s : S) → slice_get numbers q ≡ Some n → slice_get nodes q ≡ Some s
      → (slice_get opened n.0 ≡ Some s) × stands s p n.0

pub record IsFreshIn {M : Type 0} (line_of : ℕ → LineId) (i : Entrance M) : Type 0 where
  pub its_line : i.line ≡ line_of i.link.0
  pub flights : i.flights ≡ []

pub record IsFreshOut {M : Type 0} (line_of : ℕ → LineId) (o : Exit M) : Type 0 where
  pub its_line : o.line ≡ line_of o.link.0
  pub flights : o.flights ≡ []
  pub closed : o.closed ≡ 0

-- a link has a port in a row, and in the rows of members
pub record HasInPort {M : Type 0} (ins : List (Entrance M)) (l : ℕ) : Type 0 where
  pub place : ℕ
  pub port : Entrance M
  pub there : slice_get ins place ≡ Some port
  pub number : port.link ≡ record { 0 = l }

pub record HasOutPort {M : Type 0} (numbers : List NodeNo) (outs : List (List (Exit M))) (l from : ℕ) : Type 0 where
  pub member : ℕ
  pub is_from : slice_get numbers member ≡ Some (record { 0 = from })
  pub row : List (Exit M)
  pub its_row : slice_get outs member ≡ Some row
  pub place : ℕ
  pub port : Exit M
  pub there : slice_get row place ≡ Some port
  pub number : port.link ≡ record { 0 = l }

-- the ports of the links that enter the share of these members, each with its line, through which nothing came
pub record AreFreshIns {M : Type 0} (line_of : ℕ → LineId) (c : Course) (numbers : List NodeNo)
    (ins : List (Entrance M)) : Type 0 where
  pub lead : (q : ℕ) (i : Entrance M) → slice_get ins q ≡ Some i → IsEntering c.plan.params numbers i.link
  pub apart : AreApart (links_in ins)
  pub all : (l from to : ℕ) → holds numbers from ≡ false → holds numbers to ≡ true
      → ends_of (links_of c.plan.params) l ≡ Some (from, to) → HasInPort ins l
  pub fresh : (q : ℕ) (i : Entrance M) → slice_get ins q ≡ Some i → IsFreshIn line_of i

-- those of the links that leave it, by the places of the members that send on them, through which nothing went
pub record AreFreshOuts {M : Type 0} (line_of : ℕ → LineId) (c : Course) (numbers : List NodeNo)
    (outs : List (List (Exit M))) : Type 0 where
  pub senders : length outs ≤ length numbers
  pub lead : (q r : ℕ) (row : List (Exit M)) (o : Exit M) → slice_get outs q ≡ Some row → slice_get row r ≡ Some o
      → (n : NodeNo) × (slice_get numbers q ≡ Some n) × IsLeaving c.plan.params numbers n o.link
  pub apart : (q : ℕ) (row : List (Exit M)) → slice_get outs q ≡ Some row → AreApart (links_out row)
  pub all : (l from to : ℕ) → holds numbers from ≡ true → holds numbers to ≡ false
      → ends_of (links_of c.plan.params) l ≡ Some (from, to) → HasOutPort numbers outs l from
  pub fresh : (q r : ℕ) (row : List (Exit M)) (o : Exit M) → slice_get outs q ≡ Some row → slice_get row r ≡ Some o
      → IsFreshOut line_of o
