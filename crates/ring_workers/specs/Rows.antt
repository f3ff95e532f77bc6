-- The ends of the ports of a share, and its members' things.
use Rattle.std.specs.Prelude.{◌≡◌, ℕ, ◌<◌, ◌≤◌, Bool, true, false, Option, None, List, [], ◌∷◌, ◌++◌, take, Some, slice_get, slice_set}
use Rattle.tiger_base.specs.declared.number.NodeNo.{NodeNo}
use Rattle.ring_links.specs.Ends.{End}
use Rattle.tiger_base.specs.declared.number.LinkNo.{LinkNo}
use Rattle.ring_cells.specs.Shares.{Entrance, Exit}
use Rattle.ring_workers.specs.Ends.{HasEnd}

-- what came in through a port, and what went out through one, as an end of the link
abbrev pub in_end : {M : Type 0} → Entrance M → End M
in_end i = record { line = i.line; flights = i.flights; closed = i.closed }

abbrev pub out_end : {M : Type 0} → Exit M → End M
out_end o = record { line = o.line; flights = o.flights; closed = o.closed }

-- the end is that of an in-port of the row, of link l
pub record IsOfIn {M : Type 0} (row : List (Entrance M)) (l : ℕ) (e : End M) : Type 0 where
  pub place : ℕ
  pub port : Entrance M
  pub here : slice_get row place ≡ Some port
  pub number : port.link.0 ≡ l
  pub end : e ≡ in_end port

-- the end is that of an out-port of the row, of link l
pub record IsOfOut {M : Type 0} (row : List (Exit M)) (l : ℕ) (e : End M) : Type 0 where
  pub place : ℕ
  pub port : Exit M
  pub here : slice_get row place ≡ Some port
  pub number : port.link.0 ≡ l
  pub end : e ≡ out_end port

-- the end is that of an out-port of one of the rows, of link l
pub record IsOfOuts {M : Type 0} (rows : List (List (Exit M))) (l : ℕ) (e : End M) : Type 0 where
  pub member : ℕ
  pub row : List (Exit M)
  pub its_row : slice_get rows member ≡ Some row
  pub of_row : IsOfOut row l e

-- it is what stands at the place of the node of number k
pub record IsOfNode {A : Type 0} (numbers : List NodeNo) (things : List A) (k : ℕ) (x : A) : Type 0 where
  pub place : ℕ
  pub seat : slice_get numbers place ≡ Some (record { 0 = k })
  pub here : slice_get things place ≡ Some x

-- a port was put at the end of the row at a place
pub record HasPushed {M : Type 0} (place : ℕ) (port : Exit M) (old new : List (List (Exit M))) : Type 0 where
  pub row : List (Exit M)
  pub stood : slice_get old place ≡ Some row
  pub changed : new ≡ slice_set old place (row ++ port ∷ [])

-- the rows from the one place up to but not with the other are empty
abbrev pub AreEmptyFrom : {M : Type 0} → ℕ → ℕ → List (List (Exit M)) → Type 0
AreEmptyFrom {M} from to rows = (q : ℕ) (row : List (Exit M)) → from ≤ q → q < to → slice_get rows q ≡ Some row → row ≡ []

-- the rows at the end that are empty were taken off
pub record AreTrimmed {M : Type 0} (old new : List (List (Exit M))) : Type 0 where
  pub count : ℕ
  pub front : new ≡ take count old
  pub empty : (q : ℕ) (row : List (Exit M)) → count ≤ q → slice_get old q ≡ Some row → row ≡ []

-- the port of a link was made of its end, if it was wanted
pub record HasEntrance {M : Type 0} (wanted : Bool) (link : LinkNo) (ends : List (Option (End M))) (old new : List (Entrance M)) : Type 0 where
  pub none : wanted ≡ false → new ≡ old
  pub one : wanted ≡ true → (e : End M) × HasEnd ends link.0 e
      × (new ≡ old ++ (record { link = link; line = e.line; flights = e.flights; closed = e.closed }) ∷ [])

-- the port of a link was made of its end, if it leaves from a member, and put at the end of that member's row
abbrev pub HasExit : {M : Type 0} → Option NodeNo → LinkNo → List NodeNo → List (Option (End M)) → List (List (Exit M)) → List (List (Exit M)) → Type 0
HasExit None link numbers ends old new = new ≡ old
HasExit {M} (Some n) link numbers ends old new = (e : End M) × HasEnd ends link.0 e × (place : ℕ) × (slice_get numbers place ≡ Some n)
    × HasPushed place (record { link = link; line = e.line; flights = []; closed = 0 }) old new
