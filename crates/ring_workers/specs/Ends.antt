-- Things by number, as the ends of the links between shares, of which some may have been taken out.
use Rattle.std.specs.Prelude.{◌≡◌, ℕ, zero, suc, List, [], ◌∷◌, length, Option, Some, None, slice_get, ⊤}
use Rattle.tiger_base.specs.declared.number.NodeNo.{NodeNo}
use Rattle.ring_links.specs.Ends.{End, LineId, AreOfNewLink}
use Rattle.ring_links.specs.Flights.{IsOrdered, IsFront}
use Rattle.ring_cells.specs.Opens.{no_line}

-- something stands at a number of the row
abbrev pub HasEnd : {A : Type 0} → List (Option A) → ℕ → A → Type 0
HasEnd ends l e = slice_get ends l ≡ Some (Some e)

-- what is in the row was in it
abbrev pub AreLeft : {A : Type 0} → List (Option A) → List (Option A) → Type 0
AreLeft {A} old new = (l : ℕ) (e : A) → HasEnd new l e → HasEnd old l e

-- at each number there is what the list has there, or nothing
abbrev pub AreSlots : {A : Type 0} → List A → List (Option A) → Type 0
AreSlots {A} all slots = (k : ℕ) (x : A) → HasEnd slots k x → slice_get all k ≡ Some x

-- these stood at these numbers
pub record AreTaken {A : Type 0} (slots : List (Option A)) (numbers : List NodeNo) (taken : List A) : Type 0 where
  pub size : length taken ≡ length numbers
  pub each : (q : ℕ) (n : NodeNo) (x : A) → slice_get numbers q ≡ Some n → slice_get taken q ≡ Some x → HasEnd slots n.0 x

module _ {M : Type 0} where
  -- number for number the rows have both ends of a new link, or neither
  abbrev pub AreOpened : List (Option (End M)) → List (Option (End M)) → Type 0
  AreOpened [] [] = ⊤
  AreOpened (None ∷ outs) (None ∷ ins) = AreOpened outs ins
  AreOpened (Some out ∷ outs) (Some into ∷ ins) = AreOfNewLink out into × AreOpened outs ins
  AreOpened outs ins = ⊥

  -- the link of the end at a number
  abbrev pub line_at : List (Option (End M)) → ℕ → LineId
  line_at [] l = no_line
  line_at (None ∷ ends) zero = no_line
  line_at (Some e ∷ ends) zero = e.line
  line_at (x ∷ ends) (suc l) = line_at ends l

  -- a new end, of the link that has this name
  pub record IsNew (name : LineId) (e : End M) : Type 0 where
    pub line : e.line ≡ name
    pub flights : e.flights ≡ []
    pub closed : e.closed ≡ 0

  -- each end is new, and of the link that is named so
  abbrev pub AreNamed : (ℕ → LineId) → List (Option (End M)) → Type 0
  AreNamed line ends = (l : ℕ) (e : End M) → HasEnd ends l e → IsNew (line l) e

  -- nothing was sent through any of the ends, and no beat is closed
  abbrev pub AreUnsent : List (Option (End M)) → Type 0
  AreUnsent ends = (l : ℕ) (e : End M) → HasEnd ends l e → (e.flights ≡ []) × (e.closed ≡ 0)

  -- the two ends at each number are of one link
  abbrev pub AreLined : List (Option (End M)) → List (Option (End M)) → Type 0
  AreLined outs ins = (l : ℕ) (out into : End M) → HasEnd outs l out → HasEnd ins l into → out.line ≡ into.line

  -- what the end of link l shows: both its ends were there, what was received is a front of what was sent, in order,
  -- and the rest was sent in beats that the receiver did not know to be closed
  pub record HasClosed (outs ins : List (Option (End M))) (l : ℕ) : Type 0 where
    pub out : End M
    pub into : End M
    pub out_there : HasEnd outs l out
    pub into_there : HasEnd ins l into
    pub front : IsFront into.closed into.flights out.flights
    pub ordered : IsOrdered out.flights
