-- What a call that moves a share has done, for each of its members.
use Rattle.std.specs.Prelude.{◌≡◌, ℕ, ◌+◌, ◌<◌, ◌≤◌, ◌==◌, List, [], ◌∷◌, length, Option, Some, None, slice_get, if◌then◌else◌, ◌⊎◌}
use Rattle.tiger_base.specs.declared.number.LinkNo.{LinkNo}
use Rattle.tiger_base.specs.declared.message.Note.{Note}
use Rattle.node_kit.specs.Courses.{Setting, stamp_by}
use Rattle.node_kit.specs.Steps.{Input, Deed}
use Rattle.run_facts.specs.declared.mail.Letter.{Letter}
use Rattle.run_facts.specs.Beats.{after_beat}
use Rattle.run_facts.specs.Events.{Past}
use Rattle.run_facts.specs.Rings.{Ring, IsAt}
use Rattle.ring_cells.specs.declared.moved.Moved.{Moved}
use Rattle.ring_cells.specs.declared.moved.Moved.TheVariants as moved
use Rattle.ring_cells.specs.Cells.{Seen, ring_in}
use Rattle.ring_cells.specs.Shares.{FirstShort}

-- a node after beats from one on by its clock, in each of which these letters come to it
abbrev pub after_beats_by : {M S : Type 0} → (M → Note) → (S → Input M → Deed M S) → Setting → ℕ → List (List (Letter M)) → Past S → Past S
after_beats_by note step k beat [] past = past
after_beats_by note step k beat (letters ∷ rest) past =
    after_beats_by note step k (beat + 1) rest (after_beat note step (stamp_by k beat) letters past)

-- the member at a place has come from this point, by its clock, through as many beats from one on: some letters came in
-- each, and it lived through them
pub record HasGoneThrough {M S : Type 0} (note : M → Note) (step : S → Input M → Deed M S) (k : Setting) (beat count q : ℕ)
    (past : Past S) (new : Ring M S) : Type 0 where
  pub letters : List (List (Letter M))
  pub each_beat : length letters ≡ count
  pub here : IsAt new q (after_beats_by note step k beat letters past)

-- so have the members at the places below one, and the others are where they were
pub record HaveLived {M S : Type 0} (note : M → Note) (step : S → Input M → Deed M S) (dials : List Setting) (beat q : ℕ)
    (old new : Ring M S) : Type 0 where
  pub done : (r : ℕ) (past : Past S) (k : Setting) → r < q → IsAt old r past → slice_get dials r ≡ Some k
      → HasGoneThrough note step k beat 1 r past new
  pub still : (r : ℕ) (past : Past S) → q ≤ r → IsAt old r past → IsAt new r past

-- as many beats were done, one after another
pub record DidBeats {M S : Type 0} (note : M → Note) (step : S → Input M → Deed M S) (count : ℕ) (old new : Seen M S) : Type 0 where
  pub each : (q : ℕ) (past : Past S) (k : Setting) → IsAt (ring_in old) q past → slice_get old.dials q ≡ Some k
      → HasGoneThrough note step k old.next count q past (ring_in new)
  pub further : new.next ≡ old.next + count

abbrev pub DidBeat : {M S : Type 0} → (M → Note) → (S → Input M → Deed M S) → Seen M S → Seen M S → Type 0
DidBeat note step old new = DidBeats note step 1 old new

pub record DidNothing {M S : Type 0} (old new : Seen M S) : Type 0 where
  pub same_next : new.next ≡ old.next
  pub same_nodes : new.nodes ≡ old.nodes
  pub same_lives : new.lives ≡ old.lives
  pub same_journals : new.journals ≡ old.journals

-- it is the share of the same nodes
pub record IsSameShare {M S : Type 0} (old new : Seen M S) : Type 0 where
  pub number : new.number ≡ old.number
  pub numbers : new.numbers ≡ old.numbers
  pub dials : new.dials ≡ old.dials
  pub beats : new.beats ≡ old.beats

-- all beats are done, or some in-port falls short of the next one
abbrev pub IsAtStand : {M S : Type 0} → Seen M S → Type 0
IsAtStand s = (s.beats ≤ s.next) ⊎ ((l : LinkNo) × FirstShort s.next l s.ins)

-- a share has moved as far as its ports let it
abbrev pub HasMoved : {M S : Type 0} → (M → Note) → (S → Input M → Deed M S) → Moved → Seen M S → Seen M S → Type 0
HasMoved note step (moved.Beats k) old new = (0 < k) × DidBeats note step k old new × IsAtStand new
HasMoved note step (moved.Blocked l) old new =
    DidNothing old new × (old.next < old.beats) × FirstShort old.next l new.ins
HasMoved note step moved.Done old new = DidNothing old new × (old.beats ≤ old.next)

-- the answer after this many beats, if then an in-port fell short, or none did since all beats were done
abbrev pub moved_of : ℕ → Option LinkNo → Moved
moved_of k None = if k == 0 then moved.Done else moved.Beats k
moved_of k (Some l) = if k == 0 then moved.Blocked l else moved.Beats k
