-- The nodes that are idle in a beat.
use Rattle.std.specs.Prelude.{◌≡◌, ℕ, ◌<◌, ◌≤◌, List, [], Some, true, false, slice_get}
use Rattle.tiger_base.specs.declared.number.Stamp.{Stamp}
use Rattle.tiger_base.specs.declared.number.LinkNo.{LinkNo}
use Rattle.tiger_base.specs.declared.number.NodeNo.{NodeNo}
use Rattle.node_kit.specs.Courses.{Setting, stamp_by}
use Rattle.node_kit.specs.Life.{Lifetime, acts, ends_in}
use Rattle.node_kit.specs.Links.{Links, in_links_of}
use Rattle.node_kit.specs.Steps.{Input, Deed, Rests}
use Rattle.run_facts.specs.Rings.{Traffic}
use Rattle.ring_engine.specs.Traffic.{collected, after_collecting}

-- nothing has arrived at a node on its in-links, no death is to cut it off, and its tick would put nothing out and
-- change nothing
pub record IsIdle {M S : Type 0} (step : S → Input M → Deed M S) (stamp : Stamp) (links : List LinkNo) (s : S) (life : Lifetime) (ts : List (Traffic M)) : Type 0 where
  pub none : collected stamp.beat links ts ≡ []
  pub left : after_collecting stamp.beat links ts ≡ ts
  pub acts_then : acts life stamp.beat ≡ true
  pub unended : ends_in life stamp.beat ≡ false
  pub rests : Rests step stamp s

-- so it is with the nodes from the one place up to but not with the other, each of the number at its place
abbrev pub AreIdle : {M S : Type 0} → (S → Input M → Deed M S) → ℕ → ℕ → ℕ → Links → List NodeNo → List Setting → List S → List Lifetime → List (Traffic M) → Type 0
AreIdle {M} {S} step beat from to links numbers dials nodes lives ts =
    (k : ℕ) (n : NodeNo) (d : Setting) (s : S) (life : Lifetime) → from ≤ k → k < to → slice_get numbers k ≡ Some n
    → slice_get dials k ≡ Some d → slice_get nodes k ≡ Some s → slice_get lives k ≡ Some life
    → IsIdle step (stamp_by d beat) (in_links_of links n.0) s life ts
