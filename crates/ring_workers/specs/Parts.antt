-- What the shares of a run give back.
use Rattle.std.specs.Prelude.{◌≡◌, ℕ, List, length, Some, slice_get}
use Rattle.tiger_base.specs.declared.message.Note.{Note}
use Rattle.slot_plan.specs.declared.params.Params.{Params}
use Rattle.node_kit.specs.declared.course.Course.{Course}
use Rattle.node_kit.specs.Steps.{Input, Deed}
use Rattle.ring_links.specs.Ends.{End, LineId}
use Rattle.ring_cells.specs.declared.share.ShareParts.{ShareParts}
use Rattle.ring_cells.specs.Cells.{Seen}
use Rattle.ring_cells.specs.Meets.{HaveFinished}
use Rattle.ring_workers.specs.Rows.{IsOfIn, IsOfOuts, IsOfNode}

module _ {M S : Type 0} where
  -- the parts of a share
  pub record ArePartsOf (s : Seen M S) (p : ShareParts M S) : Type 0 where
    pub numbers : s.numbers ≡ p.numbers.items
    pub nodes : s.nodes ≡ p.nodes.items
    pub journals : s.journals ≡ p.journals.items
    pub ins : s.ins ≡ p.ins.items
    pub outs : s.outs ≡ p.outs.items

  -- these are the parts of the shares of a run at its end, by number
  pub record AreAllParts (note : M → Note) (step : S → Input M → Deed M S) (stands : S → Params → ℕ → Type 0) (courses : List Course)
      (opened : List S) (line_of : ℕ → LineId) (home : ℕ → ℕ) (parts : List (ShareParts M S)) : Type 0 where
    pub shares : List (Seen M S)
    pub size : length shares ≡ length parts
    pub come : HaveFinished note step stands courses opened line_of home shares
    pub each : (i : ℕ) (p : ShareParts M S) → slice_get parts i ≡ Some p → (s : Seen M S) × (slice_get shares i ≡ Some s) × ArePartsOf s p

  -- the end is that of an out-port of some share, and of an in-port of one, of link l
  pub record IsOutOf (parts : List (ShareParts M S)) (l : ℕ) (e : End M) : Type 0 where
    pub share : ℕ
    pub part : ShareParts M S
    pub there : slice_get parts share ≡ Some part
    pub of_rows : IsOfOuts part.outs.items l e

  pub record IsIntoOf (parts : List (ShareParts M S)) (l : ℕ) (e : End M) : Type 0 where
    pub share : ℕ
    pub part : ShareParts M S
    pub there : slice_get parts share ≡ Some part
    pub of_row : IsOfIn part.ins.items l e

  -- something is what the node of number k has in some share
  pub record IsThing {A : Type 0} (row : ShareParts M S → List A) (parts : List (ShareParts M S)) (k : ℕ) (x : A) : Type 0 where
    pub share : ℕ
    pub part : ShareParts M S
    pub there : slice_get parts share ≡ Some part
    pub of_node : IsOfNode part.numbers.items (row part) k x
