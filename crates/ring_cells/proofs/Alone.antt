-- The two ends of the row of shares: a share of one node, all of whose links have ports; and one of all nodes, which has none.
use Rattle.std.proofs.Common.{◌≡◌, ◌≢◌, ℕ, ◌+◌, ◌<◌, List, [], ◌∷◌, Some, ◌∙◌}
use Rattle.std.specs.Prelude.{◌==◌}
use Rattle.tiger_base.specs.declared.number.NodeNo.{NodeNo}
use Rattle.tiger_base.specs.declared.message.Note.{Note}
use Rattle.node_kit.specs.declared.course.Course.{Course}
use Rattle.node_kit.specs.Links.{links_of, ends_of}
use Rattle.node_kit.specs.Steps.{Input, Deed}
use Rattle.run_facts.specs.Events.{NodeEvent}
use Rattle.run_facts.specs.Rings.{Ring}
use Rattle.ring_links.specs.Ends.{LineId}
use Rattle.ring_cells.specs.Shares.{Entrance, Exit, IsEntrance, IsExit}

-- every link that leads to the one member, from another node, enters; and every one that leads from it leaves
pub record IsCell {M S : Type 0} (note : M → Note) (step : S → Input M → Deed M S) (c : Course) (first : ℕ → S) (line_of : ℕ → LineId) (n : NodeNo) (at : ℕ → ℕ)
    (events : ℕ → List (NodeEvent M)) (ring : Ring M S) (ins : List (Entrance M)) (outs : List (List (Exit M))) : Type 0 where
  pub into : (l from : ℕ) → from ≢ n.0 → ends_of (links_of c.plan.params) l ≡ Some (from, n.0) → IsEntrance line_of c at events ring.channels ins l n.0
  pub out_of : (l to : ℕ) → to ≢ n.0 → ends_of (links_of c.plan.params) l ≡ Some (n.0, to) → IsExit line_of note step c first (n ∷ []) at events ring.channels outs l n.0
