use Rattle.std.proofs.Common.{◌≤◌, length, List}
use Rattle.slot_plan.specs.declared.params.Params.{Params}
use Rattle.partial_view.specs.declared.line.Line.{Line}
use Rattle.partial_view.specs.Dues.{AreTimed}
use Rattle.partial_view.specs.Views.{place_from}
use Rattle.partial_view.proofs.search.from_back.Given as goal

abbrev pub invariant-loop-high : goal.invariant-loop-high
invariant-loop-high l = record {
  most : (p : Params) (lines : List Line) → AreTimed p lines l.dues
      → place_from p l.time lines ≤ l.most → place_from p l.time lines ≤ l.high;
  inside : l.high ≤ length l.dues;
}

abbrev pub decreases-loop-high : goal.decreases-loop-high
decreases-loop-high l = l.high
