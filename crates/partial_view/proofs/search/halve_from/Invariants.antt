use Rattle.std.proofs.Common.{◌-◌, ◌≤◌, length, List}
use Rattle.slot_plan.specs.declared.params.Params.{Params}
use Rattle.partial_view.specs.declared.line.Line.{Line}
use Rattle.partial_view.specs.Dues.{AreTimed}
use Rattle.partial_view.specs.Views.{place_from}
use Rattle.partial_view.proofs.search.halve_from.Given as goal

abbrev pub invariant-loop-low : goal.invariant-loop-low
invariant-loop-low l = record {
  between : (p : Params) (lines : List Line) → AreTimed p lines l.dues
      → l.least ≤ place_from p l.time lines → place_from p l.time lines ≤ l.most
      → (l.low ≤ place_from p l.time lines) × (place_from p l.time lines ≤ l.high);
  low : l.low ≤ length l.dues;
  inside : l.high ≤ length l.dues;
}

abbrev pub decreases-loop-low : goal.decreases-loop-low
decreases-loop-low l = l.high - l.low
