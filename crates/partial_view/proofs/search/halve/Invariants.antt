use Rattle.std.proofs.Common.{◌≡◌, ◌-◌, ◌≤◌, length}
use Rattle.slot_plan.specs.declared.params.Params.{Params}
use Rattle.slot_plan.specs.Keys.{due_of}
use Rattle.partial_view.specs.Dues.{AreTimed}
use Rattle.partial_view.specs.Views.{place_of}
use Rattle.partial_view.proofs.search.halve.Given as goal

abbrev pub invariant-loop-low : goal.invariant-loop-low
invariant-loop-low l = record {
  between : (p : Params) → AreTimed p l.lines l.dues → l.due ≡ due_of p l.key
      → l.least ≤ place_of p l.key l.lines → place_of p l.key l.lines ≤ l.most
      → (l.low ≤ place_of p l.key l.lines) × (place_of p l.key l.lines ≤ l.high);
  inside : l.high ≤ length l.dues;
}

abbrev pub decreases-loop-low : goal.decreases-loop-low
decreases-loop-low l = l.high - l.low
