use Rattle.std.proofs.Common.{◌≡◌, ◌-◌, ◌≤◌, length}
use Rattle.slot_plan.specs.declared.params.Params.{Params}
use Rattle.slot_plan.specs.Keys.{due_of}
use Rattle.partial_view.specs.Dues.{AreTimed}
use Rattle.partial_view.specs.Views.{place_of}
use Rattle.partial_view.proofs.search.place_behind.Given as goal

abbrev pub invariant-loop-low : goal.invariant-loop-low
invariant-loop-low l = record {
  least : (p : Params) → AreTimed p l.lines l.dues → l.due ≡ due_of p l.key
      → l.least ≤ place_of p l.key l.lines → l.low ≤ place_of p l.key l.lines;
  inside : l.low ≤ length l.lines;
}

abbrev pub decreases-loop-low : goal.decreases-loop-low
decreases-loop-low l = l.end - l.low
