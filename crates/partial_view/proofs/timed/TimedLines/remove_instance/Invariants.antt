use Rattle.std.proofs.Common.{◌≡◌}
use Rattle.partial_view.specs.Lines.{is_of}
use Rattle.partial_view.proofs.Removals.{IsLeft}
use Rattle.partial_view.proofs.timed.TimedLines.remove_instance.Given as goal

abbrev pub invariant-loop-i : goal.invariant-loop-i
invariant-loop-i l = record {
  params : l.self.params ≡ l.fn.self.params;
  left : IsLeft (is_of l.instance) l.fn.self.lines l.self.lines l.count l.i;
}
