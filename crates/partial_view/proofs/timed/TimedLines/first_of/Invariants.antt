use Rattle.std.proofs.Common.{◌≡◌, drop}
use Rattle.partial_view.specs.Views.{first_of}
use Rattle.partial_view.proofs.timed.TimedLines.first_of.Given as goal

abbrev pub invariant-loop-line : goal.invariant-loop-line
invariant-loop-line l = first_of l.instance (drop l.line-index l.line-items) ≡ first_of l.instance l.self.lines
