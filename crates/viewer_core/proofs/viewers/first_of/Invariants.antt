use Rattle.std.proofs.Common.{◌≡◌, drop}
use Rattle.viewer_core.specs.Came.{first_came}
use Rattle.viewer_core.proofs.viewers.first_of.Given as goal

-- no part that was passed over is under the key
abbrev pub invariant-loop-entry : goal.invariant-loop-entry
invariant-loop-entry l = first_came l.key (drop l.entry-index l.came) ≡ first_came l.key l.came
