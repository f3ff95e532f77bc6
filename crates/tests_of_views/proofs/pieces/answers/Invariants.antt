use Rattle.std.proofs.Common.{◌≡◌}
use Rattle.slot_plan.specs.Samples.{small}
use Rattle.tests_of_views.proofs.pieces.answers.Given as goal

abbrev pub invariant-loop-call : goal.invariant-loop-call
invariant-loop-call l = l.view.params ≡ small
