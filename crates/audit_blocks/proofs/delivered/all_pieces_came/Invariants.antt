use Rattle.std.proofs.Common.{◌≡◌, ◌+◌, true}
use Rattle.run_model.specs.Tests.{all_below, piece_came}
use Rattle.audit_blocks.proofs.delivered.all_pieces_came.Given as goal

-- the pieces so far came
abbrev pub invariant-loop-before : goal.invariant-loop-before
invariant-loop-before l = all_below (λ before. piece_came l.k.course.plan.params l.k.journals l.t l.n l.block (before + 1)) l.before ≡ true
