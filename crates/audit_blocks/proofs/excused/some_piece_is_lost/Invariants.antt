use Rattle.std.proofs.Common.{◌≡◌, ◌+◌, false}
use Rattle.run_model.specs.Tests.{some_below, piece_is_lost}
use Rattle.audit_blocks.proofs.excused.some_piece_is_lost.Given as goal

-- none of the pieces so far is lost
abbrev pub invariant-loop-before : goal.invariant-loop-before
invariant-loop-before l = some_below (λ before. piece_is_lost l.k.course.plan.params l.k.journals l.t l.n (before + 1)) l.before ≡ false
