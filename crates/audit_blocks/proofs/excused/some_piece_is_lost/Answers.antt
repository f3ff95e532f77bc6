use Rattle.std.proofs.Common.{ℕ, ◌+◌, sym, ◌∙◌}
use Rattle.run_model.specs.Tests.{piece_is_lost}
use Rattle.run_model.proofs.Below.{some_below_holds}
use Rattle.audit_blocks.proofs.excused.some_piece_is_lost.Goals as goal

pub returns-then-piece_is_lost : goal.returns-then-piece_is_lost
returns-then-piece_is_lost c =
    sym (some_below_holds
    (λ (before : ℕ). piece_is_lost c.args.k.now.course.plan.params c.args.k.now.journals c.args.t.now c.args.n (before + 1))
    c.args.k.now.course.plan.params.pieces c.loop-before.before c.loop-before-test.true
    (sym c.piece_is_lost.ensures ∙ c.if-piece_is_lost.true))
