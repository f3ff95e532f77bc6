use Rattle.std.proofs.Common.{ℕ, ◌+◌, sym, ◌∙◌}
use Rattle.run_model.specs.Tests.{piece_came}
use Rattle.run_model.proofs.Below.{all_below_fails}
use Rattle.audit_blocks.proofs.delivered.all_pieces_came.Goals as goal

pub returns-then-not-piece_came : goal.returns-then-not-piece_came
returns-then-not-piece_came c =
    sym (all_below_fails
    (λ (before : ℕ). piece_came c.args.k.now.course.plan.params c.args.k.now.journals c.args.t.now c.args.n c.args.block (before + 1))
    c.args.k.now.course.plan.params.pieces c.loop-before.before c.loop-before-test.true
    (sym c.piece_came.ensures ∙ c.if-not-piece_came.true))
