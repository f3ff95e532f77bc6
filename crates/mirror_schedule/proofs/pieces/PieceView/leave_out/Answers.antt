use Rattle.std.proofs.Common.{ℕ, List, not, subst, sym}
use Rattle.tiger_base.specs.declared.tenancy.PieceState.{PieceState}
use Rattle.mirror_schedule.specs.Choices.{covers}
use Rattle.mirror_schedule.specs.TimedPieces.{AreTimed}
use Rattle.mirror_schedule.proofs.TimedPieces.{seen_left, timed_filter}
use Rattle.mirror_schedule.proofs.pieces.PieceView.leave_out.Goals as goal

pub invariant_of-self : goal.invariant_of-self
invariant_of-self c =
    let p = c.self.inside.plan.params in
    subst (λ (ys : List (PieceState × ℕ)). AreTimed p ys) (sym c.leave_out.ensures.left) (timed_filter p (λ x. not (covers c.args.wanted.now x.0)) c.self.inside.items c.self.invariant)

pub returns-clause-left : goal.returns-clause-left
returns-clause-left c =
    seen_left c.self.inside.plan.params (λ x. not (covers c.args.wanted.now x)) c.self.inside.items _ c.args.self.now c.self.view_is c.leave_out.ensures.left
