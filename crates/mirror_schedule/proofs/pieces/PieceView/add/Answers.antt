use Rattle.std.proofs.Common.{◌∙◌, ap, subst, sym}
use Rattle.slot_plan.specs.declared.params.Params.{Params}
use Rattle.mirror_schedule.specs.Pieces.{Pieces, IsPieceOf}
use Rattle.mirror_schedule.proofs.TimedPieces.{added_answer, added_seen, added_timed}
use Rattle.mirror_schedule.proofs.pieces.PieceView.add.Goals as goal

pub invariant_of-self-2 : goal.invariant_of-self-2
invariant_of-self-2 c =
    let p = c.self.inside.plan.params in
    let own : IsPieceOf p c.args.piece = subst (λ (q : Params). IsPieceOf q c.args.piece) (sym (ap (λ (m : Pieces). m.params) c.self.view_is)) c.requires in
    added_timed p c.args.piece c.leaving.result c.leaving.ensures c.self.inside.items _ c.self.invariant c.in_ok-new.ensures.ok own

pub returns-clause-answer : goal.returns-clause-answer
returns-clause-answer c =
    c.in_ok-new.ensures.answer ∙ added_answer c.self.inside.plan.params c.args.piece c.leaving.result c.leaving.ensures c.self.inside.items c.args.self.now c.self.invariant c.self.view_is

pub returns-clause-ok : goal.returns-clause-ok
returns-clause-ok c =
    added_seen c.self.inside.plan.params c.args.piece c.leaving.result c.leaving.ensures c.self.inside.items _ c.self.invariant c.in_ok-new.ensures.ok c.args.self.now c.self.view_is
