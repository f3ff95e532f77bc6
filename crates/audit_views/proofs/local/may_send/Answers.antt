use Rattle.audit_views.proofs.Bringing.{state_judged, other_note_judged}
use Rattle.audit_views.proofs.local.may_send.Goals as goal

pub returns-in-ViewerState : goal.returns-in-ViewerState
returns-in-ViewerState c = λ p m reading link low h.
    state_judged p _ m c.args.cub.0 reading link _ _ _ c.in-ViewerState.is low c.has_by.ensures h

pub returns-in_default : goal.returns-in_default
returns-in_default c = λ p m reading link low h. other_note_judged p m c.args.cub.0 reading link _ c.in_default.not-ViewerState
