use Rattle.audit_visits.proofs.Judging.{whole_judged, piece_judged, ask_judged, note_judged}
use Rattle.audit_visits.proofs.visits.Served.allows_note.Goals as goal

pub returns-in-Whole : goal.returns-in-Whole
returns-in-Whole c = λ front beat link h.
    whole_judged c.args.plan.now.params front beat link _ _ _ _ _ c.in-Whole.is (c.may_send.ensures front beat h)

pub returns-in-Piece : goal.returns-in-Piece
returns-in-Piece c = λ front beat link h.
    piece_judged c.args.plan.now.params front beat link _ _ _ _ _ c.in-Piece.is (c.may_send-in-Piece.ensures front beat h)

pub returns-in-ReadAsk : goal.returns-in-ReadAsk
returns-in-ReadAsk c = λ front beat link h.
    ask_judged c.args.plan.now.params front beat link _ _ _ _ _ _ c.in-ReadAsk.is c.may_ask.ensures h

pub returns-in_default : goal.returns-in_default
returns-in_default c = λ front beat link h.
    note_judged c.args.plan.now.params front beat link _ c.in_default.not-Whole c.in_default.not-Piece c.in_default.not-ReadAsk
