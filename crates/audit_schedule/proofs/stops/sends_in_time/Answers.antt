use Rattle.audit_schedule.proofs.Stopping.{whole_judged, piece_judged, other_note_judged}
use Rattle.audit_schedule.proofs.stops.sends_in_time.Goals as goal

pub returns-in-Whole : goal.returns-in-Whole
returns-in-Whole c = λ m link h.
    whole_judged c.args.plan.now.params m c.args.beat link _ _ _ _ _ c.in-Whole.is (c.is_soon.ensures m h)

pub returns-in-Piece : goal.returns-in-Piece
returns-in-Piece c = λ m link h.
    piece_judged c.args.plan.now.params m c.args.beat link _ _ _ _ _ c.in-Piece.is (c.is_soon-in-Piece.ensures m h)

pub returns-in_default : goal.returns-in_default
returns-in_default c = λ m link h.
    other_note_judged c.args.plan.now.params m c.args.beat link _ c.in_default.not-Whole c.in_default.not-Piece
