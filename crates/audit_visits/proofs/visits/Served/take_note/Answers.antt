use Rattle.std.proofs.lemmas.Result.{on_ok_weaker}
use Rattle.audit_visits.proofs.Keeping.{whole_kept, piece_kept, ask_kept, note_kept}
use Rattle.audit_visits.proofs.visits.Served.take_note.Goals as goal

pub returns-in-Whole : goal.returns-in-Whole
returns-in-Whole c = on_ok_weaker c.set.result (λ set p front x link sends h once.
    whole_kept p front x link _ _ _ _ _ _ _ _ c.in-Whole.is set sends h once) c.set.ensures

pub returns-in-Piece : goal.returns-in-Piece
returns-in-Piece c = on_ok_weaker c.set-in-Piece.result (λ set p front x link sends h once.
    piece_kept p front x link _ _ _ _ _ _ _ _ c.in-Piece.is set sends h once) c.set-in-Piece.ensures

pub returns-in-ReadAsk : goal.returns-in-ReadAsk
returns-in-ReadAsk c = on_ok_weaker c.add.result (λ added p front x link sends h once.
    ask_kept front x link _ _ _ _ _ _ _ c.in-ReadAsk.is c.read_of.ensures added sends h) c.add.ensures

pub returns-in_default : goal.returns-in_default
returns-in_default c = λ p front x link sends h once.
    note_kept front x link _ _ _ _ c.in_default.not-Whole c.in_default.not-Piece c.in_default.not-ReadAsk sends h
