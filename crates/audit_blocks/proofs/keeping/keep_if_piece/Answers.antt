use Rattle.std.proofs.lemmas.Result.{on_ok_weaker}
use Rattle.audit_blocks.proofs.Carried.{piece_kept, piece_left}
use Rattle.audit_blocks.proofs.keeping.keep_if_piece.Goals as goal

pub returns : goal.returns
returns c = on_ok_weaker c.add.result (λ added v n k.
    piece_kept v n k c.args.cargo.now c.is_whole.result _ _ c.is_whole.ensures c.if-is_whole.false (added v n k)) c.add.ensures

pub returns-then-is_whole : goal.returns-then-is_whole
returns-then-is_whole c = λ v n k. piece_left v n k c.args.cargo.now c.is_whole.result _ c.is_whole.ensures c.if-is_whole.true
