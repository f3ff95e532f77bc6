use Rattle.std.proofs.Common.{refl}
use Rattle.std.proofs.lemmas.Result.{on_ok_weaker}
use Rattle.audit_blocks.specs.Cargo.{numbered_for}
use Rattle.audit_blocks.proofs.Carried.{some_whole, none_came}
use Rattle.audit_blocks.proofs.keeping.keep_piece.Goals as goal

pub returns-in-Some : goal.returns-in-Some
returns-in-Some c = on_ok_weaker c.keep_if_piece.result (λ kept v n k ps tells.
    some_whole (numbered_for v n k) _ c.args.got c.in-Some.cargo ps c.in-Some.is (kept v n k ps tells)) c.keep_if_piece.ensures

pub returns-in-None : goal.returns-in-None
returns-in-None c = λ v n k ps tells. none_came (numbered_for v n k) _ c.args.got ps c.in-None.is refl tells
