use Rattle.std.proofs.Common.{refl}
use Rattle.std.proofs.lemmas.Result.{on_ok_weaker}
use Rattle.audit_blocks.specs.Cargo.{whole_for}
use Rattle.audit_blocks.proofs.Carried.{some_whole, none_came}
use Rattle.audit_blocks.proofs.keeping.keep_whole.Goals as goal

pub returns-in-Some : goal.returns-in-Some
returns-in-Some c = on_ok_weaker c.keep_if_whole.result (λ kept v n ps tells.
    some_whole (whole_for v n) _ c.args.got c.in-Some.cargo ps c.in-Some.is (kept v n ps tells)) c.keep_if_whole.ensures

pub returns-in-None : goal.returns-in-None
returns-in-None c = λ v n ps tells. none_came (whole_for v n) _ c.args.got ps c.in-None.is refl tells
