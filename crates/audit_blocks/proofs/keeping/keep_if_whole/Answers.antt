use Rattle.std.proofs.lemmas.Result.{on_ok_weaker}
use Rattle.audit_blocks.proofs.Carried.{whole_kept, whole_left}
use Rattle.audit_blocks.proofs.keeping.keep_if_whole.Goals as goal

pub returns : goal.returns
returns c = on_ok_weaker c.add.result (λ added v n.
    whole_kept v n c.args.cargo.now c.is_whole.result _ _ c.is_whole.ensures c.if-not-is_whole.false (added v n 0)) c.add.ensures

pub returns-then-not-is_whole : goal.returns-then-not-is_whole
returns-then-not-is_whole c = λ v n. whole_left v n c.args.cargo.now c.is_whole.result _ c.is_whole.ensures c.if-not-is_whole.true
