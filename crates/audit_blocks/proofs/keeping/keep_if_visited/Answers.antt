use Rattle.std.proofs.lemmas.Result.{on_ok_weaker}
use Rattle.audit_blocks.proofs.Carried.{visit_kept, visit_left}
use Rattle.audit_blocks.proofs.keeping.keep_if_visited.Goals as goal

pub returns : goal.returns
returns c = on_ok_weaker c.add.result (λ added v n.
    visit_kept v n c.args.cargo.now c.is_whole.result _ _ c.is_whole.ensures c.if-is_whole.false (added v n 0)) c.add.ensures

pub returns-then-is_whole : goal.returns-then-is_whole
returns-then-is_whole c = λ v n. visit_left v n c.args.cargo.now c.is_whole.result _ c.is_whole.ensures c.if-is_whole.true
