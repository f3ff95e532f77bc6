use Rattle.std.proofs.lemmas.Result.{on_ok_weaker}
use Rattle.audit_blocks.proofs.Keepings.{at_cub_taken, at_cub_left}
use Rattle.audit_blocks.proofs.keeping.keep_at_cub.Goals as goal

pub returns : goal.returns
returns c = on_ok_weaker c.add.result (λ added v n.
    at_cub_taken c.args.plan.now.params c.args.node.0 v n c.args.want.now c.is_at_cub.result _ _ c.is_at_cub.ensures c.if-not-is_at_cub.false
    (added v n 0)) c.add.ensures

pub returns-then-not-is_at_cub : goal.returns-then-not-is_at_cub
returns-then-not-is_at_cub c = λ v n.
    at_cub_left c.args.plan.now.params c.args.node.0 v n c.args.want.now c.is_at_cub.result _ c.is_at_cub.ensures c.if-not-is_at_cub.true
