use Rattle.std.proofs.lemmas.Result.{on_ok_weaker}
use Rattle.audit_blocks.proofs.Keepings.{cub_kept, cub_left}
use Rattle.audit_blocks.proofs.keeping.keep_failed_whole.Goals as goal

pub returns-in-ReadFailed : goal.returns-in-ReadFailed
returns-in-ReadFailed c = on_ok_weaker c.keep_at_cub.result (λ kept v n.
    cub_kept c.args.plan.now.params c.args.line.now.node.0 v n c.in-ReadFailed.want _ _ _ c.in-ReadFailed.is (kept v n)) c.keep_at_cub.ensures

pub returns-in_default : goal.returns-in_default
returns-in_default c = λ v n. cub_left c.args.plan.now.params c.args.line.now.node.0 v n _ _ c.in_default.not-ReadFailed
