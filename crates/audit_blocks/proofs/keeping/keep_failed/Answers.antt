use Rattle.std.proofs.lemmas.Result.{on_ok_weaker}
use Rattle.audit_blocks.proofs.Keepings.{read_kept, read_left}
use Rattle.audit_blocks.proofs.keeping.keep_failed.Goals as goal

pub returns-in-ReadFailed : goal.returns-in-ReadFailed
returns-in-ReadFailed c = on_ok_weaker c.add.result (λ added v n k. read_kept v n k c.in-ReadFailed.want _ _ _ c.in-ReadFailed.is (added v n k))
    c.add.ensures

pub returns-in_default : goal.returns-in_default
returns-in_default c = λ v n k. read_left v n k _ _ c.in_default.not-ReadFailed
