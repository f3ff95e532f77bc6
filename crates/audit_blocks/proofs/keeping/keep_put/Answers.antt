use Rattle.std.proofs.lemmas.Result.{on_ok_weaker}
use Rattle.audit_blocks.proofs.Keepings.{put_kept, put_left}
use Rattle.audit_blocks.proofs.keeping.keep_put.Goals as goal

pub returns-in-Put : goal.returns-in-Put
returns-in-Put c = on_ok_weaker c.push.result (λ pushed v. put_kept v c.in-Put.t _ _ _ c.in-Put.is (pushed v)) c.push.ensures

pub returns-in_default : goal.returns-in_default
returns-in_default c = λ v. put_left v _ _ c.in_default.not-Put
