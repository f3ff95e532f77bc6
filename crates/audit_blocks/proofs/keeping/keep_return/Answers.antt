use Rattle.std.proofs.lemmas.Result.{on_ok_weaker}
use Rattle.audit_frame.specs.Lines.{noted_line}
use Rattle.audit_blocks.proofs.Keepings.{return_kept, return_left}
use Rattle.audit_blocks.proofs.keeping.keep_return.Goals as goal

pub returns-in-Returned : goal.returns-in-Returned
returns-in-Returned c = on_ok_weaker c.push.result (λ pushed n. return_kept n (noted_line c.args.line.now) _ _ c.in-Returned.is (pushed n))
    c.push.ensures

pub returns-in_default : goal.returns-in_default
returns-in_default c = λ n. return_left n (noted_line c.args.line.now) _ c.in_default.not-Returned
