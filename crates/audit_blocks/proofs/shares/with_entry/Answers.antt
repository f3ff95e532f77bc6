use Rattle.std.proofs.lemmas.Result.{IfOk-weaker}
use Rattle.audit_frame.specs.Lines.{noted_line}
use Rattle.audit_blocks.proofs.Sharing.{none_shared, put_shared}
use Rattle.audit_blocks.proofs.shares.with_entry.Goals as goal

pub returns-in_ok-more-in-Put : goal.returns-in_ok-more-in-Put
returns-in_ok-more-in-Put c = IfOk-weaker c.plus.result _ _ (λ shares summed log h.
    put_shared c.args.k.now log (noted_line c.args.line.now) c.in-Put.t c.args.shares _ shares c.in-Put.is h c.in_ok-more-in-Put.ensures summed)
    c.plus.ensures

pub returns-in_default : goal.returns-in_default
returns-in_default c = λ log h. none_shared c.args.k.now log (noted_line c.args.line.now) c.args.shares c.in_default.not-Put h
