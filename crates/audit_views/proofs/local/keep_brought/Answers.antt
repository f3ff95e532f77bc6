use Rattle.std.proofs.lemmas.Result.{on_ok_weaker}
use Rattle.audit_frame.specs.Lines.{noted_line}
use Rattle.audit_views.proofs.Bringing.{put_brought, got_brought, none_brought}
use Rattle.audit_views.proofs.local.keep_brought.Goals as goal

pub returns-in-Put : goal.returns-in-Put
returns-in-Put c = on_ok_weaker c.keep_own.result (λ added m h.
    put_brought c.args.plan.now.params _ _ m (noted_line c.args.line.now) c.in-Put.t c.in-Put.is added h) c.keep_own.ensures

pub returns-in-Got : goal.returns-in-Got
returns-in-Got c = on_ok_weaker c.keep_note.result (λ added m h.
    got_brought c.args.plan.now.params _ _ m (noted_line c.args.line.now) c.in-Got.link c.in-Got.note c.in-Got.is added h)
    c.keep_note.ensures

pub returns-in_default : goal.returns-in_default
returns-in_default c = λ m h.
    none_brought c.args.plan.now.params _ m (noted_line c.args.line.now) c.in_default.not-Put c.in_default.not-Got h
