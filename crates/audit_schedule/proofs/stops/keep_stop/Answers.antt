use Rattle.std.proofs.Common.{ℕ, ap, ◌∙◌, Option, Some, cond}
use Rattle.std.specs.Prelude.{◌==◌}
use Rattle.std.proofs.lemmas.Result.{on_ok_weaker}
use Rattle.audit_frame.specs.Tables.{mark_under}
use Rattle.audit_schedule.specs.Stops.{earlier}
use Rattle.audit_schedule.proofs.stops.keep_stop.Goals as goal

pub returns : goal.returns
returns c = on_ok_weaker c.set.result (λ set n.
    set n ∙ ap (λ (b : ℕ). cond (c.args.v.0 == n) (Some b) (mark_under n c.args.stops.now))
    (c.earlier-first.ensures ∙ ap (λ (o : Option ℕ). earlier o c.args.beat) c.get.ensures)) c.set.ensures
