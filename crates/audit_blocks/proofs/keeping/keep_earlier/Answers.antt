use Rattle.std.proofs.Common.{ℕ, ap, ◌∙◌, Option, Some, cond}
use Rattle.std.specs.Prelude.{◌==◌}
use Rattle.std.proofs.lemmas.Result.{on_ok_weaker}
use Rattle.audit_frame.specs.Tables.{mark_under}
use Rattle.audit_blocks.specs.Told.{earlier_stop}
use Rattle.audit_blocks.proofs.keeping.keep_earlier.Goals as goal

pub returns : goal.returns
returns c = on_ok_weaker c.set.result (λ set n.
    set n ∙ ap (λ (b : ℕ). cond (c.args.v.0 == n) (Some b) (mark_under n c.args.stops.now))
    (c.earlier_stop-first.ensures ∙ ap (λ (o : Option ℕ). earlier_stop o c.args.beat) c.get.ensures)) c.set.ensures
