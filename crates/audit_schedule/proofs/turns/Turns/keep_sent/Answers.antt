use Rattle.std.proofs.Common.{ℕ, cond, Option, Some, ap, ◌∙◌}
use Rattle.std.specs.Prelude.{◌==◌}
use Rattle.std.proofs.lemmas.Result.{on_ok_weaker}
use Rattle.audit_frame.specs.Tables.{mark_under}
use Rattle.audit_schedule.specs.Turns.{later_of}
use Rattle.audit_schedule.proofs.turns.Turns.keep_sent.Goals as goal

pub returns-clause-latest : goal.returns-clause-latest
returns-clause-latest c = on_ok_weaker c.set.result (λ set v.
    set v ∙ ap (λ (k : ℕ). cond (c.args.want.now.instance.0 == v) (Some k) (mark_under v c.args.self.now.latest))
    (c.later_of-visit.ensures ∙ ap (λ (o : Option ℕ). later_of o c.args.want.now.visit) c.get.ensures)) c.set.ensures
