use Rattle.std.proofs.Common.{ℕ, Bool, cond, Option, Some, ap, ◌∙◌}
use Rattle.std.specs.Prelude.{◌==◌}
use Rattle.audit_frame.specs.Tables.{mark_under}
use Rattle.audit_schedule.specs.Turns.{is_beat, lowest_of}
use Rattle.audit_frame.proofs.Joined.{ok_always}
use Rattle.audit_schedule.proofs.turns.Turns.keep_got.Goals as goal

pub returns-clause-lowest : goal.returns-clause-lowest
returns-clause-lowest c =
    let again = c.is_beat-again.ensures ∙ ap (λ (o : Option ℕ). is_beat o c.args.beat) c.get.ensures in
    ok_always c.set-2.result _ (λ v.
    c.in_ok-set.ensures v ∙ ap (λ (k : ℕ). cond (c.args.want.now.instance.0 == v) (Some k) (mark_under v c.args.self.now.lowest))
    (c.lowest_of-visit.ensures
    ∙ ap (λ (b : Bool). lowest_of b c.get-2.result c.args.want.now.visit) again
    ∙ ap (λ (o : Option ℕ). lowest_of (is_beat (mark_under c.args.want.now.instance.0 c.args.self.now.last) c.args.beat) o c.args.want.now.visit) c.get-2.ensures))
