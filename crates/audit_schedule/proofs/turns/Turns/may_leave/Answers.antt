use Rattle.std.proofs.Common.{ℕ, Bool, not, ◌||◌, Option, ap, ◌∙◌}
use Rattle.audit_frame.specs.Tables.{mark_under}
use Rattle.audit_schedule.specs.Turns.{is_beat, is_low}
use Rattle.audit_schedule.proofs.turns.Turns.may_leave.Goals as goal

pub returns : goal.returns
returns c =
    let low = c.is_low-low.ensures ∙ ap (λ (o : Option ℕ). is_low o c.args.want.now.visit) c.get-2.ensures in
    let again = c.is_beat-again.ensures ∙ ap (λ (o : Option ℕ). is_beat o c.args.beat) c.get.ensures in
    c.is_other_or.ensures ∙ ap (λ (b : Bool). not b || c.is_low-low.result) again ∙ ap (λ (b : Bool). not (is_beat (mark_under c.args.want.now.instance.0 c.args.self.now.last) c.args.beat) || b) low
