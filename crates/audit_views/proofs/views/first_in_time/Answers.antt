use Rattle.std.proofs.Common.{ℕ, nat_le, sym, ap, ◌∙◌}
use Rattle.audit_views.proofs.Judging.{first_in_time_is}
use Rattle.audit_views.proofs.views.first_in_time.Goals as goal

pub returns : goal.returns
returns c = λ stop.
    first_in_time_is c.args.plan.now.params c.args.beat stop c.args.plan.now.sound.ranges.beat.0
    ∙ ap (λ (n : ℕ). nat_le n stop) (sym c.beats_before.ensures)
