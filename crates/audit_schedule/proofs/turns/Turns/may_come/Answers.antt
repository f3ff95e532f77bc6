use Rattle.std.proofs.Common.{ℕ, Option, ap, ◌∙◌}
use Rattle.audit_schedule.specs.Turns.{is_latest}
use Rattle.audit_schedule.proofs.turns.Turns.may_come.Goals as goal

pub returns : goal.returns
returns c = c.is_latest.ensures ∙ ap (λ (o : Option ℕ). is_latest o c.args.want.now.visit) c.get.ensures
