use Rattle.std.proofs.Common.{ℕ, Option, is_some, not, ap, ◌∙◌}
use Rattle.audit_waits.proofs.Holding.{marked_not}
use Rattle.audit_waits.proofs.holders.Holders.has_seat.Goals as goal

pub returns : goal.returns
returns c = marked_not _ c.is_none.result c.is_none.ensures ∙ ap (λ (o : Option ℕ). not (is_some o)) c.get.ensures
