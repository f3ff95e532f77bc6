use Rattle.std.proofs.Common.{sym, ◌∙◌}
use Rattle.std.proofs.lemmas.Bool.{eqb-true}
use Rattle.audit_orders.proofs.Streaming.{nothing_in}
use Rattle.audit_orders.proofs.mail.is_next.Goals as goal

pub returns-then-none : goal.returns-then-none
returns-then-none c = λ t. (nothing_in _ (c.is_empty-none.ensures.0 c.if-none.true), sym c.length_of-count.ensures ∙ eqb-true _ _ t)
