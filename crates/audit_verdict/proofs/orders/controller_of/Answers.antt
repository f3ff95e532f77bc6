use Rattle.std.proofs.Common.{ℕ, ap, ◌∙◌}
use Rattle.tiger_base.specs.declared.number.NodeNo.{NodeNo}
use Rattle.node_kit.specs.Links.{controller_of}
use Rattle.audit_verdict.proofs.orders.controller_of.Goals as goal

abbrev numbered : ℕ → NodeNo
numbered n = record { 0 = n }

pub returns : goal.returns
returns c = ap numbered (c.controller.ensures ∙ ap controller_of c.new.ensures)
