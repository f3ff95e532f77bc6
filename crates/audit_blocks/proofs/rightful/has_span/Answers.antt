use Rattle.std.proofs.Common.{sym, ◌∙◌}
use Rattle.audit_blocks.proofs.Choosing.{shape_first, shape_last}
use Rattle.audit_blocks.proofs.rightful.has_span.Goals as goal

pub is_piece-requires-clause-first : goal.is_piece-requires-clause-first
is_piece-requires-clause-first c =
    shape_first c.args.plan.now.params c.args.cargo.now (sym c.is_whole.ensures ∙ c.if-is_whole.false) c.requires

pub is_piece-requires-clause-last : goal.is_piece-requires-clause-last
is_piece-requires-clause-last c =
    shape_last c.args.plan.now.params c.args.cargo.now (sym c.is_whole.ensures ∙ c.if-is_whole.false) c.requires
