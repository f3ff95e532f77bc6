use Rattle.audit_blocks.proofs.Answering.{not_some}
use Rattle.audit_blocks.proofs.Bridging.{some_lines}
use Rattle.audit_blocks.proofs.lookups.no_piece.Goals as goal

pub returns : goal.returns
returns c =
    let k = c.args.k.now in
    not_some _ _ _ _ c.has.ensures (c.requires.pieces c.args.v.0 c.args.n) (some_lines k.course.plan.params c.args.v.0 c.args.n k.journals)
