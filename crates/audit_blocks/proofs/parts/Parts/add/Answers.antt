use Rattle.audit_blocks.proofs.Keyed.{part_added}
use Rattle.audit_blocks.proofs.parts.Parts.add.Goals as goal

pub returns : goal.returns
returns c = λ i n k. part_added c.args.v.0 c.args.visit c.args.piece i n k _ _ _ c.self.view_is
    (c.in_ok-insert.ensures.updates.0 ((i, n), k))
