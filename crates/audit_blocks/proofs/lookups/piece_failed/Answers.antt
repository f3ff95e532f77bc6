use Rattle.std.proofs.Common.{◌∙◌}
use Rattle.audit_blocks.proofs.Bridging.{failed_lines}
use Rattle.audit_blocks.proofs.lookups.piece_failed.Goals as goal

pub returns : goal.returns
returns c = c.has.ensures ∙ (c.requires.failed c.args.v.0 c.args.n c.args.piece
    ∙ failed_lines c.args.v.0 c.args.n c.args.piece c.args.k.now.journals)
