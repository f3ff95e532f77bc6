use Rattle.std.proofs.Common.{◌∙◌}
use Rattle.audit_blocks.proofs.Sending.{said_lines}
use Rattle.audit_blocks.proofs.lookups.is_said.Goals as goal

pub returns : goal.returns
returns c = c.has.ensures ∙ (c.requires.sent c.args.cub c.args.whole c.args.receipt.now
    ∙ said_lines c.args.cub c.args.whole c.args.receipt.now c.args.k.now.journals)
