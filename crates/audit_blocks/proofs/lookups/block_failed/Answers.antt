use Rattle.std.proofs.Common.{◌∙◌}
use Rattle.audit_blocks.proofs.Bridging.{cub_lines}
use Rattle.audit_blocks.proofs.lookups.block_failed.Goals as goal

pub returns : goal.returns
returns c = c.has.ensures ∙ (c.requires.failed_whole c.args.v.0 c.args.n
    ∙ cub_lines c.args.k.now.course.plan.params c.args.v.0 c.args.n c.args.k.now.journals)
