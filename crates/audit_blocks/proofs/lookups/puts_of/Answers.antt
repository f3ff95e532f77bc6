use Rattle.std.proofs.Common.{◌∙◌}
use Rattle.audit_blocks.proofs.lookups.puts_of.Goals as goal

pub returns : goal.returns
returns c = c.under.ensures ∙ c.requires.put c.args.v.0
