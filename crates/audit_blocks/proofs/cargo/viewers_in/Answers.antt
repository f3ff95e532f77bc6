use Rattle.std.proofs.Common.{ap, ◌∙◌}
use Rattle.node_kit.specs.Links.{viewers_of}
use Rattle.audit_blocks.proofs.cargo.viewers_in.Goals as goal

pub returns : goal.returns
returns c = c.viewers.ensures ∙ ap viewers_of c.new-links.ensures
