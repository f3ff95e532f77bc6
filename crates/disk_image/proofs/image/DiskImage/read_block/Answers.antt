use Rattle.std.proofs.Common.{◌∙◌}
use Rattle.disk_image.proofs.Parts.{held_part-block}
use Rattle.disk_image.proofs.image.DiskImage.read_block.Goals as goal

pub returns : goal.returns
returns c = c.read.ensures ∙ held_part-block c.args.self.now c.args.file c.args.block
