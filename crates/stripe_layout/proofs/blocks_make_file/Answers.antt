use Rattle.stripe_layout.proofs.Blocks.{BlocksMakeFile-holds}
use Rattle.stripe_layout.proofs.blocks_make_file.Goals as goal

pub returns : goal.returns
returns c = BlocksMakeFile-holds
