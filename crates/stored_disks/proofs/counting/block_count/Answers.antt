use Rattle.std.proofs.Common.{arith}
use Rattle.stored_disks.proofs.CountedParts.{few-blocks}
use Rattle.stored_disks.proofs.counting.block_count.Goals as goal

pub returns-clause-few : goal.returns-clause-few
returns-clause-few c = omega (arith, few-blocks c.args.cat.now c.args.file c.requires.short, c.block_count.ensures.value)
