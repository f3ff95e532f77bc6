use Rattle.std.proofs.Common.{◌≡◌, length, ap, ◌∙◌, arith}
use Rattle.stored_disks.specs.Disks.{blocks_before}
use Rattle.stored_disks.proofs.CountedParts.{more-blocks}
use Rattle.stored_disks.proofs.counting.block_sum.Goals as goal

pub loop-file-preserved : goal.loop-file-preserved
loop-file-preserved c = record {
  value = more-blocks c.args.cat.now c.loop-file.file c.loop-file.blocks c.block_count-blocks.result c.loop-file.invariant.value c.block_count-blocks.ensures.value;
  few = omega (arith, c.loop-file.invariant.few, c.block_count-blocks.ensures.few);
}

pub returns-clause-value : goal.returns-clause-value
returns-clause-value c =
    let all : c.loop-file.file ≡ length c.args.cat.now.files = omega (arith, c.len-file-end.ensures) in
    c.loop-file.invariant.value ∙ ap (blocks_before c.args.cat.now) all
