use Rattle.std.proofs.Common.{◌≡◌, ◌*◌, ◌^◌, ◌≤◌}
use Rattle.stored_disks.specs.Disks.{blocks_before}
use Rattle.stored_disks.proofs.counting.block_sum.Given as goal

-- the blocks of the files so far are counted
abbrev pub invariant-loop-file : goal.invariant-loop-file
invariant-loop-file l = record {
  value : l.blocks ≡ blocks_before l.cat l.file;
  few : l.blocks ≤ l.file * 2 ^ 25;
}
