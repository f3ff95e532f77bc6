use Rattle.std.proofs.Common.{◌+◌, ◌-◌, vec_len}
use Rattle.outside.proofs.dir_files.read_up_to.Given as goal

abbrev pub decreases-loop-chunk : goal.decreases-loop-chunk
decreases-loop-chunk g l = l.most + 1 - vec_len l.bytes
