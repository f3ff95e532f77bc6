use Rattle.file_disk.proofs.Keeping.{each-kept}
use Rattle.file_disk.proofs.each_part_is_kept.Goals as goal

pub returns : goal.returns
returns c = each-kept
