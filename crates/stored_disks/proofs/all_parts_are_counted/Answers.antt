use Rattle.stored_disks.proofs.CountedParts.{all-counted}
use Rattle.stored_disks.proofs.all_parts_are_counted.Goals as goal

pub returns : goal.returns
returns c = all-counted
