use Rattle.file_disk.proofs.Keeping.{no-other}
use Rattle.file_disk.proofs.nothing_else_is_kept.Goals as goal

pub returns : goal.returns
returns c = no-other
