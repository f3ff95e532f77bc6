use Rattle.std.proofs.Common.{false, refl}
use Rattle.tiger_disks.specs.Samples.{one_name, image_name}
use Rattle.tiger_disks.proofs.rows.commands.Goals as goal

pub returns-clause-known : goal.returns-clause-known
returns-clause-known c h = h one_name image_name false refl
