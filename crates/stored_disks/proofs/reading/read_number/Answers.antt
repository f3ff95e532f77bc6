use Rattle.std.proofs.Common.{sym, ◌∙◌}
use Rattle.file_disk.specs.Fetching.{IsOfImage}
use Rattle.stored_disks.proofs.ReadParts.{element-at}
use Rattle.stored_disks.proofs.reading.read_number.Goals as goal

pub read_part-requires-clause-of_image : goal.read_part-requires-clause-of_image
read_part-requires-clause-of_image g c =
    element-at (IsOfImage c.args.image.now) c.args.dir.now c.args.number c.in-Some.extent c.requires.of_image (sym c.kept.ensures.value ∙ c.in-Some.is)
