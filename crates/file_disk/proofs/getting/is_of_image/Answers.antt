use Rattle.std.proofs.Common.{sym, ◌∙◌}
use Rattle.file_disk.proofs.Imaged.{has-digest}
use Rattle.file_disk.proofs.getting.is_of_image.Goals as goal

pub returns-in-Some : goal.returns-in-Some
returns-in-Some c is =
    has-digest c.args.image.now c.args.extent c.in-Some.part c.bytes.result.now c.args.bytes.now c.requires (sym c.image_part.ensures ∙ c.in-Some.is) c.bytes.ensures (c.are_same.ensures.same is)
