use Rattle.file_disk.specs.Parts.{parts_of_block}
use Rattle.file_disk.specs.Storing.{Stored, progress}
use Rattle.file_disk.proofs.Ranges.{parts_in}
use Rattle.file_disk.proofs.putting.store_file.Given as goal

-- the parts of the blocks so far are stored
abbrev pub invariant-loop-block : goal.invariant-loop-block
invariant-loop-block g l =
    Stored (progress l.fn.draft (g.V.Device.state l.fn.dev)) (progress l.draft (g.V.Device.state l.dev))
    (parts_in (parts_of_block l.image l.first l.count l.file.0) 0 l.block)
