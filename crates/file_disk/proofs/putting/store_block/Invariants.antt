use Rattle.file_disk.specs.Parts.{part_here, part_name}
use Rattle.file_disk.specs.Storing.{Stored, progress}
use Rattle.file_disk.proofs.Ranges.{parts_in}
use Rattle.file_disk.proofs.putting.store_block.Given as goal

-- the parts of the numbers so far are stored
abbrev pub invariant-loop-k : goal.invariant-loop-k
invariant-loop-k g l =
    Stored (progress l.fn.draft (g.V.Device.state l.fn.dev)) (progress l.draft (g.V.Device.state l.dev))
    (parts_in (λ piece. part_here l.image (part_name l.file.0 l.block piece)) l.first l.k)
