use Rattle.file_disk.specs.Parts.{parts_of_file}
use Rattle.file_disk.specs.Storing.{Stored, progress}
use Rattle.file_disk.proofs.Ranges.{parts_in}
use Rattle.file_disk.proofs.putting.store_files.Given as goal

-- the parts of the files so far are stored
abbrev pub invariant-loop-file : goal.invariant-loop-file
invariant-loop-file g l =
    Stored (progress l.fn.draft (g.V.Device.state l.fn.dev)) (progress l.draft (g.V.Device.state l.dev))
    (parts_in (parts_of_file l.image l.first l.count) 0 l.file)
