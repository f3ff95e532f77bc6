-- Sources of files of which the worked rows speak.
use Rattle.std.specs.Prelude.{ℕ, List, codes}
use Rattle.outside.specs.Told.{Told, FilesState}

-- the name of a plan
abbrev pub net_name : List ℕ
net_name = codes "net.json"

-- a source that tells the same of each name, with these numbers of faults and of calls that found no file
abbrev pub net_source : Told → ℕ → ℕ → FilesState
net_source file faults absences =
    record { told = λ name. file; counts = record { calls = 3; faults = faults; absences = absences } }
