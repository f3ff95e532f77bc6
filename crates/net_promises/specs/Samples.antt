-- Files of which the worked rows speak.
use Rattle.std.specs.Prelude.{ℕ, []}
use Rattle.outside.specs.Memory.{MemoryFiles}

-- no files, with this number of faults
abbrev pub no_files : ℕ → MemoryFiles
no_files faults = record { entries = []; failing = []; counts = record { calls = 3; faults = faults; absences = 0 } }
