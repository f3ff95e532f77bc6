-- The files: their names, and the disks of their first blocks.
use Rattle.std.specs.Prelude.{ℕ, ◌&&◌, nat_le, if◌then◌else◌, List, [], ◌∷◌, length, Option, Some, None, option_and_then, option_map, Result, codes}
use Rattle.serde_json.specs.Data.{Data}
use Rattle.serde_json.specs.Find.{get, as_str}
use Rattle.scenario_read.specs.declared.stop.ScenarioFault.{ScenarioFault}
use Rattle.scenario_read.specs.declared.scenario.FileLine.{FileLine}
use Rattle.scenario_read.specs.Fault.{◌>>=◌, broken, found}
use Rattle.json_look.specs.Json.{has_only, is_one_of, below_at}
use Rattle.scenario_read.specs.Items.{items_of}

-- a name of 1 to 200 bytes
unfoldable pub name_of : Data → Option (List ℕ)
name_of d = option_and_then (λ s. if nat_le 1 (length s) && nat_le (length s) 200 then Some s else None) (option_and_then as_str (get (codes "name") d))

-- a file on one of so many disks
unfoldable pub file_of : ℕ → Data → Option FileLine
file_of disks d =
    if has_only (is_one_of (codes "name" ∷ codes "disk" ∷ [])) d
    then option_and_then (λ name. option_map (λ disk. record { name = name; disk = record { 0 = disk } }) (below_at (codes "disk") disks d)) (name_of d)
    else None

abbrev pub file_after : ℕ → List FileLine → Data → Option FileLine
file_after disks front d = file_of disks d

-- from 1 to 64 files
unfoldable pub files_of : ℕ → Data → Result (List FileLine) ScenarioFault
files_of disks d = found (get (codes "files") d) (broken 8 64) >>= items_of 8 1 64 64 (file_after disks)
