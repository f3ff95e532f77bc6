-- The times in which all reads of a disk fail.
use Rattle.std.specs.Prelude.{ℕ, if◌then◌else◌, List, [], ◌∷◌, Option, None, option_and_then, option_map, Result, codes}
use Rattle.serde_json.specs.Data.{Data}
use Rattle.serde_json.specs.Find.{get}
use Rattle.node_kit.specs.declared.course.ReadFault.{ReadFault}
use Rattle.scenario_read.specs.declared.stop.ScenarioFault.{ScenarioFault}
use Rattle.json_look.specs.Json.{has_only, is_one_of, ranged_at, below_at}
use Rattle.scenario_read.specs.Items.{items_of, given_or}

-- the beats of a read fault: at least one, and none beyond the run's
unfoldable pub fault_on : ℕ → ℕ → Data → Option ReadFault
fault_on beats disk d =
    option_and_then (λ until. option_map (λ from. record { disk = record { 0 = disk }; from = from; until = until }) (below_at (codes "from") until d))
    (ranged_at (codes "until") 1 beats d)

-- a read fault of one of so many disks
unfoldable pub read_fault_of : ℕ → ℕ → Data → Option ReadFault
read_fault_of disks beats d =
    if has_only (is_one_of (codes "disk" ∷ codes "from" ∷ codes "until" ∷ [])) d
    then option_and_then (λ disk. fault_on beats disk d) (below_at (codes "disk") disks d)
    else None

abbrev pub read_fault_after : ℕ → ℕ → List ReadFault → Data → Option ReadFault
read_fault_after disks beats front d = read_fault_of disks beats d

-- at most 1000 read faults; none where none are given
unfoldable pub read_faults_of : ℕ → ℕ → Data → Result (List ReadFault) ScenarioFault
read_faults_of disks beats d = given_or [] (items_of 12 0 1000 1000 (read_fault_after disks beats)) (get (codes "read_faults") d)
