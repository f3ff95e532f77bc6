-- From when on disks are dead, by the read faults of a run: a disk is dead from a beat on where a read fault of it begins that
-- lasts to the run's end.
use Rattle.std.specs.Prelude.{ℕ, Bool, ◌==◌, ◌&&◌, List, [], ◌∷◌, map, min, Option, Some, None, if◌then◌else◌}
use Rattle.slot_plan.specs.declared.params.Params.{Params}
use Rattle.node_kit.specs.declared.course.ReadFault.{ReadFault}
use Rattle.cub_rules.specs.Ticks.{disks_at}

-- whether a fault is of a disk and lasts to the end of a run of so many beats
abbrev pub kills_disk : ℕ → ℕ → ReadFault → Bool
kills_disk beats disk fault = fault.disk.0 == disk && fault.until == beats

-- the earlier one of a beat and another, if there is one
abbrev pub earlier_death : ℕ → Option ℕ → Option ℕ
earlier_death from None = Some from
earlier_death from (Some other) = Some (min from other)

-- what a fault makes of the death by those behind it
abbrev pub death_by_fault : ℕ → ℕ → ReadFault → Option ℕ → Option ℕ
death_by_fault beats disk fault death = if kills_disk beats disk fault then earlier_death fault.from death else death

-- from which beat on a disk is dead, if it dies: the least in which such a fault begins
unfoldable pub death_of_disk : List ReadFault → ℕ → ℕ → Option ℕ
death_of_disk [] beats disk = None
death_of_disk (fault ∷ faults) beats disk = death_by_fault beats disk fault (death_of_disk faults beats disk)

-- the same of each disk of a cub, in their order
abbrev pub deaths_at : Params → List ReadFault → ℕ → ℕ → List (Option ℕ)
deaths_at p faults beats cub = map (death_of_disk faults beats) (disks_at p cub)
