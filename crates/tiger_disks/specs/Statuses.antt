-- What is said of how the command ended.
use Rattle.std.specs.Prelude.{ℕ, List, ◌++◌, codes}
use Rattle.outside.specs.declared.sink.SinkFault.{SinkFault}
use Rattle.outside.specs.declared.sink.SinkFault.TheVariants as sinks
use Rattle.scenario_read.specs.Fault.{exceeded}
use Rattle.scenario_disks.specs.Images.{most_parts}
use Rattle.scenario_disks.specs.declared.stop.DisksStop.{DisksStop}
use Rattle.scenario_disks.specs.declared.stop.DisksStop.TheVariants as stops
use Rattle.tiger_input.specs.Statuses.{worded, line_of, exit_of}
use Rattle.tiger_input.specs.declared.status.Status.TheVariants as statuses
use Rattle.tiger_disks.specs.declared.status.DisksStatus.{DisksStatus}
use Rattle.tiger_disks.specs.declared.status.DisksStatus.TheVariants as ends

-- the line of a damaged part
abbrev pub damaged_line : ℕ → ℕ → List ℕ
damaged_line disk at =
    worded (codes "tiger: damaged disk ") disk ++ (worded (codes " at ") at ++ codes "\n")

-- the line on standard error; none if all was done
abbrev pub disks_line : DisksStatus → List ℕ
disks_line (ends.Run status) = line_of status
disks_line ends.Device = codes "tiger: device\n"
disks_line (ends.Damaged disk at kept found) = damaged_line disk.0 at
disks_line ends.ImageExists = codes "tiger: image exists\n"

-- the number that the program ends with
abbrev pub disks_exit : DisksStatus → ℕ
disks_exit (ends.Run status) = exit_of status
disks_exit ends.Device = 11
disks_exit (ends.Damaged disk at kept found) = 12
disks_exit ends.ImageExists = 14

-- ---- what a fault below is here

abbrev pub status_by_sink : SinkFault → DisksStatus
status_by_sink sinks.Failed = ends.Run statuses.WriteFault
status_by_sink sinks.NoMemory = ends.Run statuses.NoMemory

-- the rule that all disks have no more parts than they may
abbrev pub parts_rule : ℕ
parts_rule = 15

abbrev pub status_by_stop : DisksStop → DisksStatus
status_by_stop (stops.TooMany parts) =
    ends.Run (statuses.Scenario (exceeded parts_rule parts most_parts))
status_by_stop stops.Exists = ends.ImageExists
status_by_stop stops.Device = ends.Device
status_by_stop (stops.Damaged disk at kept found) = ends.Damaged disk at kept found
status_by_stop stops.NoMemory = ends.Run statuses.NoMemory
