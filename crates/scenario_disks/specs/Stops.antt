-- Why the disks of a scenario are not in an image.
use Rattle.std.specs.Prelude.{◌≡◌, ℕ, ◌+◌, ◌<◌, List, Bool}
use Rattle.scenario_read.specs.declared.scenario.Scenario.{Scenario}
use Rattle.file_disk.specs.Devices.{DeviceState, HasOpened, IsRefused}
use Rattle.file_disk.specs.declared.device.OpenFault.{OpenFault}
use Rattle.file_disk.specs.declared.device.OpenFault.TheVariants as opening
use Rattle.stored_disks.specs.Disks.{Disks, part_count}
use Rattle.stored_disks.specs.Faults.{IsPartDamaged}
use Rattle.stored_disks.specs.declared.fault.DisksFault.{DisksFault}
use Rattle.stored_disks.specs.declared.fault.DisksFault.TheVariants as faults
use Rattle.scenario_disks.specs.Images.{OfScenario, most_parts}
use Rattle.scenario_disks.specs.declared.stop.DisksStop.{DisksStop}
use Rattle.scenario_disks.specs.declared.stop.DisksStop.TheVariants as stops

-- the disks have so many parts, which are too many
abbrev pub AreTooMany : ℕ → Disks → Type 0
AreTooMany parts s = (parts ≡ part_count s.catalogue s.pieces) × (most_parts < parts)

-- Why the disks of a scenario are not in the image of a name: they have too many parts, and nothing was done; the image
-- exists, and the device counted that; a call of the device failed; or what was read of a part, of the image of this name, is
-- other than what was stored.
abbrev pub KeepCause : List ℕ → Scenario → List (List ℕ) → Bool → DeviceState → DeviceState
    → DisksStop → Type 0
KeepCause name s library over old new (stops.TooMany parts) =
    (new ≡ old) × OfScenario s library (AreTooMany parts)
KeepCause name s library over old new stops.Exists = IsRefused over old new
KeepCause name s library over old new stops.Device = new.faults ≡ old.faults + 1
KeepCause name s library over old new (stops.Damaged disk at kept found) =
    (new.faults ≡ old.faults) × HasOpened name old new
    × OfScenario s library (λ disks. IsPartDamaged disks old.told disk.0 at kept found)
KeepCause name s library over old new stops.NoMemory = new.faults ≡ old.faults

-- ---- parts of it

-- why disks that are not too many are not in an image
abbrev pub ImageCause : List ℕ → Disks → Bool → DeviceState → DeviceState → DisksStop → Type 0
ImageCause name s over old new (stops.TooMany parts) = ⊥
ImageCause name s over old new stops.Exists = IsRefused over old new
ImageCause name s over old new stops.Device = new.faults ≡ old.faults + 1
ImageCause name s over old new (stops.Damaged disk at kept found) =
    (new.faults ≡ old.faults) × HasOpened name old new
    × IsPartDamaged s old.told disk.0 at kept found
ImageCause name s over old new stops.NoMemory = new.faults ≡ old.faults

-- ---- what a fault below is here

abbrev pub stop_by_open : OpenFault → DisksStop
stop_by_open opening.Failed = stops.Device
stop_by_open opening.Exists = stops.Exists
stop_by_open opening.NoMemory = stops.NoMemory

abbrev pub stop_by_disks : DisksFault → DisksStop
stop_by_disks faults.Device = stops.Device
stop_by_disks (faults.Damaged disk at kept found) = stops.Damaged disk at kept found
stop_by_disks faults.NoMemory = stops.NoMemory
