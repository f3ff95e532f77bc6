-- How the command ends.
use Rattle.std.specs.Prelude.{◌≡◌, ℕ, ◌+◌, Bool, List, length, ◌⊎◌}
use Rattle.outside.specs.Told.{FilesState}
use Rattle.outside.specs.Written.{SinkState}
use Rattle.file_disk.specs.Devices.{DeviceState, HasOpened, IsRefused}
use Rattle.stored_disks.specs.Disks.{Disks}
use Rattle.stored_disks.specs.Faults.{IsPartDamaged}
use Rattle.scenario_read.specs.Fault.{exceeded}
use Rattle.scenario_read.specs.declared.stop.ScenarioFault.{ScenarioFault}
use Rattle.scenario_disks.specs.Images.{OfScenario, AreInImage, all_lines, most_parts}
use Rattle.scenario_disks.specs.Stops.{AreTooMany}
use Rattle.tiger_input.specs.declared.inputs.Inputs.{Inputs}
use Rattle.tiger_input.specs.declared.status.Status.{Status}
use Rattle.tiger_input.specs.declared.status.Status.TheVariants as statuses
use Rattle.tiger_input.specs.Inputs.{AreInputs, InputsCause, MadeCalls}
use Rattle.tiger_input.specs.Ending.{IsBegun, PutFailed}
use Rattle.tiger_disks.specs.Statuses.{parts_rule}
use Rattle.tiger_disks.specs.declared.status.DisksStatus.{DisksStatus}
use Rattle.tiger_disks.specs.declared.status.DisksStatus.TheVariants as ends

-- the scenario of a name was read, and then its files, with one call for each, and this holds of its disks
pub record OfInputs (old new : FilesState) (name : List ℕ) (P : Disks → Type 0) : Type 0 where
  pub inputs : Inputs
  pub read : AreInputs old.told name inputs
  pub calls : MadeCalls (1 + length inputs.scenario.files) old new
  pub disks : OfScenario inputs.scenario inputs.library P

-- the disks of the scenario have too many parts, of which the fault tells how many
pub record HasTooMany (old new : FilesState) (name : List ℕ) (fault : ScenarioFault) : Type 0 where
  pub parts : ℕ
  pub is : fault ≡ exceeded parts_rule parts most_parts
  pub many : OfInputs old new name (AreTooMany parts)

-- why an input was refused: as `run` refuses it, or since the disks have too many parts
abbrev pub RunEnd : List ℕ → FilesState → FilesState → Status → Type 0
RunEnd name old new statuses.Done = ⊥
RunEnd name old new statuses.Words = ⊥
RunEnd name old new statuses.WriteFault = Unit {0}
RunEnd name old new (statuses.Scenario fault) =
    InputsCause name old new (statuses.Scenario fault) ⊎ HasTooMany old new name fault
RunEnd name old new status = InputsCause name old new status

abbrev pub InputEnd : List ℕ → FilesState → FilesState → DisksStatus → Type 0
InputEnd name old new (ends.Run status) = RunEnd name old new status
InputEnd name old new _ = Unit {0}

-- Why a device ended the command that was given the names of a scenario and of an image; and with lines that could not be
-- written the image is whole.
abbrev pub DeviceEnd : List ℕ → List ℕ → FilesState → FilesState → Bool → DeviceState → DeviceState
    → DisksStatus → Type 0
DeviceEnd name image old new over device device_new ends.Device =
    device_new.faults ≡ device.faults + 1
DeviceEnd name image old new over device device_new (ends.Damaged disk at kept found) =
    HasOpened image device device_new
    × OfInputs old new name (λ disks. IsPartDamaged disks device.told disk.0 at kept found)
DeviceEnd name image old new over device device_new ends.ImageExists =
    IsRefused over device device_new
DeviceEnd name image old new over device device_new (ends.Run statuses.WriteFault) =
    OfInputs old new name (λ disks. AreInImage image disks device device_new)
DeviceEnd name image old new over device device_new (ends.Run status) = Unit {0}

-- what was written if not all was done: a front of the lines, or nothing
abbrev pub SinkEnd : List ℕ → FilesState → FilesState → SinkState → SinkState → DisksStatus → Type 0
SinkEnd name old new out out_new (ends.Run statuses.WriteFault) =
    PutFailed out out_new × OfInputs old new name (λ disks. IsBegun out out_new (all_lines disks))
SinkEnd name old new out out_new (ends.Run statuses.NoMemory) =
    (out_new.written ≡ out.written)
    ⊎ OfInputs old new name (λ disks. IsBegun out out_new (all_lines disks))
SinkEnd name old new out out_new _ = out_new.written ≡ out.written

-- the ends with which nothing is put
abbrev pub IsSilent : DisksStatus → Type 0
IsSilent (ends.Run statuses.WriteFault) = ⊥
IsSilent (ends.Run statuses.NoMemory) = ⊥
IsSilent _ = Unit {0}

-- the ends of which an input is the cause
abbrev pub IsInputRefusal : DisksStatus → Type 0
IsInputRefusal (ends.Run statuses.Done) = ⊥
IsInputRefusal (ends.Run statuses.WriteFault) = ⊥
IsInputRefusal (ends.Run statuses.NoMemory) = ⊥
IsInputRefusal (ends.Run _) = Unit {0}
IsInputRefusal _ = ⊥
