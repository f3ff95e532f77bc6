-- How the command ends, by what ended below it.
use Rattle.std.proofs.Common.{◌≡◌, ℕ, ◌+◌, List, Bool, length, inl, inr, refl, subst}
use Rattle.outside.specs.Told.{FilesState}
use Rattle.outside.specs.Written.{SinkState}
use Rattle.outside.specs.declared.sink.SinkFault.{SinkFault}
use Rattle.outside.specs.declared.sink.SinkFault.TheVariants as sinks
use Rattle.file_disk.specs.Devices.{DeviceState}
use Rattle.stored_disks.specs.Disks.{Disks}
use Rattle.scenario_disks.specs.Images.{OfScenario, AreInImage, all_lines}
use Rattle.scenario_disks.specs.Stops.{KeepCause}
use Rattle.scenario_disks.specs.declared.stop.DisksStop.{DisksStop}
use Rattle.scenario_disks.specs.declared.stop.DisksStop.TheVariants as stops
use Rattle.tiger_input.specs.declared.inputs.Inputs.{Inputs}
use Rattle.tiger_input.specs.declared.status.Status.{Status}
use Rattle.tiger_input.specs.declared.status.Status.TheVariants as statuses
use Rattle.tiger_input.specs.Inputs.{AreInputs, InputsCause, MadeCalls}
use Rattle.tiger_input.specs.Ending.{IsWritten, IsBegun, TextCause}
use Rattle.tiger_disks.specs.Statuses.{status_by_stop, status_by_sink}
use Rattle.tiger_disks.specs.Ends.{OfInputs, InputEnd, RunEnd, DeviceEnd, SinkEnd, IsInputRefusal}
use Rattle.tiger_disks.specs.declared.status.DisksStatus.TheVariants as ends

-- an input was refused
pub refused-input : (status : Status) (name : List ℕ) (old new : FilesState) → InputsCause name old new status → RunEnd name old new status
refused-input statuses.Done name old new cause = absurd cause
refused-input statuses.WriteFault name old new cause = absurd cause
refused-input statuses.Words name old new cause = absurd cause
refused-input (statuses.Absent file) name old new cause = cause
refused-input (statuses.ReadFault file) name old new cause = cause
refused-input (statuses.Scenario fault) name old new cause = inl cause
refused-input statuses.NoMemory name old new cause = cause
refused-input (statuses.TooLong file given most) name old new cause = cause

-- and nothing was written
pub refused-sink : (status : Status) (name : List ℕ) (old new : FilesState) (out : SinkState) → InputsCause name old new status
    → SinkEnd name old new out out (ends.Run status)
refused-sink statuses.Done name old new out cause = absurd cause
refused-sink statuses.WriteFault name old new out cause = absurd cause
refused-sink statuses.Words name old new out cause = absurd cause
refused-sink (statuses.Absent file) name old new out cause = refl
refused-sink (statuses.ReadFault file) name old new out cause = refl
refused-sink (statuses.Scenario fault) name old new out cause = refl
refused-sink statuses.NoMemory name old new out cause = inl refl
refused-sink (statuses.TooLong file given most) name old new out cause = refl

-- and the device was not the cause
pub refused-device : (status : Status) (name image : List ℕ) (old new : FilesState) (over : Bool) (a b : DeviceState) → InputsCause name old new status
    → DeviceEnd name image old new over a b (ends.Run status)
refused-device statuses.Done name image old new over a b cause = tt
refused-device statuses.WriteFault name image old new over a b cause = absurd cause
refused-device statuses.Words name image old new over a b cause = tt
refused-device (statuses.Absent file) name image old new over a b cause = tt
refused-device (statuses.ReadFault file) name image old new over a b cause = tt
refused-device (statuses.Scenario fault) name image old new over a b cause = tt
refused-device statuses.NoMemory name image old new over a b cause = tt
refused-device (statuses.TooLong file given most) name image old new over a b cause = tt

-- what holds of the disks of the scenario that was read
pub of-inputs : (old new : FilesState) (name : List ℕ) (inputs : Inputs) (P : Disks → Type 0) → AreInputs old.told name inputs
    → MadeCalls (1 + length inputs.scenario.files) old new → OfScenario inputs.scenario inputs.library P → OfInputs old new name P
of-inputs old new name inputs P read calls disks = record { inputs = inputs; read = read; calls = calls; disks = disks }

-- the disks were not kept
pub stopped-input : (stop : DisksStop) (name image : List ℕ) (old new : FilesState) (inputs : Inputs) (over : Bool) (a b : DeviceState) → AreInputs old.told name inputs
    → MadeCalls (1 + length inputs.scenario.files) old new → KeepCause image inputs.scenario inputs.library over a b stop
    → InputEnd name old new (status_by_stop stop)
stopped-input (stops.TooMany parts) name image old new inputs over a b read calls cause =
    inr (record { parts = parts; is = refl; many = of-inputs old new name inputs _ read calls cause.1 })
stopped-input stops.Exists name image old new inputs over a b read calls cause = tt
stopped-input stops.Device name image old new inputs over a b read calls cause = tt
stopped-input (stops.Damaged disk at kept found) name image old new inputs over a b read calls cause = tt
stopped-input stops.NoMemory name image old new inputs over a b read calls cause = tt

pub stopped-device : (stop : DisksStop) (name image : List ℕ) (old new : FilesState) (inputs : Inputs) (over : Bool) (a b : DeviceState) → AreInputs old.told name inputs
    → MadeCalls (1 + length inputs.scenario.files) old new → KeepCause image inputs.scenario inputs.library over a b stop
    → DeviceEnd name image old new over a b (status_by_stop stop)
stopped-device (stops.TooMany parts) name image old new inputs over a b read calls cause = tt
stopped-device stops.Exists name image old new inputs over a b read calls cause = cause
stopped-device stops.Device name image old new inputs over a b read calls cause = cause
stopped-device (stops.Damaged disk at kept found) name image old new inputs over a b read calls cause =
    (cause.1, of-inputs old new name inputs _ read calls cause.2)
stopped-device stops.NoMemory name image old new inputs over a b read calls cause = tt

pub stopped-sink : (stop : DisksStop) (name : List ℕ) (old new : FilesState) (out : SinkState) → SinkEnd name old new out out (status_by_stop stop)
stopped-sink (stops.TooMany parts) name old new out = refl
stopped-sink stops.Exists name old new out = refl
stopped-sink stops.Device name old new out = refl
stopped-sink (stops.Damaged disk at kept found) name old new out = refl
stopped-sink stops.NoMemory name old new out = inl refl

pub stopped-untouched : (stop : DisksStop) (image : List ℕ) (inputs : Inputs) (over : Bool) (a b : DeviceState) → KeepCause image inputs.scenario inputs.library over a b stop
    → IsInputRefusal (status_by_stop stop) → b ≡ a
stopped-untouched (stops.TooMany parts) image inputs over a b cause refused = cause.0
stopped-untouched stops.Exists image inputs over a b cause refused = absurd refused
stopped-untouched stops.Device image inputs over a b cause refused = absurd refused
stopped-untouched (stops.Damaged disk at kept found) image inputs over a b cause refused = absurd refused
stopped-untouched stops.NoMemory image inputs over a b cause refused = absurd refused

-- the disks were kept, and their lines
abbrev HasText : List ℕ → DeviceState → DeviceState → List ℕ → Disks → Type 0
HasText image a b text disks = AreInImage image disks a b × (text ≡ all_lines disks)

pub done : (old new : FilesState) (name image : List ℕ) (inputs : Inputs) (a b : DeviceState) (out out' : SinkState) (text : List ℕ) → AreInputs old.told name inputs
    → MadeCalls (1 + length inputs.scenario.files) old new → OfScenario inputs.scenario inputs.library (HasText image a b text) → IsWritten out out' text
    → OfInputs old new name (λ disks. AreInImage image disks a b × IsWritten out out' (all_lines disks))
done old new name image inputs a b out out' text read calls disks written =
    of-inputs old new name inputs _ read calls (record {
      catalogue = disks.catalogue;
      is = disks.is;
      holds = (disks.holds.0, subst (λ (t : List ℕ). IsWritten out out' t) disks.holds.1 written);
    })

-- a front of the lines was written
begun : (old new : FilesState) (name image : List ℕ) (inputs : Inputs) (a b : DeviceState) (out out' : SinkState) (text : List ℕ) → AreInputs old.told name inputs
    → MadeCalls (1 + length inputs.scenario.files) old new → OfScenario inputs.scenario inputs.library (HasText image a b text) → IsBegun out out' text
    → OfInputs old new name (λ disks. IsBegun out out' (all_lines disks))
begun old new name image inputs a b out out' text read calls disks front =
    of-inputs old new name inputs _ read calls (record {
      catalogue = disks.catalogue;
      is = disks.is;
      holds = subst (λ (t : List ℕ). IsBegun out out' t) disks.holds.1 front;
    })

pub unwritten-sink : (fault : SinkFault) (old new : FilesState) (name image : List ℕ) (inputs : Inputs) (a b : DeviceState) (out out' : SinkState) (text : List ℕ)
    → AreInputs old.told name inputs → MadeCalls (1 + length inputs.scenario.files) old new
    → OfScenario inputs.scenario inputs.library (HasText image a b text) → TextCause out out' text fault
    → SinkEnd name old new out out' (status_by_sink fault)
unwritten-sink sinks.Failed old new name image inputs a b out out' text read calls disks cause =
    (cause.0, begun old new name image inputs a b out out' text read calls disks cause.1)
unwritten-sink sinks.NoMemory old new name image inputs a b out out' text read calls disks cause =
    inr (begun old new name image inputs a b out out' text read calls disks cause.1)

pub unwritten-input : (fault : SinkFault) (name : List ℕ) (old new : FilesState) → InputEnd name old new (status_by_sink fault)
unwritten-input sinks.Failed name old new = tt
unwritten-input sinks.NoMemory name old new = tt

pub unwritten-device : (fault : SinkFault) (old new : FilesState) (name image : List ℕ) (inputs : Inputs) (over : Bool) (a b : DeviceState) (text : List ℕ)
    → AreInputs old.told name inputs → MadeCalls (1 + length inputs.scenario.files) old new
    → OfScenario inputs.scenario inputs.library (HasText image a b text) → DeviceEnd name image old new over a b (status_by_sink fault)
unwritten-device sinks.Failed old new name image inputs over a b text read calls disks =
    of-inputs old new name inputs _ read calls (record { catalogue = disks.catalogue; is = disks.is; holds = disks.holds.0 })
unwritten-device sinks.NoMemory old new name image inputs over a b text read calls disks = tt
