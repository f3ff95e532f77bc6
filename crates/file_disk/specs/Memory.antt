-- What a device in memory is seen as.
use Rattle.std.specs.Prelude.{ℕ, ◌+◌, ◌-◌, ◌^◌, ◌==◌, ◌||◌, ◌&&◌, not, min, Bool, true, false, if◌then◌else◌, List, ◌++◌, length, take, drop, replicate, Some, Result, Err}
use Rattle.std.specs.List.{list_any}
use Rattle.file_disk.specs.Devices.{DeviceState}
use Rattle.file_disk.specs.declared.device.DeviceFault.{DeviceFault}
use Rattle.file_disk.specs.declared.device.DeviceFault.TheVariants.{Failed}
use Rattle.file_disk.specs.declared.device.OpenFault.{OpenFault}
use Rattle.file_disk.specs.declared.device.OpenFault.TheVariants as opening

-- a device in memory: the names that its image was opened by, the image's bytes, the calls that fail, whether every read
-- fails, and the counts
pub record MemoryDevice : Type 0 where
  pub names : List (List ℕ)
  pub bytes : List ℕ
  pub failing : List ℕ
  pub reads_fail : Bool
  pub calls : ℕ
  pub faults : ℕ
  pub reads : ℕ
  pub refusals : ℕ

-- it tells all of its bytes
abbrev pub device_of : MemoryDevice → DeviceState
device_of m =
    record {
      told = Some m.bytes;
      names = m.names;
      faults = m.faults;
      reads = m.reads;
      refusals = m.refusals;
    }

-- the next call is made to fail
abbrev pub fails_next : MemoryDevice → Bool
fails_next m = list_any (λ call. call == m.calls) m.failing

-- the next call fails if it is a read
abbrev pub fails_read : MemoryDevice → Bool
fails_read m = m.reads_fail || fails_next m

-- one if the test holds
abbrev pub one_if : Bool → ℕ
one_if test = if test then 1 else 0

-- the answer is that the call failed
abbrev pub is_failed : Result (Unit {0}) DeviceFault → Bool
is_failed (Err Failed) = true
is_failed _ = false

-- the answer is that the image was not opened, since the call failed or since the image exists
abbrev pub is_open_failed : Result (Unit {0}) OpenFault → Bool
is_open_failed (Err opening.Failed) = true
is_open_failed _ = false

abbrev pub is_open_refused : Result (Unit {0}) OpenFault → Bool
is_open_refused (Err opening.Exists) = true
is_open_refused _ = false

-- there is an image, since one was opened
abbrev pub has_image : MemoryDevice → Bool
has_image m = not (length m.names == 0)

-- the next call fails not, and finds an image that is not to be written over
abbrev pub refuses_next : MemoryDevice → Bool → Bool
refuses_next m over = not (fails_next m) && (has_image m && not over)

-- one more call is counted, up to the greatest number
abbrev pub counted : MemoryDevice → MemoryDevice
counted m = record m { calls = min (m.calls + 1) (2 ^ 64 - 1) }

-- bytes, and zeros behind them if they are fewer
abbrev pub padded : List ℕ → ℕ → List ℕ
padded told len = told ++ replicate (len - length told) 0

-- the same with these bytes at a place, behind zeros if the place is behind the end
abbrev pub overwritten : List ℕ → ℕ → List ℕ → List ℕ
overwritten told at bytes =
    let end = at + length bytes in take at (padded told end) ++ (bytes ++ drop end told)
