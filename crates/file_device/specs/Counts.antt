-- What a device over files notes and counts, and that it tells nothing of its bytes.
use Rattle.std.specs.Prelude.{ℕ, List, [], None}
use Rattle.file_disk.specs.Devices.{DeviceState}

-- the names of the images that were opened, how many calls failed, how many reads were answered, and how often an image was
-- not opened since it exists
pub record FileCounts : Type 0 where
  pub names : List (List ℕ)
  pub faults : ℕ
  pub reads : ℕ
  pub refusals : ℕ

-- before any call
abbrev pub none_counted : FileCounts
none_counted = record { names = []; faults = 0; reads = 0; refusals = 0 }

-- a file of the system tells nothing of its bytes
abbrev pub untold_device : FileCounts → DeviceState
untold_device c =
    record {
      told = None;
      names = c.names;
      faults = c.faults;
      reads = c.reads;
      refusals = c.refusals;
    }
