-- What storing parts on a device does, and why it was not done.
use Rattle.std.specs.Prelude.{◌≡◌, ℕ, ◌+◌, List, ◌++◌, length}
use Rattle.file_disk.specs.Devices.{DeviceState, AreWrittenAt, AreSameOutside}
use Rattle.file_disk.specs.Extents.{NamedPart, all_bytes, placed}
use Rattle.file_disk.specs.declared.directory.Extent.{Extent}
use Rattle.file_disk.specs.declared.putting.Draft.{Draft}
use Rattle.file_disk.specs.declared.putting.StoreFault.{StoreFault}
use Rattle.file_disk.specs.declared.putting.StoreFault.TheVariants.{Failed, NoMemory}

-- nothing was changed outside a range, and so many more calls failed
pub record IsCutShort (old new : DeviceState) (at len more : ℕ) : Type 0 where
  pub names : new.names ≡ old.names
  pub faults : new.faults ≡ old.faults + more
  pub reads : new.reads ≡ old.reads
  pub refusals : new.refusals ≡ old.refusals
  pub outside : AreSameOutside old.told new.told at len

-- why parts were not stored: a call of the device failed, or there was no memory
abbrev pub StoreCause : DeviceState → DeviceState → ℕ → ℕ → StoreFault → Type 0
StoreCause old new at len Failed = IsCutShort old new at len 1
StoreCause old new at len NoMemory = IsCutShort old new at len 0

-- what is kept so far, the place of the next part, and the device
pub record Progress : Type 0 where
  pub extents : List Extent
  pub next : ℕ
  pub device : DeviceState

abbrev pub progress : Draft → DeviceState → Progress
progress d s = record { extents = d.extents.items; next = d.next; device = s }

-- these parts were stored behind all that were stored before
pub record Stored (old new : Progress) (parts : List NamedPart) : Type 0 where
  pub extents : new.extents ≡ old.extents ++ placed old.next parts
  pub next : new.next ≡ old.next + length (all_bytes parts)
  pub written : AreWrittenAt old.device new.device old.next (all_bytes parts)
