-- Why the disks were not kept.
use Rattle.std.specs.Prelude.{◌≡◌, ◌≢◌, ℕ, ◌+◌, ◌<◌, List, Contains, Option, Some, None, slice_get}
use Rattle.node_kit.specs.declared.course.Digest32.{Digest32}
use Rattle.tiger_base.specs.declared.number.DiskNo.{DiskNo}
use Rattle.file_disk.specs.Devices.{DeviceState}
use Rattle.file_disk.specs.Fetching.{StandsWhole}
use Rattle.file_disk.specs.declared.directory.Extent.{Extent}
use Rattle.file_disk.specs.declared.getting.FetchFault.{FetchFault}
use Rattle.file_disk.specs.declared.getting.FetchFault.TheVariants as fetching
use Rattle.file_disk.specs.declared.putting.StoreFault.{StoreFault}
use Rattle.file_disk.specs.declared.putting.StoreFault.TheVariants as storing
use Rattle.stored_disks.specs.Disks.{Disks, extents_on}
use Rattle.stored_disks.specs.declared.fault.DisksFault.{DisksFault}
use Rattle.stored_disks.specs.declared.fault.DisksFault.TheVariants as faults

-- a part of a disk that was stored at this place was read, and has another digest than the kept one, which is that of the
-- part; and the device does not tell its bytes
pub record IsPartDamaged (s : Disks) (told : Option (List ℕ)) (d at : ℕ) (kept found : Digest32)
    : Type 0 where
  pub there : d < s.catalogue.disks
  pub extent : Extent
  pub stored : Contains (extents_on s d) extent
  pub place : at ≡ extent.at
  pub was : kept ≡ extent.digest
  pub other : found.0 ≢ kept.0
  pub untold : told ≡ None

-- why not all disks were kept: a call of the device failed, a part is damaged, or there was no memory
abbrev pub DisksCause : Disks → DeviceState → DeviceState → DisksFault → Type 0
DisksCause s old new faults.Device = new.faults ≡ old.faults + 1
DisksCause s old new (faults.Damaged disk at kept found) =
    (new.faults ≡ old.faults) × IsPartDamaged s old.told disk.0 at kept found
DisksCause s old new faults.NoMemory = new.faults ≡ old.faults

-- ---- parts of it

-- a part is damaged, and it is not true that the device told that it stands there whole
pub record IsOther (e : Extent) (told : Option (List ℕ)) (at : ℕ) (kept found : Digest32)
    : Type 0 where
  pub place : at ≡ e.at
  pub was : kept ≡ e.digest
  pub other : found.0 ≢ kept.0
  pub not_whole : (bytes : List ℕ) → StandsWhole (Some e) told bytes → ⊥

-- why a part of a disk was not read
abbrev pub PartCause : DiskNo → Extent → DeviceState → DeviceState → DisksFault → Type 0
PartCause disk e old new faults.Device = new.faults ≡ old.faults + 1
PartCause disk e old new (faults.Damaged d at kept found) =
    (new.faults ≡ old.faults) × (d ≡ disk) × IsOther e old.told at kept found
PartCause disk e old new faults.NoMemory = new.faults ≡ old.faults

-- why the part of a number was not read
pub record NumberCause (disk : DiskNo) (extents : List Extent) (number : ℕ) (old new : DeviceState)
    (fault : DisksFault) : Type 0 where
  pub extent : Extent
  pub there : slice_get extents number ≡ Some extent
  pub cause : PartCause disk extent old new fault

-- one of these parts is damaged so
pub record IsOneOther (extents : List Extent) (told : Option (List ℕ)) (at : ℕ)
    (kept found : Digest32) : Type 0 where
  pub extent : Extent
  pub stored : Contains extents extent
  pub is : IsOther extent told at kept found

-- why not all parts of a disk were read
abbrev pub PartsCause : DiskNo → List Extent → DeviceState → DeviceState → DisksFault → Type 0
PartsCause disk extents old new faults.Device = new.faults ≡ old.faults + 1
PartsCause disk extents old new (faults.Damaged d at kept found) =
    (new.faults ≡ old.faults) × (d ≡ disk) × IsOneOther extents old.told at kept found
PartsCause disk extents old new faults.NoMemory = new.faults ≡ old.faults

-- ---- what a fault below is here

abbrev pub fault_by_fetch : DiskNo → FetchFault → DisksFault
fault_by_fetch disk fetching.Failed = faults.Device
fault_by_fetch disk (fetching.Damaged at kept found) = faults.Damaged disk at kept found
fault_by_fetch disk fetching.NoMemory = faults.NoMemory

abbrev pub fault_by_store : StoreFault → DisksFault
fault_by_store storing.Failed = faults.Device
fault_by_store storing.NoMemory = faults.NoMemory
