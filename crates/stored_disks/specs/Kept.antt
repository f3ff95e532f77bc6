-- That all disks were stored, and that each of their parts was read once.
use Rattle.std.specs.Prelude.{◌≡◌, ℕ, zero, suc, ◌<◌, ◌≤◌, List, Option}
use Rattle.file_disk.specs.Devices.{DeviceState, StandAt, AreWrittenAt}
use Rattle.stored_disks.specs.Disks.{Disks, start_of, bytes_on, extents_on, parts_before, part_count}
use Rattle.stored_disks.specs.Reading.{ArePartsRead}

-- a disk was stored behind those before it, and then each of its parts was read
pub record IsDiskKept (s : Disks) (d : ℕ) (old new : DeviceState) : Type 0 where
  pub stored : DeviceState
  pub written : AreWrittenAt old stored (start_of s d) (bytes_on s d)
  pub read : ArePartsRead stored new (extents_on s d)

-- so were the first disks, one after another
abbrev pub AreDisksKept : Disks → ℕ → DeviceState → DeviceState → Type 0
AreDisksKept s zero old new = new ≡ old
AreDisksKept s (suc d) old new =
    (mid : DeviceState) × AreDisksKept s d old mid × IsDiskKept s d mid new

-- the bytes of each of the first disks stand where the disk begins
abbrev pub StandEach : Disks → ℕ → Option (List ℕ) → Type 0
StandEach s disks told = (d : ℕ) → d < disks → StandAt told (start_of s d) (bytes_on s d)

-- the law of every layout: its disks have each block once whole, and each of its pieces once
abbrev pub AllPartsAreCounted : Type 0
AllPartsAreCounted = (s : Disks)
    → s.pieces ≤ 8 → parts_before s s.catalogue.disks ≡ part_count s.catalogue s.pieces
