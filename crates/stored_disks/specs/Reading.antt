-- That each of some parts was read once from a device, in order.
use Rattle.std.specs.Prelude.{◌≡◌, ℕ, List, [], ◌∷◌, Some, slice_get}
use Rattle.file_disk.specs.Devices.{DeviceState, AreReadAt}
use Rattle.file_disk.specs.Fetching.{HasKept}
use Rattle.file_disk.specs.declared.directory.Extent.{Extent}

-- a part was read, and what was read has the length and the digest that are kept of it
pub record IsPartRead (old new : DeviceState) (e : Extent) : Type 0 where
  pub bytes : List ℕ
  pub read : AreReadAt old new e.at bytes
  pub has : HasKept e bytes

-- so was each of these parts, and nothing else
abbrev pub ArePartsRead : DeviceState → DeviceState → List Extent → Type 0
ArePartsRead old new [] = new ≡ old
ArePartsRead old new (e ∷ es) =
    (mid : DeviceState) × IsPartRead old mid e × ArePartsRead mid new es

-- the part of a number was read
pub record IsNumberRead (extents : List Extent) (number : ℕ) (old new : DeviceState) : Type 0 where
  pub extent : Extent
  pub there : slice_get extents number ≡ Some extent
  pub read : IsPartRead old new extent
