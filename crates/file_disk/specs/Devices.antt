-- What a device tells once an image was opened and after a write, what a read of it gives, and why none of them was done.
use Rattle.std.specs.Prelude.{◌≡◌, ℕ, ◌+◌, ◌-◌, ◌^◌, ◌<◌, ◌≤◌, ◌⊎◌, Bool, false, List, [], ◌∷◌, ◌++◌, length, get_or, Option, Some, None}
use Rattle.file_disk.specs.declared.device.DeviceFault.{DeviceFault}
use Rattle.file_disk.specs.declared.device.DeviceFault.TheVariants.{Failed, NoMemory}
use Rattle.file_disk.specs.declared.device.OpenFault.{OpenFault}
use Rattle.file_disk.specs.declared.device.OpenFault.TheVariants as opening

-- a device: what it tells of its bytes, if it tells anything, the names of the images that were opened,
-- in order, of which the last one is written and read, how many of its calls failed, how many of its
-- reads were answered, and how often an image was not opened since it exists
pub record DeviceState : Type 0 where
  pub told : Option (List ℕ)
  pub names : List (List ℕ)
  pub faults : ℕ
  pub reads : ℕ
  pub refusals : ℕ

-- how far each count can have come before the next call
abbrev pub most_counted : ℕ
most_counted = 2 ^ 64 - 2

-- the place behind the last byte that a call may reach
abbrev pub last_end : ℕ
last_end = 2 ^ 62

-- the byte at a place; behind the end of what is told there are zeros
abbrev pub byte_at : List ℕ → ℕ → ℕ
byte_at told i = get_or told i 0

-- if a device tells its bytes, these stand at a place
abbrev pub StandAt : Option (List ℕ) → ℕ → List ℕ → Type 0
StandAt None at bytes = Unit {0}
StandAt (Some told) at bytes =
    (i : ℕ) → i < length bytes → byte_at told (at + i) ≡ get_or bytes i 0

-- a device that tells its bytes goes on telling them, and tells the same outside a range; another
-- one goes on telling nothing
abbrev pub AreSameOutside : Option (List ℕ) → Option (List ℕ) → ℕ → ℕ → Type 0
AreSameOutside None None at len = Unit {0}
AreSameOutside None (Some new) at len = ⊥
AreSameOutside (Some old) None at len = ⊥
AreSameOutside (Some old) (Some new) at len =
    (i : ℕ) → (i < at) ⊎ (at + len ≤ i) → byte_at new i ≡ byte_at old i

-- a device that tells its bytes tells that there are none; another one goes on telling nothing
abbrev pub HasNoBytes : Option (List ℕ) → Option (List ℕ) → Type 0
HasNoBytes None None = Unit {0}
HasNoBytes None (Some new) = ⊥
HasNoBytes (Some old) None = ⊥
HasNoBytes (Some old) (Some new) = new ≡ []

-- the image of a name was opened, and no other one
abbrev pub HasOpened : List ℕ → DeviceState → DeviceState → Type 0
HasOpened name old new = new.names ≡ old.names ++ name ∷ []

-- no image was opened but that of a name, once at most
abbrev pub OpensOnly : List ℕ → DeviceState → DeviceState → Type 0
OpensOnly name old new = (new.names ≡ old.names) ⊎ HasOpened name old new

-- the image of a name was opened: it has no bytes, and nothing is counted
pub record IsOpened (name : List ℕ) (old new : DeviceState) : Type 0 where
  pub named : HasOpened name old new
  pub faults : new.faults ≡ old.faults
  pub reads : new.reads ≡ old.reads
  pub refusals : new.refusals ≡ old.refusals
  pub empty : HasNoBytes old.told new.told

-- one more call failed, and nothing else was changed
pub record IsOpenFailed (old new : DeviceState) : Type 0 where
  pub told : new.told ≡ old.told
  pub names : new.names ≡ old.names
  pub faults : new.faults ≡ old.faults + 1
  pub reads : new.reads ≡ old.reads
  pub refusals : new.refusals ≡ old.refusals

-- the image exists and was not to be written over, which is counted, and nothing else was changed
pub record IsRefused (over : Bool) (old new : DeviceState) : Type 0 where
  pub kept : over ≡ false
  pub told : new.told ≡ old.told
  pub names : new.names ≡ old.names
  pub faults : new.faults ≡ old.faults
  pub reads : new.reads ≡ old.reads
  pub refusals : new.refusals ≡ old.refusals + 1

-- why an image was not opened
abbrev pub OpenCause : Bool → DeviceState → DeviceState → OpenFault → Type 0
OpenCause over old new opening.Failed = IsOpenFailed old new
OpenCause over old new opening.Exists = IsRefused over old new
OpenCause over old new opening.NoMemory = new ≡ old

-- the bytes were written at a place, and nothing else was changed
pub record AreWrittenAt (old new : DeviceState) (at : ℕ) (bytes : List ℕ) : Type 0 where
  pub names : new.names ≡ old.names
  pub faults : new.faults ≡ old.faults
  pub reads : new.reads ≡ old.reads
  pub refusals : new.refusals ≡ old.refusals
  pub there : StandAt new.told at bytes
  pub outside : AreSameOutside old.told new.told at (length bytes)

-- one more call failed, and nothing was changed outside the range of the bytes
pub record IsWriteFailed (old new : DeviceState) (at len : ℕ) : Type 0 where
  pub names : new.names ≡ old.names
  pub faults : new.faults ≡ old.faults + 1
  pub reads : new.reads ≡ old.reads
  pub refusals : new.refusals ≡ old.refusals
  pub outside : AreSameOutside old.told new.told at len

-- why bytes were not written
abbrev pub WriteCause : DeviceState → DeviceState → ℕ → ℕ → DeviceFault → Type 0
WriteCause old new at len Failed = IsWriteFailed old new at len
WriteCause old new at len NoMemory = new ≡ old

-- the bytes that were read are those that stand at a place, and nothing was changed
pub record AreReadAt (old new : DeviceState) (at : ℕ) (bytes : List ℕ) : Type 0 where
  pub told : new.told ≡ old.told
  pub names : new.names ≡ old.names
  pub faults : new.faults ≡ old.faults
  pub reads : new.reads ≡ old.reads + 1
  pub refusals : new.refusals ≡ old.refusals
  pub are : StandAt old.told at bytes

-- one more call failed, which counts as an answer too, and nothing was changed
pub record IsReadFailed (old new : DeviceState) : Type 0 where
  pub told : new.told ≡ old.told
  pub names : new.names ≡ old.names
  pub faults : new.faults ≡ old.faults + 1
  pub reads : new.reads ≡ old.reads + 1
  pub refusals : new.refusals ≡ old.refusals

-- why nothing was read
abbrev pub ReadCause : DeviceState → DeviceState → DeviceFault → Type 0
ReadCause old new Failed = IsReadFailed old new
ReadCause old new NoMemory = new ≡ old
