-- What a fetch of a part gives, and why it gives nothing.
use Rattle.std.specs.Prelude.{◌≡◌, ◌≢◌, ℕ, List, length, Option, Some, None, Result, Ok, Err, Vec}
use Rattle.std.specs.declared.alloc.Global.{Global}
use Rattle.sha2.specs.Sha256.{sha256}
use Rattle.tiger_base.specs.Span.{LibraryPart}
use Rattle.node_kit.specs.declared.course.Digest32.{Digest32}
use Rattle.disk_image.specs.Image.{Image}
use Rattle.file_disk.specs.Devices.{DeviceState, AreReadAt, IsReadFailed, StandAt}
use Rattle.file_disk.specs.Parts.{image_part, part_bytes}
use Rattle.file_disk.specs.declared.directory.Extent.{Extent}
use Rattle.file_disk.specs.declared.getting.FetchFault.{FetchFault}
use Rattle.file_disk.specs.declared.getting.FetchFault.TheVariants.{Failed, Damaged, NoMemory}

-- bytes have the length and the digest that are kept of a part
pub record HasKept (e : Extent) (bytes : List ℕ) : Type 0 where
  pub len : length bytes ≡ e.len
  pub digest : sha256 bytes ≡ e.digest.0

-- what is kept is of the image's own bytes, if the image has the part
abbrev pub IsOfImage : Image → Extent → Type 0
IsOfImage m e = (p : LibraryPart) → image_part m e.name ≡ Some p → HasKept e (part_bytes p)

-- what is given of a part: the bytes that were read at its place, which are as they were kept; or
-- nothing, and nothing is read, if none is kept
abbrev pub IsFetched : Option Extent → DeviceState → DeviceState → Option (List ℕ) → Type 0
IsFetched None old new None = new ≡ old
IsFetched None old new (Some bytes) = ⊥
IsFetched (Some e) old new None = ⊥
IsFetched (Some e) old new (Some bytes) = AreReadAt old new e.at bytes × HasKept e bytes

-- the bytes that were read at a part's place have another digest than the one that is kept
pub record IsDamaged (e : Extent) (old new : DeviceState) (at : ℕ) (kept found : Digest32)
    : Type 0 where
  pub bytes : List ℕ
  pub read : AreReadAt old new e.at bytes
  pub len : length bytes ≡ e.len
  pub place : at ≡ e.at
  pub was : kept ≡ e.digest
  pub is : found.0 ≡ sha256 bytes
  pub other : found.0 ≢ kept.0

-- why nothing is given of a part
abbrev pub FetchCause : Option Extent → DeviceState → DeviceState → FetchFault → Type 0
FetchCause None old new fault = ⊥
FetchCause (Some e) old new Failed = IsReadFailed old new
FetchCause (Some e) old new (Damaged at kept found) = IsDamaged e old new at kept found
FetchCause (Some e) old new NoMemory = new ≡ old

-- what is kept is of these bytes, and the device tells that they stand at the part's place
abbrev pub StandsWhole : Option Extent → Option (List ℕ) → List ℕ → Type 0
StandsWhole None told bytes = ⊥
StandsWhole (Some e) None bytes = ⊥
StandsWhole (Some e) (Some told) bytes = HasKept e bytes × StandAt (Some told) e.at bytes

-- an answer gives these very bytes, or is that the read failed or that there was no memory
abbrev pub CanAnswer : List ℕ → Result (Option (Vec ℕ Global)) FetchFault → Type 0
CanAnswer bytes (Ok None) = ⊥
CanAnswer bytes (Ok (Some v)) = v.items ≡ bytes
CanAnswer bytes (Err Failed) = Unit {0}
CanAnswer bytes (Err (Damaged at kept found)) = ⊥
CanAnswer bytes (Err NoMemory) = Unit {0}

-- whatever stands whole on the device is given, and is never called damaged
abbrev pub GivesWhatStands : Option Extent → Option (List ℕ)
    → Result (Option (Vec ℕ Global)) FetchFault → Type 0
GivesWhatStands kept told answer =
    (bytes : List ℕ) → StandsWhole kept told bytes → CanAnswer bytes answer

-- bytes that were read are called damaged since they have another digest than the kept one
abbrev pub IsOther : Extent → List ℕ → FetchFault → Type 0
IsOther e bytes Failed = ⊥
IsOther e bytes (Damaged at kept found) =
    (at ≡ e.at) × (kept ≡ e.digest) × (found.0 ≡ sha256 bytes) × (found.0 ≢ kept.0)
IsOther e bytes NoMemory = ⊥
