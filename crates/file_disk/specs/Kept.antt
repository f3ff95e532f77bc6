-- What a directory of a stored image keeps of each part of the image, and of nothing else.
use Rattle.std.specs.Prelude.{◌≡◌, ℕ, ◌≤◌, List, All, Option, Some, None}
use Rattle.tiger_base.specs.Limits.{most_file}
use Rattle.tiger_base.specs.Span.{LibraryPart}
use Rattle.stripe_layout.specs.declared.catalogue.FileInfo.{FileInfo}
use Rattle.disk_image.specs.Image.{Image}
use Rattle.file_disk.specs.Devices.{StandAt}
use Rattle.file_disk.specs.Extents.{all_bytes, placed, extent_of}
use Rattle.file_disk.specs.Parts.{part_bytes, image_part, disk_parts, most_pieces}
use Rattle.file_disk.specs.Fetching.{HasKept}
use Rattle.file_disk.specs.declared.directory.Extent.{Extent}
use Rattle.file_disk.specs.declared.directory.PartName.{PartName}

-- an image that can be stored
pub record CanBeStored (m : Image) : Type 0 where
  pub pieces : m.pieces ≤ most_pieces
  pub lengths : All (λ (info : FileInfo). info.len ≤ most_file) m.catalogue.files

-- of a part that was stored with an image at a place its bytes' length and digest are kept, and the
-- place at which they stand if the bytes of all parts stand at the image's place
pub record IsKeptPart (m : Image) (at : ℕ) (name : PartName) (bytes : List ℕ) : Type 0 where
  pub extent : Extent
  pub found : extent_of (placed at (disk_parts m)) name ≡ Some extent
  pub has : HasKept extent bytes
  pub stands : (told : Option (List ℕ)) → StandAt told at (all_bytes (disk_parts m))
      → StandAt told extent.at bytes

-- the law of every image: each of its parts is kept
abbrev pub EachPartIsKept : Type 0
EachPartIsKept = (m : Image) (at : ℕ) (name : PartName) (p : LibraryPart)
    → CanBeStored m → image_part m name ≡ Some p → IsKeptPart m at name (part_bytes p)

-- and nothing else
abbrev pub NoOtherIsKept : Type 0
NoOtherIsKept = (m : Image) (at : ℕ) (name : PartName)
    → image_part m name ≡ None → extent_of (placed at (disk_parts m)) name ≡ None
