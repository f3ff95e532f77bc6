-- The parts of a disk one after another on a device, and what a directory keeps of them.
use Rattle.std.specs.Prelude.{◌≡◌, ℕ, ◌+◌, ◌*◌, ◌^◌, ◌≤◌, ◌==◌, ◌&&◌, Bool, if◌then◌else◌, List, [], ◌∷◌, length, map, Option, find, sum_by}
use Rattle.std.specs.List.{flat_map, AllByRecursion}
use Rattle.sha2.specs.Sha256.{sha256}
use Rattle.file_disk.specs.Devices.{last_end}
use Rattle.file_disk.specs.declared.directory.Extent.{Extent}
use Rattle.file_disk.specs.declared.directory.PartName.{PartName}

-- a part of a disk: its name and its bytes
pub record NamedPart : Type 0 where
  pub name : PartName
  pub bytes : List ℕ

-- the bytes of parts, one part behind the other
abbrev pub all_bytes : List NamedPart → List ℕ
all_bytes parts = flat_map (λ p. p.bytes) parts

-- what is kept of a part that stands at a place
abbrev pub extent_at : ℕ → NamedPart → Extent
extent_at at p =
    record {
      name = p.name;
      at = at;
      len = length p.bytes;
      digest = record { 0 = sha256 p.bytes };
    }

-- what is kept of parts that stand one behind the other, with no gaps, from a place on
abbrev pub placed : ℕ → List NamedPart → List Extent
placed at [] = []
placed at (p ∷ ps) = extent_at at p ∷ placed (at + length p.bytes) ps

-- whether two names are one
abbrev pub same_name : PartName → PartName → Bool
same_name a b = (a.file.0 == b.file.0) && ((a.block == b.block) && (a.piece == b.piece))

-- what is kept of the part of a name
abbrev pub extent_of : List Extent → PartName → Option Extent
extent_of extents name = find (λ e. same_name e.name name) extents

-- the sum of all bytes
abbrev pub total_len : List Extent → ℕ
total_len extents = sum_by (λ (e : Extent). e.len) extents

-- where a name stands in the order of a disk's parts: whole blocks come before pieces, these stand
-- by file and block, and those by file, block and piece
abbrev pub kind_rank : ℕ → ℕ
kind_rank piece = if piece == 0 then 0 else 1

abbrev pub place_in_order : ℕ → ℕ → ℕ → ℕ → ℕ
place_in_order kind file block piece = (kind * 2 ^ 32 + file) * 2 ^ 96 + block * 2 ^ 32 + piece

abbrev pub rank : PartName → ℕ
rank n = place_in_order (kind_rank n.piece) n.file.0 n.block n.piece

-- the ranks of names rise, from a number on and to below another
abbrev pub Rise : ℕ → List PartName → ℕ → Type 0
Rise low [] high = low ≤ high
Rise low (n ∷ ns) high = (low ≤ rank n) × Rise (rank n + 1) ns high

abbrev pub extent_names : List Extent → List PartName
extent_names extents = map (λ (e : Extent). e.name) extents

-- above the rank of each name
abbrev pub above_ranks : ℕ
above_ranks = 2 ^ 129

-- what holds of every directory: each name stands once, in order, no part ends past the last place,
-- and the sum of the bytes is kept
pub record IsDirectory (extents : List Extent) (bytes : ℕ) : Type 0 where
  pub order : Rise 0 (extent_names extents) above_ranks
  pub ends : AllByRecursion (λ (e : Extent). e.at + e.len ≤ last_end) extents
  pub sum : bytes ≡ total_len extents
