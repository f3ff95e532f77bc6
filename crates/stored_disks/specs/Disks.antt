-- All disks of a layout, each behind the one before, and the lines that tell of them.
use Rattle.std.specs.Prelude.{ℕ, zero, suc, ◌+◌, ◌*◌, List, [], ◌++◌, length, codes}
use Rattle.std.specs.Fmt.{decimal}
use Rattle.stripe_layout.specs.Places.{block_count}
use Rattle.stripe_layout.specs.declared.catalogue.Catalogue.{Catalogue}
use Rattle.disk_image.specs.Image.{Image}
use Rattle.file_disk.specs.Extents.{NamedPart, all_bytes, placed}
use Rattle.file_disk.specs.Parts.{disk_parts}
use Rattle.file_disk.specs.declared.directory.Extent.{Extent}

-- what is laid out: the library, its layout, and into how many pieces a block is cut
pub record Disks : Type 0 where
  pub library : List (List ℕ)
  pub catalogue : Catalogue
  pub pieces : ℕ

abbrev pub disks_of : List (List ℕ) → Catalogue → ℕ → Disks
disks_of library c pieces = record { library = library; catalogue = c; pieces = pieces }

-- the image of a disk
abbrev pub image_of : Disks → ℕ → Image
image_of s d =
    record { library = s.library; catalogue = s.catalogue; pieces = s.pieces; disk = d }

-- its parts, and the bytes of all of them
abbrev pub parts_on : Disks → ℕ → List NamedPart
parts_on s d = disk_parts (image_of s d)

abbrev pub bytes_on : Disks → ℕ → List ℕ
bytes_on s d = all_bytes (parts_on s d)

-- where a disk begins: behind all bytes of the disks before it
abbrev pub start_of : Disks → ℕ → ℕ
start_of s zero = 0
start_of s (suc d) = start_of s d + length (bytes_on s d)

-- what is kept of its parts
abbrev pub extents_on : Disks → ℕ → List Extent
extents_on s d = placed (start_of s d) (parts_on s d)

-- how many parts the first disks have
abbrev pub parts_before : Disks → ℕ → ℕ
parts_before s zero = 0
parts_before s (suc d) = parts_before s d + length (parts_on s d)

-- the line of a disk with so many parts and bytes
abbrev pub line_text : ℕ → ℕ → ℕ → List ℕ
line_text d parts bytes =
    codes "disk " ++ decimal d ++ (codes " parts " ++ decimal parts)
    ++ (codes " bytes " ++ decimal bytes) ++ codes "\n"

-- what is told of a disk, and of the first disks
abbrev pub disk_line : Disks → ℕ → List ℕ
disk_line s d = line_text d (length (parts_on s d)) (length (bytes_on s d))

abbrev pub disk_lines : Disks → ℕ → List ℕ
disk_lines s zero = []
disk_lines s (suc d) = disk_lines s d ++ disk_line s d

-- how many blocks the first files have
abbrev pub blocks_before : Catalogue → ℕ → ℕ
blocks_before c zero = 0
blocks_before c (suc file) = blocks_before c file + block_count c file

-- how many parts all disks have: each block once whole, and each of its pieces
abbrev pub part_count : Catalogue → ℕ → ℕ
part_count c pieces = blocks_before c (length c.files) * (1 + pieces)
