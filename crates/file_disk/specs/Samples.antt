-- Parts and names of the worked rows.
use Rattle.std.specs.Prelude.{ℕ, List, [], map}
use Rattle.file_disk.specs.Extents.{NamedPart, placed}
use Rattle.file_disk.specs.Parts.{part_name}
use Rattle.file_disk.specs.declared.directory.Extent.{Extent}
use Rattle.file_disk.specs.declared.directory.PartName.{PartName}

-- the name of a whole block, and of a piece
abbrev pub whole_block : ℕ → ℕ → PartName
whole_block file block = part_name file block 0

abbrev pub piece : ℕ → ℕ → ℕ → PartName
piece file block k = part_name file block k

-- a whole block of file 0
abbrev pub part : ℕ → List ℕ → NamedPart
part block bytes = record { name = whole_block 0 block; bytes = bytes }

-- what is kept of a part of four bytes at a place, but for its digest
abbrev pub extent : PartName → ℕ → Extent
extent name at = record { name = name; at = at; len = 4; digest = record { 0 = [] } }

-- the places and the lengths of parts from a place on
abbrev pub places_of : ℕ → List NamedPart → List ℕ
places_of at parts = map (λ (e : Extent). e.at) (placed at parts)

abbrev pub lengths_of : ℕ → List NamedPart → List ℕ
lengths_of at parts = map (λ (e : Extent). e.len) (placed at parts)
