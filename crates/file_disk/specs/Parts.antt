-- The parts of a disk's image, in the order in which they are stored.
use Rattle.std.specs.Prelude.{ℕ, ◌==◌, List, [], ◌∷◌, ◌++◌, length, take, drop, Option, Some, None, slice_get, unwrap_or, if◌then◌else◌}
use Rattle.std.specs.List.{flat_map, range_with_len}
use Rattle.tiger_base.specs.Span.{LibraryPart}
use Rattle.stripe_layout.specs.Places.{block_count}
use Rattle.disk_image.specs.Image.{Image, block_part, piece_part}
use Rattle.file_disk.specs.Extents.{NamedPart}
use Rattle.file_disk.specs.declared.directory.PartName.{PartName}

-- the library's bytes of a part
abbrev pub part_bytes : LibraryPart → List ℕ
part_bytes p =
    take p.span.len (drop p.span.from (unwrap_or (slice_get p.library p.span.file.0) []))

-- the part of a name, if the image has it: a whole block if the piece is 0
abbrev pub image_part : Image → PartName → Option LibraryPart
image_part m name =
    if name.piece == 0 then block_part m name.file name.block
    else piece_part m name.file name.block name.piece

abbrev pub named : PartName → Option LibraryPart → List NamedPart
named name None = []
named name (Some p) = (record { name = name; bytes = part_bytes p }) ∷ []

-- the part of a name, or nothing if the image has it not
unfoldable pub part_here : Image → PartName → List NamedPart
part_here m name = named name (image_part m name)

abbrev pub part_name : ℕ → ℕ → ℕ → PartName
part_name file block piece = record { file = record { 0 = file }; block = block; piece = piece }

-- of one block the parts with so many numbers from the first on, 0 being the whole block
unfoldable pub parts_of_block : Image → ℕ → ℕ → ℕ → ℕ → List NamedPart
parts_of_block m first count file block =
    flat_map (λ piece. part_here m (part_name file block piece)) (range_with_len first count)

-- of all blocks of a file
unfoldable pub parts_of_file : Image → ℕ → ℕ → ℕ → List NamedPart
parts_of_file m first count file =
    flat_map (parts_of_block m first count file) (range_with_len 0 (block_count m.catalogue file))

-- of all blocks of all files
unfoldable pub parts_of_files : Image → ℕ → ℕ → List NamedPart
parts_of_files m first count =
    flat_map (parts_of_file m first count) (range_with_len 0 (length m.catalogue.files))

-- the most pieces that a block is cut into
abbrev pub most_pieces : ℕ
most_pieces = 8

-- all parts of a disk: its whole blocks by file and block, and then its pieces by file, block and
-- number
unfoldable pub disk_parts : Image → List NamedPart
disk_parts m = parts_of_files m 0 1 ++ parts_of_files m 1 most_pieces
