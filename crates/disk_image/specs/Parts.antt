-- Blocks and pieces as one: piece 0 of a block is the whole block.
use Rattle.std.specs.Prelude.{ℕ, ◌==◌, Option, Some, None, option_and_then, if◌then◌else◌}
use Rattle.tiger_base.specs.Span.{LibraryPart}
use Rattle.tiger_base.specs.declared.number.FileNo.{FileNo}
use Rattle.tiger_base.specs.declared.part.Span.{Span}
use Rattle.stripe_layout.specs.Places.{place_of}
use Rattle.mirror_pieces.specs.Pieces.{piece_of, piece_disk}
use Rattle.disk_image.specs.Image.{Image}

-- the bytes of a file that a piece of a block has, piece 0 being the whole block
unfoldable pub piece_span : Span → ℕ → ℕ → Span
piece_span block pieces k = if k == 0 then block else piece_of block pieces k

-- a piece of a block, or for 0 the whole block, if it is on the image's disk
unfoldable pub held_part : Image → FileNo → ℕ → ℕ → Option LibraryPart
held_part m file block k =
    option_and_then
    (λ p. if piece_disk p.disk.0 k m.catalogue.disks == m.disk
    then Some (record { library = m.library; span = piece_span p.span m.pieces k }) else None)
    (place_of m.catalogue file block)
