-- What a disk's image is seen as, and which parts of the library it has.
use Rattle.std.specs.Prelude.{◌≡◌, ℕ, ◌&&◌, ◌==◌, nat_le, Bool, List, length, map, Option, Some, None, option_and_then, if◌then◌else◌}
use Rattle.tiger_base.specs.Span.{LibraryPart}
use Rattle.tiger_base.specs.declared.number.FileNo.{FileNo}
use Rattle.stripe_layout.specs.Places.{place_of}
use Rattle.stripe_layout.specs.declared.catalogue.Catalogue.{Catalogue}
use Rattle.mirror_pieces.specs.Pieces.{piece_of, piece_disk}

-- the library, its layout, into how many pieces a block is cut, and the disk
pub record Image : Type 0 where
  pub library : List (List ℕ)
  pub catalogue : Catalogue
  pub pieces : ℕ
  pub disk : ℕ

-- the catalogue's lengths are the library's
abbrev pub HasLengths : List (List ℕ) → Catalogue → Type 0
HasLengths library c = map (λ bytes. length bytes) library ≡ map (λ info. info.len) c.files

-- a block of a file, if the layout puts it on the image's disk
unfoldable pub block_part : Image → FileNo → ℕ → Option LibraryPart
block_part m file block =
    option_and_then
    (λ p. if p.disk.0 == m.disk then Some (record { library = m.library; span = p.span }) else None)
    (place_of m.catalogue file block)

-- whether the blocks have a piece of this number
abbrev pub is_piece : Image → ℕ → Bool
is_piece m k = nat_le 1 k && nat_le k m.pieces

-- a piece of a block, if the block's disk puts it on the image's disk
unfoldable pub piece_part : Image → FileNo → ℕ → ℕ → Option LibraryPart
piece_part m file block k =
    option_and_then
    (λ p. if is_piece m k && (piece_disk p.disk.0 k m.catalogue.disks == m.disk)
    then Some (record { library = m.library; span = piece_of p.span m.pieces k }) else None)
    (place_of m.catalogue file block)
