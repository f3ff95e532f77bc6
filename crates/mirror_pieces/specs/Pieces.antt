-- The bytes, the disk and the time of a piece of a block, pieces being counted from 1.
use Rattle.std.specs.Prelude.{ℕ, ◌+◌, ◌-◌, ◌*◌, ◌/◌, ◌%◌}
use Rattle.tiger_base.specs.declared.part.Span.{Span}

-- the first byte of a piece, counted from the block's first, and the one behind its last
unfoldable pub piece_start : ℕ → ℕ → ℕ → ℕ
piece_start len pieces k = (k - 1) * len / pieces

unfoldable pub piece_end : ℕ → ℕ → ℕ → ℕ
piece_end len pieces k = k * len / pieces

-- the bytes of the file that a piece has, of those that its block has
unfoldable pub piece_of : Span → ℕ → ℕ → Span
piece_of block pieces k =
    record {
      file = block.file;
      from = block.from + piece_start block.len pieces k;
      len = piece_end block.len pieces k - piece_start block.len pieces k;
    }

-- the disk of a piece, if the block is on disk d
unfoldable pub piece_disk : ℕ → ℕ → ℕ → ℕ
piece_disk d k disks = (d + k) % disks

-- when a piece leaves, if the block is due at that time
unfoldable pub leaving : ℕ → ℕ → ℕ → ℕ → ℕ
leaving due k play pieces = due + (k - 1) * play / pieces
