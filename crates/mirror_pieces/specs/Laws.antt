-- What holds of the pieces of every block.
use Rattle.std.specs.Prelude.{◌≡◌, ◌≢◌, ℕ, ◌+◌, ◌*◌, ◌%◌, ◌≤◌}
use Rattle.tiger_base.specs.declared.part.Span.{Span}
use Rattle.mirror_pieces.specs.Pieces.{piece_of, piece_disk}

-- the pieces of a block stand side by side from its first byte to its last, and none is longer than
-- the block
pub record IsCutUp (block : Span) (pieces : ℕ) : Type 0 where
  pub file : (k : ℕ) → (piece_of block pieces k).file ≡ block.file
  pub begun : (piece_of block pieces 1).from ≡ block.from
  pub joined : (k : ℕ) → 1 ≤ k
      → (piece_of block pieces k).from + (piece_of block pieces k).len
      ≡ (piece_of block pieces (k + 1)).from
  pub ended :
      (piece_of block pieces pieces).from + (piece_of block pieces pieces).len
      ≡ block.from + block.len
  pub short : (k : ℕ) → 1 ≤ k → k ≤ pieces → (piece_of block pieces k).len ≤ block.len
  pub inside : (k : ℕ) → 1 ≤ k → k ≤ pieces
      → (piece_of block pieces k).from + (piece_of block pieces k).len ≤ block.from + block.len

-- the law of every block and every number of pieces
abbrev pub PiecesMakeBlock : Type 0
PiecesMakeBlock = (block : Span) (pieces : ℕ) → 1 ≤ pieces → IsCutUp block pieces

-- disk d stands at cub d modulo the number of cubs; no piece is on the cub of the block, and no two
-- are on one cub
pub record IsSpread (cubs disks d pieces : ℕ) : Type 0 where
  pub other : (k : ℕ) → 1 ≤ k → k ≤ pieces → piece_disk d k disks % cubs ≢ d % cubs
  pub distinct : (j k : ℕ) → 1 ≤ j → j ≤ pieces → 1 ≤ k → k ≤ pieces
      → piece_disk d j disks % cubs ≡ piece_disk d k disks % cubs → j ≡ k

-- the law of every ring that has two cubs more than pieces, each cub with as many disks
abbrev pub PiecesOnOtherCubs : Type 0
PiecesOnOtherCubs = (cubs each d pieces : ℕ)
    → pieces + 2 ≤ cubs → 1 ≤ each → IsSpread cubs (cubs * each) d pieces
