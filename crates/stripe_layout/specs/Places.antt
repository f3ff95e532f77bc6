-- Where each block of a catalogue's files lies.
use Rattle.std.specs.Prelude.{◌≡◌, ℕ, ◌+◌, ◌*◌, ◌%◌, ◌≤◌, ◌<◌, Option, Some, None, slice_get, nat_lt, option_and_then, if◌then◌else◌}
use Rattle.std.specs.Int.{div_ceil}
use Rattle.tiger_base.specs.declared.number.FileNo.{FileNo}
use Rattle.stripe_layout.specs.Layout.{block_span}
use Rattle.stripe_layout.specs.declared.catalogue.FileInfo.{FileInfo}
use Rattle.stripe_layout.specs.declared.catalogue.Catalogue.{Catalogue}
use Rattle.stripe_layout.specs.declared.place.Place.{Place}

abbrev counted : ℕ → Option FileInfo → ℕ
counted size None = 0
counted size (Some info) = div_ceil info.len size

-- the number of blocks of a file: its bytes by those of a full block, rounded up
unfoldable pub block_count : Catalogue → ℕ → ℕ
block_count c file = counted c.block (slice_get c.files file)

-- where a block of a file that is there would lie: its disk is as many disks after the first as the
-- block's number
abbrev pub place_in : Catalogue → FileNo → FileInfo → ℕ → Place
place_in c file info block =
    record {
      disk = record { 0 = (info.disk.0 + block) % c.disks };
      span = block_span file info.len c.block block;
    }

-- where a block lies, if the file has it
unfoldable pub place_of : Catalogue → FileNo → ℕ → Option Place
place_of c file block =
    option_and_then
    (λ info. if nat_lt block (div_ceil info.len c.block) then Some (place_in c file info block)
    else None)
    (slice_get c.files file.0)

-- what is to hold of the place of a block: it has bytes of the file, from the block's start on, and
-- the disk is in turn
pub record IsPlace (c : Catalogue) (file : FileNo) (info : FileInfo) (block : ℕ) (p : Place)
    : Type 0 where
  pub file_same : p.span.file ≡ file
  pub start : p.span.from ≡ block * c.block
  pub filled : 1 ≤ p.span.len
  pub short : p.span.len ≤ c.block
  pub inside : p.span.from + p.span.len ≤ info.len
  pub disk : p.disk.0 ≡ (info.disk.0 + block) % c.disks

-- the places of a file's blocks are the whole file, each byte in one block
pub record IsWhole (c : Catalogue) (file : FileNo) (info : FileInfo) : Type 0 where
  pub some : 1 ≤ block_count c file.0
  pub there : (block : ℕ) → block < block_count c file.0
      → (p : Place) × (place_of c file block ≡ Some p) × IsPlace c file info block p
  pub past : (block : ℕ) → block_count c file.0 ≤ block → place_of c file block ≡ None
  pub joined : (block : ℕ) (p q : Place)
      → place_of c file block ≡ Some p → place_of c file (block + 1) ≡ Some q
      → p.span.from + p.span.len ≡ q.span.from
  pub ended : (block : ℕ) (p : Place)
      → block + 1 ≡ block_count c file.0 → place_of c file block ≡ Some p
      → p.span.from + p.span.len ≡ info.len

-- the law of every catalogue: the blocks of each of its files make the file
abbrev pub BlocksMakeFile : Type 0
BlocksMakeFile = (c : Catalogue) (file : FileNo) (info : FileInfo)
    → slice_get c.files file.0 ≡ Some info → IsWhole c file info
