-- What a catalogue is, and which bytes of a file a block has.
use Rattle.std.specs.Prelude.{ℕ, ◌+◌, ◌-◌, ◌*◌, ◌≤◌, ◌<◌, ◌^◌, min, List, length, All}
use Rattle.tiger_base.specs.declared.number.FileNo.{FileNo}
use Rattle.tiger_base.specs.declared.part.Span.{Span}
use Rattle.stripe_layout.specs.declared.catalogue.FileInfo.{FileInfo}

-- what holds of every catalogue
pub record IsCatalogue (files : List FileInfo) (block disks : ℕ) : Type 0 where
  pub count : length files < 2 ^ 32
  pub lengths : All (λ f. 1 ≤ f.len) files
  pub block_low : 1 ≤ block
  pub block_high : block ≤ 1048576
  pub disks_low : 1 ≤ disks
  pub disks_high : disks ≤ 512

-- a block's bytes, in a file of this length: from the block's start to that of the next, or to the
-- file's end
unfoldable pub block_span : FileNo → ℕ → ℕ → ℕ → Span
block_span file len size block =
    record { file = file; from = block * size; len = min ((block + 1) * size) len - block * size }
