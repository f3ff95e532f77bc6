-- The files: three draws each, for the blocks, for what the last one lacks, and for the disk.
use Rattle.std.specs.Prelude.{ℕ, ◌+◌, ◌-◌, ◌*◌, ◌%◌, List, ◌++◌, map, codes}
use Rattle.std.specs.Fmt.{decimal}
use Rattle.std.specs.List.{range_with_len}
use Rattle.rand_pcg.specs.Lcg.{Lcg}
use Rattle.scenario_read.specs.declared.scenario.FileLine.{FileLine}
use Rattle.scenario_make.specs.Draws.{after, draw}

-- how long a file is: 20 to 59 blocks of 64 bytes, less the bytes that the last one lacks
unfoldable pub length_by : Lcg → ℕ
length_by g = 64 * (20 + draw g 0 40) - draw g 1 64

-- the name and the disk of file i
unfoldable pub line_by : Lcg → ℕ → FileLine
line_by g i = record { name = codes "made" ++ decimal i; disk = record { 0 = draw g 2 56 } }

-- so many bytes of file i
unfoldable pub bytes_of : ℕ → ℕ → List ℕ
bytes_of i len = map (λ j. (31 * i + 7 * j) % 251) (range_with_len 0 len)

-- the generator at file i
abbrev pub at_file : Lcg → ℕ → Lcg
at_file g i = after (3 * i) g

-- the first n files
unfoldable pub lines_by : Lcg → ℕ → List FileLine
lines_by g n = map (λ i. line_by (at_file g i) i) (range_with_len 0 n)

-- the bytes of the first n files
unfoldable pub contents_by : Lcg → ℕ → List (List ℕ)
contents_by g n = map (λ i. bytes_of i (length_by (at_file g i))) (range_with_len 0 n)
