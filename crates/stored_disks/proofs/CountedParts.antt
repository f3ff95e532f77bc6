-- All disks together have each block once whole, and each of its pieces once.
use Rattle.std.proofs.Common.{◌≡◌, ℕ, zero, suc, ◌+◌, ◌*◌, ◌^◌, ◌<◌, ◌≤◌, ◌==◌, ◌&&◌, nat_le, Bool, true, false, if◌then◌else◌, List, length, Some, None, All, refl, ap, sym, ◌∙◌, inl, inr, subst, arith}
use Rattle.std.proofs.lemmas.Bool.{cases_lt}
use Rattle.std.proofs.lemmas.Bool.Decides.{nat_tests}
use Rattle.std.proofs.Math.Nat.{mod-lt, mul-add, mul-le-mul_left, mul-one}
use Rattle.std.proofs.lemmas.List.{length-append}
use Rattle.std.proofs.lemmas.Option.{slice_get_cases}
use Rattle.tiger_base.specs.Span.{LibraryPart}
use Rattle.stripe_layout.specs.Places.{block_count, place_of}
use Rattle.stripe_layout.specs.declared.catalogue.Catalogue.{Catalogue}
use Rattle.stripe_layout.specs.declared.catalogue.FileInfo.{FileInfo}
use Rattle.stripe_layout.specs.declared.place.Place.{Place}
use Rattle.stripe_layout.proofs.Blocks.{BlocksMakeFile-holds}
use Rattle.mirror_pieces.specs.Pieces.{piece_of, piece_disk}
use Rattle.disk_image.specs.Image.{block_part, piece_part}
use Rattle.file_disk.specs.Extents.{NamedPart}
use Rattle.file_disk.specs.Parts.{named, part_here, part_name, parts_of_block, parts_of_file, parts_of_files, disk_parts, most_pieces}
use Rattle.file_disk.specs.declared.directory.PartName.{PartName}
use Rattle.file_disk.proofs.Ranges.{parts_in}
use Rattle.file_disk.proofs.Sizes.{AreFew-blocks}
use Rattle.stored_disks.specs.Disks.{Disks, image_of, parts_on, parts_before, blocks_before, part_count}
use Rattle.stored_disks.specs.Kept.{AllPartsAreCounted}
use Rattle.stored_disks.proofs.NumberSums.{sum_in, sum-more, sum-same, sum-both, sum-times, sum-const, sum-swap, is_one, sum-one, is_low, sum-low}

length-in : (g : ℕ → List NamedPart) (a n : ℕ) → length (parts_in g a n) ≡ sum_in (λ j. length (g j)) a n
length-in g a zero = refl
length-in g a (suc n) = length-append (g a) (parts_in g (a + 1) n) ∙ ap (λ (k : ℕ). length (g a) + k) (length-in g (a + 1) n)

-- a file of 16 MiB at most has few blocks
pub few-blocks : (c : Catalogue) (file : ℕ) → All (λ (info : FileInfo). info.len ≤ 2 ^ 24) c.files → block_count c file ≤ 2 ^ 25
few-blocks c file lengths =
    let few = AreFew-blocks c file lengths in
    let n = block_count c file in
    let at_least : n * 1 ≤ n * c.block = mul-le-mul_left n c.sound.block_low in
    omega (arith, at_least, mul-one n, few.bytes)

-- the blocks of one file more
pub more-blocks : (c : Catalogue) (file n k : ℕ) → n ≡ blocks_before c file → k ≡ block_count c file → n + k ≡ blocks_before c (file + 1)
more-blocks c file n k e f =
    let same : file + 1 ≡ suc file = omega arith in
    let more : blocks_before c (file + 1) ≡ blocks_before c file + block_count c file = ap (blocks_before c) same in
    omega (arith, e, f, more)

-- how many parts of a name a disk has: one or none
abbrev weight : Disks → ℕ → ℕ → ℕ → ℕ → ℕ
weight s d file block k = length (part_here (image_of s d) (part_name file block k))

block-length : (s : Disks) (first count file block d : ℕ)
    → length (parts_of_block (image_of s d) first count file block) ≡ sum_in (weight s d file block) first count
unfolding parts_of_block
block-length s first count file block d = length-in (λ piece. part_here (image_of s d) (part_name file block piece)) first count

file-length : (s : Disks) (first count file d : ℕ)
    → length (parts_of_file (image_of s d) first count file)
    ≡ sum_in (λ block. sum_in (weight s d file block) first count) 0 (block_count s.catalogue file)
unfolding parts_of_file
file-length s first count file d =
    length-in (parts_of_block (image_of s d) first count file) 0 (block_count s.catalogue file)
    ∙ sum-same (λ block. length (parts_of_block (image_of s d) first count file block)) (λ block. sum_in (weight s d file block) first count) 0 (block_count s.catalogue file)
    (λ block low high. block-length s first count file block d)

files-length : (s : Disks) (first count d : ℕ)
    → length (parts_of_files (image_of s d) first count)
    ≡ sum_in (λ file. sum_in (λ block. sum_in (weight s d file block) first count) 0 (block_count s.catalogue file)) 0 (length s.catalogue.files)
unfolding parts_of_files
files-length s first count d =
    length-in (parts_of_file (image_of s d) first count) 0 (length s.catalogue.files)
    ∙ sum-same (λ file. length (parts_of_file (image_of s d) first count file))
    (λ file. sum_in (λ block. sum_in (weight s d file block) first count) 0 (block_count s.catalogue file)) 0 (length s.catalogue.files)
    (λ file low high. file-length s first count file d)

-- the first disks' parts are the sum of each one's
before-sum : (s : Disks) (n : ℕ) → parts_before s n ≡ sum_in (λ d. length (parts_on s d)) 0 n
before-sum s zero = refl
before-sum s (suc n) =
    let same : 0 + n ≡ n = omega arith in
    let last = ap (λ (d : ℕ). length (parts_on s d)) same in
    omega (arith, before-sum s n, sum-more (λ d. length (parts_on s d)) 0 n, last)

blocks-sum : (c : Catalogue) (n : ℕ) → blocks_before c n ≡ sum_in (block_count c) 0 n
blocks-sum c zero = refl
blocks-sum c (suc n) =
    let same : 0 + n ≡ n = omega arith in
    omega (arith, blocks-sum c n, sum-more (block_count c) 0 n, ap (block_count c) same)

-- a block that is there has a place, on one of the disks
pub record IsThere (c : Catalogue) (file block : ℕ) : Type 0 where
  pub place : Place
  pub at : place_of c (record { 0 = file }) block ≡ Some place
  pub on_disk : place.disk.0 < c.disks

there : (c : Catalogue) (file block : ℕ) → file < length c.files → block < block_count c file → IsThere c file block
there c file block lt low = elim (slice_get_cases c.files file).1 [
  | inl here ↦
      let whole = BlocksMakeFile-holds c (record { 0 = file }) here.0 here.2 in
      let found = whole.there block low in
      let turn = mod-lt (here.0.disk.0 + block) c.sound.disks_low in
      record { place = found.0; at = found.1; on_disk = omega (arith, found.2.disk, turn) }
  | inr past ↦ absurd (omega (arith, lt, past.0))
]

-- how many parts a test gives
if-length : (b : Bool) (name : PartName) (p : LibraryPart) → length (named name (if b then Some p else None)) ≡ (if b then 1 else 0)
if-length true name p = refl
if-length false name p = refl

-- the whole block is on its own disk
whole-weight : (s : Disks) (file block d : ℕ) (p : Place) → place_of s.catalogue (record { 0 = file }) block ≡ Some p → weight s d file block 0 ≡ is_one p.disk.0 d
unfolding part_here block_part
whole-weight s file block d p at = rw at (if-length (p.disk.0 == d) (part_name file block 0) (record { library = s.library; span = p.span }))

-- a piece is on its own, if there is one of its number
both-length : (low on : Bool) → (if low && on then 1 else 0) ≡ (if on then 1 else 0) * (if low then 1 else 0)
both-length true true = refl
both-length true false = refl
both-length false true = refl
both-length false false = refl

not-whole : (k : ℕ) → 1 ≤ k → (k == 0) ≡ false
not-whole k some = grind (arith, nat_tests)

from-one : (k : ℕ) → 1 ≤ k → nat_le 1 k ≡ true
from-one k some = grind (arith, nat_tests)

piece-weight : (s : Disks) (file block k d : ℕ) (p : Place) → 1 ≤ k → place_of s.catalogue (record { 0 = file }) block ≡ Some p
    → weight s d file block k ≡ is_one (piece_disk p.disk.0 k s.catalogue.disks) d * is_low s.pieces k
unfolding part_here piece_part
piece-weight s file block k d p some at =
    let on = piece_disk p.disk.0 k s.catalogue.disks == d in
    let low = nat_le k s.pieces in
    rw (not-whole k some, at, from-one k some)
    (if-length (low && on) (part_name file block k) (record { library = s.library; span = piece_of p.span s.pieces k }) ∙ both-length low on)

-- on all disks together each block is there once
abbrev weights : Disks → ℕ → ℕ → ℕ → ℕ
weights s file block k = sum_in (λ d. weight s d file block k) 0 s.catalogue.disks

whole-once : (s : Disks) (file block : ℕ) → IsThere s.catalogue file block → weights s file block 0 ≡ 1
whole-once s file block t =
    sum-same (λ d. weight s d file block 0) (is_one t.place.disk.0) 0 s.catalogue.disks (λ d low high. whole-weight s file block d t.place t.at)
    ∙ sum-one t.place.disk.0 0 s.catalogue.disks (omega arith) (omega (arith, t.on_disk))

-- and each of its pieces
piece-once : (s : Disks) (file block k : ℕ) → IsThere s.catalogue file block → 1 ≤ k → weights s file block k ≡ is_low s.pieces k
unfolding piece_disk
piece-once s file block k t some =
    let x = piece_disk t.place.disk.0 k s.catalogue.disks in
    let turn = mod-lt (t.place.disk.0 + k) s.catalogue.sound.disks_low in
    let one : sum_in (is_one x) 0 s.catalogue.disks ≡ 1 = sum-one x 0 s.catalogue.disks (omega arith) (omega (arith, turn)) in
    let once : 1 * is_low s.pieces k ≡ is_low s.pieces k = omega arith in
    sum-same (λ d. weight s d file block k) (λ d. is_one x d * is_low s.pieces k) 0 s.catalogue.disks (λ d low high. piece-weight s file block k d t.place some t.at)
    ∙ sum-times (is_one x) (is_low s.pieces k) 0 s.catalogue.disks
    ∙ ap (λ (n : ℕ). n * is_low s.pieces k) one
    ∙ once

wholes-of : (s : Disks) (file block : ℕ) → IsThere s.catalogue file block → sum_in (weights s file block) 0 1 ≡ 1
wholes-of s file block t = omega (arith, whole-once s file block t)

pieces-of : (s : Disks) (file block : ℕ) → s.pieces ≤ most_pieces → IsThere s.catalogue file block → sum_in (weights s file block) 1 most_pieces ≡ s.pieces
pieces-of s file block few t =
    let same = sum-same (weights s file block) (is_low s.pieces) 1 most_pieces (λ k low high. piece-once s file block k t low) in
    let all = sum-low s.pieces 1 most_pieces (omega arith) (omega (arith, few)) in
    omega (arith, same, all)

-- the parts of numbers of all blocks on all disks
abbrev on_disk : Disks → ℕ → ℕ → ℕ → ℕ
on_disk s first count d =
    sum_in (λ file. sum_in (λ block. sum_in (weight s d file block) first count) 0 (block_count s.catalogue file)) 0 (length s.catalogue.files)

turned : (s : Disks) (first count : ℕ) → sum_in (on_disk s first count) 0 s.catalogue.disks
    ≡ sum_in (λ file. sum_in (λ block. sum_in (weights s file block) first count) 0 (block_count s.catalogue file)) 0 (length s.catalogue.files)
turned s first count =
    let disks = s.catalogue.disks in
    sum-swap (λ d file. sum_in (λ block. sum_in (weight s d file block) first count) 0 (block_count s.catalogue file)) 0 disks 0 (length s.catalogue.files)
    ∙ sum-same (λ file. sum_in (λ d. sum_in (λ block. sum_in (weight s d file block) first count) 0 (block_count s.catalogue file)) 0 disks)
    (λ file. sum_in (λ block. sum_in (weights s file block) first count) 0 (block_count s.catalogue file)) 0 (length s.catalogue.files)
    (λ file low high.
    sum-swap (λ d block. sum_in (weight s d file block) first count) 0 disks 0 (block_count s.catalogue file)
    ∙ sum-same (λ block. sum_in (λ d. sum_in (weight s d file block) first count) 0 disks)
    (λ block. sum_in (weights s file block) first count) 0 (block_count s.catalogue file)
    (λ block low high. sum-swap (λ d k. weight s d file block k) 0 disks first count))

-- as many for each block make as many times the blocks
times-blocks : (s : Disks) (first count each : ℕ)
    → ((file block : ℕ) → IsThere s.catalogue file block → sum_in (weights s file block) first count ≡ each)
    → sum_in (on_disk s first count) 0 s.catalogue.disks ≡ blocks_before s.catalogue (length s.catalogue.files) * each
times-blocks s first count each of =
    let c = s.catalogue in
    turned s first count
    ∙ sum-same (λ file. sum_in (λ block. sum_in (weights s file block) first count) 0 (block_count c file)) (λ file. block_count c file * each) 0 (length c.files)
    (λ file low high.
    sum-same (λ block. sum_in (weights s file block) first count) (λ block. each) 0 (block_count c file)
    (λ block low' high'. of file block (there c file block (omega (arith, high)) (omega (arith, high'))))
    ∙ sum-const each 0 (block_count c file))
    ∙ sum-times (block_count c) each 0 (length c.files)
    ∙ ap (λ (n : ℕ). n * each) (sym (blocks-sum c (length c.files)))

disk-length : (s : Disks) (d : ℕ) → length (parts_on s d) ≡ on_disk s 0 1 d + on_disk s 1 most_pieces d
unfolding disk_parts
disk-length s d =
    let m = image_of s d in
    let whole = length-append (parts_of_files m 0 1) (parts_of_files m 1 most_pieces) in
    omega (arith, whole, files-length s 0 1 d, files-length s 1 most_pieces d)

pub all-counted : AllPartsAreCounted
all-counted s few =
    let n = blocks_before s.catalogue (length s.catalogue.files) in
    let disks = s.catalogue.disks in
    let sum = before-sum s disks
    ∙ sum-same (λ d. length (parts_on s d)) (λ d. on_disk s 0 1 d + on_disk s 1 most_pieces d) 0 disks (λ d low high. disk-length s d)
    ∙ sum-both (on_disk s 0 1) (on_disk s 1 most_pieces) 0 disks in
    let wholes = times-blocks s 0 1 1 (wholes-of s) in
    let pieces = times-blocks s 1 most_pieces s.pieces (λ file block t. pieces-of s file block few t) in
    let split = mul-add n 1 s.pieces in
    omega (arith, sum, wholes, pieces, split)

-- the first disks and one more have no more parts than all
before-all : (s : Disks) (d n : ℕ) → d < n → parts_before s d + length (parts_on s d) ≤ parts_before s n
before-all s d zero lt = absurd (omega (arith, lt))
before-all s d (suc n) lt = elim (cases_lt d n) [
  | inl before ↦ omega (arith, before-all s d n before)
  | inr last ↦
      let same : n ≡ d = omega (arith, lt, last) in
      subst (λ (k : ℕ). parts_before s d + length (parts_on s d) ≤ parts_before s k + length (parts_on s k)) (sym same) (omega arith)
]

pub within-count : (s : Disks) (d : ℕ) → d < s.catalogue.disks → s.pieces ≤ most_pieces
    → parts_before s d + length (parts_on s d) ≤ part_count s.catalogue s.pieces
within-count s d lt few = omega (arith, before-all s d s.catalogue.disks lt, all-counted s few)
