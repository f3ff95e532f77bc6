-- The blocks of a file.
use Rattle.std.proofs.Common.{◌≡◌, ℕ, ◌+◌, ◌*◌, ◌<◌, ◌≤◌, Some, None, slice_get, ap, sym, ◌∙◌, refl, inl, inr, arith}
use Rattle.std.specs.Int.{div_ceil}
use Rattle.std.proofs.lemmas.Bool.{cases_lt}
use Rattle.std.proofs.lemmas.Bool.Decides.{nat_tests}
use Rattle.std.proofs.lemmas.Grind.{div_ceil_times}
use Rattle.std.proofs.lemmas.Option.{slice_get_within, get_or_from_slice_get}
use Rattle.std.proofs.Math.Nat.{mul-le-mul_right, add-mul}
use Rattle.tiger_base.specs.declared.number.FileNo.{FileNo}
use Rattle.stripe_layout.specs.Layout.{block_span}
use Rattle.stripe_layout.specs.Places.{block_count, place_in, place_of, IsPlace, BlocksMakeFile}
use Rattle.stripe_layout.specs.declared.catalogue.FileInfo.{FileInfo}
use Rattle.stripe_layout.specs.declared.catalogue.Catalogue.{Catalogue}
use Rattle.stripe_layout.specs.declared.place.Place.{Place}

-- a block that a file has begins inside the file
pub start_inside : (len size block : ℕ) → 1 ≤ size → block < div_ceil len size → block * size < len
start_inside len size block sized h =
    let bounds = div_ceil_times len size sized in
    let up : (block + 1) * size ≤ div_ceil len size * size = mul-le-mul_right size (omega arith) in
    omega (arith, add-mul block 1 size, bounds.1)

-- a file ends where the block behind its last one would begin, or before
pub end_reached : (len size block : ℕ) → 1 ≤ size → div_ceil len size ≤ block → len ≤ block * size
end_reached len size block sized h =
    let bounds = div_ceil_times len size sized in
    let up : div_ceil len size * size ≤ block * size = mul-le-mul_right size h in
    omega (arith, bounds.0)

-- a block that is not the last ends where the next one begins
pub block_span-joined : (file : FileNo) (len size block : ℕ) → 1 ≤ size → block + 1 < div_ceil len size
    → (block_span file len size block).from + (block_span file len size block).len ≡ (block_span file len size (block + 1)).from
unfolding block_span
block_span-joined file len size block sized h =
    let inside = start_inside len size (block + 1) sized h in
    omega (arith, add-mul block 1 size)

-- the last block ends where the file ends
pub block_span-last : (file : FileNo) (len size block : ℕ) → 1 ≤ size → block + 1 ≡ div_ceil len size
    → (block_span file len size block).from + (block_span file len size block).len ≡ len
unfolding block_span
block_span-last file len size block sized h =
    let inside = start_inside len size block sized (omega arith) in
    let reached = end_reached len size (block + 1) sized (omega arith) in
    omega (arith, add-mul block 1 size)

pub block_count-there : (c : Catalogue) (file : ℕ) (info : FileInfo) → slice_get c.files file ≡ Some info → block_count c file ≡ div_ceil info.len c.block
unfolding block_count
block_count-there c file info e = rw e refl

pub place_of-there : (c : Catalogue) (file : FileNo) (info : FileInfo) (block : ℕ) → slice_get c.files file.0 ≡ Some info → block < div_ceil info.len c.block
    → place_of c file block ≡ Some (place_in c file info block)
unfolding place_of
place_of-there c file info block e h = rw e (grind (arith, nat_tests))

pub place_of-past : (c : Catalogue) (file : FileNo) (info : FileInfo) (block : ℕ) → slice_get c.files file.0 ≡ Some info → div_ceil info.len c.block ≤ block
    → place_of c file block ≡ None
unfolding place_of
place_of-past c file info block e h = rw e (grind (arith, nat_tests))

-- what the place of a block is, where there is one
pub place_of-some : (c : Catalogue) (file : FileNo) (info : FileInfo) (block : ℕ) (p : Place) → slice_get c.files file.0 ≡ Some info → place_of c file block ≡ Some p
    → (block < div_ceil info.len c.block) × (p ≡ place_in c file info block)
place_of-some c file info block p e h =
    elim (cases_lt block (div_ceil info.len c.block)) [
      | inl below ↦ let there = place_of-there c file info block e below in (below, cc)
      | inr past ↦ let none = place_of-past c file info block e past in absurd (cc)
    ]

pub IsPlace-place_in : (c : Catalogue) (file : FileNo) (info : FileInfo) (block : ℕ) → block < div_ceil info.len c.block → IsPlace c file info block (place_in c file info block)
unfolding block_span
IsPlace-place_in c file info block h =
    let sized = c.sound.block_low in
    let inside = start_inside info.len c.block block sized h in
    let next = add-mul block 1 c.block in
    record {
      file_same = refl;
      start = refl;
      filled = omega arith;
      short = omega arith;
      inside = omega arith;
      disk = refl;
    }

-- a file has a block, since it has a byte
pub one_block : (c : Catalogue) (file : ℕ) (info : FileInfo) → slice_get c.files file ≡ Some info → 0 < div_ceil info.len c.block
one_block c file info e =
    let long = c.sound.lengths file info (slice_get_within c.files file info e) in
    let same = ap (λ (i : FileInfo). i.len) (get_or_from_slice_get c.files file info info e) in
    elim (cases_lt 0 (div_ceil info.len c.block)) [
      | inl some ↦ some
      | inr none ↦ let reached = end_reached info.len c.block 0 c.sound.block_low none in absurd (omega arith)
    ]

pub BlocksMakeFile-holds : BlocksMakeFile
BlocksMakeFile-holds c file info e =
    let sized = c.sound.block_low in
    let count = block_count-there c file.0 info e in
    record {
      some = omega (arith, one_block c file.0 info e);
      there = λ block h.
          let below : block < div_ceil info.len c.block = omega arith in
          (place_in c file info block, place_of-there c file info block e below, IsPlace-place_in c file info block below);
      past = λ block h. place_of-past c file info block e (omega arith);
      joined = λ block p q hp hq.
          let at_p = place_of-some c file info block p e hp in
          let at_q = place_of-some c file info (block + 1) q e hq in
          ap (λ (x : Place). x.span.from + x.span.len) at_p.1
          ∙ block_span-joined file info.len c.block block sized at_q.0
          ∙ sym (ap (λ (x : Place). x.span.from) at_q.1);
      ended = λ block p h hp.
          let at_p = place_of-some c file info block p e hp in
          ap (λ (x : Place). x.span.from + x.span.len) at_p.1 ∙ block_span-last file info.len c.block block sized (omega arith);
    }
