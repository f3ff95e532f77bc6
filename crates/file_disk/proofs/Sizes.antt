-- How many bytes the parts of a disk have.
use Rattle.std.proofs.Common.{◌≡◌, ℕ, zero, suc, ◌+◌, ◌*◌, ◌^◌, ◌≤◌, ◌==◌, ◌&&◌, nat_le, Bool, true, false, if◌then◌else◌, List, [], length, drop, All, Option, Some, None, option_and_then, slice_get, unwrap_or, refl, ap, sym, ◌∙◌, subst, inl, inr, arith, leb-true}
use Rattle.std.specs.Int.{div_ceil}
use Rattle.std.proofs.lemmas.Grind.{div_ceil_times}
use Rattle.std.proofs.lemmas.List.{length-append, length-take}
use Rattle.std.proofs.lemmas.Option.{slice_get_cases, slice_get_within, get_or_from_slice_get}
use Rattle.std.proofs.Math.Nat.{mul-le-mul_right, mul-le-mul_left, mul-one, add-mul, mul_left_comm}
use Rattle.tiger_base.specs.Span.{LibraryPart}
use Rattle.tiger_base.specs.declared.number.FileNo.{FileNo}
use Rattle.stripe_layout.specs.Places.{block_count, place_of}
use Rattle.stripe_layout.specs.declared.catalogue.Catalogue.{Catalogue}
use Rattle.stripe_layout.specs.declared.catalogue.FileInfo.{FileInfo}
use Rattle.stripe_layout.specs.declared.place.Place.{Place}
use Rattle.stripe_layout.proofs.Blocks.{place_of-some, IsPlace-place_in, block_count-there}
use Rattle.mirror_pieces.specs.Pieces.{piece_of, piece_disk}
use Rattle.mirror_pieces.proofs.Cuts.{IsCutUp-holds}
use Rattle.disk_image.specs.Image.{Image, block_part, piece_part, is_piece}
use Rattle.disk_image.proofs.Places.{place_file}
use Rattle.file_disk.specs.Devices.{last_end}
use Rattle.file_disk.specs.Extents.{NamedPart, all_bytes}
use Rattle.file_disk.specs.Parts.{part_bytes, image_part, named, part_here, part_name, parts_of_block, parts_of_file, parts_of_files, disk_parts, most_pieces}
use Rattle.file_disk.specs.declared.directory.PartName.{PartName}
use Rattle.file_disk.proofs.Joining.{size-append}
use Rattle.file_disk.proofs.Ranges.{parts_in}

-- a block is no longer than a full one
place-short : (c : Catalogue) (file : FileNo) (block : ℕ) (p : Place) → place_of c file block ≡ Some p → p.span.len ≤ c.block
place-short c file block p e =
    let at = place_file c file block p e in
    let there = place_of-some c file at.0 block p at.1 e in
    let is = IsPlace-place_in c file at.0 block there.0 in
    let same = ap (λ (q : Place). q.span.len) there.1 in
    omega (arith, is.short, same)

-- the part that a test gives
if-short : (b : Bool) (q p : LibraryPart) (most : ℕ) → (b ≡ true → q.span.len ≤ most) → (if b then Some q else None) ≡ Some p → p.span.len ≤ most
if-short true q p most h e =
    let same : q ≡ p = cc in
    omega (arith, h refl, ap (λ (r : LibraryPart). r.span.len) same)
if-short false q p most h e = absurd (cc)

block-at : (m : Image) (file : FileNo) (block : ℕ) (o : Option Place) (p : LibraryPart) → place_of m.catalogue file block ≡ o
    → option_and_then {U = LibraryPart} (λ q. if q.disk.0 == m.disk then Some (record { library = m.library; span = q.span }) else None) o ≡ Some p
    → p.span.len ≤ m.catalogue.block
block-at m file block None p at e = absurd (cc)
block-at m file block (Some q) p at e =
    if-short (q.disk.0 == m.disk) (record { library = m.library; span = q.span }) p m.catalogue.block (λ _. place-short m.catalogue file block q at) e

block-short : (m : Image) (file : FileNo) (block : ℕ) (p : LibraryPart) → block_part m file block ≡ Some p → p.span.len ≤ m.catalogue.block
unfolding block_part
block-short m file block p e = block-at m file block (place_of m.catalogue file block) p refl e

-- a piece is no longer than its block
pub left-true : (x y : Bool) → (x && y) ≡ true → x ≡ true
left-true true y e = refl
left-true false y e = e

pub right-true : (x y : Bool) → (x && y) ≡ true → y ≡ true
right-true true y e = e
right-true false y e = absurd (cc)

cut-short : (m : Image) (k : ℕ) (q : Place) → is_piece m k ≡ true → (piece_of q.span m.pieces k).len ≤ q.span.len
cut-short m k q e =
    let low = leb-true 1 k (left-true (nat_le 1 k) (nat_le k m.pieces) e) in
    let high = leb-true k m.pieces (right-true (nat_le 1 k) (nat_le k m.pieces) e) in
    (IsCutUp-holds q.span m.pieces (omega (arith, low, high))).short k low high

piece-at : (m : Image) (file : FileNo) (block k : ℕ) (o : Option Place) (p : LibraryPart) → place_of m.catalogue file block ≡ o
    → option_and_then {U = LibraryPart} (λ q. if is_piece m k && (piece_disk q.disk.0 k m.catalogue.disks == m.disk)
    then Some (record { library = m.library; span = piece_of q.span m.pieces k }) else None) o ≡ Some p
    → p.span.len ≤ m.catalogue.block
piece-at m file block k None p at e = absurd (cc)
piece-at m file block k (Some q) p at e =
    let on = piece_disk q.disk.0 k m.catalogue.disks == m.disk in
    let whole = place-short m.catalogue file block q at in
    if-short (is_piece m k && on) (record { library = m.library; span = piece_of q.span m.pieces k }) p m.catalogue.block
    (λ t. omega (arith, whole, cut-short m k q (left-true (is_piece m k) on t))) e

piece-short : (m : Image) (file : FileNo) (block k : ℕ) (p : LibraryPart) → piece_part m file block k ≡ Some p → p.span.len ≤ m.catalogue.block
unfolding piece_part
piece-short m file block k p e = piece-at m file block k (place_of m.catalogue file block) p refl e

either-short : (b : Bool) (x y : Option LibraryPart) (p : LibraryPart) (most : ℕ)
    → (x ≡ Some p → p.span.len ≤ most) → (y ≡ Some p → p.span.len ≤ most)
    → (if b then x else y) ≡ Some p → p.span.len ≤ most
either-short true x y p most f h e = f e
either-short false x y p most f h e = h e

image-short : (m : Image) (name : PartName) (p : LibraryPart) → image_part m name ≡ Some p → p.span.len ≤ m.catalogue.block
image-short m name p e =
    either-short (name.piece == 0) (block_part m name.file name.block) (piece_part m name.file name.block name.piece) p m.catalogue.block
    (block-short m name.file name.block p) (piece-short m name.file name.block name.piece p) e

named-size : (name : PartName) (o : Option LibraryPart) (most : ℕ) → ((p : LibraryPart) → o ≡ Some p → p.span.len ≤ most)
    → length (all_bytes (named name o)) ≤ most
named-size name None most h = omega arith
named-size name (Some p) most h =
    let file = unwrap_or (slice_get p.library p.span.file.0) [] in
    omega (arith, h p refl, length-append (part_bytes p) [], length-take p.span.len (drop p.span.from file))

part-size : (m : Image) (name : PartName) → length (all_bytes (part_here m name)) ≤ m.catalogue.block
unfolding part_here
part-size m name = named-size name (image_part m name) m.catalogue.block (image-short m name)

-- the bytes of the parts of numbers one after another, each of which has no more than some
size-in : (g : ℕ → List NamedPart) (a n most : ℕ) → ((j : ℕ) → length (all_bytes (g j)) ≤ most)
    → length (all_bytes (parts_in g a n)) ≤ n * most
size-in g a zero most each = omega arith
size-in g a (suc n) most each =
    let same : suc n ≡ n + 1 = omega arith in
    let more : suc n * most ≡ n * most + 1 * most = ap (λ (k : ℕ). k * most) same ∙ add-mul n 1 most in
    omega (arith, more, each a, size-in g (a + 1) n most each, size-append (g a) (parts_in g (a + 1) n))

block-size : (m : Image) (first count file block : ℕ) → count ≤ most_pieces
    → length (all_bytes (parts_of_block m first count file block)) ≤ most_pieces * m.catalogue.block
unfolding parts_of_block
block-size m first count file block few =
    let g : ℕ → List NamedPart = λ piece. part_here m (part_name file block piece) in
    let all = size-in g first count m.catalogue.block (λ j. part-size m (part_name file block j)) in
    let up : count * m.catalogue.block ≤ most_pieces * m.catalogue.block = mul-le-mul_right m.catalogue.block few in
    omega (arith, all, up)

-- what holds of a file's blocks
pub record AreFew (c : Catalogue) (file : ℕ) : Type 0 where
  pub bytes : block_count c file * c.block ≤ 2 ^ 25
  pub blocks : block_count c file ≤ 2 ^ 64

few-blocks : (c : Catalogue) (file n : ℕ) → block_count c file ≡ n → n * c.block ≤ 2 ^ 25 → AreFew c file
few-blocks c file n e h =
    let at_least : n * 1 ≤ n * c.block = mul-le-mul_left n c.sound.block_low in
    record {
      bytes = subst (λ (k : ℕ). k * c.block ≤ 2 ^ 25) (sym e) h;
      blocks = omega (arith, e, at_least, mul-one n, h);
    }

pub AreFew-blocks : (c : Catalogue) (file : ℕ) → All (λ (info : FileInfo). info.len ≤ 2 ^ 24) c.files → AreFew c file
unfolding block_count
AreFew-blocks c file lengths = elim (slice_get_cases c.files file).1 [
  | inl here ↦
      let info = here.0 in
      let e = here.2 in
      let inside = slice_get_within c.files file info e in
      let len = lengths file info inside in
      let same = ap (λ (i : FileInfo). i.len) (get_or_from_slice_get c.files file info info e) in
      let bounds = div_ceil_times info.len c.block c.sound.block_low in
      few-blocks c file (div_ceil info.len c.block) (block_count-there c file info e) (omega (arith, bounds.1, len, same, c.sound.block_high))
  | inr past ↦
      let none : block_count c file ≡ 0 = rw past.1 refl in
      few-blocks c file 0 none (omega arith)
]

file-size : (m : Image) (first count file : ℕ) → count ≤ most_pieces → AreFew m.catalogue file
    → length (all_bytes (parts_of_file m first count file)) ≤ 2 ^ 28
unfolding parts_of_file
file-size m first count file few blocks =
    let n = block_count m.catalogue file in
    let each = size-in (parts_of_block m first count file) 0 n (most_pieces * m.catalogue.block) (λ j. block-size m first count file j few) in
    let turned : n * (most_pieces * m.catalogue.block) ≡ most_pieces * (n * m.catalogue.block) = mul_left_comm n most_pieces m.catalogue.block in
    omega (arith, each, turned, blocks.bytes)

files-size : (m : Image) (first count : ℕ) → count ≤ most_pieces → ((file : ℕ) → AreFew m.catalogue file)
    → length (all_bytes (parts_of_files m first count)) ≤ length m.catalogue.files * 2 ^ 28
unfolding parts_of_files
files-size m first count few blocks =
    size-in (parts_of_file m first count) 0 (length m.catalogue.files) (2 ^ 28) (λ j. file-size m first count j few (blocks j))

-- all parts of a disk
disk-size : (m : Image) → All (λ (info : FileInfo). info.len ≤ 2 ^ 24) m.catalogue.files
    → length (all_bytes (disk_parts m)) ≤ length m.catalogue.files * 2 ^ 29
unfolding disk_parts
disk-size m lengths =
    let few : (file : ℕ) → AreFew m.catalogue file = λ file. AreFew-blocks m.catalogue file lengths in
    let wholes = files-size m 0 1 (omega arith) few in
    let pieces = files-size m 1 most_pieces (omega arith) few in
    omega (arith, wholes, pieces, size-append (parts_of_files m 0 1) (parts_of_files m 1 most_pieces))

-- of few files
pub disk-short : (m : Image) → length m.catalogue.files ≤ 64 → All (λ (info : FileInfo). info.len ≤ 2 ^ 24) m.catalogue.files
    → length (all_bytes (disk_parts m)) ≤ 2 ^ 35
disk-short m few lengths = omega (arith, few, disk-size m lengths)

-- all parts of a disk end before the last place
pub disk-fits : (m : Image) (at : ℕ) → at ≤ 2 ^ 61 → All (λ (info : FileInfo). info.len ≤ 2 ^ 24) m.catalogue.files
    → at + length (all_bytes (disk_parts m)) ≤ last_end
disk-fits m at low lengths = omega (arith, low, disk-size m lengths, m.catalogue.sound.count)
