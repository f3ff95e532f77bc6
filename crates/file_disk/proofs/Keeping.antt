-- Each part of a disk is kept, and nothing else.
use Rattle.std.proofs.Common.{◌≡◌, ◌≢◌, ℕ, zero, suc, ◌+◌, ◌<◌, ◌≤◌, ◌==◌, ◌&&◌, nat_le, Bool, true, false, cond, if◌then◌else◌, List, [], ◌∷◌, ◌++◌, length, get_or, Option, Some, None, option_and_then, refl, ap, sym, ◌∙◌, subst, append_assoc, inl, inr, arith, eq-eqb, leb-true}
use Rattle.std.specs.List.{AllByRecursion}
use Rattle.std.proofs.lemmas.Bool.{cases_lt}
use Rattle.std.proofs.lemmas.Bool.Decides.{nat_tests}
use Rattle.std.proofs.lemmas.List.{length-append, get_or_append_left, get_or-append-add}
use Rattle.std.proofs.lemmas.Option.{slice_get_within}
use Rattle.tiger_base.specs.Span.{LibraryPart}
use Rattle.stripe_layout.specs.Places.{block_count, place_of}
use Rattle.stripe_layout.specs.declared.place.Place.{Place}
use Rattle.mirror_pieces.specs.Pieces.{piece_of, piece_disk}
use Rattle.disk_image.specs.Image.{Image, block_part, piece_part, is_piece}
use Rattle.disk_image.proofs.Places.{place_file, place_disk}
use Rattle.file_disk.specs.Devices.{StandAt}
use Rattle.file_disk.specs.Extents.{NamedPart, all_bytes, extent_at, placed, rank, Rise, same_name, extent_of, above_ranks}
use Rattle.file_disk.specs.Kept.{IsKeptPart, EachPartIsKept, NoOtherIsKept}
use Rattle.file_disk.specs.Parts.{part_bytes, image_part, named, part_here, part_name, parts_of_block, parts_of_file, parts_of_files, disk_parts, most_pieces}
use Rattle.file_disk.specs.declared.directory.Extent.{Extent}
use Rattle.file_disk.specs.declared.directory.PartName.{PartName}
use Rattle.file_disk.proofs.Joining.{bytes-append}
use Rattle.file_disk.proofs.Names.{other_rank, one-name}
use Rattle.file_disk.proofs.Order.{part_names, disk-rises}
use Rattle.file_disk.proofs.Ranges.{parts_in}
use Rattle.file_disk.proofs.Sizes.{left-true, right-true, AreFew, AreFew-blocks}

-- a part is one of some parts
pub record IsAmong (ps : List NamedPart) (p : NamedPart) : Type 0 where
  pub before : List NamedPart
  pub after : List NamedPart
  pub are : ps ≡ before ++ p ∷ after

among-left : (ps qs : List NamedPart) (p : NamedPart) → IsAmong ps p → IsAmong (ps ++ qs) p
among-left ps qs p a =
    record {
      before = a.before;
      after = a.after ++ qs;
      are = ap (λ (rs : List NamedPart). rs ++ qs) a.are ∙ append_assoc a.before (p ∷ a.after) qs;
    }

among-right : (ps qs : List NamedPart) (p : NamedPart) → IsAmong qs p → IsAmong (ps ++ qs) p
among-right ps qs p a =
    record {
      before = ps ++ a.before;
      after = a.after;
      are = ap (λ (rs : List NamedPart). ps ++ rs) a.are ∙ sym (append_assoc ps a.before (p ∷ a.after));
    }

among-in : (g : ℕ → List NamedPart) (a n j : ℕ) (p : NamedPart) → a ≤ j → j < a + n → IsAmong (g j) p → IsAmong (parts_in g a n) p
among-in g a zero j p low high at = absurd (omega (arith, low, high))
among-in g a (suc n) j p low high at = elim (cases_lt a j) [
  | inl later ↦ among-right (g a) (parts_in g (a + 1) n) p (among-in g (a + 1) n j p (omega arith) (omega (arith, high)) at)
  | inr here ↦
      let same : j ≡ a = omega (arith, low, here) in
      among-left (g a) (parts_in g (a + 1) n) p (subst (λ (k : ℕ). IsAmong (g k) p) same at)
]

-- a part of the image is where its name stands
among-here : (m : Image) (name : PartName) (p : LibraryPart) → image_part m name ≡ Some p
    → IsAmong (part_here m name) (record { name = name; bytes = part_bytes p })
unfolding part_here
among-here m name p e = record { before = []; after = []; are = ap (named name) e }

-- the numbers of a name that the image has
pub record IsInside (m : Image) (name : PartName) : Type 0 where
  pub file : name.file.0 < length m.catalogue.files
  pub block : name.block < block_count m.catalogue name.file.0
  pub piece : name.piece ≤ most_pieces

inside-of : (m : Image) (name : PartName) (q : Place) → place_of m.catalogue name.file name.block ≡ Some q → name.piece ≤ most_pieces → IsInside m name
inside-of m name q at few =
    let file = place_file m.catalogue name.file name.block q at in
    record {
      file = slice_get_within m.catalogue.files name.file.0 file.0 file.1;
      block = (place_disk m.catalogue name.file name.block q at).3;
      piece = few;
    }

inside-block : (m : Image) (name : PartName) (o : Option Place) (p : LibraryPart) → place_of m.catalogue name.file name.block ≡ o → name.piece ≡ 0
    → option_and_then {U = LibraryPart} (λ q. if q.disk.0 == m.disk then Some (record { library = m.library; span = q.span }) else None) o ≡ Some p
    → IsInside m name
inside-block m name None p at whole e = absurd (cc)
inside-block m name (Some q) p at whole e = inside-of m name q at (omega (arith, whole))

if-true : (b : Bool) (q p : LibraryPart) → (if b then Some q else None) ≡ Some p → b ≡ true
if-true true q p e = refl
if-true false q p e = absurd (cc)

inside-piece : (m : Image) (name : PartName) (o : Option Place) (p : LibraryPart) → place_of m.catalogue name.file name.block ≡ o → m.pieces ≤ most_pieces
    → option_and_then {U = LibraryPart} (λ q. if is_piece m name.piece && (piece_disk q.disk.0 name.piece m.catalogue.disks == m.disk)
    then Some (record { library = m.library; span = piece_of q.span m.pieces name.piece }) else None) o ≡ Some p
    → IsInside m name
inside-piece m name None p at few e = absurd (cc)
inside-piece m name (Some q) p at few e =
    let on = piece_disk q.disk.0 name.piece m.catalogue.disks == m.disk in
    let test = if-true (is_piece m name.piece && on) (record { library = m.library; span = piece_of q.span m.pieces name.piece }) p e in
    let is = left-true (is_piece m name.piece) on test in
    let high = leb-true name.piece m.pieces (right-true (nat_le 1 name.piece) (nat_le name.piece m.pieces) is) in
    inside-of m name q at (omega (arith, high, few))

block-inside : (m : Image) (name : PartName) (p : LibraryPart) → name.piece ≡ 0 → block_part m name.file name.block ≡ Some p → IsInside m name
unfolding block_part
block-inside m name p whole e = inside-block m name (place_of m.catalogue name.file name.block) p refl whole e

piece-inside : (m : Image) (name : PartName) (p : LibraryPart) → m.pieces ≤ most_pieces → piece_part m name.file name.block name.piece ≡ Some p → IsInside m name
unfolding piece_part
piece-inside m name p few e = inside-piece m name (place_of m.catalogue name.file name.block) p refl few e

-- the image has a whole block or a piece
image-inside : (m : Image) (name : PartName) (p : LibraryPart) (b : Bool) → m.pieces ≤ most_pieces → (name.piece == 0) ≡ b
    → (if b then block_part m name.file name.block else piece_part m name.file name.block name.piece) ≡ Some p → IsInside m name
image-inside m name p true few is e =
    let whole : name.piece ≡ 0 = grind (arith, nat_tests) in block-inside m name p whole e
image-inside m name p false few is e = piece-inside m name p few e

-- so it is among its disk's parts
among-files : (m : Image) (first count : ℕ) (name : PartName) (p : NamedPart) → IsInside m name → first ≤ name.piece → name.piece < first + count
    → IsAmong (part_here m name) p → IsAmong (parts_of_files m first count) p
unfolding parts_of_files parts_of_file parts_of_block
among-files m first count name p in_disk low high here =
    let piece = among-in (λ (k : ℕ). part_here m (part_name name.file.0 name.block k)) first count name.piece p low high here in
    let block = among-in (parts_of_block m first count name.file.0) 0 (block_count m.catalogue name.file.0) name.block p (omega arith) (omega (arith, in_disk.block)) piece in
    among-in (parts_of_file m first count) 0 (length m.catalogue.files) name.file.0 p (omega arith) (omega (arith, in_disk.file)) block

among-disk : (m : Image) (name : PartName) (p : NamedPart) → IsInside m name → IsAmong (part_here m name) p → IsAmong (disk_parts m) p
unfolding disk_parts
among-disk m name p in_disk here = elim (cases_lt 0 name.piece) [
  | inl piece ↦ among-right (parts_of_files m 0 1) (parts_of_files m 1 most_pieces) p (among-files m 1 most_pieces name p in_disk (omega (arith, piece)) (omega (arith, in_disk.piece)) here)
  | inr whole ↦ among-left (parts_of_files m 0 1) (parts_of_files m 1 most_pieces) p (among-files m 0 1 name p in_disk (omega arith) (omega (arith, whole)) here)
]

-- the first of the names before it is less than its own
rise-to : (before after : List NamedPart) (p : NamedPart) (low high : ℕ) → Rise low (part_names (before ++ p ∷ after)) high → low ≤ rank p.name
rise-to [] after p low high r = r.0
rise-to (q ∷ qs) after p low high r =
    let later = rise-to qs after p (rank q.name + 1) high r.1 in omega (arith, r.0, later)

same-name : (a : PartName) → same_name a a ≡ true
same-name a = rw (eq-eqb a.file.0 a.file.0 refl, eq-eqb a.block a.block refl, eq-eqb a.piece a.piece refl) refl

-- what is kept of a part among others whose names rise
find-among : (at : ℕ) (before after : List NamedPart) (p : NamedPart) (low high : ℕ) → Rise low (part_names (before ++ p ∷ after)) high
    → extent_of (placed at (before ++ p ∷ after)) p.name ≡ Some (extent_at (at + length (all_bytes before)) p)
find-among at [] after p low high r =
    let place : at ≡ at + 0 = omega arith in
    rw (same-name p.name) (ap (λ (n : ℕ). Some (extent_at n p)) place)
find-among at (q ∷ qs) after p low high r =
    let later = rise-to qs after p (rank q.name + 1) high r.1 in
    let differs : rank q.name ≢ rank p.name = λ same. omega (arith, same, later) in
    let place : at + length q.bytes + length (all_bytes qs) ≡ at + length (q.bytes ++ all_bytes qs) = omega (arith, length-append q.bytes (all_bytes qs)) in
    rw (other_rank q.name p.name differs)
    (find-among (at + length q.bytes) qs after p (rank q.name + 1) high r.1 ∙ ap (λ (n : ℕ). Some (extent_at n p)) place)

-- and where it stands
stand-among : (told : Option (List ℕ)) (at : ℕ) (xs ys zs : List ℕ) → StandAt told at (xs ++ (ys ++ zs)) → StandAt told (at + length xs) ys
stand-among None at xs ys zs all = tt
stand-among (Some t) at xs ys zs all = λ i h.
    let place : at + length xs + i ≡ at + (length xs + i) = omega arith in
    ap (λ (n : ℕ). get_or t n 0) place
    ∙ all (length xs + i) (omega (arith, h, length-append xs (ys ++ zs), length-append ys zs))
    ∙ get_or-append-add xs (ys ++ zs) i 0
    ∙ get_or_append_left ys zs 0 i h

kept-among : (m : Image) (at : ℕ) (name : PartName) (p : NamedPart) → p.name ≡ name → Rise 0 (part_names (disk_parts m)) above_ranks
    → IsAmong (disk_parts m) p → IsKeptPart m at name p.bytes
kept-among m at name p is rises among =
    let whole : all_bytes (disk_parts m) ≡ all_bytes among.before ++ (p.bytes ++ all_bytes among.after) =
    ap all_bytes among.are ∙ bytes-append among.before (p ∷ among.after) in
    let rise = subst (λ (ps : List NamedPart). Rise 0 (part_names ps) above_ranks) among.are rises in
    let found : extent_of (placed at (disk_parts m)) p.name ≡ Some (extent_at (at + length (all_bytes among.before)) p) =
    ap (λ (ps : List NamedPart). extent_of (placed at ps) p.name) among.are ∙ find-among at among.before among.after p 0 above_ranks rise in
    record {
      extent = extent_at (at + length (all_bytes among.before)) p;
      found = subst (λ (n : PartName). extent_of (placed at (disk_parts m)) n ≡ Some (extent_at (at + length (all_bytes among.before)) p)) is found;
      has = record { len = refl; digest = refl };
      stands = λ told all. stand-among told at (all_bytes among.before) p.bytes (all_bytes among.after) (subst (λ (bs : List ℕ). StandAt told at bs) whole all);
    }

pub each-kept : EachPartIsKept
each-kept m at name p can e =
    let in_disk = image-inside m name p (name.piece == 0) can.pieces refl e in
    let blocks : (file : ℕ) → AreFew m.catalogue file = λ file. AreFew-blocks m.catalogue file can.lengths in
    let rises = disk-rises m (λ file. (blocks file).blocks) (omega (arith, m.catalogue.sound.count)) in
    kept-among m at name (record { name = name; bytes = part_bytes p }) refl rises (among-disk m name (record { name = name; bytes = part_bytes p }) in_disk (among-here m name p e))

-- the image has the part of a name
abbrev Has : Image → NamedPart → Type 0
Has m p = (q : LibraryPart) × (image_part m p.name ≡ Some q)

has-append : (m : Image) (ps qs : List NamedPart) → AllByRecursion (Has m) ps → AllByRecursion (Has m) qs → AllByRecursion (Has m) (ps ++ qs)
has-append m [] qs f h = h
has-append m (p ∷ ps) qs f h = (f.0, has-append m ps qs f.1 h)

has-in : (m : Image) (g : ℕ → List NamedPart) (a n : ℕ) → ((j : ℕ) → AllByRecursion (Has m) (g j)) → AllByRecursion (Has m) (parts_in g a n)
has-in m g a zero each = tt
has-in m g a (suc n) each = has-append m (g a) (parts_in g (a + 1) n) (each a) (has-in m g (a + 1) n each)

has-named : (m : Image) (name : PartName) (o : Option LibraryPart) → image_part m name ≡ o → AllByRecursion (Has m) (named name o)
has-named m name None e = tt
has-named m name (Some q) e = ((q, e), tt)

has-here : (m : Image) (name : PartName) → AllByRecursion (Has m) (part_here m name)
unfolding part_here
has-here m name = has-named m name (image_part m name) refl

has-files : (m : Image) (first count : ℕ) → AllByRecursion (Has m) (parts_of_files m first count)
unfolding parts_of_files parts_of_file parts_of_block
has-files m first count =
    has-in m (parts_of_file m first count) 0 (length m.catalogue.files)
    (λ file. has-in m (parts_of_block m first count file) 0 (block_count m.catalogue file)
    (λ block. has-in m (λ (piece : ℕ). part_here m (part_name file block piece)) first count
    (λ piece. has-here m (part_name file block piece))))

has-disk : (m : Image) → AllByRecursion (Has m) (disk_parts m)
unfolding disk_parts
has-disk m = has-append m (parts_of_files m 0 1) (parts_of_files m 1 most_pieces) (has-files m 0 1) (has-files m 1 most_pieces)

skipped : (b : Bool) (e : Extent) (rest : Option Extent) → (b ≡ true → ⊥) → rest ≡ None → cond b (Some e) rest ≡ None
skipped true e rest not none = absurd (not refl)
skipped false e rest not none = none

two-ways : (o : Option LibraryPart) (q : LibraryPart) → o ≡ Some q → o ≡ None → ⊥
two-ways None q e f = absurd (cc)
two-ways (Some p) q e f = absurd (cc)

none-kept : (m : Image) (at : ℕ) (name : PartName) (ps : List NamedPart) → AllByRecursion (Has m) ps → image_part m name ≡ None
    → extent_of (placed at ps) name ≡ None
none-kept m at name [] all none = refl
none-kept m at name (p ∷ ps) all none =
    skipped (same_name p.name name) (extent_at at p) (extent_of (placed (at + length p.bytes) ps) name)
    (λ same. two-ways (image_part m p.name) all.0.0 all.0.1 (ap (image_part m) (one-name p.name name same) ∙ none))
    (none-kept m (at + length p.bytes) name ps all.1 none)

pub no-other : NoOtherIsKept
no-other m at name none = none-kept m at name (disk_parts m) (has-disk m) none
