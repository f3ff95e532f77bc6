-- The names of a disk's parts rise in the order in which the parts are stored.
use Rattle.std.proofs.Common.{◌≡◌, ℕ, zero, suc, ◌+◌, ◌^◌, ◌<◌, ◌≤◌, ◌==◌, false, List, [], ◌∷◌, ◌++◌, length, map, Option, Some, None, refl, ap, sym, subst, arith}
use Rattle.std.proofs.lemmas.Bool.Decides.{nat_tests}
use Rattle.std.proofs.lemmas.List.{map-append}
use Rattle.tiger_base.specs.Span.{LibraryPart}
use Rattle.stripe_layout.specs.Places.{block_count}
use Rattle.disk_image.specs.Image.{Image}
use Rattle.file_disk.specs.Extents.{NamedPart, placed, kind_rank, place_in_order, rank, Rise, extent_names, above_ranks}
use Rattle.file_disk.specs.Parts.{image_part, named, part_here, part_name, parts_of_block, parts_of_file, parts_of_files, disk_parts, most_pieces}
use Rattle.file_disk.specs.declared.directory.PartName.{PartName}
use Rattle.file_disk.proofs.Ranges.{parts_in}

-- between numbers that lie further apart they rise too
pub rise-wider : (ns : List PartName) (low high low' high' : ℕ) → low' ≤ low → high ≤ high' → Rise low ns high → Rise low' ns high'
rise-wider [] low high low' high' l h r = omega (arith, l, h, r)
rise-wider (n ∷ ns) low high low' high' l h r =
    (omega (arith, l, r.0), rise-wider ns (rank n + 1) high (rank n + 1) high' (omega arith) h r.1)

pub rise-append : (ns ms : List PartName) (low mid high : ℕ) → Rise low ns mid → Rise mid ms high → Rise low (ns ++ ms) high
rise-append [] ms low mid high r s = rise-wider ms mid high low high r (omega arith) s
rise-append (n ∷ ns) ms low mid high r s = (r.0, rise-append ns ms (rank n + 1) mid high r.1 s)

-- the names of parts
abbrev pub part_names : List NamedPart → List PartName
part_names ps = map (λ (p : NamedPart). p.name) ps

pub names-placed : (at : ℕ) (ps : List NamedPart) → extent_names (placed at ps) ≡ part_names ps
names-placed at [] = refl
names-placed at (p ∷ ps) = ap (λ (ns : List PartName). p.name ∷ ns) (names-placed (at + length p.bytes) ps)

rise-join : (ps qs : List NamedPart) (low mid high : ℕ) → Rise low (part_names ps) mid → Rise mid (part_names qs) high
    → Rise low (part_names (ps ++ qs)) high
rise-join ps qs low mid high r s =
    subst (λ (ns : List PartName). Rise low ns high) (sym (map-append (λ (p : NamedPart). p.name) ps qs))
    (rise-append (part_names ps) (part_names qs) low mid high r s)

-- the names of the parts of numbers one after another
rise-parts : (g : ℕ → List NamedPart) (f : ℕ → ℕ) (a n : ℕ)
    → ((j : ℕ) → a ≤ j → j < a + n → Rise (f j) (part_names (g j)) (f (j + 1)))
    → Rise (f a) (part_names (parts_in g a n)) (f (a + n))
rise-parts g f a zero each =
    let same : a ≡ a + 0 = omega arith in
    let le : f a ≤ f a = omega arith in
    subst (λ (k : ℕ). f a ≤ f k) same le
rise-parts g f a (suc n) each =
    let same : a + 1 + n ≡ a + suc n = omega arith in
    let rest = rise-parts g f (a + 1) n (λ j l h. each j (omega (arith, l)) (omega (arith, h))) in
    rise-join (g a) (parts_in g (a + 1) n) (f a) (f (a + 1)) (f (a + suc n)) (each a (omega arith) (omega arith))
    (subst (λ (k : ℕ). Rise (f (a + 1)) (part_names (parts_in g (a + 1) n)) (f k)) same rest)

-- one part or none
rise-named : (name : PartName) (o : Option LibraryPart) → Rise (rank name) (part_names (named name o)) (rank name + 1)
rise-named name None = omega arith
rise-named name (Some p) = (omega arith, omega arith)

rise-here : (m : Image) (kind file block piece : ℕ) → kind_rank piece ≡ kind
    → Rise (place_in_order kind file block piece) (part_names (part_here m (part_name file block piece))) (place_in_order kind file block (piece + 1))
unfolding part_here
rise-here m kind file block piece e =
    let name = part_name file block piece in
    let same : rank name ≡ place_in_order kind file block piece = ap (λ (k : ℕ). place_in_order k file block piece) e in
    let low : place_in_order kind file block piece ≤ rank name = omega (arith, same) in
    let high : rank name + 1 ≤ place_in_order kind file block (piece + 1) = omega (arith, same) in
    rise-wider (part_names (named name (image_part m name))) (rank name) (rank name + 1) _ _ low high (rise-named name (image_part m name))

-- the numbers of a pass: all whole blocks, or all pieces
pub record IsPass (kind first count : ℕ) : Type 0 where
  pub few : first + count ≤ 9
  pub kinds : (j : ℕ) → first ≤ j → j < first + count → kind_rank j ≡ kind

rise-block : (m : Image) (kind first count file block : ℕ) → IsPass kind first count
    → Rise (place_in_order kind file block 0) (part_names (parts_of_block m first count file block)) (place_in_order kind file (block + 1) 0)
unfolding parts_of_block
rise-block m kind first count file block pass =
    let g : ℕ → List NamedPart = λ piece. part_here m (part_name file block piece) in
    let few = pass.few in
    rise-wider (part_names (parts_in g first count)) (place_in_order kind file block first) (place_in_order kind file block (first + count))
    (place_in_order kind file block 0) (place_in_order kind file (block + 1) 0) (omega arith) (omega arith)
    (rise-parts g (place_in_order kind file block) first count (λ j l h. rise-here m kind file block j (pass.kinds j l h)))

rise-file : (m : Image) (kind first count file : ℕ) → IsPass kind first count → block_count m.catalogue file ≤ 2 ^ 64
    → Rise (place_in_order kind file 0 0) (part_names (parts_of_file m first count file)) (place_in_order kind (file + 1) 0 0)
unfolding parts_of_file
rise-file m kind first count file pass short =
    let n = block_count m.catalogue file in
    let g : ℕ → List NamedPart = parts_of_block m first count file in
    let all : Rise (place_in_order kind file 0 0) (part_names (parts_in g 0 n)) (place_in_order kind file (0 + n) 0) =
    rise-parts g (λ b. place_in_order kind file b 0) 0 n (λ j l h. rise-block m kind first count file j pass) in
    rise-wider (part_names (parts_in g 0 n)) (place_in_order kind file 0 0) (place_in_order kind file (0 + n) 0)
    (place_in_order kind file 0 0) (place_in_order kind (file + 1) 0 0) (omega arith) (omega arith) all

rise-files : (m : Image) (kind first count : ℕ) → IsPass kind first count
    → ((file : ℕ) → block_count m.catalogue file ≤ 2 ^ 64)
    → Rise (place_in_order kind 0 0 0) (part_names (parts_of_files m first count)) (place_in_order kind (length m.catalogue.files) 0 0)
unfolding parts_of_files
rise-files m kind first count pass short =
    let n = length m.catalogue.files in
    let same : 0 + n ≡ n = omega arith in
    let all = rise-parts (parts_of_file m first count) (λ f. place_in_order kind f 0 0) 0 n (λ j l h. rise-file m kind first count j pass (short j)) in
    subst (λ (k : ℕ). Rise (place_in_order kind 0 0 0) (part_names (parts_in (parts_of_file m first count) 0 n)) (place_in_order kind k 0 0)) same all

whole_pass : IsPass 0 0 1
whole_pass =
    record {
      few = omega arith;
      kinds = λ j l h. let none : j ≡ 0 = omega arith in ap kind_rank none;
    }

piece_kind : (j : ℕ) → 1 ≤ j → kind_rank j ≡ 1
piece_kind j l =
    let some : (j == 0) ≡ false = grind (arith, nat_tests) in
    rw some refl

piece_pass : IsPass 1 1 most_pieces
piece_pass = record { few = omega arith; kinds = λ j l h. piece_kind j l }

-- all names of a disk rise
pub disk-rises : (m : Image) → ((file : ℕ) → block_count m.catalogue file ≤ 2 ^ 64) → length m.catalogue.files ≤ 2 ^ 32
    → Rise 0 (part_names (disk_parts m)) above_ranks
unfolding disk_parts
disk-rises m short few =
    let wholes = rise-files m 0 0 1 whole_pass short in
    let pieces = rise-files m 1 1 most_pieces piece_pass short in
    let n = length m.catalogue.files in
    let between = rise-wider (part_names (parts_of_files m 0 1)) (place_in_order 0 0 0 0) (place_in_order 0 n 0 0) 0 (place_in_order 1 0 0 0) (omega arith) (omega arith) wholes in
    let last = rise-wider (part_names (parts_of_files m 1 most_pieces)) (place_in_order 1 0 0 0) (place_in_order 1 n 0 0) (place_in_order 1 0 0 0) above_ranks (omega arith) (omega arith) pieces in
    rise-join (parts_of_files m 0 1) (parts_of_files m 1 most_pieces) 0 (place_in_order 1 0 0 0) above_ranks between last
