-- One part that was stored, or none.
use Rattle.std.proofs.Common.{◌≡◌, ℕ, ◌^◌, ◌≤◌, List, [], ◌∷◌, length, take, drop, All, Option, Some, None, Result, Ok, Err, OnOk, IfErr, unwrap_or, ap, sym, ◌∙◌, subst, arith}
use Rattle.tiger_base.specs.Span.{LibraryPart, IsCut}
use Rattle.stripe_layout.specs.declared.catalogue.FileInfo.{FileInfo}
use Rattle.disk_image.specs.Image.{Image}
use Rattle.file_disk.specs.Extents.{NamedPart, all_bytes, placed, Rise, above_ranks, IsDirectory}
use Rattle.file_disk.specs.Parts.{part_bytes, image_part, named, part_here, disk_parts}
use Rattle.file_disk.specs.declared.directory.PartName.{PartName}
use Rattle.file_disk.specs.declared.putting.StoreFault.{StoreFault}
use Rattle.file_disk.proofs.Finding.{ends-placed, total-placed}
use Rattle.file_disk.proofs.Order.{names-placed, disk-rises}
use Rattle.file_disk.proofs.Sizes.{AreFew, AreFew-blocks, disk-fits}

-- the bytes that are lent of a part
pub cut-bytes : (p : LibraryPart) (bytes : List ℕ) → IsCut p.library p.span bytes → bytes ≡ part_bytes p
cut-bytes p bytes cut =
    cut.cut ∙ ap (λ (o : Option (List ℕ)). take p.span.len (drop p.span.from (unwrap_or o []))) (sym cut.there)

pub here-part : (m : Image) (name : PartName) (p : LibraryPart) (bytes : List ℕ) → image_part m name ≡ Some p → IsCut p.library p.span bytes
    → (record { name = name; bytes = bytes }) ∷ [] ≡ part_here m name
unfolding part_here
here-part m name p bytes e cut =
    let one : List ℕ → List NamedPart = λ bs. (record { name = name; bytes = bs }) ∷ [] in
    ap one (cut-bytes p bytes cut) ∙ ap (named name) (sym e)

pub here-none : (m : Image) (name : PartName) → image_part m name ≡ None → [] ≡ part_here m name
unfolding part_here
here-none m name e = ap (named name) (sym e)

-- what a last call says is said of the whole
pub last-stored : (r : Result (Unit {0}) StoreFault) (P Q : Type 0) → (P → Q) → OnOk r P → OnOk r Q
last-stored (Ok x) P Q f h = f h
last-stored (Err e) P Q f h = tt

pub last-cause : (r : Result (Unit {0}) StoreFault) (P Q : StoreFault → Type 0) → ((fault : StoreFault) → P fault → Q fault) → IfErr r P → IfErr r Q
last-cause (Ok x) P Q f h = tt
last-cause (Err e) P Q f h = f e h

-- what is kept of all parts of a disk is a directory
pub disk-directory : (m : Image) (at n : ℕ) → at ≤ 2 ^ 61 → All (λ (info : FileInfo). info.len ≤ 2 ^ 24) m.catalogue.files
    → n ≡ length (all_bytes (disk_parts m)) → IsDirectory (placed at (disk_parts m)) n
disk-directory m at n low lengths e =
    let few : (file : ℕ) → AreFew m.catalogue file = λ file. AreFew-blocks m.catalogue file lengths in
    let rises = disk-rises m (λ file. (few file).blocks) (omega (arith, m.catalogue.sound.count)) in
    record {
      order = subst (λ (ns : List PartName). Rise 0 ns above_ranks) (sym (names-placed at (disk_parts m))) rises;
      ends = ends-placed at (disk_parts m) (disk-fits m at low lengths);
      sum = e ∙ sym (total-placed at (disk_parts m));
    }
