-- What is kept of a stored image is of the image's own bytes.
use Rattle.std.proofs.Common.{◌≡◌, ℕ, ◌+◌, List, [], ◌∷◌, ◌++◌, length, Option, Some, None, refl, ap, sym, ◌∙◌}
use Rattle.std.specs.List.{flat_map, range_with_len, AllByRecursion}
use Rattle.sha2.specs.Sha256.{sha256}
use Rattle.tiger_base.specs.Span.{LibraryPart, IsCut}
use Rattle.stripe_layout.specs.Places.{block_count}
use Rattle.disk_image.specs.Image.{Image}
use Rattle.file_disk.specs.Extents.{NamedPart, placed}
use Rattle.file_disk.specs.Fetching.{HasKept, IsOfImage}
use Rattle.file_disk.specs.Parts.{part_bytes, image_part, named, part_here, part_name, parts_of_block, parts_of_file, parts_of_files, disk_parts, most_pieces}
use Rattle.file_disk.specs.declared.directory.Extent.{Extent}
use Rattle.file_disk.specs.declared.directory.PartName.{PartName}
use Rattle.file_disk.proofs.Single.{cut-bytes}

-- the bytes of a part are the image's own, if the image has it
abbrev HasOwn : Image → NamedPart → Type 0
HasOwn m n = (p : LibraryPart) → image_part m n.name ≡ Some p → part_bytes p ≡ n.bytes

all-join : (P : NamedPart → Type 0) (xs ys : List NamedPart) → AllByRecursion P xs → AllByRecursion P ys → AllByRecursion P (xs ++ ys)
all-join P [] ys a b = b
all-join P (x ∷ xs) ys a b = (a.0, all-join P xs ys a.1 b)

all-flat : (P : NamedPart → Type 0) (f : ℕ → List NamedPart) (xs : List ℕ) → ((x : ℕ) → AllByRecursion P (f x)) → AllByRecursion P (flat_map f xs)
all-flat P f [] h = tt
all-flat P f (x ∷ xs) h = all-join P (f x) (flat_map f xs) (h x) (all-flat P f xs h)

one-part : (p q : LibraryPart) → Some p ≡ Some q → q ≡ p
one-part p q e = cc

own-named : (m : Image) (name : PartName) (o : Option LibraryPart) → image_part m name ≡ o → AllByRecursion (HasOwn m) (named name o)
own-named m name None e = tt
own-named m name (Some p) e = (λ q f. ap part_bytes (one-part p q (sym e ∙ f)), tt)

own-here : (m : Image) (name : PartName) → AllByRecursion (HasOwn m) (part_here m name)
unfolding part_here
own-here m name = own-named m name (image_part m name) refl

own-files : (m : Image) (first count : ℕ) → AllByRecursion (HasOwn m) (parts_of_files m first count)
unfolding parts_of_files parts_of_file parts_of_block
own-files m first count =
    all-flat (HasOwn m) (parts_of_file m first count) (range_with_len 0 (length m.catalogue.files))
    (λ file. all-flat (HasOwn m) (parts_of_block m first count file) (range_with_len 0 (block_count m.catalogue file))
    (λ block. all-flat (HasOwn m) (λ piece. part_here m (part_name file block piece)) (range_with_len first count)
    (λ piece. own-here m (part_name file block piece))))

own-disk : (m : Image) → AllByRecursion (HasOwn m) (disk_parts m)
unfolding disk_parts
own-disk m = all-join (HasOwn m) (parts_of_files m 0 1) (parts_of_files m 1 most_pieces) (own-files m 0 1) (own-files m 1 most_pieces)

own-placed : (m : Image) (at : ℕ) (ns : List NamedPart) → AllByRecursion (HasOwn m) ns → AllByRecursion (IsOfImage m) (placed at ns)
own-placed m at [] own = tt
own-placed m at (n ∷ ns) own = (
  λ p e. record { len = ap length (own.0 p e); digest = ap sha256 (own.0 p e) },
  own-placed m (at + length n.bytes) ns own.1,
)

pub all-of-image : (m : Image) (at : ℕ) → AllByRecursion (IsOfImage m) (placed at (disk_parts m))
all-of-image m at = own-placed m at (disk_parts m) (own-disk m)

-- bytes that are the library's of a part have what is kept of it
pub has-digest : (m : Image) (e : Extent) (p : LibraryPart) (given bytes : List ℕ) → IsOfImage m e → image_part m e.name ≡ Some p
    → IsCut p.library p.span given → bytes ≡ given → sha256 bytes ≡ e.digest.0
has-digest m e p given bytes own there cut same =
    ap sha256 (same ∙ cut-bytes p given cut) ∙ (own p there).digest
