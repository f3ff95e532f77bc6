use Rattle.std.proofs.Common.{◌≡◌, ◌-◌, ◌^◌, ◌≤◌, ◌++◌, List, length, sym, ap, ◌∙◌, subst, arith, All}
use Rattle.std.specs.List.{AllByRecursion}
use Rattle.stripe_layout.specs.declared.catalogue.Catalogue.{Catalogue}
use Rattle.stripe_layout.specs.declared.catalogue.FileInfo.{FileInfo}
use Rattle.file_disk.specs.Extents.{placed, all_bytes, IsDirectory}
use Rattle.file_disk.specs.Fetching.{IsOfImage}
use Rattle.file_disk.specs.Parts.{disk_parts}
use Rattle.file_disk.specs.declared.directory.Extent.{Extent}
use Rattle.file_disk.proofs.Sizes.{disk-fits}
use Rattle.file_disk.proofs.Imaged.{all-of-image}
use Rattle.file_disk.proofs.Single.{disk-directory}
use Rattle.file_disk.proofs.putting.store.Goals as goal

pub store_all-requires-clause-end : goal.store_all-requires-clause-end
store_all-requires-clause-end g c =
    let lengths = subst (λ (k : Catalogue). All (λ (info : FileInfo). info.len ≤ 2 ^ 24) k.files) (sym c.requires.catalogue) c.requires.lengths in
    disk-fits c.args.image.now c.args.at c.requires.place lengths

pub of-requires : goal.of-requires
of-requires g c =
    let m = c.args.image.now in
    let at = c.args.at in
    let n = c.store_all.new.draft.next - at in
    let stored = c.in_ok-store_all.ensures.stored in
    let lengths = subst (λ (k : Catalogue). All (λ (info : FileInfo). info.len ≤ 2 ^ 24) k.files) (sym c.requires.catalogue) c.requires.lengths in
    let all : c.store_all.new.draft.extents.items ≡ placed at (disk_parts m) =
    stored.extents ∙ ap (λ (es : List Extent). es ++ placed at (disk_parts m)) c.new.ensures.items in
    let sum : n ≡ length (all_bytes (disk_parts m)) = omega (arith, stored.next) in
    subst (λ (es : List Extent). IsDirectory es n) (sym all) (disk-directory m at n c.requires.place lengths sum)

pub returns-clause-of_image : goal.returns-clause-of_image
returns-clause-of_image g c =
    let m = c.args.image.now in
    let at = c.args.at in
    let all = c.of.ensures ∙ (c.in_ok-store_all.ensures.stored.extents ∙ ap (λ (es : List Extent). es ++ placed at (disk_parts m)) c.new.ensures.items) in
    subst (λ (es : List Extent). AllByRecursion (IsOfImage m) es) (sym all) (all-of-image m at)
