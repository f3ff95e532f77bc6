-- Each block of what is put lies on the disk of its visit, and its pieces on the disks after that.
use Rattle.std.proofs.Common.{◌≡◌, ℕ, ◌+◌, ◌-◌, ◌%◌, ◌<◌, ◌≤◌, sym, ap, subst, ◌∙◌, arith}
use Rattle.std.specs.Prelude.{Some, slice_get}
use Rattle.std.specs.Int.{div_ceil}
use Rattle.std.proofs.lemmas.Bool.Decides.{nat_tests}
use Rattle.std.proofs.Math.Nat.{mod-add-mod}
use Rattle.tiger_base.specs.declared.number.FileNo.{FileNo}
use Rattle.tiger_base.specs.declared.tenancy.Tenancy.{Tenancy}
use Rattle.slot_plan.specs.declared.params.Params.{Params}
use Rattle.slot_plan.specs.Conditions.{IsPlan}
use Rattle.slot_plan.specs.Times.{disk_of, disk_count}
use Rattle.stripe_layout.specs.declared.catalogue.Catalogue.{Catalogue}
use Rattle.stripe_layout.specs.declared.place.Place.{Place}
use Rattle.stripe_layout.specs.Places.{place_of, place_in}
use Rattle.stripe_layout.proofs.Blocks.{block_count-there, place_of-there}
use Rattle.mirror_pieces.specs.Pieces.{piece_of, piece_disk}
use Rattle.disk_image.specs.Image.{Image, block_part, piece_part}
use Rattle.proof_schedule.specs.Facts.{Facts}
use Rattle.proof_schedule.specs.Laws.{Laws}
use Rattle.proof_schedule.proofs.Room.{room_of}
use Rattle.proof_schedule.proofs.Starts.{ordered}
use Rattle.proof_service.specs.Files.{AreOfFiles, IsStoredAt, AreStored}

-- The disk of a visit is as many disks after the first visit's as the block's number.
disk_after : (p : Params) (first n : ℕ) → first ≤ n
    → (disk_of p first + (n - first)) % disk_count p ≡ disk_of p n
unfolding disk_of
disk_after p first n low =
    let sum : first + (n - first) ≡ n = omega arith in
    mod-add-mod first (disk_count p) (n - first) ∙ ap (λ m. m % disk_count p) sum

-- The image of a block's disk has it.
pub whole_there : (m : Image) (file : FileNo) (block : ℕ) (at : Place)
    → place_of m.catalogue file block ≡ Some at → at.disk.0 ≡ m.disk
    → block_part m file block ≡ Some (record { library = m.library; span = at.span })
unfolding block_part
whole_there m file block at e h = rw e (grind (arith, nat_tests))

-- The image of a piece's disk has it.
pub piece_there : (m : Image) (file : FileNo) (block j : ℕ) (at : Place)
    → place_of m.catalogue file block ≡ Some at → 1 ≤ j → j ≤ m.pieces
    → piece_disk at.disk.0 j m.catalogue.disks ≡ m.disk
    → piece_part m file block j ≡ Some (record { library = m.library; span = piece_of at.span m.pieces j })
unfolding piece_part
piece_there m file block j at e some few h = rw e (grind (arith, nat_tests))

-- If a block lies on its visit's disk, the images have it and its pieces.
stored_if : (p : Params) (c : Catalogue) (t : Tenancy) (n : ℕ) (at : Place) → c.disks ≡ disk_count p
    → place_of c t.file (n - t.first) ≡ Some at → at.disk.0 ≡ disk_of p n
    → IsStoredAt p c t n
stored_if p c t n at disks place disk = record {
  block = at;
  place = place;
  disk = disk;
  whole = λ m same here. whole_there m t.file (n - t.first) at (subst (λ v. place_of v t.file (n - t.first) ≡ Some at) (sym same) place) (disk ∙ sym here);
  piece = λ m j same pieces some few here.
      let h : piece_disk at.disk.0 j m.catalogue.disks ≡ m.disk = ap (λ v. piece_disk v j m.catalogue.disks) disk ∙ ap (λ v. piece_disk (disk_of p n) j v) (ap (λ (v : Catalogue). v.disks) same ∙ disks) ∙ sym here in
      subst
      (λ v. piece_part m t.file (n - t.first) j ≡ Some (record { library = m.library; span = piece_of at.span v j }))
      pieces
      (piece_there m t.file (n - t.first) j at (subst (λ v. place_of v t.file (n - t.first) ≡ Some at) (sym same) place) some (omega arith) h);
}

module _ (p : Params) (c : Catalogue) (r : Facts) (ok : IsPlan p) (law : Laws p r) (files : AreOfFiles p c r) where
  -- What is put was ordered, and an order is for a file from the disk of its first block on.
  pub stored : AreStored p c r
  stored k x n t i low high =
      let o = ordered p ok (room_of p ok) r law i in
      let f = files.orders o.begun in
      let asked = o.asked in
      let there : slice_get c.files t.file.0 ≡ Some f.info = subst (λ (v : FileNo). slice_get c.files v.0 ≡ Some f.info) asked.file f.there in
      let blocks : o.ask.count ≡ div_ceil f.info.len c.block = f.count ∙ block_count-there c o.ask.file.0 f.info f.there in
      let count = asked.count in
      let below : n - t.first < div_ceil f.info.len c.block = omega arith in
      let at : Place = place_in c t.file f.info (n - t.first) in
      let first : f.info.disk.0 ≡ disk_of p t.first = sym (ap (λ v. v.0) f.disk) ∙ asked.disk in
      let disk : at.disk.0 ≡ disk_of p n = ap (λ v. (v + (n - t.first)) % c.disks) first ∙ ap (λ v. (disk_of p t.first + (n - t.first)) % v) files.disks ∙ disk_after p t.first n low in
      stored_if p c t n at files.disks (place_of-there c t.file f.info (n - t.first) there below) disk
