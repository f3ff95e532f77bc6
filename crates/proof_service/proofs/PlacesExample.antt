-- The facts of the worked run meet the laws of disks, over a catalogue with the one file that is sent.
use Rattle.std.proofs.Common.{◌≡◌, ℕ, suc, ◌+◌, ◌-◌, ◌%◌, ◌<◌, ◌≤◌, refl, sym, ap, subst, ◌∙◌, arith, ⊎_elim, inl, inr}
use Rattle.std.specs.Prelude.{[], ◌∷◌}
use Rattle.std.proofs.lemmas.List.Elements.{All-from_recursion}
use Rattle.tiger_base.specs.declared.part.Span.{Span}
use Rattle.slot_plan.specs.Times.{disk_of}
use Rattle.stripe_layout.specs.Layout.{IsCatalogue, block_span}
use Rattle.stripe_layout.specs.Places.{place_in}
use Rattle.stripe_layout.specs.declared.catalogue.Catalogue.{Catalogue}
use Rattle.stripe_layout.specs.declared.catalogue.FileInfo.{FileInfo}
use Rattle.stripe_layout.proofs.Blocks.{block_count-there, place_of-there}
use Rattle.mirror_pieces.specs.Pieces.{piece_of, piece_start, piece_end, piece_disk}
use Rattle.disk_image.specs.Image.{Image}
use Rattle.proof_schedule.specs.Logs.{Begun}
use Rattle.proof_service.specs.Example.{plan, order, viewer, bytes}
use Rattle.proof_service.specs.ServiceLogs.{Failed, Sends}
use Rattle.proof_service.proofs.Example.{IsSent, is_block}
use Rattle.proof_service.proofs.ExampleLog.{worked, r}
use Rattle.proof_service.proofs.ExamplePieces.{q, serves_in}
use Rattle.proof_service.specs.Disks.{disk_at, IsRead}
use Rattle.proof_service.specs.PlacesExample.{two_blocks, PlacesCanBeMet}
use Rattle.proof_service.specs.Files.{AreOfFiles, IsOfFile}
use Rattle.proof_service.proofs.Places.{whole_there, piece_there}
use Rattle.proof_service.proofs.TrueReads.{own_disk}

-- The file's length is not 0, and the numbers are in range.
sound : IsCatalogue (two_blocks ∷ []) 4 8
sound = record {
  count = omega arith;
  lengths = All-from_recursion (λ (f : FileInfo). 1 ≤ f.len) (two_blocks ∷ []) ((let u : 1 ≤ 8 = omega arith in u), tt);
  block_low = omega arith;
  block_high = omega arith;
  disks_low = omega arith;
  disks_high = omega arith;
}

abbrev c : Catalogue
c = record { files = two_blocks ∷ []; block = 4; disks = 8; sound = sound }

-- The one order is for it.
order_is : IsOfFile c order
order_is = record { info = two_blocks; there = refl; count = sym (block_count-there c 0 two_blocks refl); disk = refl }

files : AreOfFiles plan c r
files = record { disks = refl; orders = λ {ask} {b} h. rw (worked.its (Begun ask b) h).0 order_is }

-- A block of it lies on the disk of its visit.
disk_is : (n : ℕ) → (0 + (n - 0)) % 8 ≡ disk_of plan n
unfolding disk_of
disk_is n = ap (λ v. v % 8) (let u : 0 + (n - 0) ≡ n = omega arith in u)

-- The image of a disk of the ring.
abbrev image : ℕ → Image
image disk = record { library = []; catalogue = c; pieces = 2; disk = disk }

-- So the image of a block's disk has it, and those of the pieces' disks have them.
whole_read : (n : ℕ) → n < 2
    → IsRead plan c viewer n 0 (place_in c viewer.file two_blocks (n - 0)).span
whole_read n below = record {
  image = image (disk_at plan n 0);
  right = record { catalogue = refl; pieces = refl; disk = refl };
  has = whole_there (image (disk_at plan n 0)) viewer.file (n - 0) (place_in c viewer.file two_blocks (n - 0))
      (place_of-there c viewer.file two_blocks (n - 0) refl (omega arith)) (disk_is n ∙ sym (own_disk plan n));
}

piece_read : (n k : ℕ) → n < 2 → suc k ≤ 2
    → IsRead plan c viewer n (suc k) (piece_of (place_in c viewer.file two_blocks (n - 0)).span 2 (suc k))
piece_read n k below few = record {
  image = image (disk_at plan n (suc k));
  right = record { catalogue = refl; pieces = refl; disk = refl };
  has = piece_there (image (disk_at plan n (suc k))) viewer.file (n - 0) (suc k) (place_in c viewer.file two_blocks (n - 0))
      (place_of-there c viewer.file two_blocks (n - 0) refl (omega arith)) (omega arith) few
      (ap (λ v. piece_disk v (suc k) 8) (disk_is n));
}

-- Which bytes they are.
block_0 : (place_in c viewer.file two_blocks 0).span ≡ bytes 0 4
unfolding block_span
block_0 = refl

piece_1 : piece_of (place_in c viewer.file two_blocks 1).span 2 1 ≡ bytes 4 2
unfolding block_span piece_of piece_start piece_end
piece_1 = refl

piece_2 : piece_of (place_in c viewer.file two_blocks 1).span 2 2 ≡ bytes 6 2
unfolding block_span piece_of piece_start piece_end
piece_2 = refl

-- So all that is sent is what the disks' images have.
sends : {k n j y : ℕ} {part : Span} → IsSent k n j y part
    → q.Serves k viewer n j y × IsRead plan c viewer n j part
sends a = ⊎_elim
    (λ e. rw (e.0, e.1, e.2, e.3, e.4) (serves_in (inl (refl, refl, refl, refl)), subst (λ v. IsRead plan c viewer 0 0 v) block_0 (whole_read 0 (omega arith))))
    (λ o. ⊎_elim
    (λ e. rw (e.0, e.1, e.2, e.3, e.4) (serves_in (inr (inl (refl, refl, refl, refl))), subst (λ v. IsRead plan c viewer 1 1 v) piece_1 (piece_read 1 0 (omega arith) (omega arith))))
    (λ e. rw (e.0, e.1, e.2, e.3, e.4) (serves_in (inr (inr (refl, refl, refl, refl))), subst (λ v. IsRead plan c viewer 1 2 v) piece_2 (piece_read 1 1 (omega arith) (omega arith))))
    o)
    a

-- So the laws of disks can be met.
pub laws_met : PlacesCanBeMet
laws_met = record {
  catalogue = c;
  files = refl;
  laws = record {
    files = files;
    failed = λ {k} {t} {n} {j} {y} h. absurd (is_block (Failed k t n j y) h);
    refused = λ {k} {t} {n} {j} {y} h. absurd (is_block (Failed k t n j y) h);
    sends = λ {k} {t} {n} {j} {y} {part} h. let a = is_block (Sends k t n j y part) h in rw a.0 (sends a.1);
  };
}
