-- A read fails only in a read fault of its disk, and what is sent is what was asked for.
use Rattle.std.proofs.Common.{◌≡◌, ℕ, zero, suc, ◌+◌, ◌%◌, ◌≤◌, ap, ◌∙◌, arith, ⊎_elim}
use Rattle.std.specs.Prelude.{Some}
use Rattle.std.proofs.Math.Nat.{mod-mod}
use Rattle.tiger_base.specs.declared.part.Span.{Span}
use Rattle.tiger_base.specs.Span.{LibraryPart}
use Rattle.tiger_base.specs.declared.tenancy.Tenancy.{Tenancy}
use Rattle.slot_plan.specs.declared.params.Params.{Params}
use Rattle.slot_plan.specs.Conditions.{IsPlan}
use Rattle.slot_plan.specs.Times.{disk_of, disk_count}
use Rattle.stripe_layout.specs.declared.catalogue.Catalogue.{Catalogue}
use Rattle.mirror_pieces.specs.Pieces.{piece_disk}
use Rattle.disk_image.specs.Image.{Image}
use Rattle.proof_schedule.specs.Facts.{Facts}
use Rattle.proof_schedule.specs.Laws.{Laws}
use Rattle.proof_schedule.specs.Schedule.{IsHeld}
use Rattle.proof_schedule.proofs.Induction.{setting}
use Rattle.proof_pieces.specs.PieceFacts.{PieceFacts}
use Rattle.proof_pieces.specs.PieceLaws.{PieceLaws}
use Rattle.proof_pieces.proofs.Entries.{arises_held}
use Rattle.proof_service.specs.ServiceFacts.{ServiceFacts}
use Rattle.proof_service.specs.Disks.{disk_at, part_at, span_at, IsImageFor, DiskLaws, IsTrueFault, IsRightPart, AreReadsTrue}
use Rattle.proof_service.specs.Files.{IsStoredAt}
use Rattle.proof_service.proofs.Places.{stored}

-- The whole block's disk is the visit's.
pub own_disk : (p : Params) (n : ℕ) → disk_at p n 0 ≡ disk_of p n
unfolding piece_disk disk_of
own_disk p n =
    let none : n % disk_count p + 0 ≡ n % disk_count p = omega arith in
    ap (λ v. v % disk_count p) none ∙ mod-mod n (disk_count p)

-- The image of the disk that is asked for a piece has it.
part_there : (p : Params) (c : Catalogue) (t : Tenancy) (n j : ℕ) (m : Image) (s : IsStoredAt p c t n)
    → IsImageFor p c m n j → j ≤ p.pieces
    → part_at m t n j ≡ Some (record { library = m.library; span = span_at p s.block.span j })
part_there p c t n zero m s k few = s.whole m k.catalogue (k.disk ∙ own_disk p n)
part_there p c t n (suc j) m s k few = s.piece m (suc j) k.catalogue k.pieces (omega arith) few k.disk

module _ (p : Params) (c : Catalogue) (r : Facts) (q : PieceFacts) (w : ServiceFacts) (ok : IsPlan p)
    (law : Laws p r) (pieces : PieceLaws p r q) (disks : DiskLaws p c r q w) where
  -- The block of a visit of what was put is stored.
  stored_at : {n b : ℕ} {t : Tenancy} → IsHeld r t n b → IsStoredAt p c t n
  stored_at {n} {b} {t} h = stored p c r ok law disks.files h.cub h.beat n t h.put h.low h.high

  -- So a read fails only in a read fault.
  fault : {k n j y : ℕ} {t : Tenancy} → w.Failed k t n j y → IsTrueFault p c w k t n j y
  fault {k} {n} {j} {y} {t} f =
      let o = disks.failed f in
      let there = stored_at (arises_held p r (setting p r ok law) q pieces o.arises.arises) in
      let u = disks.refused f in
      record {
        here = o.here;
        stored = there;
        beat = u.beat;
        before = u.before;
        struck = ⊎_elim
            (λ h. h)
            (λ h. let some = part_there p c t n j h.0 there h.1 o.few in absurd (cc (some, h.2)))
            u.why;
      }

  -- And what is sent is the block, or the piece of it.
  part : {k n j y : ℕ} {t : Tenancy} {span : Span} → w.Sends k t n j y span
      → IsRightPart p c t n j span
  part {k} {n} {j} {y} {t} {span} f =
      let o = disks.sends f in
      let at = pieces.serves o.0 in
      let there = stored_at (arises_held p r (setting p r ok law) q pieces at.arises) in
      let some = part_there p c t n j o.1.image there o.1.right at.few in
      let same : record { library = o.1.image.library; span = span } ≡ record { library = o.1.image.library; span = span_at p there.block.span j } = cc (some, o.1.has) in
      record { stored = there; right = ap (λ (v : LibraryPart). v.span) same }

  -- So reads are true.
  pub true_reads : AreReadsTrue p c w
  true_reads = record { faults = λ k n j y t f. fault f; parts = λ k n j y t span f. part f }
