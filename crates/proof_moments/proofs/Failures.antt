-- A read that is reported to have failed met a fault of the disk that has what was asked for.
use Rattle.std.proofs.Common.{◌≡◌, ℕ, zero, suc, ◌+◌, ◌<◌, ◌≤◌, List, ◌∷◌, ◌++◌, None, refl, sym, ap, subst, ◌∙◌, arith, ⊎_elim}
use Rattle.tiger_base.specs.declared.tenancy.Tenancy.{Tenancy}
use Rattle.tiger_base.specs.declared.tenancy.Want.{Want}
use Rattle.tiger_base.specs.declared.message.Note.TheVariants as note
use Rattle.slot_plan.specs.declared.params.Params.{Params}
use Rattle.slot_plan.specs.Conditions.{IsInRange}
use Rattle.slot_plan.specs.Times.{disk_of, disk_count}
use Rattle.slot_plan.proofs.Times.{disk_below}
use Rattle.stripe_layout.specs.declared.catalogue.Catalogue.{Catalogue}
use Rattle.mirror_pieces.specs.Pieces.{piece_disk}
use Rattle.disk_image.specs.Image.{Image}
use Rattle.node_kit.specs.declared.journal.What.{What}
use Rattle.node_kit.specs.declared.journal.What.TheVariants as what
use Rattle.run_facts.specs.Order.{Noted, beat_of, journal_of, order_of}
use Rattle.run_model.specs.Moments.{moment_at}
use Rattle.run_model.proofs.Moments.{each_is_each_entry}
use Rattle.run_claims.specs.Truths.{GetsAsk, FailsIn, IsTrueFailure, FailuresAreTrue}
use Rattle.proof_schedule.specs.Facts.{Facts}
use Rattle.proof_pieces.specs.PieceFacts.{PieceFacts}
use Rattle.proof_service.specs.ServiceFacts.{ServiceFacts}
use Rattle.proof_service.specs.Disks.{disk_at, part_at, IsImageFor}
use Rattle.proof_service.specs.Files.{IsStoredAt}
use Rattle.proof_service.proofs.TrueReads.{own_disk}
use Rattle.lists.specs.Elements.{In}
use Rattle.proof_moments.proofs.Lists.{any_with}
use Rattle.proof_moments.proofs.Orders.{noted_at}
use Rattle.proof_moments.proofs.Bridge as bridge
use Rattle.proof_moments.proofs.Free as free
use Rattle.proof_moments.specs.RecordedParcels.{Evidence, AreParcelsRecordedBut}

-- the disk of a piece is one of the plan's
disk_inside : (p : Params) (n j : ℕ) → IsInRange p → disk_at p n j < disk_count p
unfolding piece_disk disk_of
disk_inside p n j range = disk_below p (disk_of p n + j) range

-- the image of a disk has its part of what is stored
has_part : (p : Params) (c : Catalogue) (t : Tenancy) (n j : ℕ) (m : Image) → IsStoredAt p c t n → j ≤ p.pieces
    → IsImageFor p c m n j → part_at m t n j ≡ None → ⊥
has_part p c t n zero m s few i none =
    let there = s.whole m i.catalogue (i.disk ∙ own_disk p n) in
    let both = sym there ∙ none in
    absurd (cc)
has_part p c t n (suc k) m s few i none =
    let there = s.piece m (suc k) i.catalogue i.pieces (omega arith) few i.disk in
    let both = sym there ∙ none in
    absurd (cc)

module _ (p : Params) (a : Evidence) (r : Facts) (q : PieceFacts) (w : ServiceFacts) (end : ℕ)
    {Excused : Tenancy → ℕ → Type 0}
    (g : AreParcelsRecordedBut p a r q w end Excused) (beats : ℕ)
    (front : List Noted) (x : Noted) (back : List Noted) (is_log : front ++ x ∷ back ≡ order_of beats a.journals) where
  true_failure : (v : What) → x.entry.what ≡ v → IsTrueFailure p a.faults (moment_at front) v
  unfolding moment_at
  true_failure (what.ReadFailed want) is =
      let here : In x (order_of beats a.journals) = free.here p r a.orders a.journals g.schedule beats front x back
      is_log in
      let k = g.ties.tells.failed x.node x.entry want (bridge.stands p r a.orders a.journals g.schedule beats x
      here) is in
      let t = k.tenancy in
      let f = g.ties.disks.refused x.node want.visit want.piece (beat_of x) t k.failed in
      let fault = g.reads.faults x.node want.visit want.piece (beat_of x) t k.failed in
      let d : ℕ = disk_at p want.visit want.piece in
      let struck : w.Struck d f.entry.stamp.beat = ⊎_elim
      (λ s. s)
      (λ s. absurd (has_part p a.catalogue t want.visit want.piece s.0 fault.stored f.few s.1 s.2))
      f.why in
      let lasts = g.ties.disks.struck d f.entry.stamp.beat
      (disk_inside p want.visit want.piece g.schedule.plan.ranges) struck in
      let before = f.before in
      let high = bridge.below p r a.orders a.journals g.schedule beats x here in
      let there : In (noted_at (p.cubs + d) f.entry) front =
      free.lower p r a.orders a.journals g.schedule beats front x back is_log (noted_at (p.cubs + d) f.entry)
      (bridge.noted p r a.orders a.journals g.schedule beats (p.cubs + d) f.entry f.stands (omega arith))
      (omega arith) in
      let asked : f.entry.what ≡ what.Got f.link (note.ReadAsk want) = f.got
      ∙ ap (λ (z : Want). what.Got f.link (note.ReadAsk z)) (sym k.wanted) in
      let gets : GetsAsk want f.entry.what = subst (λ (v : What). GetsAsk want v) (sym asked) refl in
      any_with (FailsIn a.faults d want) (journal_of (p.cubs + d) front) f.entry
      (bridge.in_journal (p.cubs + d) front (noted_at (p.cubs + d) f.entry) there refl) (gets, lasts)
  true_failure other is = tt

pub failures_are_true : (p : Params) (a : Evidence) (r : Facts) (q : PieceFacts) (w : ServiceFacts) (end : ℕ)
    {Excused : Tenancy → ℕ → Type 0} → AreParcelsRecordedBut p a r q w end Excused → (beats : ℕ)
    → FailuresAreTrue p a.faults (order_of beats a.journals)
failures_are_true p a r q w end g beats = (each_is_each_entry (λ m x. IsTrueFailure p a.faults m x.entry.what)
    (order_of beats a.journals)).1
    (λ front x back is_log. true_failure p a r q w end g beats front x back is_log x.entry.what refl)
