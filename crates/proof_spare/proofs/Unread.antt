-- No block is served that was read of a disk behind its death: the read of a visit that its cub split itself is asked behind the
-- split, and so fails.
use Rattle.std.proofs.Common.{◌≡◌, ℕ, ◌+◌, ◌/◌, ◌<◌, ◌≤◌, Bool, true, get_or, List, Option, Some, None, refl, sym, ap, subst, ◌∙◌, arith, ⊎_elim}
use Rattle.std.specs.Prelude.{◌⊎◌, if◌then◌else◌}
use Rattle.std.proofs.lemmas.Bool.{cases_lt, leb-true}
use Rattle.tiger_base.specs.Span.{LibraryPart}
use Rattle.tiger_base.specs.declared.tenancy.Rec.{Rec}
use Rattle.tiger_base.specs.declared.tenancy.Tenancy.{Tenancy}
use Rattle.tiger_base.specs.declared.tenancy.Want.{Want}
use Rattle.tiger_base.specs.declared.message.Msg.{Msg}
use Rattle.slot_plan.specs.declared.params.Params.{Params}
use Rattle.slot_plan.specs.Conditions.{IsPlan}
use Rattle.slot_plan.specs.Times.{cub_of, disk_count, disk_of, due}
use Rattle.node_kit.specs.Steps.{Input, stamp_of}
use Rattle.disk_core.specs.State.{DiskState}
use Rattle.disk_core.specs.Rules.{is_faulty, part_for, read_part}
use Rattle.disk_death.specs.Spares.{is_dead_from, is_on_dead}
use Rattle.run_facts.specs.Events.{is_tick_input}
use Rattle.proof_service.specs.Disks.{disk_at as disk_of_piece}
use Rattle.proof_lives.specs.Facts.{TickAt}
use Rattle.proof_lives.specs.HoldsHere.{AreAllFormed}
use Rattle.proof_lives.specs.Lives.{AreLives, Lives, beat_at, cut_in, reading_at}
use Rattle.proof_lives.proofs.Order.{not_behind}
use Rattle.proof_facts.specs.Pieces.{AsksAt, SendsPart, want, stamp_of as made_of}
use Rattle.proof_facts.specs.Rings.{IsDiskOf}
use Rattle.proof_facts.specs.Pieces.{before_reading}
use Rattle.proof_ring.proofs.Below.{AreCubs, WasRead, asking_kept, own_here, read_parts, store_of, whole_disk}
use Rattle.proof_spare.proofs.Beside.{is_split, must_parts, x}

-- What a disk gives in a read fault is nothing.
none_read : (s : DiskState) (b : ℕ) (w : Want) → is_faulty s.faults s.disk b ≡ true → read_part s b w ≡ None
unfolding read_part
none_read s b w struck = subst (λ (k : Bool). (if k then None else part_for s.image w) ≡ None) (sym struck) refl

-- One that is dead in a beat is dead from some beat on.
dead_since : (o : Option ℕ) (b : ℕ) → is_dead_from o b ≡ true → (from : ℕ) × (o ≡ Some from) × (from ≤ b)
dead_since None b e = absurd (cc)
dead_since (Some from) b e = (from, refl, leb-true from b e)

module _ (p : Params) (plan : IsPlan p) (lives : Lives) (lived : AreLives p lives) (formed : AreAllFormed p lives)
    (whole : (c i : ℕ) → c < p.cubs → i < lives.count c → cut_in lives c i ≡ None) (deaths : ℕ → List (Option ℕ)) where
  -- What is read for a visit that its cub split is asked for behind the split.
  asked_late : {c d n y b : ℕ} {t u : Tenancy} → (w : (x p plan lives lived formed whole deaths).Spared c t n y)
      → AsksAt p lives d u n 0 b → u.slot.0 ≡ t.slot.0 → (c ≡ cub_of p n) → y ≤ b
  asked_late {c} {d} {n} {y} {b} {t} {u} w asks slot here = ⊎_elim
      (λ k.
      let m = is_split p plan lives lived formed whole deaths w in
      let cubs : AreCubs p lives = record { plan = plan; lived = lived; formed = formed } in
      let must = must_parts p (deaths c) m.stamp m.split.line m.split.must in
      let line = k.1 in
      let parts = read_parts p (made_of b asks.reading) line k.3 in
      let soon = parts.2 in
      let split_soon = must.soon in
      let of_ask : due p line.rec.tenancy.slot.0 line.rec.visit ≡ due p t.slot.0 n =
      ap (λ (z : Rec). due p z.tenancy.slot.0 z.visit) k.2.1 ∙ ap (λ (s : ℕ). due p s n) slot in
      let of_split : due p m.split.line.rec.tenancy.slot.0 m.split.line.rec.visit ≡ due p t.slot.0 n =
      ap (λ (z : Rec). due p z.tenancy.slot.0 z.visit) m.split.is
      ∙ ap (λ (v : Tenancy). due p v.slot.0 m.record_of.visit) m.tenancy ∙ ap (λ (v : ℕ). due p t.slot.0 v) m.visit in
      let there : d ≡ cub_of p (n + 0) =
      own_here p lives cubs d asks.tick.small u n line (before_reading p d (made_of b asks.reading) (store_of p lives d asks.tick.at))
      (asking_kept p lives cubs d asks.tick.small asks.tick.at (made_of b asks.reading) asks.tick.done asks.tick.is) k.2.0 k.2.1 in
      let same : d ≡ c = there ∙ ap (cub_of p) (let e : n + 0 ≡ n = omega arith in e) ∙ sym here in
      order c y b w.at m.stamp.reading asks.reading w.small w.done w.in_beat
      (ap (λ (q : Input Msg). (stamp_of q).reading) m.is) (ap is_tick_input m.is)
      (subst (λ (a : ℕ). TickAt p lives a b asks.reading) same asks.tick) (omega arith))
      (λ k. let some = k.0 in absurd (omega arith))
      asks.asks
    where
      -- a tick at a greater reading is in the same beat or a later one
      order : (c y b i l m : ℕ) → c < p.cubs → i < lives.count c → beat_at (lives.input c) i ≡ y
          → reading_at (lives.input c) i ≡ l → is_tick_input (lives.input c i) ≡ true → TickAt p lives c b m → l < m → y ≤ b
      order c y b i l m small low in_beat reading tick at less =
          let jb : beat_at (lives.input c) at.at ≡ b = ap (λ (q : Input Msg). (stamp_of q).beat) at.is in
          let jl : reading_at (lives.input c) at.at ≡ m = ap (λ (q : Input Msg). (stamp_of q).reading) at.is in
          ⊎_elim
          (λ (early : b < y).
          let first = not_behind p (lives.count c) (lives.input c) (lived c small) at.at i low at.done tick (omega arith) in
          let rise = (lived c small).rising at.at i first low in
          absurd (omega arith))
          (λ (late : y ≤ b). late)
          (cases_lt b y)

  module _ (disk_at : ℕ → DiskState) (death : ℕ → Option ℕ) (until : ℕ)
      (known : (n : ℕ) → get_or (deaths (cub_of p n)) (disk_of p n / p.cubs) None ≡ death (disk_of p n))
      (fails : (d from b : ℕ) → d < disk_count p → death d ≡ Some from → from ≤ b → b < until
      → is_faulty (disk_at d).faults d b ≡ true)
      (are : (d : ℕ) → d < disk_count p → IsDiskOf p d (disk_at d))
      (reads : (c n b : ℕ) (t : Tenancy) (part : LibraryPart) → SendsPart p lives c t n 0 b part
      → WasRead p lives disk_at c t n 0 (Some part) b)
      (early : (c b l : ℕ) → TickAt p lives c b l → b < until) where
    -- A block of a visit that its cub split is not served.
    pub unread : {c d n y b : ℕ} {t : Tenancy} {part : LibraryPart} → (x p plan lives lived formed whole deaths).Spared c t n y
        → c ≡ cub_of p n → SendsPart p lives d t n 0 b part → ⊥
    unread {c} {d} {n} {y} {b} {t} {part} w here s =
        let m = is_split p plan lives lived formed whole deaths w in
        let must = must_parts p (deaths c) m.stamp m.split.line m.split.must in
        let read = reads d n b t part s in
        let late = asked_late w read.asks read.slot here in
        let after = read.after in
        let before = read.before in
        let low = early d b s.reading s.tick in
        let visit : m.split.line.rec.visit ≡ n = ap (λ (z : Rec). z.visit) m.split.is ∙ m.visit in
        let dead : is_dead_from (get_or (deaths c) (disk_of p n / p.cubs) None) m.stamp.beat ≡ true =
        subst (λ (v : ℕ). is_on_dead p (deaths c) v m.stamp.beat ≡ true) visit must.dead in
        let since = dead_since (get_or (deaths c) (disk_of p n / p.cubs) None) m.stamp.beat dead in
        let from_on = since.2 in
        let stamp : beat_at (lives.input c) w.at ≡ m.stamp.beat = ap (λ (q : Input Msg). (stamp_of q).beat) m.is in
        let yb = w.in_beat in
        let dies : death (disk_of p n) ≡ Some since.0 =
        sym (known n) ∙ ap (λ (a : ℕ). get_or (deaths a) (disk_of p n / p.cubs) None) (sym here) ∙ since.1 in
        let k : ℕ = disk_of_piece p n 0 in
        let one : k ≡ disk_of p n = whole_disk p plan n in
        let inside : k < disk_count p = read.inside in
        let struck : is_faulty (disk_at k).faults k read.taken ≡ true =
        fails k since.0 read.taken inside (ap death one ∙ dies) (omega arith) (omega arith) in
        let by_disk : is_faulty (disk_at k).faults (disk_at k).disk read.taken ≡ true =
        subst (λ (a : ℕ). is_faulty (disk_at k).faults a read.taken ≡ true) (sym (are k inside).number) struck in
        let none : Some part ≡ None = read.is ∙ none_read (disk_at k) read.taken (want t n 0) by_disk in
        absurd (cc)
