-- What a cub sends, or writes down as failed, is what the disk of the piece read for it: of whole blocks and pieces.
use Rattle.std.proofs.Common.{◌≡◌, ℕ, zero, suc, ◌+◌, ◌*◌, ◌<◌, ◌≤◌, ◌-◌, ◌==◌, max, Bool, true, cond, Option, Some, None, refl, sym, ap, subst, ◌∙◌, arith, ⊎_elim, inl, inr}
use Rattle.std.specs.Prelude.{◌⊎◌, ◌&&◌, option_and_then}
use Rattle.std.proofs.lemmas.Bool.{eqb-true}
use Rattle.tiger_base.specs.Span.{LibraryPart}
use Rattle.tiger_base.specs.declared.part.Span.{Span}
use Rattle.tiger_base.specs.declared.number.LinkNo.{LinkNo}
use Rattle.tiger_base.specs.declared.number.Stamp.{Stamp}
use Rattle.tiger_base.specs.declared.tenancy.Tenancy.{Tenancy}
use Rattle.tiger_base.specs.declared.tenancy.Want.{Want}
use Rattle.tiger_base.specs.declared.message.Msg.{Msg}
use Rattle.tiger_base.specs.declared.message.Msg.TheVariants as msg
use Rattle.slot_plan.specs.declared.params.Params.{Params}
use Rattle.slot_plan.specs.Conditions.{IsPlan}
use Rattle.slot_plan.specs.Times.{disk_count}
use Rattle.stripe_layout.specs.declared.catalogue.Catalogue.{Catalogue}
use Rattle.stripe_layout.specs.declared.place.Place.{Place}
use Rattle.stripe_layout.specs.Places.{place_of}
use Rattle.mirror_pieces.specs.Pieces.{piece_of, piece_disk}
use Rattle.disk_image.specs.Image.{Image, block_part, piece_part, is_piece}
use Rattle.node_kit.specs.declared.outbox.Out.TheVariants as out
use Rattle.node_kit.specs.Steps.{Input, stamp_of}
use Rattle.node_kit.specs.Ways.{way_to_disk}
use Rattle.cub_rules.specs.declared.store.Store.{Store}
use Rattle.cub_rules.specs.declared.store.StoredPart.{StoredPart}
use Rattle.disk_core.specs.State.{DiskState}
use Rattle.disk_core.specs.Rules.{is_faulty, part_for, read_part}
use Rattle.proof_lives.specs.Lives.{Lives, AreLives, store_at, beat_at, reading_at}
use Rattle.proof_lives.specs.Facts.{DidAt, TookMessage}
use Rattle.proof_lives.specs.FactsBy.{Beyond}
use Rattle.lists.proofs.Elements.{chosen}
use Rattle.proof_lives.proofs.Order.{beats_rise}
use Rattle.proof_lives.specs.HoldsHere.{AreAllFormed}
use Rattle.proof_pieces.specs.PieceFacts.{leave}
use Rattle.proof_pieces.specs.PieceLaws.{WasAsked}
use Rattle.proof_service.specs.Disks.{part_at, IsImageFor, IsRefused, IsRead, disk_at as disk_of_piece}
use Rattle.proof_facts.specs.Blocks.{AnsweredAt, SendsAt, blocks_by}
use Rattle.proof_facts.specs.Carried.{AnswersAsk, DisksAnswer}
use Rattle.proof_facts.specs.Pieces.{want, before_serving, SendsPart, ServesAt, pieces_by, stamp_of as made_of}
use Rattle.proof_facts.specs.Rings.{IsDiskOf, HaveImages}
use Rattle.proof_parts.specs.Asks.{WasRead}
use Rattle.proof_parts.proofs.Answering.{came_from_disk}
use Rattle.proof_parts.proofs.AskLives.{read_for}
use Rattle.proof_parts.proofs.Former.{not_formerly, record_late, wanted_late}
use Rattle.proof_parts.proofs.Found.{found_there}
use Rattle.proof_parts.proofs.KnownAsks.{AsksAreKnown}
use Rattle.proof_parts.proofs.Storing.{part_before_serving}

-- ---- what a disk reads

-- a read gives nothing in a read fault, and else what the image has
read_none : (s : DiskState) (b : ℕ) (w : Want) → None ≡ read_part s b w
    → (is_faulty s.faults s.disk b ≡ true) ⊎ (part_for s.image w ≡ None)
unfolding read_part
read_none s b w e =
    chosen (λ (o : Option LibraryPart). None ≡ o → (is_faulty s.faults s.disk b ≡ true) ⊎ (part_for s.image w ≡ None))
    (is_faulty s.faults s.disk b) None (part_for s.image w)
    (λ t q. inl t) (λ f q. inr (sym q)) e

read_some : (s : DiskState) (b : ℕ) (w : Want) (part : LibraryPart) → Some part ≡ read_part s b w
    → part_for s.image w ≡ Some part
unfolding read_part
read_some s b w part e =
    chosen (λ (o : Option LibraryPart). Some part ≡ o → part_for s.image w ≡ Some part)
    (is_faulty s.faults s.disk b) None (part_for s.image w)
    (λ t q. absurd (cc)) (λ f q. sym q) e

-- what is asked for is the piece, or the whole block
part_wanted : (m : Image) (t : Tenancy) (n j : ℕ) → part_for m (want t n j) ≡ part_at m t n j
unfolding part_for
part_wanted m t n zero = refl
part_wanted m t n (suc k) =
    chosen (λ (o : Option LibraryPart). o ≡ piece_part m t.file (n - t.first) (suc k)) (suc k == 0)
    (block_part m t.file (n - t.first)) (piece_part m t.file (n - t.first) (suc k))
    (λ e. let z : suc k ≡ 0 = eqb-true _ _ e in absurd (omega arith)) (λ _. refl)

-- each part of an image is of its library
of_place : (m : Image) (test : Place → Bool) (span : Place → Span) (o : Option Place) (part : LibraryPart)
    → option_and_then (λ (x : Place). cond (test x) (Some (record { library = m.library; span = span x })) None)
    o ≡ Some part
    → part ≡ record { library = m.library; span = part.span }
of_place m test span None part e = absurd (cc)
of_place m test span (Some x) part e =
    chosen (λ (q : Option LibraryPart). q ≡ Some part → part ≡ record { library = m.library; span = part.span })
    (test x)
    (Some (record { library = m.library; span = span x })) None
    (λ t q.
    let same : record { library = m.library; span = span x } ≡ part = cc in
    sym same ∙ ap (λ (y : LibraryPart). record { library = m.library; span = y.span }) same)
    (λ f q. absurd (cc))
    e

of_library : (m : Image) (t : Tenancy) (n j : ℕ) (part : LibraryPart) → part_at m t n j ≡ Some part
    → part ≡ record { library = m.library; span = part.span }
unfolding block_part piece_part
of_library m t n zero part e =
    of_place m (λ x. x.disk.0 == m.disk) (λ x. x.span) (place_of m.catalogue t.file (n - t.first)) part e
of_library m t n (suc k) part e =
    of_place m (λ x. is_piece m (suc k) && (piece_disk x.disk.0 (suc k) m.catalogue.disks == m.disk))
    (λ x. piece_of x.span m.pieces (suc k))
    (place_of m.catalogue t.file (n - t.first)) part e

-- ---- which disk, and for whom

cancel : (a x y : ℕ) → a + x ≡ a + y → x ≡ y
cancel a x y e = omega arith

-- the link tells the disk
same_disk : (p : Params) (d e : ℕ) → way_to_disk p d ≡ way_to_disk p e → d ≡ e
unfolding way_to_disk
same_disk p d e q = cancel (3 * p.cubs + p.cubs * max 2 p.pieces) d e (ap (λ (l : LinkNo). l.0) q)

module _ (p : Params) (plan : IsPlan p) (lives : Lives) (are : AreLives p lives) (formed : AreAllFormed p lives)
    (beyond : Beyond) (known : AsksAreKnown p lives beyond) (disk_at : ℕ → DiskState)
    (disks : DisksAnswer p lives beyond disk_at) where
  -- an ask whose answer comes by an input of the life is one of that life, if what was asked for leaves late after a return
  asked_here : (c i b : ℕ) (link : LinkNo) (t : Tenancy) (n j : ℕ) → c < p.cubs → i < lives.count c
      → b ≤ beat_at (lives.input c) i
      → (0 < beat_at (lives.input c) 0 → reading_at (lives.input c) 0 + p.read_lead + p.skew < leave p t n j)
      → beyond.Sends c link (msg.ReadAsk (want t n j)) b → DidAt p lives c (out.Send link (msg.ReadAsk (want t n j))) b
  asked_here c i b link t n j small low le late s = ⊎_elim
      (λ d. d)
      (λ w. absurd (not_formerly p lives are c b t n j small (omega arith) late w))
      (known.asks c i b link (want t n j) small low le s)

  -- an answer to the want of a piece is what the piece's disk read for a record of the same instance
  pub was_read : {c : ℕ} {t : Tenancy} {n j y : ℕ} (part : Option LibraryPart) (i : ℕ) → c < p.cubs → i < lives.count c
      → beat_at (lives.input c) i ≡ y
      → (0 < beat_at (lives.input c) 0 → reading_at (lives.input c) 0 + p.read_lead + p.skew < leave p t n j)
      → AnswersAsk p beyond disk_at c (want t n j) part y
      → WasRead p lives disk_at c t n j part y
  was_read {c} {t} {n} {j} {y} part i small low eb late a =
      let after = a.after in
      let later = a.later in
      let did = asked_here c i a.asked (way_to_disk p a.disk) t n j small low (omega arith) late a.ask.ask in
      let q = read_for p plan lives are c a.asked (way_to_disk p a.disk) (want t n j) did in
      let e : a.disk ≡ disk_of_piece p n j = same_disk p a.disk (disk_of_piece p n j) q.way in
      record {
        tenancy = q.tenancy;
        same = ap (λ (w : Want). w.instance.0) q.same;
        slot = ap (λ (w : Want). w.slot.0) q.same;
        asked = a.asked;
        asks = q.asks;
        taken = a.taken;
        after = a.after;
        before = a.later;
        inside = subst (λ d. d < disk_count p) e a.ask.inside;
        is = subst (λ d. part ≡ read_part (disk_at d) a.taken (want t n j)) e a.is;
      }

  -- what is sent was read so
  pub sent_was_read : {c : ℕ} {t : Tenancy} {n j b : ℕ} {part : LibraryPart} → SendsPart p lives c t n j b part
      → WasRead p lives disk_at c t n j (Some part) b
  sent_was_read {c} {t} {n} {j} {b} {part} s =
      let i : ℕ = s.tick.at in
      let inputs : ℕ → Input Msg = lives.input c in
      let stamp : Stamp = made_of b s.reading in
      let h : Store = store_at p c inputs i in
      let x : StoredPart = record { want = want t n j; part = part } in
      let low = s.tick.done in
      let there = part_before_serving p c stamp h x
      (found_there (want t n j) part (before_serving p c stamp h).parts s.stored) in
      let from = came_from_disk p lives formed beyond disk_at disks c i x there s.tick.small (omega arith) in
      let came = from.came in
      let before = came.before in
      let one : beat_at inputs came.at ≡ came.stamp.beat = ap (λ (k : Input Msg). (stamp_of k).beat) came.is in
      let w : WasRead p lives disk_at c t n j (Some part) came.stamp.beat =
      was_read {t = t} {n = n} {j = j} (Some part) came.at s.tick.small (omega arith) one
      (λ late. wanted_late p plan lives are formed c s.tick.small late came.at t n j (omega arith) came.wanted) from.read in
      let taken = w.before in
      let rise = beats_rise p (lives.count c) inputs (are c s.tick.small) came.at i (omega arith) s.tick.done in
      let two : beat_at inputs i ≡ b = ap (λ (k : Input Msg). (stamp_of k).beat) s.tick.is in
      record {
        tenancy = w.tenancy;
        same = w.same;
        slot = w.slot;
        asked = w.asked;
        asks = w.asks;
        taken = w.taken;
        after = w.after;
        before = omega arith;
        inside = w.inside;
        is = w.is;
      }

  -- what is sent was asked for
  pub sent_was_asked : {c : ℕ} {t : Tenancy} {n j b : ℕ} → ServesAt p lives c t n j b
      → WasAsked (pieces_by p lives) c t n j b
  sent_was_asked {c} {t} {n} {j} {b} s =
      let w = sent_was_read s.sends in
      let after = w.after in
      let before = w.before in
      record { tenancy = w.tenancy; same = w.same; asked = record { beat = w.asked; asks = w.asks; by = omega arith } }

  module _ (catalogue : Catalogue) (are_disks : (d : ℕ) → d < disk_count p → IsDiskOf p d (disk_at d))
      (images : HaveImages p catalogue disk_at) where
    image_for : (n j : ℕ) → disk_of_piece p n j < disk_count p
        → IsImageFor p catalogue (disk_at (disk_of_piece p n j)).image n j
    image_for n j inside =
        record {
          catalogue = images.files (disk_of_piece p n j) inside;
          pieces = images.pieces (disk_of_piece p n j) inside;
          disk = images.disk (disk_of_piece p n j) inside;
        }

    -- why a read failed
    pub failed_was_refused : {c : ℕ} {t : Tenancy} {n j y : ℕ} → AnsweredAt p lives c t n j y None
        → IsRefused p catalogue (blocks_by p lives disk_at) t n j y
    failed_was_refused {c} {t} {n} {j} {y} a =
        let d : ℕ = disk_of_piece p n j in
        let took : TookMessage p lives c (msg.ReadDone (want t n j) None) y =
        record { small = a.small; at = a.at; done = a.done; reading = a.reading; link = a.link; is = a.is } in
        let low = a.done in
        let eb : beat_at (lives.input c) a.at ≡ y = ap (λ (k : Input Msg). (stamp_of k).beat) a.is in
        let w : WasRead p lives disk_at c t n j None y =
        was_read {t = t} {n = n} {j = j} None a.at a.small low eb
        (λ late. record_late p plan lives are formed c a.small late a.at t n j (omega arith) a.there)
        (disks.of_asks c y (want t n j) None took) in
        record {
          beat = w.taken;
          before = w.before;
          why = ⊎_elim
              (λ f. inl (subst (λ k. is_faulty (disk_at d).faults k w.taken ≡ true) (are_disks d w.inside).number f))
              (λ e. inr ((disk_at d).image, image_for n j w.inside, sym (part_wanted (disk_at d).image t n j) ∙ e))
              (read_none (disk_at d) w.taken (want t n j) w.is);
        }

    -- what is sent is what the disk's image has
    pub sent_is_read : {c : ℕ} {t : Tenancy} {n j y : ℕ} {span : Span} → SendsAt p lives c t n j y span
        → ServesAt p lives c t n j y × IsRead p catalogue t n j span
    sent_is_read {c} {t} {n} {j} {y} {span} s =
        let d : ℕ = disk_of_piece p n j in
        let m : Image = (disk_at d).image in
        let w = sent_was_read s.sends in
        let has : part_at m t n j ≡ Some s.part = sym (part_wanted m t n j)
        ∙ read_some (disk_at d) w.taken (want t n j) s.part w.is in
        let whole : s.part ≡ record { library = m.library; span = span } =
        of_library m t n j s.part has ∙ ap (λ (q : Span). record { library = m.library; span = q }) s.of_part in (
          record { part = s.part; sends = s.sends },
          record { image = m; right = image_for n j w.inside; has = has ∙ ap (λ (q : LibraryPart). Some q) whole },
        )
