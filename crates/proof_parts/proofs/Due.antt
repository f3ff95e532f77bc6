-- The laws of what must happen to mirror pieces: what is due is asked for, asks are answered, what is stored is sent.
use Rattle.std.proofs.Common.{◌≡◌, ℕ, suc, ◌+◌, ◌*◌, ◌<◌, ◌≤◌, Option, Some, None, refl, sym, ap, subst, arith, ⊎_elim, inl, inr, eq-or-lt_of_le}
use Rattle.std.specs.Prelude.{◌⊎◌}
use Rattle.std.proofs.lemmas.Bool.{cases_lt}
use Rattle.tiger_base.specs.Span.{LibraryPart}
use Rattle.tiger_base.specs.declared.number.Stamp.{Stamp}
use Rattle.tiger_base.specs.declared.tenancy.PieceState.{PieceState}
use Rattle.tiger_base.specs.declared.tenancy.Tenancy.{Tenancy}
use Rattle.tiger_base.specs.declared.message.Msg.{Msg}
use Rattle.tiger_base.specs.declared.message.Msg.TheVariants as msg
use Rattle.slot_plan.specs.declared.params.Params.{Params}
use Rattle.slot_plan.specs.Conditions.{IsPlan}
use Rattle.slot_plan.specs.Times.{due}
use Rattle.mirror_schedule.specs.Pieces.{leaving_of}
use Rattle.node_kit.specs.Steps.{Input, stamp_of}
use Rattle.cub_rules.specs.declared.store.Store.{Store}
use Rattle.cub_rules.specs.declared.store.StoredPart.{StoredPart}
use Rattle.disk_core.specs.State.{DiskState}
use Rattle.disk_core.specs.Rules.{read_part}
use Rattle.proof_lives.specs.Lives.{Lives, AreLives, store_at, beat_at, reading_at}
use Rattle.run_facts.specs.Events.{is_tick_input}
use Rattle.lists.specs.Elements.{In}
use Rattle.proof_lives.specs.Facts.{TickedAt, TookMessage}
use Rattle.proof_lives.proofs.Order.{beats_rise, behind, not_behind}
use Rattle.proof_lives.proofs.Inputs.{message_before}
use Rattle.proof_lives.proofs.Cuts.{whole_before, whole_by_beat}
use Rattle.proof_lives.proofs.Fitting.{Fits, as_tick}
use Rattle.proof_lives.proofs.SameLife.{same_life}
use Rattle.proof_lives.specs.HoldsHere.{AreAllFormed}
use Rattle.proof_pieces.specs.PieceFacts.{leave, Arises}
use Rattle.proof_pieces.specs.PieceLaws.{WasUndue}
use Rattle.proof_service.specs.Disks.{disk_at as disk_of_piece}
use Rattle.proof_service.specs.ServiceFacts.{ArisesBy, AsksInLife}
use Rattle.proof_service.specs.ServiceLaws.{HasLeft, IsAnswered}
use Rattle.proof_facts.specs.Blocks.{AnsweredAt, StoredAt, blocks_by}
use Rattle.proof_facts.specs.Carried.{DisksAnswer}
use Rattle.proof_lives.specs.FactsBy.{Beyond, CameToTick, facts_by}
use Rattle.proof_facts.specs.Pieces.{piece, want, before_reading, before_serving, SplitAt, MirroredAt, AsksAt, ServesAt, pieces_by, stamp_of as made_of}
use Rattle.proof_splits.specs.PieceRecords.{IsMirrored, IsSplitOff, Enters, MayGo, MightGo, KeepsPieces}
use Rattle.proof_parts.proofs.Answering.{taken_back, kept}
use Rattle.proof_parts.proofs.AskLives.{asked_disk}
use Rattle.proof_parts.proofs.Asking.{keeps, asks_there}
use Rattle.proof_parts.proofs.CutOff.{leave_is, leaves_from, leaves_to, stale_to, CutOff, LeftAtTick, piece_gone, part_gone}
use Rattle.proof_parts.proofs.Found.{found, wanted_piece}
use Rattle.proof_parts.proofs.PartLives.{stays_until}
use Rattle.proof_parts.proofs.Storing.{part_to_serving}

module _ (p : Params) (plan : IsPlan p) (lives : Lives) (are : AreLives p lives) (formed : AreAllFormed p lives)
    (beyond : Beyond) (fits : Fits p lives beyond) (disk_at : ℕ → DiskState) where
  abbrev Cut : ℕ → ℕ → ℕ → ℕ → Type 0
  Cut c v n b = CutOff p lives beyond disk_at c v n b

  -- a piece had left before a beat, or its record may have been dropped
  abbrev LeftOr : ℕ → Tenancy → ℕ → ℕ → ℕ → Type 0
  LeftOr c t n j y = HasLeft p (facts_by p lives beyond) c t n j y ⊎ Cut c t.instance.0 n y

  -- the piece record of a cub entered at an input
  record EnteredAt (c : ℕ) (x : PieceState) (e : ℕ) : Type 0 where
    small : c < p.cubs
    at : ℕ
    done : at < lives.count c
    in_beat : beat_at (lives.input c) at ≡ e
    enters : Enters p c (lives.input c at) (store_at p c (lives.input c) at) x

  entered_of : (c n j e : ℕ) (t : Tenancy) → 1 ≤ j → Arises (facts_by p lives beyond) (pieces_by p lives) c t n j e
      → EnteredAt c (piece t n j) e
  entered_of c n j e t some w = ⊎_elim
      (λ z. let none = z.0 in absurd (omega arith))
      (λ z. ⊎_elim
      (λ s.
      let g : SplitAt p lives c t n e = s.1 in
      let split : IsSplitOff p c (made_of e g.reading) (store_at p c (lives.input c) g.tick.at) (piece t n j) =
      record { believes = g.believes; line = g.line; there = g.there; must = g.must; left = g.left; first = s.0 } in
      record {
        small = g.tick.small;
        at = g.tick.at;
        done = g.tick.done;
        in_beat = ap (λ (k : Input Msg). (stamp_of k).beat) g.tick.is;
        enters = subst (λ (k : Input Msg). Enters p c k (store_at p c (lives.input c) g.tick.at) (piece t n j))
            (sym g.tick.is) split;
      })
      (λ (m : MirroredAt p lives c t n j e).
      let told : IsMirrored p c (msg.MirrorState (piece t n j)) (store_at p c (lives.input c) m.at) (piece t n j) =
      record { is = refl; free = m.free; here = m.here; lets = m.lets } in
      record {
        small = m.small;
        at = m.at;
        done = m.done;
        in_beat = ap (λ (k : Input Msg). (stamp_of k).beat) m.is;
        enters = subst (λ (k : Input Msg). Enters p c k (store_at p c (lives.input c) m.at) (piece t n j))
            (sym m.is) told;
      })
      z)
      w

  -- a tick at which a piece left has at least its leaving time
  left_reading : (c i : ℕ) (x : PieceState) → c < p.cubs → i < lives.count c → (w : LeftAtTick p (lives.input c) x i)
      → leaving_of p x ≤ reading_at (lives.input c) i
  left_reading c i x small low w =
      let before = w.before in
      let e : reading_at (lives.input c) w.at ≡ w.stamp.reading = ap (λ (k : Input Msg). (stamp_of k).reading) w.is in
      let rise = (are c small).rising w.at i (omega arith) low in
      let l = leaves_to p w.stamp.reading x w.leaves in
      omega arith

  -- what may have gone at one input, or between two, may have gone by a later one
  went_at : (c i : ℕ) (x : PieceState) → MayGo p (lives.input c i) x → MightGo p (lives.input c) x i (suc i)
  went_at c i x may = record { at = i; from = omega arith; before = omega arith; may = may }

  by_later : (c a m i : ℕ) (x : PieceState) → m ≤ i → MightGo p (lives.input c) x a m → MightGo p (lives.input c) x a i
  by_later c a m i x le g =
      let before = g.before in record { at = g.at; from = g.from; before = omega arith; may = g.may }

  -- What leaves within the read lead, and has not left, has been asked for.
  pub due_is_asked : {c : ℕ} {t : Tenancy} {n j b l : ℕ} → 1 ≤ j
      → ArisesBy (facts_by p lives beyond) (pieces_by p lives) c t n j b → TickedAt p lives c b l
      → l < leave p t n j → leave p t n j ≤ l + p.read_lead
      → AsksInLife (facts_by p lives beyond) (pieces_by p lives) c t n j b ⊎ Cut c t.instance.0 n b
  due_is_asked {c} {t} {n} {j} {b} {l} some from tick late soon =
      let x : PieceState = piece t n j in
      let inputs : ℕ → Input Msg = lives.input c in
      let i : ℕ = tick.at in
      let low = tick.done in
      let small = tick.small in
      let stamp : Stamp = made_of b l in
      let life = are c small in
      let kp : KeepsPieces p c (lives.count c) inputs = keeps p plan lives are formed beyond fits c small in
      let e : leave p t n j ≡ leaving_of p x = leave_is p t n j some in
      let beat : beat_at inputs i ≡ b = ap (λ (k : Input Msg). (stamp_of k).beat) tick.is in
      let read : reading_at inputs i ≡ l = ap (λ (k : Input Msg). (stamp_of k).reading) tick.is in
      let w = entered_of c n j from.beat t some from.arises in
      let in_beat = w.in_beat in
      let by = from.by in
      let first : w.at ≤ i = not_behind p (lives.count c) inputs life w.at i low w.done (ap is_tick_input tick.is)
      (omega arith) in
      let gone : (a m : ℕ) → m ≤ i → MightGo p inputs x a m → Cut c t.instance.0 n b = λ a m le g.
      ⊎_elim (λ q. q) (λ q. let out = left_reading c i x small low q in absurd (omega arith))
      (piece_gone p lives beyond disk_at are c a i b x small low (omega arith) (by_later c a m i x le g)) in
      let g : Store = before_reading p c stamp (store_at p c inputs i) in
      let stands : In x g.pieces.items ⊎ Cut c t.instance.0 n b = ⊎_elim
      (λ (q : w.at ≡ i).
      let here = subst (λ (k : ℕ). Enters p c (inputs k) (store_at p c inputs k) x) q w.enters in
      inl ((kp.in_tick i stamp x).split_off
      (subst (λ (k : Input Msg). Enters p c k (store_at p c inputs i) x) tick.is here)))
      (λ (q : w.at < i). ⊎_elim
      (λ k. ⊎_elim (λ s. inl ((kp.in_tick i stamp x).to_reading s)) (λ g. inr (gone (suc w.at) i (omega arith) g))
      (kp.stays (suc w.at) i x (omega arith) k))
      (λ may. inr (gone w.at (suc w.at) (omega arith) (went_at c w.at x may)))
      (kp.enters w.at x (omega arith) w.enters))
      (eq-or-lt_of_le first) in
      ⊎_elim
      (λ s. ⊎_elim
      (λ u. inl (record {
        beat = b;
        asks = record {
          reading = l;
          tick = as_tick tick;
          asks = inr (some, u, leaves_from p (l + p.read_lead) x (omega arith));
        };
        by = omega arith;
        life = λ v back le. le;
      }))
      (λ a.
      let before = a.before in
      let eb : beat_at inputs a.at ≡ a.stamp.beat = ap (λ (k : Input Msg). (stamp_of k).beat) a.is in
      let rise = beats_rise p (lives.count c) inputs life a.at i (omega arith) low in
      inl (record {
        beat = a.stamp.beat;
        asks = record {
          reading = a.stamp.reading;
          tick = record { small = small; at = a.at; done = omega arith; is = a.is };
          asks = inr (some, a.asked.unasked, a.asked.soon);
        };
        by = omega arith;
        life = λ v back le.
            let one = same_life p lives beyond are fits c a.at i small (omega arith) low v back (omega arith) in omega arith;
      }))
      (kp.at_reading i stamp x s))
      (λ q. inr q)
      stands

  -- an answer that meets the record is a part, or says that the read failed
  met : (c n j y : ℕ) (t : Tenancy) (part : Option LibraryPart) → AnsweredAt p lives c t n j y part
      → StoredAt p lives c t n j y ⊎ AnsweredAt p lives c t n j y None
  met c n j y t (Some part) a = inl (record { part = part; answered = a })
  met c n j y t None a = inr a

  module _ (disks : DisksAnswer p lives beyond disk_at) where
    -- What was asked for is answered.
    pub ask_is_answered : {c : ℕ} {t : Tenancy} {n j b e : ℕ} → 1 ≤ j → AsksAt p lives c t n j b → CameToTick p lives c e
        → b + 2 * p.delay ≤ e
        → IsAnswered p (facts_by p lives beyond) (blocks_by p lives disk_at) c t n j b
    ask_is_answered {c} {t} {n} {j} {b} {e} some a come late =
        let x : PieceState = piece t n j in
        let inputs : ℕ → Input Msg = lives.input c in
        let i : ℕ = a.tick.at in
        let small = a.tick.small in
        let low = a.tick.done in
        let life = are c small in
        let stamp : Stamp = made_of b a.reading in
        let kp : KeepsPieces p c (lives.count c) inputs = keeps p plan lives are formed beyond fits c small in
        let beat : beat_at inputs i ≡ b = ap (λ (k : Input Msg). (stamp_of k).beat) a.tick.is in
        let there = asks_there p plan lives are formed beyond fits some a in
        let up = come.tick in
        let ub : beat_at inputs up.at ≡ e = ap (λ (k : Input Msg). (stamp_of k).beat) up.is in
        let some_delay = plan.ranges.delay.0 in
        let whole = whole_by_beat p lives are c i up.at small low up.done (omega arith) in
        let back = taken_back p lives formed beyond disk_at disks c (disk_of_piece p n j) b e (want t n j)
        (asked_disk p plan lives a whole there.here) come late in
        let took = back.took in
        let read = back.read in
        let before = back.before in
        let y : ℕ = back.beat in
        let m : ℕ = took.at in
        let done = took.done in
        let my : beat_at inputs m ≡ y = ap (λ (k : Input Msg). (stamp_of k).beat) took.is in
        let after : i < m = ⊎_elim
        (λ (l : i < m). l)
        (λ (g : m ≤ i). let rise = beats_rise p (lives.count c) inputs life m i g low in absurd (omega arith))
        (cases_lt i m) in
        let part : Option LibraryPart = read_part (disk_at (disk_of_piece p n j)) back.taken (want t n j) in
        let some_gone : (k q : ℕ) → q ≤ m → MightGo p inputs x k q → LeftOr c t n j y = λ k q le g.
        ⊎_elim
        (λ w. inr w)
        (λ w.
        let wb = w.before in
        let eb : beat_at inputs w.at ≡ w.stamp.beat = ap (λ (k : Input Msg). (stamp_of k).beat) w.is in
        let rise = behind p (lives.count c) inputs life w.at m wb done (ap is_tick_input w.is) in
        let out = leaves_to p w.stamp.reading x w.leaves in
        let el : leave p t n j ≡ leaving_of p x = leave_is p t n j some in
        inl (record {
          beat = w.stamp.beat;
          reading = w.stamp.reading;
          ticked = record {
            small = small;
            at = w.at;
            done = omega arith;
            is = w.is;
            whole = whole_before lives c w.at m wb done;
          };
          before = omega arith;
          past = omega arith;
        }))
        (piece_gone p lives beyond disk_at are c k m y x small done (omega arith) (by_later c k q m x le g)) in
        let stood : In x (store_at p c inputs (suc i)).pieces.items ⊎ MightGo p inputs x i (suc i) = ⊎_elim
        (λ z. let none = z.0 in absurd (omega arith))
        (λ z. ⊎_elim
        (λ u. kp.stays i (suc i) x (omega arith) (kp.within i x u))
        (λ w. ⊎_elim
        (λ k. inl k)
        (λ may. inr (went_at c i x may))
        (kp.enters i x low (subst (λ (k : Input Msg). Enters p c k (store_at p c inputs i) x) (sym a.tick.is) w)))
        ((kp.in_tick i stamp x).unasked z.1))
        a.asks in
        let stands : In x (store_at p c inputs m).pieces.items ⊎ LeftOr c t n j y = ⊎_elim
        (λ k. ⊎_elim (λ s. inl s) (λ g. inr (some_gone (suc i) m (omega arith) g))
        (kp.stays (suc i) m x (omega arith) k))
        (λ g. inr (some_gone i (suc i) (omega arith) g))
        stood in
        record {
          beat = y;
          later = omega arith;
          soon = back.soon;
          what = ⊎_elim
              (λ s. inl (met c n j y t part (record {
                small = small;
                at = m;
                done = done;
                reading = took.reading;
                link = took.link;
                is = took.is;
                formed = formed c small m (made_of y took.reading) took.link
                    (msg.ReadDone (want t n j) part) done took.is;
                there = inr (some, s);
              })))
              (λ q. inr q)
              stands;
        }

  -- What is stored is sent at the first tick at which it is to leave, within a block play time.
  pub stored_is_sent : {c : ℕ} {t : Tenancy} {n j y b l : ℕ} → 1 ≤ j → StoredAt p lives c t n j y → y ≤ b
      → TickedAt p lives c b l
      → leave p t n j ≤ l → l < due p t.slot.0 n + p.play → WasUndue p (facts_by p lives beyond) c b (leave p t n j) 0
      → ServesAt p lives c t n j b ⊎ Cut c t.instance.0 n b
  stored_is_sent {c} {t} {n} {j} {y} {b} {l} some s le tick leaves fresh u =
      let x : PieceState = piece t n j in
      let inputs : ℕ → Input Msg = lives.input c in
      let i : ℕ = tick.at in
      let low = tick.done in
      let small = tick.small in
      let stamp : Stamp = made_of b l in
      let life = are c small in
      let kp : KeepsPieces p c (lives.count c) inputs = keeps p plan lives are formed beyond fits c small in
      let el : leave p t n j ≡ leaving_of p x = leave_is p t n j some in
      let beat : beat_at inputs i ≡ b = ap (λ (k : Input Msg). (stamp_of k).beat) tick.is in
      let read : reading_at inputs i ≡ l = ap (λ (k : Input Msg). (stamp_of k).reading) tick.is in
      let a : AnsweredAt p lives c t n j y (Some s.part) = s.answered in
      let ab : beat_at inputs a.at ≡ y = ap (λ (k : Input Msg). (stamp_of k).beat) a.is in
      let before : a.at < i = message_before p lives are c i a.at small low a.done (ap is_tick_input tick.is) (ap is_tick_input a.is)
      (omega arith) in
      let had : In x (store_at p c inputs a.at).pieces.items = ⊎_elim (λ z. let none = z.0 in absurd (omega arith))
      (λ z. z.1) a.there in
      let xp : StoredPart = record { want = want t n j; part = s.part } in
      let took : TookMessage p lives c (msg.ReadDone (want t n j) (Some s.part)) y =
      record { small = small; at = a.at; done = a.done; reading = a.reading; link = a.link; is = a.is } in
      let stored : In xp (store_at p c inputs (suc a.at)).parts =
      kept p lives formed c y (want t n j) (Some s.part) took (wanted_piece x (store_at p c inputs a.at) had) in
      let stands : In x (store_at p c inputs i).pieces.items ⊎ Cut c t.instance.0 n b = ⊎_elim
      (λ k. inl k)
      (λ g. ⊎_elim
      (λ q. inr q)
      (λ w.
      let wb = w.before in
      let rise = behind p (lives.count c) inputs life w.at i wb low (ap is_tick_input w.is) in
      let ub : beat_at inputs u.ticked.at ≡ u.beat = ap (λ (k : Input Msg). (stamp_of k).beat) u.ticked.is in
      let ul : reading_at inputs u.ticked.at ≡ u.reading = ap (λ (k : Input Msg). (stamp_of k).reading) u.ticked.is in
      let wl : reading_at inputs w.at ≡ w.stamp.reading = ap (λ (k : Input Msg). (stamp_of k).reading) w.is in
      let next = u.next in
      let undue = u.undue in
      let first = not_behind p (lives.count c) inputs life w.at u.ticked.at u.ticked.done (omega arith)
      (ap is_tick_input u.ticked.is) (omega arith) in
      let readings = life.rising w.at u.ticked.at first u.ticked.done in
      let out = leaves_to p w.stamp.reading x w.leaves in
      absurd (omega arith))
      (piece_gone p lives beyond disk_at are c a.at i b x small low (omega arith) g))
      (kp.stays a.at i x (omega arith) had) in
      let stays : In xp (store_at p c inputs i).parts ⊎ Cut c t.instance.0 n b = ⊎_elim
      (λ k. inl k)
      (λ g. ⊎_elim
      (λ q. ⊎_elim (λ r. inr (inl r)) (λ r. inr (inr r.1)) q)
      (λ w.
      let wb = w.before in
      let wl : reading_at inputs w.at ≡ w.stamp.reading = ap (λ (k : Input Msg). (stamp_of k).reading) w.is in
      let readings = life.rising w.at i (omega arith) low in
      let old = stale_to p w.stamp.reading xp w.stale in
      absurd (omega arith))
      (part_gone p lives beyond disk_at are c (suc a.at) i b xp small low (omega arith) g))
      (stays_until p c inputs (suc a.at) i xp (omega arith) stored) in
      ⊎_elim
      (λ one. ⊎_elim
      (λ two. ⊎_elim
      (λ k.
      let f = found (want t n j) xp (before_serving p c stamp (store_at p c inputs i)).parts k refl in
      inl (record {
        part = f.part;
        sends = record {
          reading = l;
          tick = as_tick tick;
          serves = inr (some, (kp.in_tick i stamp x).to_serving one, leaves_from p l x (omega arith));
          stored = f.found;
          goes = inl tick.whole;
        };
      }))
      (λ stale. let old = stale_to p l xp stale in absurd (omega arith))
      (part_to_serving p c stamp (store_at p c inputs i) xp two))
      (λ q. inr q)
      stays)
      (λ q. inr q)
      stands
