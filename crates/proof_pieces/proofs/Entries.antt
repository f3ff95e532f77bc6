-- Where the records come from by which pieces are asked for, and that they enter before any ask.
use Rattle.std.proofs.Common.{◌≡◌, ℕ, ◌+◌, ◌<◌, ◌≤◌, refl, sym, ap, subst, ◌∙◌, arith, ⊎_elim, inl, inr, eq-or-lt_of_le}
use Rattle.std.specs.Prelude.{◌⊎◌}
use Rattle.tiger_base.specs.declared.tenancy.Tenancy.{Tenancy}
use Rattle.slot_plan.specs.declared.params.Params.{Params}
use Rattle.slot_plan.specs.Times.{time_of, due, cub_of}
use Rattle.slot_plan.proofs.Times.{time_next, time_mono, time_below, cub_below, cub_ahead}
use Rattle.proof_schedule.specs.Facts.{Facts, DiedLongBefore, Entered, IsBeside, IsUnheld, IsFirstLife, enters_from}
use Rattle.proof_schedule.specs.RunLaws.{IsTick}
use Rattle.proof_schedule.specs.Schedule.{IsHeld}
use Rattle.proof_schedule.proofs.Origins.{entered_held}
use Rattle.proof_schedule.proofs.Room.{soon_after}
use Rattle.proof_schedule.proofs.Silence.{believed_died}
use Rattle.proof_schedule.proofs.Lives.{entered_late, next_first_life}
use Rattle.proof_schedule.proofs.Timely.{entered_in_time}
use Rattle.proof_schedule.proofs.Invariant.{Setting}
use Rattle.proof_pieces.specs.PieceFacts.{PieceFacts, leave, Arises, SparedBefore, Uses}
use Rattle.proof_pieces.specs.PieceLaws.{PieceLaws, WasMirrored, IsThere}
use Rattle.proof_pieces.proofs.Leaving.{leave_after, lead}

-- Cub c split visit n of t: if gap is 1, in the place of its predecessor, and if gap is 0, one of
-- its own.
abbrev pub Splits : PieceFacts → ℕ → ℕ → Tenancy → ℕ → ℕ → Type 0
Splits q gap c t n b = ((gap ≡ 1) × q.Split c t n b) ⊎ ((gap ≡ 0) × q.Spared c t n b)

-- What splits of both kinds have: the cub is as far behind the visit's as gap says, and has a record
-- of the visit, which entered when its instance was not held, and it splits the visit early.
pub record Divides (p : Params) (r : Facts) (gap c : ℕ) (t : Tenancy) (n b : ℕ) : Type 0 where
  pub reading : ℕ
  pub tick : IsTick p r c b reading
  pub at : c ≡ cub_of p (n + gap)
  pub beside : IsBeside p c n
  pub beat : ℕ
  pub entered : Entered r c t n beat
  pub by : beat ≤ b
  pub since : IsUnheld p r c t.instance.0 b beat
  pub soon : reading + p.read_lead + p.skew + time_of p p.delay + p.beat ≤ due p t.slot.0 n

-- A record of piece j came by a mirror state, which cub a sent at its split in beat x.
pub record ByMirror (p : Params) (q : PieceFacts) (gap c a : ℕ) (t : Tenancy)
    (n j x e : ℕ) : Type 0 where
  pub ahead : ℕ
  pub sent : q.MirrorSent a ahead t n j x
  pub piece : j ≡ ahead + gap
  pub some : 1 ≤ ahead
  pub to : c ≡ cub_of p (a + ahead)

-- A record of piece j, which entered in beat e, comes of a split: of one by the same cub in the
-- place of its predecessor, if j is 1, or else by the mirror state of the cub that split.
pub record Origin (p : Params) (q : PieceFacts) (c : ℕ) (t : Tenancy) (n j e : ℕ) : Type 0 where
  pub gap : ℕ
  pub cub : ℕ
  pub beat : ℕ
  pub split : Splits q gap cub t n beat
  pub by : beat ≤ e
  pub soon : e ≤ beat + p.delay
  pub how : ((gap ≡ 1) × (c ≡ cub) × (j ≡ 1)) ⊎ ByMirror p q gap c cub t n j beat e

module _ (p : Params) (r : Facts) (g : Setting p r) (q : PieceFacts) (m : PieceLaws p r q) where
  -- A split of either kind is such a one.
  pub divides : {gap c n b : ℕ} {t : Tenancy} → Splits q gap c t n b → Divides p r gap c t n b
  divides {gap} {c} {n} {b} {t} w = ⊎_elim
      (λ a.
      let k = m.splits a.1 in
      record {
        reading = k.reading;
        tick = k.tick;
        at = k.next ∙ ap (λ v. cub_of p (n + v)) (sym a.0);
        beside = inr k.next;
        beat = k.beat;
        entered = k.entered;
        by = k.by;
        since = k.since;
        soon = k.soon;
      })
      (λ a.
      let k = m.spares a.1 in
      let sum : n ≡ n + gap = let z = a.0 in omega arith in
      record {
        reading = k.reading;
        tick = k.tick;
        at = k.own ∙ ap (λ v. cub_of p v) sum;
        beside = inl k.own;
        beat = k.beat;
        entered = k.entered;
        by = k.by;
        since = k.since;
        soon = k.soon;
      })
      w

  -- A mirror state goes out at a split of the kind that its piece tells.
  pub mirror_split : {gap a k n j b : ℕ} {t : Tenancy} → q.MirrorSent a k t n j b → j ≡ k + gap
      → Splits q gap a t n b
  mirror_split {gap} {a} {k} {n} {j} {b} {t} w piece = ⊎_elim
      (λ o. let at = o.piece in inl (omega arith, o.split))
      (λ o. let at = o.piece in inr (omega arith, o.spared))
      (m.mirrors w)

  -- Each record of a piece has its origin.
  origin_of : {c n j e : ℕ} {t : Tenancy} → ((j ≡ 1) × q.Split c t n e) ⊎ q.Mirrored c t n j e
      → Origin p q c t n j e
  origin_of {c} {n} {j} {e} {t} w = ⊎_elim
      (λ a.
      record {
        gap = 1;
        cub = c;
        beat = e;
        split = inl (refl, a.1);
        by = omega arith;
        soon = omega arith;
        how = inl (refl, refl, a.0);
      })
      (λ a. let s = m.mirrored a in ⊎_elim
      (λ o. by_state s 1 (inl (refl, o.split)) o.piece o.some)
      (λ o.
      let at = o.piece in
      by_state s 0 (inr (refl, o.spared)) (omega arith) o.some)
      (m.mirrors s.sent))
      w
    where
      -- A mirror state has the split at which it went out.
      by_state : {c n j e : ℕ} {t : Tenancy} (s : WasMirrored p q c t n j e) (gap : ℕ)
          → Splits q gap s.from t n s.beat → j ≡ s.ahead + gap → 1 ≤ s.ahead
          → Origin p q c t n j e
      by_state s gap split piece some =
          let later = s.later in
          record {
            gap = gap;
            cub = s.from;
            beat = s.beat;
            split = split;
            by = omega arith;
            soon = s.soon;
            how = inr (record { ahead = s.ahead; sent = s.sent; piece = piece; some = some; to = s.to });
          }

  -- What arises is a record of the block, or has an origin.
  pub kind_of : {c n j e : ℕ} {t : Tenancy} → Arises r q c t n j e
      → ((j ≡ 0) × Entered r c t n e) ⊎ Origin p q c t n j e
  kind_of w = ⊎_elim (λ a. inl a) (λ a. inr (origin_of a)) w

  -- If it is of a piece, it has an origin.
  pub origin : {c n j e : ℕ} {t : Tenancy} → 1 ≤ j → Arises r q c t n j e → Origin p q c t n j e
  origin some w = ⊎_elim (λ a. let a0 = a.0 in absurd (omega arith)) (λ a. a) (kind_of w)

  -- A split is of a tenancy that was put.
  pub split_held : {gap c n b : ℕ} {t : Tenancy} → Splits q gap c t n b → IsHeld r t n b
  split_held w =
      let k = divides w in
      let o = entered_held p r g.law k.entered in
      let by = k.by in
      let ob = o.by in
      record { cub = o.cub; beat = o.beat; put = o.put; by = omega arith; low = o.low; high = o.high }

  -- So each record by which something is asked for is of a tenancy that was put.
  pub arises_held : {c n j e : ℕ} {t : Tenancy} → Arises r q c t n j e → IsHeld r t n e
  arises_held w = ⊎_elim
      (λ a. entered_held p r g.law a.1)
      (λ o.
      let h = split_held o.split in
      let by = o.by in
      let hb = h.by in
      record { cub = h.cub; beat = h.beat; put = h.put; by = omega arith; low = h.low; high = h.high })
      (kind_of w)

  -- A record of a view enters before a block is to be read, with the skew and a beat to spare.
  own_early : {c n e : ℕ} {t : Tenancy} → Entered r c t n e
      → time_of p e + p.read_lead + p.skew + p.beat ≤ due p t.slot.0 n
  own_early {c} {n} {e} {t} w =
      let o = entered_in_time p g.room r g.law w in
      let low = (entered_held p r g.law w).low in
      let room = g.room in
      let leads = lead p g.ok in
      ⊎_elim
      (λ (f : t.first ≡ n). let z = o.first (sym f) in omega arith)
      (λ (f : t.first < n). let z = o.later f in let opens = room.opens in omega arith)
      (eq-or-lt_of_le low)

  -- So does each record of a piece: its visit is split a way before.
  pub arises_early : {c n j e : ℕ} {t : Tenancy} → Arises r q c t n j e
      → time_of p e + p.read_lead + p.skew + p.beat ≤ due p t.slot.0 n
  arises_early {c} {n} {j} {e} {t} w = ⊎_elim
      (λ a. own_early a.1)
      (λ o.
      let z = divides o.split in
      let soon = z.soon in
      let reads = z.tick.low in
      let after = soon_after p o.beat e o.soon in
      omega arith)
      (kind_of w)

  -- So a record of a piece enters before the piece is asked for, whoever asks.
  pub entered_before : {c d n j b e : ℕ} {t : Tenancy} → q.Asks c t n j b → Arises r q d t n j e
      → e < b
  entered_before {c} {d} {n} {j} {b} {e} {t} w k =
      let o = m.asks w in
      let soon = o.soon in
      let reads = o.tick.high in
      let after = leave_after p t n j in
      let early = arises_early k in
      let some = g.room.beat in
      time_below p e b (omega arith)

  -- And before it is sent.
  pub entered_sent : {c d n j b e : ℕ} {t : Tenancy} → q.Serves c t n j b → Arises r q d t n j e
      → e < b
  entered_sent {c} {d} {n} {j} {b} {e} {t} w k =
      let o = m.serves w in
      let soon = o.soon in
      let reads = o.tick.high in
      let after = leave_after p t n j in
      let early = arises_early k in
      let some = g.room.beat in
      time_below p e b (omega (arith, g.ok.ranges.read_lead))

  -- The cub of a visit that is split has died long before.
  pub split_dead : {c n b : ℕ} {t : Tenancy} → q.Split c t n b → DiedLongBefore p r (cub_of p n) b
  split_dead {c} {n} {b} {t} w =
      let k = m.splits w in
      let by = k.believed.by in
      let small = cub_below p n g.ok.ranges in
      let next = k.next ∙ sym (cub_ahead p n 1) in
      let o = believed_died p g.ok g.room r g.law (cub_of p n) small next k.believed.believed in
      let long = o.long in
      record { until = o.until; died = o.died; long = omega arith }

  -- So the cub that splits is in its first life for ever. If it splits one of its own, nobody dies,
  -- so nobody comes back.
  pub split_first_life : {gap c n b : ℕ} {t : Tenancy} → Splits q gap c t n b → (d : ℕ)
      → IsFirstLife r c d
  split_first_life {gap} {c} {n} w d = ⊎_elim
      (λ a.
      let next = (m.splits a.1).next ∙ sym (cub_ahead p n 1) in
      next_first_life p r g.law c d (split_dead a.1).died.died next)
      (λ a. λ v back.
      let o = g.law.run.returned back in
      absurd ((m.spares a.1).calm c o.beat o.died))
      w

  -- The piece of a record that enters a cub which has come back leaves late enough after its
  -- return.
  arises_late : {c n j y : ℕ} {t : Tenancy} (w : ℕ) → Arises r q c t n j y → r.Returned c w → w ≤ y
      → enters_from p (time_of p w) ≤ leave p t n j
  arises_late {c} {n} {j} {y} {t} w a back le =
      let after = leave_after p t n j in
      ⊎_elim
      (λ o. let late = entered_late p r g.law w o.1 back le in omega arith)
      (λ o. ⊎_elim
      (λ s. let l = split_first_life {gap = 1} (inl (refl, s.1)) y w back in absurd (omega arith))
      (λ s. m.late s back le)
      o)
      a

  -- What leaves at a tick leaves at no later one: there it was too late to be fresh, since readings
  -- never fall. If the cub died in that tick and came back, it would have left before the return.
  once : {c n j a b lead : ℕ} {t : Tenancy} → lead ≤ p.read_lead → IsThere p r q c t n j a lead
      → (v : IsThere p r q c t n j b lead) → v.beat < b → a < b → ⊥
  once {c} {n} {j} {a} {b} {lead} {t} short w v early l =
      let soon = w.soon in
      ⊎_elim
      (λ (e : v.beat ≡ b). omega arith)
      (λ k.
      let next = k.next in
      let undue = k.undue in
      ⊎_elim
      (λ t. let rise = m.rising t k.ticked (omega arith) in omega arith)
      (λ d.
      let back = g.law.run.again v.tick.came d l in
      let after = back.2 in
      let before = back.3 in
      let late = arises_late back.0 v.arises back.1 (v.life back.0 back.1 before) in
      let high = w.tick.high in
      let mono = time_mono p a back.0 (omega arith) in
      omega (arith, g.room, g.ok.c4, g.ok.c1))
      w.whole)
      v.fresh

  -- So a cub asks once for a piece.
  pub asks_once : {c n j a b : ℕ} {t : Tenancy} → q.Asks c t n j a → q.Asks c t n j b → a < b → ⊥
  asks_once w v l =
      once (omega arith) (m.asks w) (m.asks v) (entered_before v (m.asks v).arises) l

  -- And it sends it once.
  pub sent_once : {c n j a b : ℕ} {t : Tenancy} → q.Serves c t n j a → q.Serves c t n j b → a < b
      → ⊥
  sent_once w v l =
      once (omega arith) (m.serves w) (m.serves v) (entered_sent v (m.serves v).arises) l

  -- A piece is used less than a beat after it leaves.
  pub there_soon : {c n j b lead : ℕ} {t : Tenancy} → IsThere p r q c t n j b lead
      → time_of p b < leave p t n j + p.beat
  there_soon {c} {n} {j} {b} {lead} {t} w =
      let after = leave_after p t n j in
      let early = arises_early w.arises in
      let some = g.room.beat in
      ⊎_elim
      (λ (e : w.beat ≡ b). let te = ap (λ v. time_of p v) e in omega arith)
      (λ k.
      let te : time_of p b ≡ time_of p k.beat + p.beat = ap (λ v. time_of p v) k.next ∙ time_next p k.beat in
      let reads = (g.law.run.reads k.ticked).0 in
      let undue = k.undue in
      omega arith)
      w.fresh

  -- Whatever is used is there, with one of the two leads.
  pub used_there : {c n j b : ℕ} {t : Tenancy} → Uses q c t n j b
      → (lead : ℕ) × IsThere p r q c t n j b lead
  used_there w = ⊎_elim (λ a. (p.read_lead, m.asks a)) (λ a. (0, m.serves a)) w

  -- The cub of a visit of which a piece is asked for has died long before, or split it.
  pub asked_dead : {c n j b : ℕ} {t : Tenancy} → q.Asks c t n j b → 1 ≤ j
      → DiedLongBefore p r (cub_of p n) b ⊎ SparedBefore q (cub_of p n) t n b
  asked_dead {c} {n} {j} {b} {t} w some =
      let o = m.asks w in
      let s = origin some o.arises in
      let by = o.by in
      let sb = s.by in
      let before = entered_before w o.arises in
      ⊎_elim
      (λ a.
      let d = split_dead a.1 in
      let long = d.long in
      inl (record { until = d.until; died = d.died; long = omega arith }))
      (λ a.
      let own = (m.spares a.1).own in
      let spared = subst (λ v. q.Spared v t n s.beat) own a.1 in
      inr (record { beat = s.beat; spared = spared; before = omega arith }))
      s.split
