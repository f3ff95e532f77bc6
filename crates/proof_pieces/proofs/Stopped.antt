-- Nothing of an instance is used later than a block play time after its stop.
use Rattle.std.proofs.Common.{◌≡◌, ℕ, ◌+◌, ◌*◌, ◌<◌, ◌≤◌, sym, ap, subst, ◌∙◌, arith, ⊎_elim, inl, inr}
use Rattle.std.specs.Prelude.{◌⊎◌}
use Rattle.std.proofs.lemmas.Bool.{cases_lt}
use Rattle.tiger_base.specs.declared.tenancy.Tenancy.{Tenancy}
use Rattle.slot_plan.specs.declared.params.Params.{Params}
use Rattle.slot_plan.specs.Times.{time_of, due, cub_of}
use Rattle.slot_plan.proofs.Times.{time_mono, time_below, cub_below, cub_ahead}
use Rattle.proof_schedule.specs.Facts.{Facts, Entered, IsReleasedBy, IsFirstLife, IsSameLife}
use Rattle.proof_schedule.proofs.Conflicts.{not_released, record_reached}
use Rattle.proof_schedule.proofs.Ends.{IsEnd}
use Rattle.proof_schedule.proofs.Kept.{over_before}
use Rattle.proof_schedule.proofs.Reach.{from_base, enters}
use Rattle.proof_schedule.proofs.Room.{way, wave_after}
use Rattle.proof_schedule.proofs.Waves.{reached_after}
use Rattle.proof_schedule.proofs.Lives.{first_same_life, same_life_later, same_life_since_stop}
use Rattle.proof_schedule.proofs.Invariant.{Setting}
use Rattle.proof_pieces.specs.PieceFacts.{PieceFacts, Arises, Uses}
use Rattle.proof_pieces.specs.PieceLaws.{PieceLaws, IsThere, IsForgotten, MirrorSince}
use Rattle.proof_pieces.proofs.Entries.{Splits, Origin, ByMirror, divides, mirror_split, split_dead, split_first_life, there_soon, used_there, kind_of, split_held, arises_held}
use Rattle.proof_pieces.proofs.Leaving.{leave_until}

-- Cub a, which was reached by a deschedule between two beats, told the cubs of all pieces of visit
-- n that it had sent mirror states of to drop them.
record Killing (p : Params) (r : Facts) (q : PieceFacts) (gap a : ℕ) (t : Tenancy)
    (n from until : ℕ) : Type 0 where
  pub beat : ℕ
  pub reached : r.Reached a t.instance.0 beat
  pub after : from < beat
  pub by : beat ≤ until
  pub kills : (k : ℕ) → 1 ≤ k → k + gap ≤ p.pieces → q.KillSent a k t.instance.0 t.slot.0 n beat

-- Of a tenancy t that was put and stopped, with its end.
module _ (p : Params) (r : Facts) (g : Setting p r) (q : PieceFacts) (m : PieceLaws p r q)
    (t : Tenancy) (x z base : ℕ) (e : IsEnd p r t x z base) where
  -- A cub that was reached splits nothing of it.
  pub split_unreached : {gap a n y h : ℕ} → Splits q gap a t n y → r.Reached a t.instance.0 h
      → h ≤ y → ⊥
  split_unreached {gap} {a} {n} {y} {h} w reached le =
      let k = divides p r g q m w in
      let same = first_same_life r a y (split_first_life p r g q m w y) h in
      not_released p r g t x z base e k.entered (k.since h reached le same)

  -- So nothing of it is split after its wave: the cub that splits has been reached by then.
  pub split_over : {gap a n y : ℕ} → Splits q gap a t n y → y ≤ z + (p.cubs + 1) * p.delay
  split_over {gap} {a} {n} {y} w = ⊎_elim
      (λ (late : z + (p.cubs + 1) * p.delay < y).
      let k = divides p r g q m w in
      let soon = k.soon in
      let reads = k.tick.low in
      let low = (split_held p r g q m w).low in
      let mono = time_mono p z y (omega arith) in
      let play = g.room.play in
      let from = from_base p r g t x z base e n low (omega arith) in
      let same = first_same_life r a y (split_first_life p r g q m w y) k.beat in
      let came = k.tick.came in
      let h = record_reached p r g t x z base e k.entered same k.beside from came (omega arith) in
      let by = h.by in
      absurd (split_unreached w h.reached (omega arith)))
      (λ (fine : y ≤ z + (p.cubs + 1) * p.delay). fine)
      (cases_lt (z + (p.cubs + 1) * p.delay) y)

  -- So its records, of pieces too, enter at most a way later.
  pub arises_over : {c n j y : ℕ} → Arises r q c t n j y → y ≤ z + (p.cubs + 2) * p.delay
  arises_over {c} {n} {j} {y} w = ⊎_elim
      (λ a. (enters p r g t x z base e a.1).by)
      (λ o.
      let over = split_over o.split in
      let soon = o.soon in
      omega arith)
      (kind_of p r g q m w)

  -- So none of them enters after a hold.
  pub not_released_piece : {c n j y : ℕ} → Arises r q c t n j y → IsReleasedBy p r c t.instance.0 y
      → ⊥
  not_released_piece {c} {n} {j} {y} w k =
      let by = arises_over w in
      let a = wave_after p g.turn z y (p.cubs + 2) (omega arith) by in
      let over = k.over in
      let after = reached_after p r g t x z base e k.reached in
      let mono = time_mono p z k.beat (omega arith) in
      let play = g.room.play in
      omega arith

  -- So a cub that was reached uses nothing of it in that life.
  pub there_unreached : {c n j b h lead : ℕ} → IsThere p r q c t n j b lead
      → r.Reached c t.instance.0 h → h ≤ b → IsSameLife r c h b → ⊥
  there_unreached {c} {n} {j} {b} {h} w reached le one_life =
      not_released_piece w.arises (w.since h reached le one_life)

  -- The cub that split a visit lives, if a piece of the visit is there: the one before it is dead,
  -- or nobody dies.
  ended_split : {gap a c n b s y j lead : ℕ} → IsThere p r q c t n j b lead → Splits q gap a t n s
      → y < b → r.Came a y
  ended_split {gap} {a} {c} {n} {b} {s} {y} {j} {lead} w split l =
      let at = (divides p r g q m split).at in
      ⊎_elim
      (λ k. subst (λ v. r.Came v y) (sym at) (g.law.run.came k.ticked))
      (λ k. absurd (⊎_elim
      (λ v.
      let d = split_dead p r g q m v.1 in
      let next = ap (λ i. cub_of p (n + i)) v.0 ∙ sym (cub_ahead p n 1) in
      g.law.run.apart d.died.died k.died next)
      (λ v. (m.spares v.1).calm (cub_of p (n + gap)) k.beat k.died)
      split))
      (g.law.run.up w.tick.came l (cub_below p (n + gap) g.ok.ranges))

  -- The first piece is not used after that cub was reached.
  by_first : {c a n j b h : ℕ} → Uses q c t n j b → c ≡ a → IsFirstLife r a b
      → r.Reached a t.instance.0 h → h ≤ b → ⊥
  by_first {c} {a} {n} {j} {b} {h} w same first reached le =
      let here = subst (λ v. r.Reached v t.instance.0 h) (sym same) reached in
      let one_life = first_same_life r c b (subst (λ v. IsFirstLife r v b) (sym same) first) h in
      there_unreached (used_there p r g q m w).1 here le one_life

  -- Its kills go to the cubs of all pieces, whatever its kind, or it was forgotten.
  killed_by : {gap a n x y b : ℕ} → Splits q gap a t n x → r.Reached a t.instance.0 y → x < y
      → r.Came a b → y ≤ b → IsSameLife r a x b
      → Killing p r q gap a t n x y ⊎ IsForgotten p r a t n y
  killed_by {gap} {a} {n} {x} {y} {b} w reached l came by one_life = ⊎_elim
      (λ s. ⊎_elim
      (λ k. inl (record {
        beat = k.beat;
        reached = k.reached;
        after = k.after;
        by = k.by;
        kills = λ i some few. let one = s.0 in k.kills i some (omega arith);
      }))
      (λ k. inr k)
      (m.kills s.1 reached l came by one_life))
      (λ s. ⊎_elim
      (λ k. inl (record {
        beat = k.beat;
        reached = k.reached;
        after = k.after;
        by = k.by;
        kills = λ i some few. k.kills i some (omega arith);
      }))
      (λ k. inr k)
      (m.spare_kills s.1 reached l))
      w

  -- A piece that is used when its kill must have come was sent behind that.
  sent_again : {gap a k c n j x y b : ℕ} → Splits q gap a t n x
      → q.KillSent a k t.instance.0 t.slot.0 n y → c ≡ cub_of p (a + k) → j ≡ k + gap
      → Uses q c t n j b → y + p.delay ≤ b → MirrorSince q a k t n j y
  sent_again {gap} {a} {k} {c} {n} {j} {x} {y} {b} split kill to piece w late = ⊎_elim
      (λ s. let one = s.0 in m.killed s.1 kill to (omega arith) w late)
      (λ s.
      let none = s.0 in
      let same : j ≡ k = omega arith in
      let used = subst (λ v. Uses q c t n v b) same w in
      subst (λ v. MirrorSince q a k t n v y) (sym same) (m.spare_killed s.1 kill to used late))
      split

  -- Another piece is not used a way after the kill: it would have been sent behind it, so split
  -- after the deschedule came.
  by_mirror : {gap c a n j b y s k h : ℕ} → Uses q c t n j b → Splits q gap a t n s
      → ByMirror p q gap c a t n j s k → Killing p r q gap a t n y h → h + p.delay ≤ b → ⊥
  by_mirror {gap} {c} {a} {n} {j} {b} {y} {s} {k} {h} w split o kill late =
      let some = o.some in
      let piece = o.piece in
      let few = (used_there p r g q m w).1.few in
      let by = kill.by in
      let sent = kill.kills o.ahead some (omega arith) in
      let again = sent_again split sent o.to piece w (omega arith) in
      split_unreached (mirror_split p r g q m again.sent piece) kill.reached again.after

  -- So if a piece is used a way after the cub that split its visit was reached, that cub had
  -- forgotten the split.
  pub used_forgotten : {c n j b e h : ℕ} → Uses q c t n j b → (o : Origin p q c t n j e)
      → r.Reached o.cub t.instance.0 h → h + p.delay ≤ b → IsForgotten p r o.cub t n h
  used_forgotten {c} {n} {j} {b} {e} {h} w o here late =
      let delay = g.turn.delay in
      let came = ended_split {y = h} (used_there p r g q m w).1 o.split (omega arith) in
      let one_life = first_same_life r o.cub h (split_first_life p r g q m o.split h) o.beat in
      ⊎_elim
      (λ (l : o.beat < h). ⊎_elim
      (λ kill. absurd (⊎_elim
      (λ f. by_first w f.1 (split_first_life p r g q m o.split b) here (omega arith))
      (λ f. by_mirror w o.split f kill late)
      o.how))
      (λ k. k)
      (killed_by o.split here l came (omega arith) one_life))
      (λ (l : h ≤ o.beat). absurd (split_unreached o.split here l))
      (cases_lt o.beat h)

  -- So nothing is used later than a block play time after the stop. If the visit lies before the
  -- wave it had left before. If not, its cub is reached, or the splitting one, before the split may
  -- be forgotten.
  pub not_late : {c n j b : ℕ} → Uses q c t n j b → time_of p z + p.play < time_of p b → ⊥
  not_late {c} {n} {j} {b} w late =
      let o = (used_there p r g q m w).1 in
      let soon = there_soon p r g q m o in
      let until = leave_until p g.ok t n j o.few in
      let held = arises_held p r g q m o.arises in
      let room = g.room in
      let from = from_base p r g t x z base e n held.low (omega (arith, room)) in
      let over = over_before p r g z b (omega arith) in
      let after : time_of p z + way p + p.skew < due p t.slot.0 n = omega arith in
      ⊎_elim
      (λ a. late_own o a.0 a.1 from over)
      (λ k. late_piece w o k from over late after)
      (kind_of p r g q m o.arises)
    where
      -- The whole block is used by the visit's cub, which was reached.
      late_own : {c n j b lead : ℕ} → (o : IsThere p r q c t n j b lead) → j ≡ 0
          → Entered r c t n o.beat → base ≤ n → z + (p.cubs + 1) * p.delay < b → ⊥
      late_own {c} {n} {j} {b} {lead} o whole entered from over =
          let here : c ≡ cub_of p n = o.here ∙ ap (λ v. cub_of p v) (let u : n + j ≡ n = omega arith in u) in
          let came = o.tick.came in
          let h =
          record_reached p r g t x z base e entered o.life (inl here) from came (omega arith) in
          let by = h.by in
          let within = (enters p r g t x z base e entered).within in
          let since = same_life_since_stop p r g.law b g.room entered within o.life in
          let after = reached_after p r g t x z base e h.reached in
          let one_life = same_life_later r c z h.beat b (omega arith) since in
          there_unreached o h.reached (omega arith) one_life

      -- A piece is used by a cub that the kill has reached.
      late_piece : {c n j b lead : ℕ} → Uses q c t n j b → (o : IsThere p r q c t n j b lead)
          → Origin p q c t n j o.beat → base ≤ n → z + (p.cubs + 1) * p.delay < b
          → time_of p z + p.play < time_of p b → time_of p z + way p + p.skew < due p t.slot.0 n → ⊥
      late_piece {c} {n} {j} {b} {lead} w o s from over late after =
          let split = divides p r g q m s.split in
          let until = z + (p.cubs + 1) * p.delay in
          let came = ended_split {y = until} o s.split over in
          let first = split_first_life p r g q m s.split until in
          let same = first_same_life r s.cub until first split.beat in
          let h =
          record_reached p r g t x z base e split.entered same split.beside from came (omega arith) in
          let by = h.by in
          let far = wave_after p g.turn z (z + (p.cubs + 2) * p.delay) (p.cubs + 2) (omega arith) (omega arith) in
          let arrived = time_below p (z + (p.cubs + 2) * p.delay) b (omega arith) in
          let f = used_forgotten w s h.reached (omega arith) in
          let past = f.past in
          let before = f.before in
          let reads = (g.law.run.reads {b = f.beat} {l = f.reading} f.ticked).1 in
          let a = wave_after p g.turn z f.beat (p.cubs + 1) (omega arith) (omega arith) in
          omega arith
