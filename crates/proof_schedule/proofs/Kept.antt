-- The cub of a visit knows it when it may be in a window, also after a Put for a dead cub.
use Rattle.std.proofs.Common.{◌≡◌, ◌≢◌, ℕ, ◌+◌, ◌-◌, ◌*◌, ◌<◌, ◌≤◌, refl, sym, ap, subst, ◌∙◌, arith, ⊎_elim, inl, inr, eq-or-lt_of_le}
use Rattle.std.proofs.lemmas.Bool.{cases_eq}
use Rattle.tiger_base.specs.declared.tenancy.Tenancy.{Tenancy}
use Rattle.slot_plan.specs.declared.params.Params.{Params}
use Rattle.slot_plan.specs.Times.{time_of, due, cub_of}
use Rattle.slot_plan.proofs.Times.{time_next, time_mono, time_below, due_next, cub_ahead}
use Rattle.proof_schedule.specs.Facts.{Facts, Entered, Knows, IsOpenTo}
use Rattle.proof_schedule.specs.StateLaws.{Stands}
use Rattle.proof_schedule.specs.Schedule.{MayOpen}
use Rattle.proof_schedule.proofs.Conflicts.{not_released, record_reached}
use Rattle.proof_schedule.proofs.Ends.{end_of, one_put}
use Rattle.proof_schedule.proofs.Beside.{arrived, beside, from_opening}
use Rattle.proof_schedule.proofs.Origins.{entered_held}
use Rattle.proof_schedule.proofs.Silence.{dead_first}
use Rattle.proof_schedule.proofs.Lives.{first_same_life, next_first_life}
use Rattle.proof_schedule.proofs.Reach.{from_base}
use Rattle.proof_schedule.proofs.Room.{wave_after}
use Rattle.proof_schedule.proofs.Soon.{windows_rise, put_over}
use Rattle.proof_schedule.proofs.Invariant.{Setting, KeptAt, TakenOver}

module _ (p : Params) (r : Facts) (g : Setting p r) where
  -- The wave is over when a block play time has passed since the stop.
  pub over_before : (z b : ℕ) → time_of p z + p.play ≤ time_of p b → z + (p.cubs + 1) * p.delay < b
  over_before z b late =
      let a = wave_after p g.turn z (z + (p.cubs + 1) * p.delay) (p.cubs + 1) (omega arith) (omega arith) in
      let some = g.turn.delay in
      let one = g.room.beat in
      let m = time_mono p 1 p.delay some in
      let o = time_next p 0 in
      time_below p (z + (p.cubs + 1) * p.delay) b (omega arith)

  -- A cub that puts for its dead predecessor finds at its own next visit no record of another
  -- tenancy. That one would have been put before, so it would have been stopped, and the cub
  -- reached.
  stands_own : {c x : ℕ} {t : Tenancy} → r.Put c t x → c ≡ cub_of p (t.first + 1)
      → (k : Stands p r c t.slot.0 (t.first + 1) x) → k.holder.instance.0 ≢ t.instance.0 → ⊥
  stands_own {c} {x} {t} i next k ne =
      let by = k.by in
      let o = entered_held p r g.law k.entered in
      let ob = o.by in
      let high = o.high in
      let before : o.beat ≤ x = omega arith in
      let rise = windows_rise p g.room r g.law before i o.put k.slot in
      let z = g.law.states.inserts i in
      let above = z.above in
      let reads = z.tick.low in
      let some = g.room.beat in
      let d : due p k.holder.slot.0 (t.first + 1) ≡ due p t.slot.0 t.first + p.play = ap (λ v. due p v (t.first + 1)) k.slot ∙ due_next p t.slot.0 t.first in
      ⊎_elim
      (λ (q : k.holder.last < t.first). omega arith)
      (λ q.
      let end = end_of p r g o.put q.0.gone in
      let gone = not_released p r g k.holder o.beat q.0.beat end.0 end.1 k.entered in
      ⊎_elim
      (λ a. gone (k.since a.beat a.reached a.by (first_same_life r c x z.first a.beat)))
      (λ a.
      let late = a.late in
      let same = g.law.stops.gone_once q.0.gone a.gone in
      let ts = ap (λ v. time_of p v) same in
      let base = from_base p r g k.holder o.beat q.0.beat end.0 end.1 (t.first + 1) o.low (omega (arith, g.room)) in
      let over = over_before q.0.beat x (omega arith) in
      let h = record_reached p r g k.holder o.beat q.0.beat end.0 end.1
      k.entered k.life (inl next) base z.tick.came (omega arith) in
      let hb = h.by in
      gone (k.since h.beat h.reached (omega arith) (first_same_life r c x z.first h.beat)))
      q.1)
      (g.free x c o.cub o.beat t k.holder before i o.put k.slot ne)

  -- So it knows that visit.
  pub taken_over : (b : ℕ) → TakenOver p r b
  taken_over b c x t i who more before =
      let dead = dead_first p g.ok g.room r g.law who in
      let next = who.next ∙ sym (cub_ahead p t.first 1) in
      let first = next_first_life p r g.law c b dead.died.died next in
      ⊎_elim
      (λ w.
      let life = first_same_life r c b first x in
      inl (record { beat = x; entered = inr w; by = omega arith; life = life }))
      (λ k.
      let by = k.by in
      ⊎_elim
      (λ (same : k.holder.instance.0 ≡ t.instance.0).
      let o = entered_held p r g.law k.entered in
      let u = (one_put p r g i o.put same).1 in
      let entered = subst (λ (v : Tenancy). Entered r c v (t.first + 1) k.beat) u k.entered in
      let life = first_same_life r c b first k.beat in
      inl (record { beat = k.beat; entered = entered; by = omega arith; life = life }))
      (λ (ne : k.holder.instance.0 ≢ t.instance.0). absurd (stands_own i who.next k ne))
      (cases_eq k.holder.instance.0 t.instance.0))
      (who.second more)

  -- The cub of a second visit knows it: by the state of the Put, or since it put for the dead
  -- itself.
  kept_first : {c x b : ℕ} (t : Tenancy) → r.Put c t x → t.first < t.last
      → MayOpen p t (t.first + 1) b → r.Came (cub_of p (t.first + 1)) b
      → IsOpenTo p r (cub_of p (t.first + 1)) (due p t.slot.0 (t.first + 1)) b
      → Knows p r (cub_of p (t.first + 1)) t (t.first + 1) b
  kept_first {c} {x} {b} t i more may w let_in =
      let over = put_over p g.room r g.law i may in
      ⊎_elim
      (λ who.
      let to : cub_of p (t.first + 1) ≡ cub_of p (c + 1) = sym (ap (λ v. cub_of p (v + 1)) who.own ∙ cub_ahead p t.first 1) in
      let given = inr (refl, omega arith, refl) in
      arrived p r g (t.first + 1) who.sent to w (omega arith) given let_in)
      (λ who. subst (λ v. Knows p r v t (t.first + 1) b) who.next (taken_over b c x t i who more (omega arith)))
      (g.law.states.inserts i).who

  -- The cub of a later visit knows it: from the cub before, or if that one died, from the one
  -- before that.
  kept_next : {c x b : ℕ} (t : Tenancy) (n : ℕ) → r.Put c t x → t.first < n → n < t.last
      → MayOpen p t (n + 1) b → r.Came (cub_of p (n + 1)) b
      → IsOpenTo p r (cub_of p (n + 1)) (due p t.slot.0 (n + 1)) b
      → Knows p r (cub_of p (n + 1)) t (n + 1) b
  kept_next {c} {x} {b} t n i low more may w let_in =
      let d = due_next p t.slot.0 n in
      ⊎_elim
      (λ k. k)
      (λ h. beside p r g b c x h.2.beat n (n + 1) t i low (omega arith) (omega arith) h.2.died w (inr (refl, omega arith, refl)))
      (from_opening p r g t n 1 (n + 1) (n + 1) refl (inl refl)
      i low more may w (inl (refl, inl refl)) let_in)

  -- So the cub of each visit but the first knows it.
  kept_from : {c x b : ℕ} (t : Tenancy) (n : ℕ) → r.Put c t x → t.first ≤ n → n < t.last
      → MayOpen p t (n + 1) b → r.Came (cub_of p (n + 1)) b
      → IsOpenTo p r (cub_of p (n + 1)) (due p t.slot.0 (n + 1)) b
      → Knows p r (cub_of p (n + 1)) t (n + 1) b
  kept_from {c} {x} {b} t n i low more may w let_in = ⊎_elim
      (λ (e : t.first ≡ n). subst (λ (v : ℕ). v < t.last
      → MayOpen p t (v + 1) b → r.Came (cub_of p (v + 1)) b
      → IsOpenTo p r (cub_of p (v + 1)) (due p t.slot.0 (v + 1)) b
      → Knows p r (cub_of p (v + 1)) t (v + 1) b) e
      (λ more may w let_in. kept_first t i more may w let_in)
      more may w let_in)
      (λ (l : t.first < n). kept_next t n i l more may w let_in)
      (eq-or-lt_of_le low)

  -- The same, by the number of the visit.
  pub kept : (b : ℕ) → KeptAt p r b
  kept b c x n t i low high may w let_in =
      let e : (n - 1) + 1 ≡ n = omega arith in
      subst (λ (v : ℕ). MayOpen p t v b → r.Came (cub_of p v) b
      → IsOpenTo p r (cub_of p v) (due p t.slot.0 v) b → Knows p r (cub_of p v) t v b) e
      (λ may w let_in. kept_from t (n - 1) i (omega arith) (omega arith) may w let_in)
      may w let_in
