-- A cub that is believed dead has died, and an instance that is descheduled was stopped.
use Rattle.std.proofs.Common.{◌≡◌, refl, sym, subst, ℕ, ◌+◌, ◌-◌, ◌*◌, ◌/◌, ◌%◌, ◌<◌, ◌≤◌, ◌∙◌, arith, ⊎_elim, inl, inr}
use Rattle.std.specs.Prelude.{◌⊎◌}
use Rattle.std.proofs.lemmas.Bool.{cases_lt}
use Rattle.std.proofs.lemmas.Nat.{mod_below}
use Rattle.std.proofs.Math.Nat.{div-add-mod, mul-mod_right}
use Rattle.tiger_base.specs.declared.tenancy.Tenancy.{Tenancy}
use Rattle.slot_plan.specs.declared.params.Params.{Params}
use Rattle.slot_plan.specs.Conditions.{IsPlan}
use Rattle.slot_plan.specs.Times.{time_of, cub_of}
use Rattle.slot_plan.proofs.Times.{time_add, time_next, time_mono, time_below, product_le, cub_below, cub_ahead}
use Rattle.proof_schedule.specs.Facts.{Facts, Cut, GoneBefore, DiedLongBefore, IsFirstLife, IsSameLife}
use Rattle.proof_schedule.specs.LinkLaws.{HeardIn}
use Rattle.proof_schedule.specs.WatchLaws.{IsSilence}
use Rattle.proof_schedule.specs.StateLaws.{PutsOwn, PutsForDead}
use Rattle.proof_schedule.specs.Laws.{Laws}
use Rattle.proof_schedule.proofs.Beats.{by_beats}
use Rattle.proof_schedule.proofs.Room.{Room}

-- The heartbeat's interval in time.
time_heart : (p : Params) → time_of p p.heart ≡ p.heart * p.beat
unfolding time_of
time_heart p = refl

module _ (p : Params) (ok : IsPlan p) (room : Room p) (r : Facts) (law : Laws p r) where
  -- A deschedule comes from the controller, or from a cub that was reached in a lower beat.
  abbrev CameFrom : ℕ → ℕ → Type 0
  CameFrom v y = GoneBefore r v y ⊎ ((a x : ℕ) × r.Reached a v x × (x < y))

  came_from : {c v y : ℕ} → r.Reached c v y → CameFrom v y
  came_from h = ⊎_elim
      (λ k. ⊎_elim
      (λ d.
      let later = d.later in
      inl (record { beat = d.beat; gone = law.stops.gone_at d.stopped; before = later }))
      (λ d.
      let o = (law.holds.pass (law.holds.told d.told).passed).reached in
      let by = o.by in
      let later = d.later in
      inr (d.from, o.beat, o.reached, omega arith))
      (law.links.tag_from k.2))
      (λ k.
      let d = law.links.bare_from k in
      let later = d.later in
      inl (record { beat = d.beat; gone = law.stops.gone_waiting d.stopped; before = later }))
      (law.holds.reached h)

  -- Each instance of which a deschedule comes in beat y was stopped before.
  abbrev AllGone : ℕ → Type 0
  AllGone y = (c v : ℕ) → r.Reached c v y → GoneBefore r v y

  -- It was stopped by the controller at once, or the sender was reached in a lower beat.
  gone_step : (b : ℕ) → ((y : ℕ) → y < b → AllGone y) → AllGone b
  gone_step b below c v g = ⊎_elim
      (λ k. k)
      (λ k.
      let o = below k.1 k.3 k.0 v k.2 in
      let ob = o.before in
      let l = k.3 in
      record { beat = o.beat; gone = o.gone; before = omega arith })
      (came_from g)

  -- So whatever is descheduled was stopped in a lower beat: by induction on the beat.
  pub reached_gone : (c v y : ℕ) → r.Reached c v y → GoneBefore r v y
  reached_gone c v y g = by_beats AllGone gone_step y c v g

  -- The last beat of a heartbeat that is not after a given beat.
  last_beat : (y : ℕ) → (h : ℕ) × (h ≤ y) × (y < h + p.heart) × (h % p.heart ≡ 0)
  last_beat y =
      let whole = div-add-mod y p.heart in
      let part = mod_below y p.heart (omega (arith, room)) in
      (p.heart * (y / p.heart), omega arith, omega arith, mul-mod_right p.heart (y / p.heart))

  -- A heartbeat that was heard keeps a cub from belief for as long as the next one may take.
  heard_late : {c b h : ℕ} → IsSilence p r c b → b ≤ h + p.heart + p.delay + 1 → h + p.delay ≤ b
      → HeardIn r c h (h + p.delay) → ⊥
  heard_late {c} {b} {h} s near far k =
      let after = k.after in
      let by = k.by in
      let since = s.since k.beat k.heard (omega arith) in
      let high = s.tick.high in
      let low = time_mono p (h + 1) k.beat (omega arith) in
      let top = time_mono p b (h + 1 + p.heart + p.delay) (omega arith) in
      let t1 = time_add p (h + 1 + p.heart) p.delay in
      let t2 = time_add p (h + 1) p.heart in
      let t3 = time_heart p in
      let silence = room.silence in
      omega arith

  -- Before the first heartbeat can be heard nobody is believed dead.
  not_at_first : {c b : ℕ} → IsSilence p r c b → b ≤ p.delay + 1 → ⊥
  not_at_first {c} {b} s early =
      let long = s.long in
      let high = s.tick.high in
      let top = time_mono p b (p.delay + 1) early in
      let t1 = time_next p p.delay in
      let one = product_le 1 p.beat p.heart p.beat room.heart (omega arith) in
      let silence = room.silence in
      omega arith

  -- A cub that has come back believes its predecessor dead only after a silence since its return.
  -- So it was back when the last heartbeat was sent that must have come.
  same_life_since_heartbeat : {c b h : ℕ} → IsSilence p r c b → b < h + p.heart + p.delay + 2
      → IsSameLife r c h b
  same_life_since_heartbeat {c} {b} {h} s near = λ w back le.
      let over = s.back w back le in
      let high = s.tick.high in
      let t1 = time_add p (w + p.heart) p.delay in
      let t2 = time_add p w p.heart in
      let t3 = time_heart p in
      let silence = room.silence in
      let l = time_below p (w + p.heart + p.delay) b (omega arith) in
      omega arith

  -- So a cub that is believed dead has died, so long ago that all it sent has come: else it would
  -- have sent a heartbeat that was heard.
  pub believed_died : {c b : ℕ} (d : ℕ) → d < p.cubs → c ≡ cub_of p (d + 1) → r.Believed c b
      → DiedLongBefore p r d b
  believed_died {c} {b} d small next w =
      let s = law.watch.silent w in
      ⊎_elim
      (λ (l : b < p.delay + 2). absurd (not_at_first s (omega arith)))
      (λ (g : p.delay + 2 ≤ b).
      let h = last_beat (b - (p.delay + 2)) in
      let h1 = h.1 in
      let h2 = h.2 in
      let far : h.0 + p.delay ≤ b = omega arith in
      ⊎_elim
      (λ k.
      let sent = law.watch.beats k.ticked k.first h.3 in
      let life = same_life_since_heartbeat s (omega arith) in
      absurd (heard_late s (omega arith) far (law.links.heard c b sent next s.tick.came life far)))
      (λ k. record { until = h.0; died = k; long = omega arith })
      (law.run.up s.tick.came (omega arith) small))
      (cases_lt b (p.delay + 2))

  -- A cub that believes its predecessor dead has got all states that this one sent in its first
  -- life.
  pub all_heard : {a k m x c b : ℕ} {t : Tenancy} (d : ℕ) → a ≡ d → d < p.cubs
      → c ≡ cub_of p (d + 1) → r.Sent a k t m x → IsFirstLife r a x → r.Believed c b
      → x + p.delay < b
  all_heard {a} {k} {m} {x} {c} {b} {t} d same small next s first w =
      let o = believed_died d small next w in
      let long = o.long in
      let by = o.died.by in
      let died = subst (λ v. r.Died v o.died.beat) (sym same) o.died.died in
      let before : x ≤ o.died.beat = ⊎_elim
      (λ i. law.run.last (law.states.inserts i.put).tick.came died first)
      (λ f. law.run.last f.tick.came died first)
      (law.states.sends s) in
      omega arith

  -- So a Put for a dead cub is made long after that cub has died.
  pub dead_first : {c x : ℕ} {t : Tenancy} → PutsForDead p r c t x
      → DiedLongBefore p r (cub_of p t.first) x
  dead_first {c} {x} {t} w =
      let k = w.believed in
      let by = k.by in
      let next = w.next ∙ sym (cub_ahead p t.first 1) in
      let o = believed_died (cub_of p t.first) (cub_below p t.first ok.ranges) next k.believed in
      let long = o.long in
      record { until = o.until; died = o.died; long = omega arith }

  -- And the state of an own Put has come to the next cub, if that believes the one that put dead.
  pub put_heard : {c d x b : ℕ} {t : Tenancy} → PutsOwn p r d t x → IsFirstLife r d x
      → c ≡ cub_of p (t.first + 1) → r.Believed c b → x + p.delay < b
  put_heard {c} {d} {x} {b} {t} own first next w =
      let small = cub_below p t.first ok.ranges in
      let to = next ∙ sym (cub_ahead p t.first 1) in
      all_heard (cub_of p t.first) own.own small to own.sent first w

  -- An instance that is cut somewhere was stopped in a lower beat.
  pub cut_gone : {c v b : ℕ} → Cut p r c v b → GoneBefore r v b
  cut_gone {c} {v} {b} w = ⊎_elim
      (λ a.
      let k = reached_gone c v a.beat a.reached in
      let kb = k.before in
      let ab = a.by in
      record { beat = k.beat; gone = k.gone; before = omega arith })
      (λ a.
      let l = a.late in
      record { beat = a.beat; gone = a.gone; before = time_below p a.beat b (omega (arith, room)) })
      w
