-- There is no conflict: a state that is got finds its places free, or its own records in them.
use Rattle.std.proofs.Common.{◌≡◌, ◌≢◌, ℕ, ◌+◌, ◌*◌, ◌<◌, ◌≤◌, sym, ap, subst, ◌∙◌, arith, ⊎_elim, inl, inr, eq-or-lt_of_le}
use Rattle.std.specs.Prelude.{◌⊎◌}
use Rattle.std.proofs.lemmas.Bool.{cases_lt, cases_eq}
use Rattle.tiger_base.specs.declared.tenancy.Tenancy.{Tenancy}
use Rattle.slot_plan.specs.declared.params.Params.{Params}
use Rattle.slot_plan.specs.Times.{time_of, due, cub_of}
use Rattle.slot_plan.proofs.Times.{time_next, time_mono, time_below, due_next, due_mono}
use Rattle.proof_schedule.specs.HoldLaws.{horizon}
use Rattle.proof_schedule.specs.Facts.{Facts, ReachedBy, Cut, Late, Entered, Takes, IsBeside, IsGiven, IsReleasedBy, PassedBy, IsSameLife}
use Rattle.proof_schedule.specs.StateLaws.{Found, Meeting}
use Rattle.proof_schedule.proofs.Soon.{sent_soon}
use Rattle.proof_schedule.proofs.Lives.{same_life_later, same_life_before, same_life_since_stop}
use Rattle.proof_schedule.proofs.Invariant.{Setting, NoConflictAt}
use Rattle.proof_schedule.proofs.Origins.{given_held, got_held, took_held, entered_held}
use Rattle.proof_schedule.proofs.Timely.{sent_in_time, which_of}
use Rattle.proof_schedule.proofs.Ahead.{is_ahead, is_known}
use Rattle.proof_schedule.proofs.Ends.{IsEnd, end_of, one_put}
use Rattle.proof_schedule.proofs.Reach.{from_base, ends, enters, reached_at}
use Rattle.proof_schedule.proofs.Room.{wave_after}
use Rattle.proof_schedule.proofs.Waves.{among, reached_after, passed_after, passed_later}

-- Of a tenancy t that was put and stopped.
module _ (p : Params) (r : Facts) (g : Setting p r) (t : Tenancy) (x z n : ℕ) (e : IsEnd p r t x z n) where
  -- No record of a stopped tenancy enters after a hold of its instance: the hold is longer than the
  -- wave.
  pub not_released : {c m y : ℕ} → Entered r c t m y → IsReleasedBy p r c t.instance.0 y → ⊥
  not_released {c} {m} {y} w k =
      let o = enters p r g t x z n e w in
      let a = wave_after p g.turn z y (p.cubs + 2) (omega arith) o.by in
      let over = k.over in
      let after = reached_after p r g t x z n e k.reached in
      let m = time_mono p z k.beat (omega arith) in
      let play = g.room.play in
      omega arith

  -- A cub that has a record has not been away since the stop.
  pub record_since : {c m y b : ℕ} → Entered r c t m y → IsSameLife r c y b → IsSameLife r c z b
  record_since {c} {m} {y} {b} w life =
      same_life_since_stop p r g.law b g.room w (enters p r g t x z n e w).within life

  -- It is reached by the end of the wave, if the record is of a visit of the wave.
  pub record_reached : {c m y b : ℕ} → Entered r c t m y → IsSameLife r c y b → IsBeside p c m
      → n ≤ m → r.Came c b → z + (p.cubs + 1) * p.delay ≤ b
      → ReachedBy r c t.instance.0 (z + (p.cubs + 1) * p.delay)
  record_reached {c} {m} {y} {b} w life to low tick late =
      let o = enters p r g t x z n e w in
      let until = z + (p.cubs + 1) * p.delay in
      let since = record_since w life in
      ⊎_elim
      (λ here.
      let came = subst (λ (v : ℕ). r.Came v b) here tick in
      let life = subst (λ (v : ℕ). IsSameLife r v z b) here since in
      subst (λ (v : ℕ). ReachedBy r v t.instance.0 until) (sym here)
      (reached_at p r g t x z n e m low o.within came life late))
      (λ next.
      let came = subst (λ (v : ℕ). r.Came v b) next tick in
      let life = subst (λ (v : ℕ). IsSameLife r v z b) next since in
      subst (λ (v : ℕ). ReachedBy r v t.instance.0 until) (sym next)
      (reached_at p r g t x z n e (m + 1) (omega arith) (o.next next) came life late))
      to

-- A state gives records of a visit to its cub and the next one alone.
pub beside_given : (p : Params) {c m n : ℕ} (t : Tenancy) → IsGiven p c t m n → IsBeside p c n
beside_given p {c} {m} {n} t given = ⊎_elim
    (λ q. ⊎_elim (λ a. inl (a ∙ ap (λ v. cub_of p v) (sym q.0))) (λ a. inr (a ∙ ap (λ v. cub_of p (v + 1)) (sym q.0))) q.1)
    (λ q. inl q.2)
    given

-- Tenancy u was put before beat y, and m is one of its visits.
record HolderPut (r : Facts) (u : Tenancy) (m y : ℕ) : Type 0 where
  cub : ℕ
  beat : ℕ
  put : r.Put cub u beat
  before : beat < y
  low : u.first ≤ m
  high : m ≤ u.last

module _ (p : Params) (r : Facts) (g : Setting p r) where
  -- A state gives no record of a lower visit.
  given_from : {c m n : ℕ} (t : Tenancy) → IsGiven p c t m n → m ≤ n
  given_from {c} {m} {n} t given = ⊎_elim (λ (a : n ≡ m). omega arith) (λ (a : n ≡ m + 1). omega arith) (which_of p g.room r g.law t given)

  -- A state is sent before its visit is due.
  sent_undue : {a k m y : ℕ} {t : Tenancy} → t.first ≤ m → r.Sent a k t m y
      → time_of p y < due p t.slot.0 m
  sent_undue {a} {k} {m} {y} {t} low w =
      let o = sent_in_time p g.room r g.law w in
      ⊎_elim
      (λ (q : t.first ≡ m). let h = o.first (sym q) in omega arith)
      (λ (q : t.first < m). let h = o.later q in omega arith)
      (eq-or-lt_of_le low)

  -- The record that a state finds has entered.
  found_entered : {c s m y from ahead sent : ℕ} (v : Found p r c s m y from ahead sent)
      → Entered r c v.holder m v.beat × (v.beat ≤ y)
  found_entered v = among r v.entered

  -- So its tenancy was put before.
  holder_put : {c s m y from ahead sent : ℕ} (v : Found p r c s m y from ahead sent)
      → HolderPut r v.holder m y
  holder_put {c} {s} {m} {y} {from} {ahead} {sent} v = ⊎_elim
      (λ a.
      let k = took_held p r g.law a.0 in
      let kb = k.before in
      let a1 = a.1 in
      record { cub = k.cub; beat = k.beat; put = k.put; before = omega arith; low = k.low; high = k.high })
      (λ a.
      let k = entered_held p r g.law (inr a.0) in
      let kb = k.by in
      let a1 = a.1 in
      record { cub = k.cub; beat = k.beat; put = k.put; before = omega arith; low = k.low; high = k.high })
      v.entered

  -- A tenancy v.holder has a place that a state of the newer tenancy t gives: it was stopped before
  -- t was put.
  module _ (t : Tenancy) (ct xt : ℕ) (it : r.Put ct t xt) (c m k y : ℕ) (got : r.Got c t m y) (low : t.first ≤ m) (given : IsGiven p c t m k) (q : Meeting p r c t m y)
      (v : Found p r c t.slot.0 k y q.from q.ahead q.beat) (xu z n : ℕ) (e : IsEnd p r v.holder xu z n) where
    -- An older tenancy that was stopped a play time before the state does not have the place: its
    -- cub was reached since.
    late_gone : time_of p z + p.play ≤ time_of p q.beat → ⊥
    late_gone late =
        let w = found_entered v in
        let later = q.later in
        let undue = sent_undue low q.sent in
        let from = given_from t given in
        let ds : due p v.holder.slot.0 m ≡ due p t.slot.0 m = ap (λ s. due p s m) v.slot in
        let mono = due_mono p v.holder.slot.0 m k from in
        let least = (entered_held p r g.law w.0).low in
        let room = g.room in
        let base = from_base p r g v.holder xu z n e k least (omega (arith, room)) in
        let a = wave_after p g.turn z (z + (p.cubs + 1) * p.delay) (p.cubs + 1) (omega arith) (omega arith) in
        let next = time_next p q.beat in
        let some = g.room.beat in
        let done = time_below p (z + (p.cubs + 1) * p.delay) (q.beat + 1) (omega arith) in
        let until = z + (p.cubs + 1) * p.delay in
        let since = record_since p r g v.holder xu z n e w.0 v.life in
        let life = same_life_later r c z until y (omega arith) since in
        let tick = g.law.run.got_ended {b = until} got (omega arith) life in
        let came = g.law.run.came tick.ticked in
        let then = same_life_before r c v.beat until y (omega arith) v.life in
        let to = beside_given p t given in
        let reached = record_reached p r g v.holder xu z n e w.0 then to base came (omega arith) in
        let by = reached.by in
        let after = reached_after p r g v.holder xu z n e
        {c = c} {y = reached.beat} reached.reached in
        let same = same_life_later r c z reached.beat y (omega arith) since in
        let over = v.since reached.beat reached.reached (omega arith) same in
        not_released p r g v.holder xu z n e w.0 over

    -- Nor does one have the place whose deschedule went ahead of the state, or whose visit is
    -- beyond the horizon. So no older tenancy has it.
    gone_from : xu ≤ xt → z < xt → Cut p r ct v.holder.instance.0 xt → ⊥
    gone_from le zx cut =
        let w = found_entered v in
        ⊎_elim
        (λ d.
        let since = record_since p r g v.holder xu z n e w.0 v.life in
        let after = passed_after p r g v.holder xu z n e (g.law.holds.told d.told).passed in
        let life = same_life_later r c z d.beat y (omega arith) since in
        let over = v.behind d.slot d.visit d.beat d.told d.by life in
        not_released p r g v.holder xu z n e w.0 over)
        (λ o. ⊎_elim
        (λ (far : horizon p (time_of p z) < due p v.holder.slot.0 m).
        let within = (enters p r g v.holder xu z n e w.0).within in
        let mono = due_mono p v.holder.slot.0 m k (given_from t given) in
        let u : ⊥ = omega arith in u)
        (λ (late : time_of p z + p.play ≤ time_of p q.beat). late_gone late)
        o)
        (is_ahead p r g v.holder xu z n e t ct xt it le v.slot zx cut q.sent)

  -- The other way round, a newer tenancy u has the place, and t, whose state comes, was stopped
  -- before u was put.
  module _ (t : Tenancy) (xt z n : ℕ) (e : IsEnd p r t xt z n) where
    -- If a newer tenancy's record is in the place, the cub has passed on the deschedule of the one
    -- whose state comes.
    newer : {c m k y yw cu xu : ℕ} {u : Tenancy} → IsGiven p c t m k → Meeting p r c t m y
        → Entered r c u k yw → r.Put cu u xu → xt ≤ xu → t.slot.0 ≡ u.slot.0 → z < xu
        → Cut p r cu t.instance.0 xu → PassedBy r c t.instance.0 yw ⊎ Late p r t.instance.0 yw
    newer {c} {m} {k} {y} {yw} {cu} {xu} {u} given q w iu le sl zx cut = ⊎_elim
        (λ d. inl d)
        (λ o. ⊎_elim
        (λ (far : horizon p (time_of p z) < due p t.slot.0 k).
        let until = ends p r g t xt z n e q.sent in
        let a = wave_after p g.turn z q.beat (p.cubs + 1) (omega arith) until in
        let soon = sent_soon p g.room r g.law q.sent in
        let d = due_next p t.slot.0 m in
        let near : due p t.slot.0 k ≤ due p t.slot.0 m + p.play = ⊎_elim
        (λ (b : k ≡ m).
        let db : due p t.slot.0 k ≡ due p t.slot.0 m = ap (λ v. due p t.slot.0 v) b in
        omega arith)
        (λ (b : k ≡ m + 1).
        let db : due p t.slot.0 k ≡ due p t.slot.0 (m + 1) = ap (λ v. due p t.slot.0 v) b in
        omega arith)
        (which_of p g.room r g.law t given) in
        absurd (omega arith))
        (λ (late : time_of p z + p.play ≤ time_of p yw). inr (record { beat = z; gone = e.gone; late = late }))
        o)
        (is_known p r g t xt z n e u cu xu iu le sl zx cut w)

  -- What was cut or passed by a beat is so by each later one.
  until : {c v : ℕ} (y d : ℕ) → y ≤ d → PassedBy r c v y ⊎ Late p r v y
      → PassedBy r c v d ⊎ Late p r v d
  until y d le k = ⊎_elim
      (λ a. inl (passed_later p r g y d le a))
      (λ a.
      let late = a.late in
      let m = time_mono p y d le in
      inr (record { beat = a.beat; gone = a.gone; late = omega arith }))
      k

  -- So who is in the place is of the state's own tenancy; or the state's instance is cut.
  found_own : {c m k y : ℕ} {t : Tenancy} → r.Got c t m y → t.first ≤ m → IsGiven p c t m k
      → t.first ≤ k → k ≤ t.last
      → (q : Meeting p r c t m y) → Found p r c t.slot.0 k y q.from q.ahead q.beat
      → Takes p r c t k y
  found_own {c} {m} {k} {y} {t} got least given low high q v =
      let o = got_held p r g.law got in
      let ob = o.before in
      let w = found_entered v in
      let wb = w.1 in
      let held = holder_put v in
      let before = held.before in
      let hl = held.low in
      let hh = held.high in
      ⊎_elim
      (λ (same : v.holder.instance.0 ≡ t.instance.0).
      let one = (one_put p r g o.put held.put same).1 in
      let entered = subst (λ (u : Tenancy). Entered r c u k v.beat) one w.0 in
      inl (record { beat = v.beat; entered = entered; by = wb; life = v.life }))
      (λ (ne : v.holder.instance.0 ≢ t.instance.0). ⊎_elim
      (λ (l : o.beat < held.beat). ⊎_elim
      (λ (z : t.last < v.holder.first). absurd (omega arith))
      (λ z.
      let end = end_of p r g o.put z.0.gone in
      let zb = z.0.before in
      inr (until v.beat y wb (newer t o.beat z.0.beat end.0 end.1 given q w.0 held.put (omega arith) (sym v.slot) zb z.1)))
      (g.free held.beat held.cub o.cub o.beat v.holder t (omega arith) held.put o.put (sym v.slot) (λ a. ne (sym a))))
      (λ (l : held.beat ≤ o.beat). ⊎_elim
      (λ (z : v.holder.last < t.first). absurd (omega arith))
      (λ z.
      let end = end_of p r g held.put z.0.gone in
      let zb = z.0.before in
      absurd (gone_from t o.cub o.beat o.put c m k y got least given q v held.beat z.0.beat end.0 end.1 l zb z.1))
      (g.free o.beat o.cub held.cub held.beat t v.holder l o.put held.put v.slot ne))
      (cases_lt o.beat held.beat))
      (cases_eq v.holder.instance.0 t.instance.0)

  -- So there is no conflict in any beat.
  pub no_conflict : (y : ℕ) → NoConflictAt p r y
  no_conflict y c m k t got given let_in =
      let o = got_held p r g.law got in
      let in_tenancy = given_held p r g.law t o.low o.high given in
      let q = g.law.states.meets got o.low o.high in
      ⊎_elim
      (λ v. found_own got o.low given in_tenancy.0 in_tenancy.1 q v)
      (λ a. inr (inl a))
      (q.places k given let_in)
