-- Ahead of a newer tenancy's states goes the deschedule of the older one that had its slot.
use Rattle.std.proofs.Common.{◌≡◌, ℕ, ◌+◌, ◌-◌, ◌*◌, ◌<◌, ◌≤◌, refl, sym, ap, subst, ◌∙◌, arith, ⊎_elim, inl, inr, eq-or-lt_of_le}
use Rattle.std.specs.Prelude.{◌⊎◌}
use Rattle.std.proofs.lemmas.Bool.{cases_lt}
use Rattle.tiger_base.specs.declared.tenancy.Tenancy.{Tenancy}
use Rattle.slot_plan.specs.declared.params.Params.{Params}
use Rattle.slot_plan.specs.Times.{time_of, due, cub_of}
use Rattle.slot_plan.proofs.Times.{time_mono, due_next, due_add, due_mono, cub_apart, same_cub}
use Rattle.proof_schedule.specs.HoldLaws.{horizon}
use Rattle.proof_schedule.specs.Facts.{Facts, BelievedBy, Cut, Entered, PassedBy, IsFirstLife, IsSameLife}
use Rattle.proof_schedule.specs.StateLaws.{SendsFirst}
use Rattle.proof_schedule.proofs.Beats.{by_beats}
use Rattle.proof_schedule.proofs.Soon.{put_over, windows_rise}
use Rattle.proof_schedule.proofs.Origins.{got_held, entered_held}
use Rattle.proof_schedule.proofs.Lives.{first_same_life, first_life_before, same_life_later, same_life_or_return, entered_late}
use Rattle.proof_schedule.proofs.Timely.{which_of}
use Rattle.proof_schedule.proofs.Ends.{IsEnd, WasWaiting, one_put}
use Rattle.proof_schedule.proofs.Reach.{near_base, wave}
use Rattle.proof_schedule.proofs.Invariant.{Setting}
use Rattle.proof_schedule.proofs.Waves.{Wave, passed_later, tag_passed, passed_after, bare, bare_first, second_by_state, has_second}

-- Of a tenancy t that was put and stopped.
module _ (p : Params) (r : Facts) (g : Setting p r) (t : Tenancy) (x z n : ℕ) (e : IsEnd p r t x z n) where
  -- A cub that was reached by beat b of its first life has passed the deschedule on by then, if the
  -- second cub has heard of the Put.
  pub reached_passed : {c y b : ℕ} → r.Reached c t.instance.0 y → y ≤ b
      → r.Came c b → IsFirstLife r c b
      → (WasWaiting p r t x z n → c ≡ cub_of p (n + 1) → (x + p.delay < b) ⊎ BelievedBy r c b)
      → PassedBy r c t.instance.0 b
  reached_passed {c} {y} {b} h le w first late = ⊎_elim
      (λ k. passed_later p r g y b le (tag_passed p r g (record { beat = y; got = k.2; by = omega arith })))
      (λ k.
      let o = bare p r g t x z n e k in
      ⊎_elim
      (λ here.
      let then = first_life_before r c b y le first in
      passed_later p r g y b le (bare_first p r g t x z n e k then o.waiting here o.soon))
      (λ here.
      let heard = late o.waiting here in
      let has = has_second p r g t x z n e here w first o.waiting b (omega arith) heard in
      second_by_state p r g t x z n e here w first (omega arith) o.waiting k le has)
      o.to)
      (g.law.holds.reached h)

-- Cub a told the k-th cub after it of the stop of instance v by beat b.
pub record ToldBy (r : Facts) (a k v b : ℕ) : Type 0 where
  pub slot : ℕ
  pub visit : ℕ
  pub beat : ℕ
  pub told : r.Told a k v slot visit beat
  pub by : beat ≤ b

-- Tenancy u was stopped before t was put in its slot, which found u's instance cut.
module _ (p : Params) (r : Facts) (g : Setting p r) (u : Tenancy) (xu z n : ℕ) (e : IsEnd p r u xu z n)
    (t : Tenancy) (ct xt : ℕ) (it : r.Put ct t xt) (le : xu ≤ xt) (sl : u.slot.0 ≡ t.slot.0) (zx : z < xt) (cut : Cut p r ct u.instance.0 xt) where
  -- Visits of the two tenancies are due at the same times, since they are of one slot.
  same_due : (m : ℕ) → due p u.slot.0 m ≡ due p t.slot.0 m
  same_due m = ap (λ v. due p v m) sl

  -- The newer tenancy does not begin before the older one.
  firsts : u.first ≤ t.first
  firsts = windows_rise p g.room r g.law le it e.put sl

  -- It begins at a visit that is due more than two skews after the stop.
  first_late : time_of p z + 2 * p.skew < due p u.slot.0 t.first
  first_late =
      let w = g.law.states.inserts it in
      let above = w.above in
      let low = w.tick.low in
      let m = time_mono p z xt (omega arith) in
      let d = same_due t.first in
      let room = g.room in
      omega (arith, room)

  -- So it begins at the first visit of the wave, or a later one.
  pub base_first : n ≤ t.first
  base_first = ⊎_elim
      (λ (q : due p u.slot.0 n ≤ time_of p z + p.skew). ⊎_elim
      (λ (l : t.first < n).
      let m = due_mono p u.slot.0 t.first n (omega arith) in
      let late = first_late in
      absurd (omega arith))
      (λ (l : n ≤ t.first). l)
      (cases_lt t.first n))
      (λ q. let q0 = q.0 in let h = firsts in omega arith)
      e.begins

  -- A pass of the older one's deschedule, at the cub of a visit of the newer one, is at that visit:
  -- nobody is told of a visit that is a turn ahead of it.
  place : {c s q y : ℕ} (m : ℕ) → t.first ≤ m → due p u.slot.0 m ≤ horizon p (time_of p z)
      → Wave p r g u xu z n e c s q y → cub_of p m ≡ cub_of p q → q ≡ m
  place {c} {s} {q} {y} m low h o same =
      let base = base_first in
      let back : n + (m - n) ≡ m = omega arith in
      let hd : due p u.slot.0 (n + (m - n)) ≤ horizon p (time_of p z) = (let d = ap (λ v. due p u.slot.0 v) back in omega arith) in
      let turn = near_base p r g u xu z n e (m - n) hd in
      let least = o.low in
      let top = o.top in
      let cubs = g.turn.cubs in
      ⊎_elim
      (λ (l : q < m). same_cub p q m (sym same) (omega arith) (omega arith))
      (λ (l : m ≤ q). ⊎_elim
      (λ (a : q < m + p.cubs). sym (same_cub p m q same l a))
      (λ (a : m + p.cubs ≤ q).
      let far = due_mono p u.slot.0 (m + p.cubs) q a in
      let add = due_add p u.slot.0 m p.cubs in
      let mono = due_mono p u.slot.0 t.first m low in
      let late = first_late in
      let round = g.turn.turn in
      absurd (⊎_elim
      (λ k. ⊎_elim
      (λ (b : q ≡ n). let none : ⊥ = omega arith in none)
      (λ (b : q ≡ n + 1). let none : ⊥ = omega arith in none)
      k)
      (λ k. let none : ⊥ = omega arith in none)
      o.soon))
      (cases_lt q (m + p.cubs)))
      (cases_lt q m)

  -- Cub c has passed the older one's deschedule on by beat b; or visit m is beyond the horizon, or
  -- the stop is long ago.
  abbrev pub Known : ℕ → ℕ → ℕ → Type 0
  Known c m b = PassedBy r c u.instance.0 b ⊎ ((horizon p (time_of p z) < due p u.slot.0 m) ⊎ (time_of p z + p.play ≤ time_of p b))

  -- Cub a has told the k-th cub after it by beat b; or visit m is beyond the horizon, or the stop
  -- is long ago.
  abbrev pub IsAhead : ℕ → ℕ → ℕ → ℕ → Type 0
  IsAhead a k m b = ToldBy r a k u.instance.0 b ⊎ ((horizon p (time_of p z) < due p u.slot.0 m) ⊎ (time_of p z + p.play ≤ time_of p b))

  -- It has, of each state of the newer tenancy that it sends in beat b.
  abbrev AheadAt : ℕ → Type 0
  AheadAt b = (a k m : ℕ) → r.Sent a k t m b → IsAhead a k m b

  -- What is known of a visit and a beat is known of later ones.
  known_on : {c m b : ℕ} (q d : ℕ) → m ≤ q → b ≤ d → Known c m b → Known c q d
  known_on {c} {m} {b} q d le1 le2 k = ⊎_elim
      (λ w. inl (passed_later p r g b d le2 w))
      (λ o. inr (⊎_elim
      (λ (w : horizon p (time_of p z) < due p u.slot.0 m). let mono = due_mono p u.slot.0 m q le1 in inl (omega arith))
      (λ (w : time_of p z + p.play ≤ time_of p b). let mono = time_mono p b d le2 in inr (omega arith))
      o))
      k

  -- If the older one's deschedule reached the cub that puts the newer one, that cub has passed it
  -- on: if it puts for a dead cub it has heard of the older one's Put.
  put_passed : {y : ℕ} → r.Reached ct u.instance.0 y → y ≤ xt → PassedBy r ct u.instance.0 xt
  put_passed {y} h by =
      let w = g.law.states.inserts it in
      let below = w.below in
      let high = w.tick.high in
      let rise = firsts in
      let cubs = g.turn.cubs in
      let d = same_due t.first in
      reached_passed p r g u xu z n e h by w.tick.came w.first
      (λ wait next. ⊎_elim
      (λ (a : u.first ≡ t.first). ⊎_elim
      (λ o. absurd (cub_apart p n 1 (omega arith) (omega arith) (ap (λ v. cub_of p v) (wait.base ∙ a) ∙ sym o.own ∙ next)))
      (λ o. inr o.believed)
      w.who)
      (λ (a : u.first < t.first).
      let mono = due_mono p u.slot.0 (u.first + 1) t.first (omega arith) in
      inl (put_over p g.room r g.law e.put (omega arith)))
      (eq-or-lt_of_le rise))

  -- So a cub that puts the newer tenancy has passed the older one's deschedule on.
  put_known : {c y : ℕ} → r.Put c t y → Known c t.first y
  put_known {c} {y} i =
      let o = one_put p r g it i refl in
      subst (λ (v : ℕ). Known v t.first y) (sym o.0) (subst (λ (v : ℕ). Known ct t.first v) (sym o.2) (⊎_elim
      (λ w. inl (put_passed w.reached w.by))
      (λ w.
      let late = w.late in
      let same = g.law.stops.gone_once e.gone w.gone in
      let tb = ap (λ v. time_of p v) same in
      inr (inr (omega arith)))
      cut))

  -- A cub that takes a record of the newer one has passed it on, since the deschedule went ahead of
  -- the state. If the cub came back between the two, the record is beyond the horizon.
  took_known : (b : ℕ) → ((y : ℕ) → y < b → AheadAt y) → {c m y : ℕ} → y ≤ b → r.Took c t m y
      → Known c m y
  took_known b ahead {c} {m} {y} h w =
      let k = g.law.states.taken w in
      let o = got_held p r g.law k.got in
      let q = g.law.states.meets k.got o.low o.high in
      let later = q.later in
      let from : k.visit ≤ m = ⊎_elim (λ (a : m ≡ k.visit). omega arith) (λ (a : m ≡ k.visit + 1). omega arith) (which_of p g.room r g.law t k.given) in
      ⊎_elim
      (λ d. ⊎_elim
      (λ life. inl (tag_passed p r g (q.tags u.instance.0 d.slot d.visit d.beat d.told d.by life)))
      (λ k.
      let l = k.after in
      let kb = k.by in
      let after = passed_after p r g u xu z n e (g.law.holds.told d.told).passed in
      let late = entered_late p r g.law k.beat (inl w) k.returned kb in
      let tm = time_mono p z k.beat (omega arith) in
      let dm = same_due m in
      let play = g.room.play in
      inr (inl (omega arith)))
      (same_life_or_return p r g.law c d.beat y))
      (λ d. known_on m y from (omega arith) (inr d))
      (ahead q.beat (omega arith) q.from q.ahead k.visit q.sent)

  -- So each cub with a record of the newer one has passed it on.
  entered_known : (b : ℕ) → ((y : ℕ) → y < b → AheadAt y) → {c m y : ℕ} → y ≤ b → Entered r c t m y
      → Known c m y
  entered_known b ahead {c} {m} {y} h w = ⊎_elim
      (λ a. took_known b ahead h a)
      (λ a.
      let low = (entered_held p r g.law (inr a)).low in
      known_on m y low (omega arith) (put_known (g.law.states.inserted a).0))
      w

  -- A cub that has passed it on has told both next cubs, from the visit that is its own, if it has
  -- not been away since the stop.
  told_on : {a b d k : ℕ} (q : ℕ) → r.Came a d → IsSameLife r a z d → b ≤ d
      → a ≡ cub_of p q → (k ≡ 1) ⊎ (k ≡ 2)
      → t.first ≤ q → due p u.slot.0 (q + 1) ≤ horizon p (time_of p z) → PassedBy r a u.instance.0 b
      → ToldBy r a k u.instance.0 b
  told_on {a} {b} {d} {k} q came life le own which low h v =
      let by = v.by in
      let o = wave p r g u xu z n e v.passed in
      let next = due_next p u.slot.0 q in
      let at = place q low (omega arith) o (sym own ∙ (g.law.holds.pass v.passed).at) in
      let after = passed_after p r g u xu z n e v.passed in
      let tm = time_mono p z v.beat (omega arith) in
      let dq : due p v.slot (v.visit + 1) ≡ due p u.slot.0 (q + 1) = ap (λ y. due p y (v.visit + 1)) o.slot ∙ ap (λ y. due p u.slot.0 (y + 1)) at in
      let since = same_life_later r a z v.beat d (omega arith) life in
      let out = g.law.holds.passes v.passed came (omega arith) since (omega arith) in
      record {
        slot = v.slot;
        visit = v.visit + 1;
        beat = v.beat;
        told = ⊎_elim
            (λ (w : k ≡ 1). subst (λ (y : ℕ). r.Told a y u.instance.0 v.slot (v.visit + 1) v.beat) (sym w) out.0)
            (λ (w : k ≡ 2). subst (λ (y : ℕ). r.Told a y u.instance.0 v.slot (v.visit + 1) v.beat) (sym w) out.1)
            which;
        by = by;
      }

  -- So the deschedule goes ahead of the state of the newer one's Put.
  put_ahead : {a k m b : ℕ} → SendsFirst p r a k t m b → time_of p b < time_of p z + p.play
      → IsAhead a k m b
  put_ahead {a} {k} {m} {b} i early =
      let w = g.law.states.inserts i.put in
      let below = w.below in
      let high = w.tick.high in
      let d = same_due t.first in
      let dn = due_next p u.slot.0 t.first in
      let dm : due p u.slot.0 m ≡ due p u.slot.0 t.first = ap (λ v. due p u.slot.0 v) i.first in
      let room = g.room in
      ⊎_elim
      (λ v.
      let life = first_same_life r a b w.first z in
      inl (told_on t.first w.tick.came life (omega arith)
      i.own (inl i.near) (omega arith) (omega (arith, room)) v))
      (λ v. inr (⊎_elim (λ (w : horizon p (time_of p z) < due p u.slot.0 t.first). inl (omega arith)) (λ w. inr w) v))
      (put_known i.put)

  -- It goes ahead of each state that is forwarded, too. If the forwarding cub came back after the
  -- stop, its record is beyond the horizon.
  ahead_step : (b : ℕ) → ((y : ℕ) → y < b → AheadAt y) → AheadAt b
  ahead_step b ahead a k m w = ⊎_elim
      (λ (far : horizon p (time_of p z) < due p u.slot.0 m). inr (inl far))
      (λ (near : due p u.slot.0 m ≤ horizon p (time_of p z)). ⊎_elim
      (λ (early : time_of p b < time_of p z + p.play). ⊎_elim
      (λ i. put_ahead i early)
      (λ o.
      let by = o.by in
      let next = o.next in
      let low = (entered_held p r g.law o.entered).low in
      let dm : due p u.slot.0 m ≡ due p u.slot.0 (o.visit + 1) = ap (λ v. due p u.slot.0 v) next in
      ⊎_elim
      (λ v. ⊎_elim
      (λ life.
      let which = g.law.states.ahead w in
      inl (told_on o.visit o.tick.came life (omega arith) o.own which low (omega arith) v))
      (λ k.
      let l = k.after in
      let kb = k.by in
      let same = o.life k.beat k.returned kb in
      let late = entered_late p r g.law k.beat o.entered k.returned same in
      let tm = time_mono p z k.beat (omega arith) in
      let dn = due_next p u.slot.0 o.visit in
      let dv = same_due o.visit in
      let play = g.room.play in
      inr (inl (omega arith)))
      (same_life_or_return p r g.law a z b))
      (λ v. inr v)
      (known_on m b (omega arith) by (entered_known b ahead by o.entered)))
      (g.law.states.sends w))
      (λ (late : time_of p z + p.play ≤ time_of p b). inr (inr late))
      (cases_lt (time_of p b) (time_of p z + p.play)))
      (cases_lt (horizon p (time_of p z)) (due p u.slot.0 m))

  -- So by induction on the beat it goes ahead of each state of the newer tenancy.
  pub is_ahead : {a k m b : ℕ} → r.Sent a k t m b → IsAhead a k m b
  is_ahead {a} {k} {m} {b} w = by_beats AheadAt ahead_step b a k m w

  -- And each cub that has a record of the newer one has passed it on.
  pub is_known : {c m y : ℕ} → Entered r c t m y → Known c m y
  is_known {c} {m} {y} w = entered_known y (λ b l. by_beats AheadAt ahead_step b) (omega arith) w
