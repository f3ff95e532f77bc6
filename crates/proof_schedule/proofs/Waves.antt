-- How the deschedule of a tenancy sets out: the first two cubs pass it on, each once.
use Rattle.std.proofs.Common.{◌≡◌, ℕ, ◌+◌, ◌-◌, ◌*◌, ◌<◌, ◌≤◌, refl, sym, ap, subst, ◌∙◌, arith, ⊎_elim, inl, inr, lt_of_mul-lt-mul_right, mul-le-mul_right}
use Rattle.std.specs.Prelude.{◌⊎◌}
use Rattle.std.proofs.lemmas.Bool.{cases_lt}
use Rattle.tiger_base.specs.declared.tenancy.Tenancy.{Tenancy}
use Rattle.slot_plan.specs.declared.params.Params.{Params}
use Rattle.slot_plan.specs.Times.{time_of, due, cub_of}
use Rattle.slot_plan.proofs.Times.{time_mono, due_add, cub_ahead, same_cub}
use Rattle.proof_schedule.specs.Facts.{Facts, ReachedBy, BelievedBy, Entered, EnteredAmong, IsBeside, PassedBy, GotTagBy, IsFirstLife, IsSameLife}
use Rattle.proof_schedule.specs.HoldLaws.{IsStray}
use Rattle.proof_schedule.proofs.Origins.{entered_held}
use Rattle.proof_schedule.proofs.Room.{way, soon_after}
use Rattle.proof_schedule.proofs.Starts.{put_first}
use Rattle.proof_schedule.proofs.Lives.{first_same_life, first_life_before, first_is_open}
use Rattle.proof_schedule.proofs.Silence.{reached_gone, dead_first, put_heard}
use Rattle.proof_schedule.proofs.Ends.{IsEnd, WasWaiting, disk_is, first_cub, second_cub, one_put}
use Rattle.proof_schedule.proofs.Invariant.{Setting}
use Rattle.proof_schedule.proofs.Room.{wave_after}

-- A record that a message finds has entered.
pub among : (r : Facts) {c n b y : ℕ} {t : Tenancy} → EnteredAmong r c t n b y
    → Entered r c t n b × (b ≤ y)
among r w = ⊎_elim (λ a. (inl a.0, a.1)) (λ a. let l = a.1 in (inr a.0, omega arith)) w

-- What holds of each deschedule.
module _ (p : Params) (r : Facts) (g : Setting p r) where
  -- What was passed on by a beat was by each later one.
  pub passed_later : {c v : ℕ} (b d : ℕ) → b ≤ d → PassedBy r c v b → PassedBy r c v d
  passed_later b d le k = let by = k.by in record { slot = k.slot; visit = k.visit; beat = k.beat; passed = k.passed; by = omega arith }

  -- A tag comes to its visit's cub or the next one: the controller and the cubs send it nowhere
  -- else.
  tag_beside : {c v s q y : ℕ} → r.GotTag c v s q y → IsBeside p c q
  tag_beside {c} {v} {s} {q} {y} h = ⊎_elim
      (λ k. k.to)
      (λ k.
      let o = g.law.holds.told k.told in
      let from : k.from ≡ cub_of p o.visit = (g.law.holds.pass o.passed).at in
      let to : c ≡ cub_of p (o.visit + k.ahead) = k.to ∙ ap (λ w. cub_of p (w + k.ahead)) from ∙ cub_ahead p o.visit k.ahead in
      ⊎_elim
      (λ (a : k.ahead ≡ 1). inl (to ∙ ap (λ w. cub_of p (o.visit + w)) a ∙ ap (λ w. cub_of p w) (sym o.next)))
      (λ (a : k.ahead ≡ 2).
      let e : o.visit + 2 ≡ q + 1 = (let n = o.next in omega arith) in
      inr (to ∙ ap (λ w. cub_of p (o.visit + w)) a ∙ ap (λ w. cub_of p w) e))
      o.ahead)
      (g.law.links.tag_from h)

  -- So no tag is stray.
  pub no_stray : {c v b : ℕ} → IsStray p r c v b → ⊥
  no_stray k = k.away (tag_beside k.got.got)

  -- A cub that got a tag has passed the deschedule on.
  pub tag_passed : {c v s q b : ℕ} → GotTagBy r c v s q b → PassedBy r c v b
  tag_passed {c} {v} {s} {q} {b} k = let by = k.by in passed_later k.beat b by (g.law.holds.tag_passes k.got (tag_beside k.got))

  -- A cub that passed a deschedule on was reached.
  pub passed_reached : {c v b : ℕ} → PassedBy r c v b → ReachedBy r c v b
  passed_reached {c} {v} {b} k =
      let by = k.by in
      let o = (g.law.holds.pass k.passed).reached in
      let ob = o.by in
      record { beat = o.beat; reached = o.reached; by = omega arith }

-- What holds of the deschedule of a tenancy.
module _ (p : Params) (r : Facts) (g : Setting p r) (t : Tenancy) (x z n : ℕ) (e : IsEnd p r t x z n) where
  -- A deschedule of the tenancy comes after the stop.
  pub reached_after : {c y : ℕ} → r.Reached c t.instance.0 y → z < y
  reached_after {c} {y} h =
      let o = reached_gone p g.ok g.room r g.law c t.instance.0 y h in
      let ob = o.before in
      let same = g.law.stops.gone_once e.gone o.gone in
      omega arith

  -- So it is passed on after the stop.
  pub passed_after : {c s q y : ℕ} → r.Passed c t.instance.0 s q y → z < y
  passed_after h =
      let o = (g.law.holds.pass h).reached in
      let ob = o.by in
      let l = reached_after o.reached in
      omega arith

  -- The cub of visit q has passed it on from there by beat b.
  pub record PassedAt (q b : ℕ) : Type 0 where
    pub beat : ℕ
    pub passed : r.Passed (cub_of p q) t.instance.0 t.slot.0 q beat
    pub by : beat ≤ b

  -- Each pass at a visit of the slot is one of its cub.
  pub pass_at : {c s q y : ℕ} → r.Passed c t.instance.0 s q y → s ≡ t.slot.0 → PassedAt q y
  pass_at {c} {s} {q} {y} h slot = record {
    beat = y;
    passed = subst (λ v. r.Passed v t.instance.0 t.slot.0 q y) (g.law.holds.pass h).at (subst (λ v. r.Passed c t.instance.0 v q y) slot h);
    by = omega arith;
  }

  -- Cub n + 1 has told cub n + 2 by beat b.
  pub record SecondTold (b : ℕ) : Type 0 where
    pub beat : ℕ
    pub told : r.Told (cub_of p (n + 1)) 1 t.instance.0 t.slot.0 (n + 2) beat
    pub by : beat ≤ b

  -- The wave is seeded: cub n has passed on from visit n, or cub n + 1 has told the next cub. So
  -- cub n + 2 hears of it even if one of the two dies.
  abbrev pub Seeded : ℕ → Type 0
  Seeded b = PassedAt n b ⊎ SecondTold b

  -- What was seeded by a beat is by each later one.
  pub seeded_later : (y b : ℕ) → y ≤ b → Seeded y → Seeded b
  seeded_later y b le k = ⊎_elim
      (λ a. let by = a.by in inl (record { beat = a.beat; passed = a.passed; by = omega arith }))
      (λ a. let by = a.by in inr (record { beat = a.beat; told = a.told; by = omega arith }))
      k

  -- A pass of cub c from visit q in beat y is of the wave: q is visit n or a later one, and the
  -- pass is at most q - n + 2 ways after the stop, and comes before the wave has gone round. If q
  -- lies behind the first two visits the wave was seeded before, and q is due soon. In the cub's
  -- first life q is less than a turn ahead, or just a turn if visit n was due at the stop. A cub
  -- that has come back does not know that it passed on before, and may do so again, one visit
  -- further.
  pub record Wave (c s q y : ℕ) : Type 0 where
    pub seed : ((q ≡ n) ⊎ (q ≡ n + 1)) ⊎ Seeded y
    pub slot : s ≡ t.slot.0
    pub low : n ≤ q
    pub by : y ≤ z + ((q - n) + 2) * p.delay
    pub within : y ≤ z + (p.cubs + 2) * p.delay
    pub top : q ≤ n + p.cubs + 1
    pub soon : ((q ≡ n) ⊎ (q ≡ n + 1))
        ⊎ (due p t.slot.0 q ≤ time_of p z + p.max_lead + 4 * p.play + 2 * p.skew)
    pub high : IsFirstLife r c y
        → (q < n + p.cubs) ⊎ ((q ≡ n + p.cubs) × (due p t.slot.0 n ≤ time_of p z + p.skew))

  -- Each pass of beat y is of the wave.
  abbrev pub WaveAt : ℕ → Type 0
  WaveAt y = (c s q : ℕ) → r.Passed c t.instance.0 s q y → Wave c s q y

  -- Each pass below beat b is of the wave.
  abbrev pub WaveBelow : ℕ → Type 0
  WaveBelow b = (y : ℕ) → y < b → WaveAt y

  -- No state of the tenancy goes out in beat y if the wave is over.
  abbrev pub EndsAt : ℕ → Type 0
  EndsAt y = (a k m : ℕ) → r.Sent a k t m y → y ≤ z + (p.cubs + 1) * p.delay

  -- No state of it goes out below beat b after the wave.
  abbrev pub EndsBelow : ℕ → Type 0
  EndsBelow b = (y : ℕ) → y < b → EndsAt y

  -- A record of the instance is a record of this tenancy.
  pub its_tenancy : {c m y : ℕ} {u : Tenancy} → Entered r c u m y → u.instance.0 ≡ t.instance.0
      → u ≡ t
  its_tenancy w same = (one_put p r g e.put (entered_held p r g.law w).put same).1

  -- A deschedule without a tag came to cub n or the next one, within a way of the stop.
  pub record Bare (c y : ℕ) : Type 0 where
    pub waiting : WasWaiting p r t x z n
    pub to : (c ≡ cub_of p n) ⊎ (c ≡ cub_of p (n + 1))
    pub soon : y ≤ z + p.delay

  -- Each deschedule without a tag does so, and comes only if the controller did not know the place.
  pub bare : {c y : ℕ} → r.GotBare c t.instance.0 y → Bare c y
  bare {c} {y} h =
      let k = g.law.links.bare_from h in
      let soon = k.soon in
      let same = g.law.stops.gone_once e.gone (g.law.stops.gone_waiting k.stopped) in
      let disk : cub_of p k.disk ≡ cub_of p t.first = first_cub p r g t (disk_is p r g e.put k.stopped) in
      let next = second_cub p r g t (disk_is p r g e.put k.stopped) in
      ⊎_elim
      (λ w. absurd (g.law.stops.one_way w k.stopped))
      (λ w. record {
        waiting = w;
        to = ⊎_elim (λ a. inl (a ∙ disk ∙ ap (λ v. cub_of p v) (sym w.base))) (λ a. inr (a ∙ next ∙ ap (λ v. cub_of p (v + 1)) (sym w.base))) k.to;
        soon = omega arith;
      })
      e.how

  -- A cub that has a record of the first visit when it gets a deschedule without a tag passes it
  -- on, since that visit is not due yet.
  passes_early : {c y w : ℕ} → r.GotBare c t.instance.0 y → EnteredAmong r c t t.first w y
      → IsSameLife r c w y → WasWaiting p r t x z n → y ≤ z + p.delay
      → PassedBy r c t.instance.0 y
  passes_early {c} {y} {w} got here life h by =
      let undue = h.undue in
      let m = soon_after p z y by in
      ⊎_elim
      (λ q. q)
      (λ q. tag_passed p r g q.2)
      (g.law.holds.record_passes got here life (omega arith))

  -- So does one that has inserted the record in its first life.
  record_passed : {c y : ℕ} → r.GotBare c t.instance.0 y → IsFirstLife r c y
      → WasWaiting p r t x z n → y ≤ z + p.delay
      → r.Inserted c t t.first x → x < y → PassedBy r c t.instance.0 y
  record_passed {c} {y} got first h by i before =
      passes_early got (inr (i, before)) (first_same_life r c y first x) h by

  -- In its first life the first cub passes on a deschedule without a tag: it has its own record by
  -- then, since it put. If it is dead it gets none.
  pub bare_first : {c y : ℕ} → r.GotBare c t.instance.0 y → IsFirstLife r c y
      → WasWaiting p r t x z n → c ≡ cub_of p n → y ≤ z + p.delay → PassedBy r c t.instance.0 y
  bare_first {c} {y} got first h here by =
      let ins = g.law.states.inserts e.put in
      let own : c ≡ cub_of p t.first = here ∙ ap (λ v. cub_of p v) h.base in
      ⊎_elim
      (λ w.
      let same : e.cub ≡ c = w.own ∙ sym own in
      let i : r.Inserted c t t.first x = subst (λ v. r.Inserted v t t.first x) same ins.entered in
      let put = subst (λ v. r.Put v t x) same e.put in
      let after = put_first p g.ok g.room r g.law put (g.law.holds.reached_bare got) in
      record_passed got first h by i after)
      (λ w.
      let d = dead_first p g.ok g.room r g.law w in
      let long = d.long in
      let a = d.died.by in
      let after = reached_after (g.law.holds.reached_bare got) in
      let soon = e.soon in
      let life = first_same_life r c y first z in
      let k = g.law.run.reached_ended {b = z} (g.law.holds.reached_bare got) after life in
      let died = subst (λ v. r.Died v d.died.beat) (sym own) d.died.died in
      let then = first_life_before r c y z (omega arith) first in
      let last = g.law.run.last (g.law.run.came k.ticked) died then in
      absurd (omega arith))
      ins.who

  -- So in its first life the first cub has passed the deschedule on a way after the stop, whatever
  -- its form.
  pub first_passed : {c b : ℕ} → c ≡ cub_of p n → r.Came c b → IsFirstLife r c b → z + p.delay ≤ b
      → PassedBy r c t.instance.0 (z + p.delay)
  first_passed {c} {b} here w first late =
      let life = first_same_life r c b first z in
      ⊎_elim
      (λ h. tag_passed p r g (g.law.links.tag_arrives c b h (inl here) w life late))
      (λ h.
      let there = here ∙ ap (λ v. cub_of p v) h.base ∙ sym h.here in
      let k = g.law.links.bare_arrives c b h.stopped (inl there) w life late in
      let by = k.by in
      let then = first_life_before r c b k.beat (omega arith) first in
      passed_later p r g k.beat (z + p.delay) by (bare_first k.got then h here by))
      e.how

  -- The second cub got the state of the first visit before beat b, or put the tenancy itself.
  abbrev pub HasSecond : ℕ → ℕ → Type 0
  HasSecond c b = r.Put c t x ⊎ ((y : ℕ) × r.Got c t t.first y × (y < b))

  -- The state of the first visit comes from its Put.
  first_state : {c y : ℕ} → r.Got c t t.first y → y ≤ x + p.delay
  first_state {c} {y} got =
      let s = g.law.links.carried got in
      let soon = s.soon in
      ⊎_elim
      (λ w. let same = (one_put p r g e.put w.put refl).2 in omega arith)
      (λ w. let low = (entered_held p r g.law w.entered).low in let next = w.next in absurd (omega arith))
      (g.law.states.sends s.sent)

  -- In its first life a cub that put the tenancy passes on a deschedule without a tag.
  put_passes : {c y : ℕ} → r.Put c t x → r.GotBare c t.instance.0 y → IsFirstLife r c y
      → WasWaiting p r t x z n → y ≤ z + p.delay → PassedBy r c t.instance.0 y
  put_passes i got first h by =
      let after = put_first p g.ok g.room r g.law i (g.law.holds.reached_bare got) in
      record_passed got first h by (g.law.states.inserts i).entered after

  -- And so does a cub that took the record of the first visit, if both are of its first life.
  took_passes : {c y w : ℕ} (d : ℕ) → IsFirstLife r c d → y ≤ d → w ≤ d
      → r.GotBare c t.instance.0 y → WasWaiting p r t x z n → y ≤ z + p.delay
      → r.Took c t t.first w → w ≤ x + p.delay → PassedBy r c t.instance.0 y
  took_passes {c} {y} {w} d first yd wd got h by took soon = ⊎_elim
      (λ (l : y < w).
      let life = first_same_life r c w (first_life_before r c d w wd first) y in
      let k = g.law.holds.took took (g.law.holds.reached_bare got) l life in
      let over = k.over in
      let m1 = time_mono p z k.beat (let a = reached_after k.reached in omega arith) in
      let s = e.soon in
      let m2 = soon_after p x w soon in
      let m3 = soon_after p z x (omega arith) in
      let play = g.room.play in
      absurd (omega arith))
      (λ (l : w ≤ y).
      let life = first_same_life r c y (first_life_before r c d y yd first) w in
      passes_early got (inl (took, l)) life h by)
      (cases_lt y w)

  -- So in its first life the second cub passes on a deschedule without a tag by beat b, if it has
  -- that state by then: in the beat of the state there was no conflict, so its record entered, or
  -- the deschedule was passed on at once.
  pub second_by_state : {c d b y : ℕ} → c ≡ cub_of p (n + 1) → r.Came c d → IsFirstLife r c d
      → b ≤ d → WasWaiting p r t x z n → r.GotBare c t.instance.0 y → y ≤ b → HasSecond c b
      → PassedBy r c t.instance.0 b
  second_by_state {c} {d} {b} {y} here came first le h got by has =
      let soon = (bare got).soon in
      let next : c ≡ cub_of p (t.first + 1) = here ∙ ap (λ v. cub_of p (v + 1)) h.base in
      let then = first_life_before r c d y (omega arith) first in
      ⊎_elim
      (λ i. passed_later p r g y b by (put_passes i got then h soon))
      (λ k.
      let kl = k.2 in
      let early = first_state k.1 in
      let at = due p t.slot.0 t.first in
      let let_in = first_is_open p r c k.0 (first_life_before r c d k.0 (omega arith) first) at in
      ⊎_elim
      (λ q.
      let qb = q.by in
      passed_later p r g y b by (⊎_elim
      (λ w. took_passes d first (omega arith) (omega arith) got h soon w (omega arith))
      (λ w.
      let i = (g.law.states.inserted w).0 in
      put_passes (subst (λ v. r.Put c t v) (one_put p r g e.put i refl).2 i) got then h soon)
      q.entered))
      (λ o. ⊎_elim
      (λ q. passed_later p r g k.0 b (omega arith) q)
      (λ q.
      let same = g.law.stops.gone_once e.gone q.gone in
      let tb = ap (λ v. time_of p v) same in
      let late = q.late in
      let s = e.soon in
      let m2 = soon_after p x k.0 early in
      let m3 = soon_after p z x (omega arith) in
      let play = g.room.play in
      absurd (omega arith))
      o)
      (g.clean c d k.0 came (omega arith) c t.first t.first t k.1 (inl (refl, inr next)) let_in))
      has

  -- It has the state when a way has passed since the Put, or when it believes the first cub dead.
  pub has_second : {c d : ℕ} → c ≡ cub_of p (n + 1) → r.Came c d → IsFirstLife r c d
      → WasWaiting p r t x z n → (b : ℕ)
      → b ≤ d → (x + p.delay < b) ⊎ BelievedBy r c b → HasSecond c b
  has_second {c} {d} here came first h b le when =
      let next : c ≡ cub_of p (t.first + 1) = here ∙ ap (λ v. cub_of p (v + 1)) h.base in
      ⊎_elim
      (λ w.
      let to : c ≡ cub_of p (e.cub + 1) = next ∙ sym (cub_ahead p t.first 1) ∙ ap (λ v. cub_of p (v + 1)) (sym w.own) in
      let soon = e.soon in
      let until : x + p.delay < b = ⊎_elim
      (λ (q : x + p.delay < b). q)
      (λ k.
      let kb = k.by in
      let put = (g.law.states.inserts e.put).first in
      let a = put_heard p g.ok g.room r g.law w put next k.believed in
      omega arith)
      when in
      let life = first_same_life r c d first x in
      let k = g.law.links.arrives c d w.sent to came life (omega arith) in
      let kb = k.by in
      inr (k.beat, k.got, omega arith))
      (λ w. inl (subst (λ v. r.Put v t x) (w.next ∙ sym next) e.put))
      (g.law.states.inserts e.put).who

  -- So in its first life the second cub has passed the deschedule on two ways after the stop.
  pub second_passed : {c b : ℕ} → c ≡ cub_of p (n + 1) → r.Came c b → IsFirstLife r c b
      → z + 2 * p.delay ≤ b → PassedBy r c t.instance.0 (z + 2 * p.delay)
  second_passed {c} {b} here w first late =
      let until = z + 2 * p.delay in
      let life = first_same_life r c b first z in
      ⊎_elim
      (λ h.
      let got = g.law.links.tag_arrives c b h (inr here) w life (omega arith) in
      passed_later p r g (z + p.delay) until (omega arith) (tag_passed p r g got))
      (λ h.
      let there = here ∙ ap (λ v. cub_of p (v + 1)) h.base ∙ sym h.next in
      let k = g.law.links.bare_arrives c b h.stopped (inr there) w life (omega arith) in
      let by = k.by in
      let soon = e.soon in
      let has = has_second here w first h until late (inl (omega arith)) in
      second_by_state here w first late h k.got (omega arith) has)
      e.how

  -- In its first life no cub passes it on twice while the wave goes round, since it holds the
  -- instance for longer.
  pub twice : {c s q y b : ℕ} → PassedBy r c t.instance.0 y → y < b → IsFirstLife r c b
      → r.Passed c t.instance.0 s q b → b ≤ z + (p.cubs + 2) * p.delay → ⊥
  twice {c} {s} {q} {y} {b} k l first h by =
      let kb = k.by in
      let play = g.room.play in
      ⊎_elim
      (λ o. let o1 = o.1 in let u : ⊥ = omega arith in u)
      (λ o.
      let after = reached_after o.reached in
      let over = o.over in
      let m = time_mono p z o.beat (omega arith) in
      let a = wave_after p g.turn z b (p.cubs + 2) (omega arith) by in
      let u : ⊥ = omega arith in u)
      (g.law.holds.pass_once k.passed h (omega arith) (first_same_life r c b first k.beat))

  -- A visit whose state may have gone out before the wave is over is less than a turn ahead.
  pub near_turn : (m : ℕ) → t.first ≤ m → WasWaiting p r t x z n
      → due p t.slot.0 m ≤ time_of p z + p.play + p.skew + p.max_lead + way p → m + 3 < n + p.cubs
  near_turn m low w h =
      let back : t.first + (m - t.first) ≡ m = omega arith in
      let a : due p t.slot.0 m ≡ due p t.slot.0 t.first + (m - t.first) * p.play = ap (λ v. due p t.slot.0 v) (sym back) ∙ due_add p t.slot.0 t.first (m - t.first) in
      let undue = w.undue in
      let base = w.base in
      let turn = g.turn.turn in
      let lt : (m - t.first + 3) * p.play < p.cubs * p.play = omega arith in
      let q : m - t.first + 3 < p.cubs = lt_of_mul-lt-mul_right p.play lt in
      omega arith

  -- If such a visit's cub is one of the first two, it is the first or the second visit.
  pub first_two : (c q : ℕ) → c ≡ cub_of p q → (c ≡ cub_of p n) ⊎ (c ≡ cub_of p (n + 1)) → n ≤ q
      → q < n + p.cubs → (q ≡ n) ⊎ (q ≡ n + 1)
  first_two c q at to low high = ⊎_elim
      (λ (a : c ≡ cub_of p n). inl (sym (same_cub p n q (sym a ∙ at) low high)))
      (λ (a : c ≡ cub_of p (n + 1)). ⊎_elim
      (λ (l : q < n + 1). inl (omega arith))
      (λ (l : n + 1 ≤ q). inr (sym (same_cub p (n + 1) q (sym a ∙ at) l (omega arith))))
      (cases_lt q (n + 1)))
      to

  -- A pass from one of these two, within two ways, is of the wave.
  pub early_wave : {c s q y : ℕ} → s ≡ t.slot.0 → (q ≡ n) ⊎ (q ≡ n + 1) → y ≤ z + 2 * p.delay
      → Wave c s q y
  early_wave {c} {s} {q} {y} slot which by =
      let cubs = g.turn.cubs in
      let two : 2 * p.delay ≤ ((q - n) + 2) * p.delay = mul-le-mul_right p.delay (omega arith) in
      let whole : 2 * p.delay ≤ (p.cubs + 2) * p.delay = mul-le-mul_right p.delay (omega arith) in
      let near : (n ≤ q) × (q ≤ n + 1) = ⊎_elim
      (λ (a : q ≡ n). (omega arith, omega arith))
      (λ (a : q ≡ n + 1). (omega arith, omega arith))
      which in
      let least = near.0 in
      let most = near.1 in
      record {
        seed = inl which;
        slot = slot;
        low = least;
        by = omega arith;
        within = omega arith;
        top = omega arith;
        soon = inl which;
        high = λ first. inl (omega arith);
      }
