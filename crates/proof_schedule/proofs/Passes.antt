-- Each pass of a tenancy's deschedule is at a visit of its wave, and in time.
use Rattle.std.proofs.Common.{◌≡◌, ℕ, ◌+◌, ◌-◌, ◌*◌, ◌<◌, ◌≤◌, refl, sym, ap, subst, ◌∙◌, arith, ⊎_elim, inl, inr, mul-le-mul_right}
use Rattle.std.specs.Prelude.{◌⊎◌}
use Rattle.std.proofs.lemmas.Bool.{cases_lt}
use Rattle.tiger_base.specs.declared.tenancy.Tenancy.{Tenancy}
use Rattle.slot_plan.specs.declared.params.Params.{Params}
use Rattle.slot_plan.specs.Times.{time_of, due, cub_of}
use Rattle.slot_plan.proofs.Times.{time_add, time_below, time_mono, due_next, due_add, due_mono, cub_round, cub_ahead, cub_apart}
use Rattle.proof_schedule.specs.Facts.{Facts, Ended, Entered, IsFirstLife, IsSameLife, LastReturn}
use Rattle.proof_schedule.specs.LinkLaws.{TagFromController, TagFromCub}
use Rattle.proof_schedule.specs.HoldLaws.{ForRecord, ForState}
use Rattle.proof_schedule.specs.StateLaws.{Forwards}
use Rattle.proof_schedule.proofs.Soon.{soon, sent_soon}
use Rattle.proof_schedule.proofs.Lives.{first_same_life, first_life_before, previous_first_life}
use Rattle.proof_schedule.proofs.Origins.{got_held, entered_held}
use Rattle.proof_schedule.proofs.Room.{soon_after}
use Rattle.proof_schedule.proofs.Ends.{IsEnd, WasWaiting, one_put}
use Rattle.proof_schedule.proofs.Invariant.{Setting}
use Rattle.proof_schedule.proofs.Room.{wave_after}
use Rattle.proof_schedule.proofs.Waves.{among, passed_reached, reached_after, pass_at, PassedAt, Wave, WaveBelow, EndsBelow, Seeded, seeded_later, no_stray, its_tenancy, bare, first_passed, second_passed, twice, near_turn, first_two, early_wave}

module _ (p : Params) (r : Facts) (g : Setting p r) (t : Tenancy) (x z n : ℕ) (e : IsEnd p r t x z n) where
  -- Short for a pass of this tenancy's wave.
  abbrev W : ℕ → ℕ → ℕ → ℕ → Type 0
  W c s q y = Wave p r g t x z n e c s q y

  -- A tag that a cub sends in beat b is that of a visit q of the wave, behind the first. It comes
  -- early enough for a pass there in time.
  pub record IsTag (s q b : ℕ) : Type 0 where
    pub seed : Seeded p r g t x z n e b
    pub slot : s ≡ t.slot.0
    pub low : n < q
    pub high : q ≤ n + p.cubs
    pub by : b + p.delay ≤ z + ((q - n) + 2) * p.delay
    pub soon : due p t.slot.0 q ≤ time_of p b + p.skew + p.max_lead + 2 * p.play + p.skew

  -- Each tag that a cub sends is of this kind, if its pass is of the wave.
  pub tag_of : {a k s q b : ℕ} → WaveBelow p r g t x z n e (b + 1) → r.Told a k t.instance.0 s q b
      → IsTag s q b
  tag_of {a} {k} {s} {q} {b} waves h =
      let o = g.law.holds.told h in
      let next = o.next in
      let v = waves b (omega arith) a s o.visit o.passed in
      let low = v.low in
      let by = v.by in
      let within = v.within in
      let due_soon = o.soon in
      let ds : due p t.slot.0 q ≡ due p s q = ap (λ w. due p w q) (sym v.slot) in
      let high : q ≤ n + p.cubs = ⊎_elim
      (λ (far : n + p.cubs < q).
      let after = wave_after p g.turn z b (p.cubs + 2) (omega arith) within in
      let d = due_add p t.slot.0 n (p.cubs + 1) in
      let mono = due_mono p t.slot.0 (n + (p.cubs + 1)) q (omega arith) in
      let near = e.near in
      let turn = g.turn.turn in
      let play = g.room.play in
      absurd (omega arith))
      (λ (near : q ≤ n + p.cubs). near)
      (cases_lt (n + p.cubs) q) in
      let own = pass_at p r g t x z n e o.passed v.slot in
      let told = g.law.holds.told_next h in
      let seed : Seeded p r g t x z n e b = ⊎_elim
      (λ w. ⊎_elim
      (λ (f : o.visit ≡ n). inl (subst (λ y. PassedAt p r g t x z n e y b) f own))
      (λ (f : o.visit ≡ n + 1).
      let there : q ≡ n + 2 = omega arith in
      let by_cub : a ≡ cub_of p (n + 1) = (g.law.holds.pass o.passed).at ∙ ap (λ y. cub_of p y) f in
      inr (record {
        beat = b;
        told = subst (λ y. r.Told y 1 t.instance.0 t.slot.0 (n + 2) b) by_cub
            (subst (λ y. r.Told a 1 t.instance.0 y (n + 2) b) v.slot (subst (λ y. r.Told a 1 t.instance.0 s y b) there told));
        by = omega arith;
      }))
      w)
      (λ w. w)
      v.seed in
      let one : q - n ≡ (o.visit - n) + 1 = omega arith in
      let step : ((o.visit - n) + 1 + 2) * p.delay ≡ ((o.visit - n) + 2) * p.delay + p.delay = omega arith in
      let more : ((q - n) + 2) * p.delay ≡ ((o.visit - n) + 2) * p.delay + p.delay = ap (λ w. (w + 2) * p.delay) one ∙ step in
      record { seed = seed; slot = v.slot; low = omega arith; high = high; by = omega arith; soon = omega arith }

  -- In their first lives the first two cubs do not pass on after two ways: they have passed on
  -- before, and do so once.
  not_again : {c s q y : ℕ} → IsFirstLife r c y → (c ≡ cub_of p n) ⊎ (c ≡ cub_of p (n + 1))
      → ((b : ℕ) → b < y → IsSameLife r c b y → Ended r c b) → r.Passed c t.instance.0 s q y
      → y ≤ z + (p.cubs + 2) * p.delay → z + 2 * p.delay < y → ⊥
  not_again {c} {s} {q} {y} first to ended h by late =
      let some = g.turn.delay in
      let until = z + 2 * p.delay in
      let k = ended until late (first_same_life r c y first until) in
      let came = g.law.run.came k.ticked in
      let then = first_life_before r c y until (omega arith) first in
      ⊎_elim
      (λ a.
      let before = first_passed p r g t x z n e a came then (omega arith) in
      twice p r g t x z n e before (omega arith) first h by)
      (λ a.
      let before = second_passed p r g t x z n e a came then (omega arith) in
      twice p r g t x z n e before late first h by)
      to

  -- So no tag leads to a pass a turn ahead at the first two cubs.
  turn_ahead : {c s q y m : ℕ} → r.GotTag c t.instance.0 s m y → r.Passed c t.instance.0 s q y
      → IsFirstLife r c y → c ≡ cub_of p q
      → y ≤ z + (p.cubs + 2) * p.delay → (q ≡ n + p.cubs) ⊎ (q ≡ n + 1 + p.cubs)
      → z + 2 * p.delay < y → ⊥
  turn_ahead {c} {s} {q} {y} {m} got h first at by which late =
      let to = ⊎_elim
      (λ (a : q ≡ n + p.cubs). inl (at ∙ ap (λ v. cub_of p v) a ∙ sym (cub_round p n)))
      (λ (a : q ≡ n + 1 + p.cubs). inr (at ∙ ap (λ v. cub_of p v) a ∙ sym (cub_round p (n + 1))))
      which in
      let reached = g.law.holds.reached_tag got in
      not_again first to (λ b l life. g.law.run.reached_ended reached l life) h by late

  -- A pass by a tag of the controller is at one of the first two visits.
  by_controller : {c s q y m : ℕ} → r.Passed c t.instance.0 s q y
      → TagFromController p r c t.instance.0 s m y → (q ≡ m) ⊎ (q ≡ m + 1) → W c s q y
  by_controller {c} {s} {q} {y} {m} h k which =
      let same = g.law.stops.gone_once e.gone (g.law.stops.gone_at k.stopped) in
      let soon = k.soon in
      ⊎_elim
      (λ w.
      let o = g.law.stops.one_place w k.stopped in
      let base = o.1 in
      early_wave p r g t x z n e o.0 (⊎_elim (λ (a : q ≡ m). inl (a ∙ base)) (λ (a : q ≡ m + 1). inr (a ∙ ap (λ v. v + 1) base)) which) (omega arith))
      (λ w. absurd (g.law.stops.one_way k.stopped w.stopped))
      e.how

  -- A pass by a tag of a cub is of the wave: at the tag's visit or the next one.
  by_cub : {c s q y m : ℕ} → WaveBelow p r g t x z n e y → r.GotTag c t.instance.0 s m y
      → r.Passed c t.instance.0 s q y → TagFromCub p r c t.instance.0 s m y
      → (q ≡ m) ⊎ (q ≡ m + 1) → W c s q y
  by_cub {c} {s} {q} {y} {m} waves got h k which =
      let later = k.later in
      let soon = k.soon in
      let tag = tag_of (λ b l. waves b (omega arith)) k.told in
      let low = tag.low in
      let high = tag.high in
      let by = tag.by in
      let from : m ≤ q = ⊎_elim (λ (a : q ≡ m). omega arith) (λ (a : q ≡ m + 1). omega arith) which in
      let most : q ≤ m + 1 = ⊎_elim (λ (a : q ≡ m). omega arith) (λ (a : q ≡ m + 1). omega arith) which in
      let more : ((m - n) + 2) * p.delay ≤ ((q - n) + 2) * p.delay = mul-le-mul_right p.delay (omega arith) in
      let in_time : y ≤ z + ((q - n) + 2) * p.delay = omega arith in
      let within : y ≤ z + (p.cubs + 2) * p.delay = (let whole : ((m - n) + 2) * p.delay ≤ (p.cubs + 2) * p.delay = mul-le-mul_right p.delay (omega arith) in omega arith) in
      let at = (g.law.holds.pass h).at in
      let seed = seeded_later p r g t x z n e k.beat y (omega arith) tag.seed in
      let tag_soon = tag.soon in
      let dm = due_next p t.slot.0 m in
      let reached = wave_after p g.turn z k.beat (p.cubs + 2) (omega arith) (omega arith) in
      let far : due p t.slot.0 q ≤ due p t.slot.0 m + p.play = ⊎_elim
      (λ (a : q ≡ m). let d = ap (λ v. due p t.slot.0 v) a in omega arith)
      (λ (a : q ≡ m + 1). let d = ap (λ v. due p t.slot.0 v) a in omega arith)
      which in
      record {
        seed = inr seed;
        slot = tag.slot;
        low = omega arith;
        by = in_time;
        within = within;
        top = omega arith;
        soon = inr (omega arith);
        high = λ first. less_than_a_turn got h first k which tag at within;
      }
    where
      -- In the cub's first life the pass is less than a turn ahead, or just a turn if visit n was
      -- due at the stop.
      less_than_a_turn : {c s q y m : ℕ} → r.GotTag c t.instance.0 s m y
          → r.Passed c t.instance.0 s q y → IsFirstLife r c y
          → (k : TagFromCub p r c t.instance.0 s m y) → (q ≡ m) ⊎ (q ≡ m + 1)
          → IsTag s m k.beat → c ≡ cub_of p q → y ≤ z + (p.cubs + 2) * p.delay
          → (q < n + p.cubs) ⊎ ((q ≡ n + p.cubs) × (due p t.slot.0 n ≤ time_of p z + p.skew))
      less_than_a_turn {c} {s} {q} {y} {m} got h first k which tag at within =
          let later = k.later in
          let high = tag.high in
          let tag_soon = tag.soon in
          let dm = due_next p t.slot.0 m in
          let dc = due_add p t.slot.0 n p.cubs in
          let near = e.near in
          let turn = g.turn.turn in
          let play = g.room.play in
          let t2 = time_add p (z + p.delay) p.delay in
          let t1 = time_add p z p.delay in
          let most : (m ≤ q) × (q ≤ m + 1) = ⊎_elim
          (λ (a : q ≡ m). (omega arith, omega arith))
          (λ (a : q ≡ m + 1). (omega arith, omega arith))
          which in
          let most0 = most.0 in
          let most1 = most.1 in
          ⊎_elim
          (λ (l : q < n + p.cubs). inl l)
          (λ (l : n + p.cubs ≤ q). ⊎_elim
          (λ (a : n + p.cubs < q).
          let mono = due_mono p t.slot.0 (n + p.cubs) m (omega arith) in
          let late = time_below p (z + p.delay + p.delay) k.beat (omega arith) in
          absurd (turn_ahead got h first at within (inr (omega arith)) (omega arith)))
          (λ (a : q ≤ n + p.cubs). ⊎_elim
          (λ (undue : time_of p z + p.skew < due p t.slot.0 n).
          let mono = due_mono p t.slot.0 (n + p.cubs) (m + 1) (omega arith) in
          let late = time_below p (z + p.delay + p.delay) k.beat (omega arith) in
          absurd (turn_ahead got h first at within (inl (omega arith)) (omega arith)))
          (λ (due_now : due p t.slot.0 n ≤ time_of p z + p.skew). inr (omega arith, due_now))
          (cases_lt (time_of p z + p.skew) (due p t.slot.0 n)))
          (cases_lt (n + p.cubs) q))
          (cases_lt q (n + p.cubs))

  -- A pass from a record, by a deschedule without a tag, is at one of the first two visits.
  by_record : {c s q y : ℕ} → r.Passed c t.instance.0 s q y → ForRecord r c t.instance.0 s q y
      → W c s q y
  by_record {c} {s} {q} {y} h k =
      let b = bare p r g t x z n e k.got in
      let w = b.waiting in
      let soon_b = b.soon in
      let base = w.base in
      let w0 = among r k.entered in
      let same = its_tenancy p r g t x z n e w0.0 k.same in
      let slot : s ≡ t.slot.0 = sym k.slot ∙ ap (λ (u : Tenancy). u.slot.0) same in
      let entered : Entered r c t k.visit k.beat = subst (λ (u : Tenancy). Entered r c u k.visit k.beat) same w0.0 in
      let low = (entered_held p r g.law entered).low in
      let due_soon = soon p g.room r g.law entered in
      let by = w0.1 in
      let m = soon_after p z k.beat (omega arith) in
      let near = near_turn p r g t x z n e k.visit low w (omega arith) in
      let least : n ≤ q = ⊎_elim (λ (a : q ≡ k.visit). omega arith) (λ (a : q ≡ k.visit + 1). omega arith) k.which in
      let most : q < n + p.cubs = ⊎_elim (λ (a : q ≡ k.visit). omega arith) (λ (a : q ≡ k.visit + 1). omega arith) k.which in
      early_wave p r g t x z n e slot (first_two p r g t x z n e c q (g.law.holds.pass h).at b.to least most) (omega arith)

  -- If the second cub ever dies, a state of one of the first two visits goes out within a way of
  -- the stop: the first cub, which forwards it, never dies, and is reached by then.
  sent_within_a_way : {c a k m v s : ℕ} → r.Died c v → c ≡ cub_of p (n + 1) → n ≡ t.first
      → m ≤ n + 1 → r.Sent a k t m s → s ≤ z + (p.cubs + 1) * p.delay → s ≤ z + p.delay
  sent_within_a_way {c} {a} {k} {m} {v} {s} died here base low w until = ⊎_elim
      (λ i.
      let same = (one_put p r g e.put i.put refl).2 in
      let soon = e.soon in
      omega arith)
      (λ (f : Forwards p r a t m s).
      let next = f.next in
      let least = (entered_held p r g.law f.entered).low in
      let at : f.visit ≡ n = omega arith in
      let own : a ≡ cub_of p n = f.own ∙ ap (λ u. cub_of p u) at in
      let before = here ∙ sym (ap (λ u. cub_of p (u + 1)) own ∙ cub_ahead p n 1) in
      let first = previous_first_life p r g.law a s died before in
      ⊎_elim
      (λ (late : z + p.delay < s).
      let passed = first_passed p r g t x z n e own f.tick.came first (omega arith) in
      let q = passed_reached p r g passed in
      let by = q.by in
      let over = f.since q.beat q.reached (omega arith) (first_same_life r a s first q.beat) in
      let over_by = over.over in
      let after = reached_after p r g t x z n e {c = a} {y = over.beat} over.reached in
      let tm = time_mono p z over.beat (omega arith) in
      let fb = f.by in
      let wa = wave_after p g.turn z f.beat (p.cubs + 1) (omega arith) (omega arith) in
      let play = g.room.play in
      absurd (omega arith))
      (λ (fine : s ≤ z + p.delay). fine)
      (cases_lt (z + p.delay) s))
      (g.law.states.sends w)

  -- So no cub that has come back passes on from a state after two ways.
  not_late : {c q m y : ℕ} → LastReturn r c y → EndsBelow p r g t x z n e y → r.Got c t m y
      → WasWaiting p r t x z n → (q ≡ n) ⊎ (q ≡ n + 1) → c ≡ cub_of p q
      → (q ≡ m) ⊎ (q ≡ m + 1) → z + 2 * p.delay < y → ⊥
  not_late {c} {q} {m} {y} back ends got w which at from late =
      let base = w.base in
      let low = (got_held p r g.law got).low in
      let s = g.law.links.carried got in
      let later = s.later in
      let soon = s.soon in
      let until = ends s.beat later s.from s.ahead m s.sent in
      let died = (g.law.run.returned back.returned).died in
      let cubs = g.turn.cubs in
      let least : m ≤ q = ⊎_elim
      (λ (b : q ≡ m). omega arith)
      (λ (b : q ≡ m + 1). omega arith)
      from in
      ⊎_elim
      (λ (a : q ≡ n). ⊎_elim
      (λ i.
      let to : c ≡ cub_of p (n + 1) = s.to
      ∙ ap (λ u. cub_of p (s.from + u)) i.near
      ∙ ap (λ u. cub_of p (u + 1)) i.own
      ∙ cub_ahead p t.first 1
      ∙ ap (λ u. cub_of p (u + 1)) (sym base) in
      let here = at ∙ ap (λ u. cub_of p u) a in
      cub_apart p n 1 (omega arith) (omega arith) (sym here ∙ to))
      (λ f.
      let next = f.next in
      let first = (entered_held p r g.law f.entered).low in
      omega arith)
      (g.law.states.sends s.sent))
      (λ (a : q ≡ n + 1).
      let here = at ∙ ap (λ u. cub_of p u) a in
      let sent = sent_within_a_way died here base (omega arith) s.sent until in
      omega arith)
      which

  -- So a pass from a state that comes while the instance is held is of the wave too. It comes
  -- before the two cubs must have passed on: later they would do so twice in their first lives, and
  -- if one of them has come back no such state comes.
  by_state : {c s q y : ℕ} → EndsBelow p r g t x z n e y → r.Passed c t.instance.0 s q y
      → ForState p r c t.instance.0 s q y → W c s q y
  by_state {c} {s} {q} {y} ends h k = ⊎_elim
      (λ u.
      let b = bare p r g t x z n e u.got in
      let w = b.waiting in
      let base = w.base in
      let same : k.tenancy ≡ t = (one_put p r g e.put (got_held p r g.law k.got).put k.same).1 in
      let slot : s ≡ t.slot.0 = sym k.slot ∙ ap (λ (u : Tenancy). u.slot.0) same in
      let got : r.Got c t k.visit y = subst (λ (u : Tenancy). r.Got c u k.visit y) same k.got in
      let low = (got_held p r g.law got).low in
      let s0 = g.law.links.carried got in
      let later = s0.later in
      let soon_s = s0.soon in
      let until = ends s0.beat later s0.from s0.ahead k.visit s0.sent in
      let due_soon = sent_soon p g.room r g.law s0.sent in
      let after = wave_after p g.turn z s0.beat (p.cubs + 1) (omega arith) until in
      let near = near_turn p r g t x z n e k.visit low w (omega arith) in
      let least : n ≤ q = ⊎_elim (λ (a : q ≡ k.visit). omega arith) (λ (a : q ≡ k.visit + 1). omega arith) k.which in
      let most : q < n + p.cubs = ⊎_elim (λ (a : q ≡ k.visit). omega arith) (λ (a : q ≡ k.visit + 1). omega arith) k.which in
      let within : y ≤ z + (p.cubs + 2) * p.delay = (let d : (p.cubs + 2) * p.delay ≡ (p.cubs + 1) * p.delay + p.delay = omega arith in omega arith) in
      let which = first_two p r g t x z n e c q (g.law.holds.pass h).at b.to least most in
      ⊎_elim
      (λ (late : z + 2 * p.delay < y). absurd (⊎_elim
      (λ first. not_again first b.to (λ v l life. g.law.run.got_ended got l life) h within late)
      (λ back. not_late back ends got w which (g.law.holds.pass h).at k.which late)
      (g.law.run.returns c y)))
      (λ (early : y ≤ z + 2 * p.delay). early_wave p r g t x z n e slot which early)
      (cases_lt (z + 2 * p.delay) y))
      (λ u. absurd (no_stray p r g u))
      k.unplaced

  -- So each pass of a beat is of the wave, if in all lower beats passes are, and no state goes out
  -- after it.
  pub wave_step : (b : ℕ) → WaveBelow p r g t x z n e b → EndsBelow p r g t x z n e b → (c s q : ℕ)
      → r.Passed c t.instance.0 s q b → W c s q b
  wave_step b waves ends c s q h =
      let k = g.law.holds.pass h in
      ⊎_elim
      (λ a. ⊎_elim (λ d. by_controller h d a.which) (λ d. by_cub waves a.got h d a.which) (g.law.links.tag_from a.got))
      (λ o. ⊎_elim (λ a. by_record h a) (λ a. by_state ends h a) o)
      k.how
