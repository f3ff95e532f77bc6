-- A tenancy's deschedule reaches each cub of its states in time, and its states end with it.
use Rattle.std.proofs.Common.{◌≡◌, ℕ, zero, suc, ◌+◌, ◌-◌, ◌*◌, ◌<◌, ◌≤◌, refl, sym, ap, subst, ◌∙◌, arith, ⊎_elim, inl, inr, lt_of_mul-lt-mul_right, mul-le-mul_right}
use Rattle.std.specs.Prelude.{◌⊎◌}
use Rattle.std.proofs.lemmas.Bool.{cases_lt}
use Rattle.tiger_base.specs.declared.tenancy.Tenancy.{Tenancy}
use Rattle.slot_plan.specs.declared.params.Params.{Params}
use Rattle.slot_plan.specs.Times.{time_of, due, cub_of}
use Rattle.slot_plan.proofs.Times.{time_mono, due_next, due_add, due_mono, cub_below, cub_ahead, cub_apart, same_cub}
use Rattle.proof_schedule.specs.HoldLaws.{horizon}
use Rattle.proof_schedule.specs.Facts.{Facts, Entered, PassedBy, ReachedBy, IsFirstLife, IsSameLife, LastReturn}
use Rattle.proof_schedule.specs.StateLaws.{Forwards}
use Rattle.proof_schedule.proofs.Soon.{sent_soon}
use Rattle.proof_schedule.proofs.Lives.{first_same_life, first_life_before, same_life_later, same_life_since_stop}
use Rattle.proof_schedule.proofs.Beats.{by_beats}
use Rattle.proof_schedule.proofs.Origins.{entered_held}
use Rattle.proof_schedule.proofs.Room.{soon_after}
use Rattle.proof_schedule.proofs.Timely.{sent_in_time, which_of}
use Rattle.proof_schedule.proofs.Ends.{IsEnd, one_put}
use Rattle.proof_schedule.proofs.Passes.{wave_step}
use Rattle.proof_schedule.proofs.Invariant.{Setting}
use Rattle.proof_schedule.proofs.Room.{wave_after}
use Rattle.proof_schedule.proofs.Waves.{Wave, PassedAt, pass_at, WaveAt, WaveBelow, EndsAt, EndsBelow, passed_later, passed_reached, tag_passed, reached_after, passed_after, first_passed, second_passed}

module _ (p : Params) (r : Facts) (g : Setting p r) (t : Tenancy) (x z n : ℕ) (e : IsEnd p r t x z n) where
  -- Visits within the horizon of the stop are less than a turn ahead.
  pub near_base : (d : ℕ) → due p t.slot.0 (n + d) ≤ horizon p (time_of p z) → d + 1 ≤ p.cubs
  near_base d h =
      let a = due_add p t.slot.0 n d in
      let near = e.near in
      let turn = g.turn.turn in
      let play = g.room.play in
      let lt : d * p.play < p.cubs * p.play = omega arith in
      let q : d < p.cubs = lt_of_mul-lt-mul_right p.play lt in
      omega arith

  -- In its first life a pass of such a visit's cub is at that visit, unless it is the first.
  at_visit : {c s q y : ℕ} (m : ℕ) → Wave p r g t x z n e c s q y → IsFirstLife r c y
      → cub_of p m ≡ cub_of p q → n < m → m < n + p.cubs → q ≡ m
  at_visit {c} {s} {q} {y} m o first same low high =
      let least = o.low in
      let most : q ≤ n + p.cubs = ⊎_elim
      (λ (w : q < n + p.cubs). omega arith)
      (λ w. let w0 = w.0 in omega arith)
      (o.high first) in
      ⊎_elim
      (λ (l : q < m). same_cub p q m (sym same) (omega arith) (omega arith))
      (λ (l : m ≤ q). sym (same_cub p m q same l (omega arith)))
      (cases_lt q m)

  -- From a pass at a visit, in a cub's first life, the deschedule comes to each of the next two
  -- cubs within a way, and is passed on there, if that cub has not been away since the stop.
  pub hop : {b d y : ℕ} (m k q : ℕ) → r.Came (cub_of p m) d → IsFirstLife r (cub_of p m) d → y ≤ d
      → q ≡ m + k → (k ≡ 1) ⊎ (k ≡ 2) → due p t.slot.0 (m + 1) ≤ horizon p (time_of p z)
      → r.Came (cub_of p q) b → IsSameLife r (cub_of p q) z b → y + p.delay ≤ b
      → PassedAt p r g t x z n e m y → PassedBy r (cub_of p q) t.instance.0 (y + p.delay)
  hop {b} {d} {y} m k q came first le there which h w life late at =
      let by = at.by in
      let after = passed_after p r g t x z n e at.passed in
      let tm = time_mono p z at.beat (omega arith) in
      let same = first_same_life r (cub_of p m) d first at.beat in
      let out = g.law.holds.passes at.passed came (omega arith) same (omega arith) in
      let told : r.Told (cub_of p m) k t.instance.0 t.slot.0 (m + 1) at.beat = ⊎_elim
      (λ (a : k ≡ 1). subst (λ v. r.Told (cub_of p m) v t.instance.0 t.slot.0 (m + 1) at.beat) (sym a) out.0)
      (λ (a : k ≡ 2). subst (λ v. r.Told (cub_of p m) v t.instance.0 t.slot.0 (m + 1) at.beat) (sym a) out.1)
      which in
      let to = ap (λ v. cub_of p v) there ∙ sym (cub_ahead p m k) in
      let since = same_life_later r (cub_of p q) z at.beat b (omega arith) life in
      let got = g.law.links.told_arrives (cub_of p q) b told to w since (omega arith) in
      passed_later p r g (at.beat + p.delay) (y + p.delay) (omega arith) (tag_passed p r g got)

  -- If the cub of such a visit has passed on in its first life, it has done so from that visit.
  pub passed_there : {y : ℕ} (m : ℕ) → WaveBelow p r g t x z n e (y + 1) → n < m → m < n + p.cubs
      → IsFirstLife r (cub_of p m) y
      → PassedBy r (cub_of p m) t.instance.0 y → PassedAt p r g t x z n e m y
  passed_there {y} m waves low high first k =
      let by = k.by in
      let o = waves k.beat (omega arith) (cub_of p m) k.slot k.visit k.passed in
      let then = first_life_before r (cub_of p m) y k.beat by first in
      let at = at_visit m o then (g.law.holds.pass k.passed).at low high in
      record {
        beat = k.beat;
        passed = subst (λ v. r.Passed (cub_of p m) t.instance.0 v m k.beat) o.slot (subst (λ v. r.Passed (cub_of p m) t.instance.0 k.slot v k.beat) at k.passed);
        by = by;
      }

  -- In its first life the cub of the d-th visit after the first passes the deschedule on within
  -- d + 2 ways.
  abbrev ReachOf : ℕ → Type 0
  ReachOf d = (b : ℕ) → WaveBelow p r g t x z n e (z + (d + 2) * p.delay + 1)
      → due p t.slot.0 (n + d) ≤ horizon p (time_of p z)
      → r.Came (cub_of p (n + d)) b → IsFirstLife r (cub_of p (n + d)) b
      → z + (d + 2) * p.delay ≤ b
      → PassedBy r (cub_of p (n + d)) t.instance.0 (z + (d + 2) * p.delay)

  -- It does so even if the cub before it died. The one before that has told it; if that one is the
  -- first, one of the first two has, as the wave is seeded.
  reach_past : (d b : ℕ) → WaveBelow p r g t x z n e (z + (d + 2) * p.delay + 1)
      → due p t.slot.0 (n + suc (suc d)) ≤ horizon p (time_of p z)
      → r.Came (cub_of p (n + suc (suc d))) b → IsFirstLife r (cub_of p (n + suc (suc d))) b
      → z + (suc (suc d) + 2) * p.delay ≤ b → r.Came (cub_of p (n + d)) (z + (d + 2) * p.delay)
      → IsFirstLife r (cub_of p (n + d)) (z + (d + 2) * p.delay)
      → PassedBy r (cub_of p (n + d)) t.instance.0 (z + (d + 2) * p.delay)
      → PassedBy r (cub_of p (n + suc (suc d))) t.instance.0 (z + (suc (suc d) + 2) * p.delay)
  reach_past zero b waves h w first late came then k =
      let by = k.by in
      let until = z + (suc (suc zero) + 2) * p.delay in
      let cubs = g.turn.cubs in
      let mono = due_mono p t.slot.0 (n + 1) (n + suc (suc zero)) (omega arith) in
      let o = waves k.beat (omega arith) (cub_of p (n + zero)) k.slot k.visit k.passed in
      let same : cub_of p (n + zero) ≡ cub_of p n = ap (λ v. cub_of p v) (omega arith) in
      let came_n = subst (λ v. r.Came v (z + (zero + 2) * p.delay)) same came in
      let then_n = subst (λ v. IsFirstLife r v (z + (zero + 2) * p.delay)) same then in
      let life = first_same_life r (cub_of p (n + suc (suc zero))) b first in
      let from = λ (a : PassedAt p r g t x z n e n k.beat).
      passed_later p r g (k.beat + p.delay) until (omega arith)
      (hop n 2 (n + suc (suc zero)) came_n then_n (omega arith)
      (omega arith) (inr refl) (omega arith) w (life z) (omega arith) a) in
      ⊎_elim
      (λ q. ⊎_elim
      (λ (a : k.visit ≡ n). from (subst (λ v. PassedAt p r g t x z n e v k.beat) a (pass_at p r g t x z n e k.passed o.slot)))
      (λ (a : k.visit ≡ n + 1).
      let here = sym same ∙ (g.law.holds.pass k.passed).at ∙ ap (λ v. cub_of p v) a in
      absurd (cub_apart p n 1 (omega arith) (omega arith) here))
      q)
      (λ q. ⊎_elim
      from
      (λ a.
      let ab = a.by in
      let two : n + suc (suc zero) ≡ n + 1 + 1 = omega arith in
      let to : cub_of p (n + suc (suc zero)) ≡ cub_of p (cub_of p (n + 1) + 1) = ap (λ v. cub_of p v) two ∙ sym (cub_ahead p (n + 1) 1) in
      let cub = cub_of p (n + suc (suc zero)) in
      let got = g.law.links.told_arrives cub b a.told to w (life a.beat) (omega arith) in
      passed_later p r g (a.beat + p.delay) until (omega arith) (tag_passed p r g got))
      q)
      o.seed
  reach_past (suc d) b waves h w first late came then k =
      let y = z + (suc d + 2) * p.delay in
      let until = z + (suc (suc (suc d)) + 2) * p.delay in
      let some = g.turn.delay in
      let turn = near_base (suc (suc (suc d))) h in
      let mono = due_mono p t.slot.0 (n + suc d + 1) (n + suc (suc (suc d))) (omega arith) in
      let at = passed_there (n + suc d) waves (omega arith) (omega arith) then k in
      let life = first_same_life r (cub_of p (n + suc (suc (suc d)))) b first z in
      passed_later p r g (y + p.delay) until (omega arith)
      (hop (n + suc d) 2 (n + suc (suc (suc d))) came then (omega arith)
      (omega arith) (inr refl) (omega arith) w life (omega arith) at)

  -- So a cub is reached if the two before it pass on while they live their first lives, since of
  -- these two at most one dies.
  reach_next : (d : ℕ) → ReachOf d → ReachOf (suc d) → ReachOf (suc (suc d))
  reach_next d far near b waves h w first late =
      let m = n + suc d in
      let y = z + (suc d + 2) * p.delay in
      let more : z + (suc (suc d) + 2) * p.delay ≡ y + p.delay = omega arith in
      let some = g.turn.delay in
      let mono = due_mono p t.slot.0 m (n + suc (suc d)) (omega arith) in
      let back = due_mono p t.slot.0 (n + d) (n + suc (suc d)) (omega arith) in
      let same : due p t.slot.0 (m + 1) ≡ due p t.slot.0 (n + suc (suc d)) = ap (λ v. due p t.slot.0 v) (omega arith) in
      let turn = near_base (suc (suc d)) h in
      let below : WaveBelow p r g t x z n e (y + 1) = λ c q. waves c (omega arith) in
      let lower : WaveBelow p r g t x z n e (z + (d + 2) * p.delay + 1) = λ c q. waves c (omega arith) in
      let life = first_same_life r (cub_of p (n + suc (suc d))) b first z in
      ⊎_elim
      (λ k.
      let came = g.law.run.came k.ticked in
      let passed = near y below (omega arith) came k.first (omega arith) in
      let at = passed_there m below (omega arith) (omega arith) k.first passed in
      subst (λ (v : ℕ). PassedBy r (cub_of p (n + suc (suc d))) t.instance.0 v) (sym more)
      (hop m 1 (n + suc (suc d)) came k.first (omega arith)
      (omega arith) (inl refl) (omega arith) w life (omega arith) at))
      (λ k. ⊎_elim
      (λ a.
      let then = z + (d + 2) * p.delay in
      let came = g.law.run.came a.ticked in
      let passed = far then lower (omega arith) came a.first (omega arith) in
      reach_past d b lower h w first late came a.first passed)
      (λ a. absurd (g.law.run.apart a.died k.died (ap (λ v. cub_of p v) (let u : n + suc d ≡ n + d + 1 = omega arith in u) ∙ sym (cub_ahead p (n + d) 1))))
      (g.law.run.up {a = z + (d + 2) * p.delay} w (omega arith) (cub_below p (n + d) g.ok.ranges)))
      (g.law.run.up {a = y} w (omega arith) (cub_below p m g.ok.ranges))

  -- By induction each cub is reached. The first two are, as the deschedule sets out there.
  reach : (d : ℕ) → ReachOf d
  reach zero b waves h w first late =
      let same : n + 0 ≡ n = omega arith in
      passed_later p r g (z + p.delay) (z + (0 + 2) * p.delay) (omega arith)
      (first_passed p r g t x z n e (ap (λ v. cub_of p v) same) w first (omega arith))
  reach (suc zero) b waves h w first late =
      passed_later p r g (z + 2 * p.delay) (z + (1 + 2) * p.delay) (omega arith)
      (second_passed p r g t x z n e refl w first (omega arith))
  reach (suc (suc d)) b waves h w first late =
      reach_next d (reach d) (reach (suc d)) b waves h w first late

  -- So each cub of a visit within the horizon is reached in a turn and one way, if it is in its
  -- first life.
  reach_at : {b : ℕ} (m : ℕ) → WaveBelow p r g t x z n e (z + (p.cubs + 1) * p.delay + 1)
      → n ≤ m → due p t.slot.0 m ≤ horizon p (time_of p z) → r.Came (cub_of p m) b
      → IsFirstLife r (cub_of p m) b → z + (p.cubs + 1) * p.delay ≤ b
      → PassedBy r (cub_of p m) t.instance.0 (z + (p.cubs + 1) * p.delay)
  reach_at {b} m waves low h w first late =
      let back : n + (m - n) ≡ m = omega arith in
      let hd : due p t.slot.0 (n + (m - n)) ≤ horizon p (time_of p z) = (let q = ap (λ v. due p t.slot.0 v) back in omega arith) in
      let turn = near_base (m - n) hd in
      let le : ((m - n) + 2) * p.delay ≤ (p.cubs + 1) * p.delay = mul-le-mul_right p.delay (omega arith) in
      let came = subst (λ (v : ℕ). r.Came (cub_of p v) b) (sym back) w in
      let there = subst (λ (v : ℕ). IsFirstLife r (cub_of p v) b) (sym back) first in
      passed_later p r g (z + ((m - n) + 2) * p.delay) (z + (p.cubs + 1) * p.delay) (omega arith)
      (subst (λ (v : ℕ). PassedBy r (cub_of p v) t.instance.0 (z + ((m - n) + 2) * p.delay)) back
      (reach (m - n) b (λ c q. waves c (omega arith)) hd came there (omega arith)))

  -- The first two cubs are reached within a way, by the controller, if they have not been away
  -- since the stop.
  pub told_at_once : {c b : ℕ} → (c ≡ cub_of p n) ⊎ (c ≡ cub_of p (n + 1)) → r.Came c b
      → IsSameLife r c z b → z + p.delay ≤ b → ReachedBy r c t.instance.0 (z + p.delay)
  told_at_once {c} {b} to w life late = ⊎_elim
      (λ h.
      let k = g.law.links.tag_arrives c b h to w life late in
      record { beat = k.beat; reached = g.law.holds.reached_tag k.got; by = k.by })
      (λ h.
      let there = ⊎_elim
      (λ a. inl (a ∙ ap (λ v. cub_of p v) h.base ∙ sym h.here))
      (λ a. inr (a ∙ ap (λ v. cub_of p (v + 1)) h.base ∙ sym h.next))
      to in
      let k = g.law.links.bare_arrives c b h.stopped there w life late in
      record { beat = k.beat; reached = g.law.holds.reached_bare k.got; by = k.by })
      e.how

  -- A cub that came back before the stop is reached too: by the cub before it, which never dies.
  reach_returned : {b : ℕ} (d : ℕ) → WaveBelow p r g t x z n e (z + (p.cubs + 1) * p.delay + 1)
      → due p t.slot.0 (n + suc (suc d)) ≤ horizon p (time_of p z)
      → r.Came (cub_of p (n + suc (suc d))) b → IsSameLife r (cub_of p (n + suc (suc d))) z b
      → LastReturn r (cub_of p (n + suc (suc d))) b → z + (p.cubs + 1) * p.delay ≤ b
      → ReachedBy r (cub_of p (n + suc (suc d))) t.instance.0 (z + (p.cubs + 1) * p.delay)
  reach_returned {b} d waves h w life back late =
      let m = n + suc d in
      let y = z + (suc d + 2) * p.delay in
      let some = g.turn.delay in
      let mono = due_mono p t.slot.0 m (n + suc (suc d)) (omega arith) in
      let next : n + suc (suc d) ≡ m + 1 = omega arith in
      let same = ap (λ v. due p t.slot.0 v) next in
      let turn = near_base (suc (suc d)) h in
      let far : suc (suc d) + 2 ≤ p.cubs + 1 = omega arith in
      let le = mul-le-mul_right p.delay far in
      let more : (suc (suc d) + 2) * p.delay ≡ (suc d + 2) * p.delay + p.delay = omega arith in
      let below : WaveBelow p r g t x z n e (y + 1) = λ c q. waves c (omega arith) in
      ⊎_elim
      (λ k.
      let came = g.law.run.came k.ticked in
      let passed = reach (suc d) y below (omega arith) came k.first (omega arith) in
      let at = passed_there m below (omega arith) (omega arith) k.first passed in
      let got = passed_reached p r g
      (hop m 1 (n + suc (suc d)) came k.first (omega arith)
      (omega arith) (inl refl) (omega arith) w life (omega arith) at) in
      let gb = got.by in
      record { beat = got.beat; reached = got.reached; by = omega arith })
      (λ k.
      let died = (g.law.run.returned back.returned).died in
      absurd (g.law.run.apart k.died died (ap (λ v. cub_of p v) next ∙ sym (cub_ahead p m 1))))
      (g.law.run.up {a = y} w (omega arith) (cub_below p m g.ok.ranges))

  -- So each cub of a visit within the horizon is reached in a turn and one way, if it has not been
  -- away since the stop.
  reach_in_life : {b : ℕ} (m : ℕ) → WaveBelow p r g t x z n e (z + (p.cubs + 1) * p.delay + 1)
      → n ≤ m → due p t.slot.0 m ≤ horizon p (time_of p z) → r.Came (cub_of p m) b
      → IsSameLife r (cub_of p m) z b → z + (p.cubs + 1) * p.delay ≤ b
      → ReachedBy r (cub_of p m) t.instance.0 (z + (p.cubs + 1) * p.delay)
  reach_in_life {b} m waves low h w life late =
      let one : p.delay ≤ (p.cubs + 1) * p.delay = omega arith in
      ⊎_elim
      (λ first. passed_reached p r g (reach_at m waves low h w first late))
      (λ back. ⊎_elim
      (λ (near : m < n + 2).
      let to = ⊎_elim
      (λ (a : m < n + 1). inl (ap (λ v. cub_of p v) (omega arith)))
      (λ (a : n + 1 ≤ m). inr (ap (λ v. cub_of p v) (omega arith)))
      (cases_lt m (n + 1)) in
      let k = told_at_once to w life (omega arith) in
      let kb = k.by in
      record { beat = k.beat; reached = k.reached; by = omega arith })
      (λ (far : n + 2 ≤ m).
      let there : n + suc (suc (m - (n + 2))) ≡ m = omega arith in
      subst (λ (v : ℕ). due p t.slot.0 v ≤ horizon p (time_of p z)
      → r.Came (cub_of p v) b → IsSameLife r (cub_of p v) z b → LastReturn r (cub_of p v) b
      → ReachedBy r (cub_of p v) t.instance.0 (z + (p.cubs + 1) * p.delay)) there
      (λ h w life back. reach_returned (m - (n + 2)) waves h w life back late)
      h w life back)
      (cases_lt m (n + 2)))
      (g.law.run.returns (cub_of p m) b)

  -- A visit whose next one is not due at the stop is the first of the wave, or a later one.
  pub from_base : (m : ℕ) → t.first ≤ m → time_of p z + p.skew < due p t.slot.0 m + p.play → n ≤ m
  from_base m low h = ⊎_elim
      (λ (l : m < n). ⊎_elim
      (λ (a : due p t.slot.0 n ≤ time_of p z + p.skew).
      let mono = due_mono p t.slot.0 (m + 1) n (omega arith) in
      let d = due_next p t.slot.0 m in
      absurd (omega arith))
      (λ a. let a0 = a.0 in absurd (omega arith))
      e.begins)
      (λ (l : n ≤ m). l)
      (cases_lt m n)

  -- A record of visit m enters before the wave is over, within the horizon. If it is a backup
  -- record, the next visit is within the horizon too.
  pub record EntersSoon (c m y : ℕ) : Type 0 where
    pub by : y ≤ z + (p.cubs + 2) * p.delay
    pub within : due p t.slot.0 m ≤ horizon p (time_of p z)
    pub next : c ≡ cub_of p (m + 1) → due p t.slot.0 (m + 1) ≤ horizon p (time_of p z)

  -- The second visit is within the horizon.
  put_due : due p t.slot.0 t.first + p.play ≤ horizon p (time_of p z)
  put_due =
      let i = g.law.states.inserts e.put in
      let below = i.below in
      let high = i.tick.high in
      let soon = e.soon in
      let m = soon_after p z x (omega arith) in
      let room = g.room in
      omega (arith, room)

  -- If no state goes out after the wave each record that enters is of a visit within the horizon.
  enters_soon : {c m y b : ℕ} → EndsBelow p r g t x z n e b → y ≤ b → Entered r c t m y
      → due p t.slot.0 m ≤ horizon p (time_of p z)
  enters_soon {c} {m} {y} {b} ends le w = ⊎_elim
      (λ a.
      let k = g.law.states.taken a in
      let s = g.law.links.carried k.got in
      let later = s.later in
      let until = ends s.beat (omega arith) s.from s.ahead k.visit s.sent in
      let soon = sent_soon p g.room r g.law s.sent in
      let after = wave_after p g.turn z s.beat (p.cubs + 1) (omega arith) until in
      let d = due_next p t.slot.0 k.visit in
      ⊎_elim
      (λ (q : m ≡ k.visit).
      let dm : due p t.slot.0 m ≡ due p t.slot.0 k.visit = ap (λ v. due p t.slot.0 v) q in
      omega arith)
      (λ (q : m ≡ k.visit + 1).
      let dm : due p t.slot.0 m ≡ due p t.slot.0 (k.visit + 1) = ap (λ v. due p t.slot.0 v) q in
      omega arith)
      (which_of p g.room r g.law t k.given))
      (λ a.
      let k = g.law.states.inserted a in
      let d = due_next p t.slot.0 t.first in
      let h = put_due in
      ⊎_elim
      (λ (q : m ≡ t.first).
      let dm : due p t.slot.0 m ≡ due p t.slot.0 t.first = ap (λ v. due p t.slot.0 v) q in
      omega arith)
      (λ (q : m ≡ t.first + 1).
      let dm : due p t.slot.0 m ≡ due p t.slot.0 (t.first + 1) = ap (λ v. due p t.slot.0 v) q in
      omega arith)
      (which_of p g.room r g.law t k.1))
      w

  -- It enters by the end of the wave.
  enters_by : {c m y b : ℕ} → EndsBelow p r g t x z n e b → y ≤ b → Entered r c t m y
      → y ≤ z + (p.cubs + 2) * p.delay
  enters_by {c} {m} {y} {b} ends le w =
      let d : (p.cubs + 2) * p.delay ≡ (p.cubs + 1) * p.delay + p.delay = omega arith in
      ⊎_elim
      (λ a.
      let k = g.law.states.taken a in
      let s = g.law.links.carried k.got in
      let later = s.later in
      let soon = s.soon in
      let until = ends s.beat (omega arith) s.from s.ahead k.visit s.sent in
      omega arith)
      (λ a.
      let same : y ≡ x = (one_put p r g e.put (g.law.states.inserted a).0 refl).2 in
      let soon = e.soon in
      omega arith)
      w

  -- If it is a backup record, the next visit is within the horizon too.
  enters_next : {c m y b : ℕ} → EndsBelow p r g t x z n e b → y ≤ b → Entered r c t m y
      → c ≡ cub_of p (m + 1) → due p t.slot.0 (m + 1) ≤ horizon p (time_of p z)
  enters_next {c} {m} {y} {b} ends le w ahead =
      let cubs = g.turn.cubs in
      let d = due_next p t.slot.0 m in
      ⊎_elim
      (λ a.
      let k = g.law.states.taken a in
      let s = g.law.links.carried k.got in
      let later = s.later in
      let until = ends s.beat (omega arith) s.from s.ahead k.visit s.sent in
      let soon = sent_soon p g.room r g.law s.sent in
      let after = wave_after p g.turn z s.beat (p.cubs + 1) (omega arith) until in
      ⊎_elim
      (λ q.
      let dm : due p t.slot.0 m ≡ due p t.slot.0 k.visit = ap (λ v. due p t.slot.0 v) q.0 in
      omega arith)
      (λ q. absurd (cub_apart p m 1 (omega arith) (omega arith) (sym q.2 ∙ ahead)))
      k.given)
      (λ a.
      let k = g.law.states.inserted a in
      let h = put_due in
      ⊎_elim
      (λ q.
      let dm : due p t.slot.0 m ≡ due p t.slot.0 t.first = ap (λ v. due p t.slot.0 v) q.0 in
      omega arith)
      (λ q. absurd (cub_apart p m 1 (omega arith) (omega arith) (sym q.2 ∙ ahead)))
      k.1)
      w

  -- No state is forwarded after the wave: its record entered before, so the cub was reached since,
  -- and has dropped it.
  goes_late : (b : ℕ) → WaveBelow p r g t x z n e b → EndsBelow p r g t x z n e b
      → z + (p.cubs + 1) * p.delay < b → {a k m : ℕ} → r.Sent a k t m b → Forwards p r a t m b → ⊥
  goes_late b waves ends late {a} {k} {m} w o =
      let by = o.by in
      let next = o.next in
      let low = (entered_held p r g.law o.entered).low in
      let timely = (sent_in_time p g.room r g.law w).later (omega arith) in
      let dm : due p t.slot.0 m ≡ due p t.slot.0 o.visit + p.play = ap (λ v. due p t.slot.0 v) next ∙ due_next p t.slot.0 o.visit in
      let tz = time_mono p z b (omega arith) in
      let base = from_base o.visit low (omega arith) in
      let within = enters_soon ends by o.entered in
      let until = enters_by ends by o.entered in
      let came = subst (λ v. r.Came v b) o.own o.tick.came in
      let life = same_life_since_stop p r g.law b g.room o.entered within o.life in
      let there = subst (λ v. IsSameLife r v z b) o.own life in
      let below : WaveBelow p r g t x z n e (z + (p.cubs + 1) * p.delay + 1) = λ c l.
      waves c (omega arith) in
      let k = reach_in_life o.visit below base within came there (omega arith) in
      let kb = k.by in
      let reached = subst (λ v. r.Reached v t.instance.0 k.beat) (sym o.own) k.reached in
      let since = reached_after p r g t x z n e reached in
      let same = same_life_later r a z k.beat b (omega arith) life in
      let rel = o.since k.beat reached (omega arith) same in
      let after = reached_after p r g t x z n e {c = a} {y = rel.beat} rel.reached in
      let over = rel.over in
      let tm = time_mono p z rel.beat (omega arith) in
      let wa = wave_after p g.turn z o.beat (p.cubs + 2) (omega arith) until in
      let play = g.room.play in
      omega arith

  -- So no state of a beat goes out after the wave, if all is well in lower beats.
  ends_step : (b : ℕ) → WaveBelow p r g t x z n e b → EndsBelow p r g t x z n e b
      → EndsAt p r g t x z n e b
  ends_step b waves ends a k m w = ⊎_elim
      (λ (late : z + (p.cubs + 1) * p.delay < b). absurd (⊎_elim
      (λ i.
      let same : b ≡ x = (one_put p r g e.put i.put refl).2 in
      let soon = e.soon in
      let one : p.delay ≤ (p.cubs + 1) * p.delay = omega arith in
      let u : ⊥ = omega arith in u)
      (λ go. goes_late b waves ends late w go)
      (g.law.states.sends w)))
      (λ (fine : b ≤ z + (p.cubs + 1) * p.delay). fine)
      (cases_lt (z + (p.cubs + 1) * p.delay) b)

  -- In beat b passes are of the wave, and no state goes out after it.
  record Both (b : ℕ) : Type 0 where
    wave : WaveAt p r g t x z n e b
    ends : EndsAt p r g t x z n e b

  -- Both hold in a beat if they hold in all lower ones.
  both_step : (b : ℕ) → ((y : ℕ) → y < b → Both y) → Both b
  both_step b below =
      let waves : WaveBelow p r g t x z n e b = λ y l. (below y l).wave in
      let ends : EndsBelow p r g t x z n e b = λ y l. (below y l).ends in
      record { wave = wave_step p r g t x z n e b waves ends; ends = ends_step b waves ends }

  -- So they hold in every beat, by induction.
  both : (b : ℕ) → Both b
  both b = by_beats Both both_step b

  -- So each pass is of the wave.
  pub wave : {c s q y : ℕ} → r.Passed c t.instance.0 s q y → Wave p r g t x z n e c s q y
  wave {c} {s} {q} {y} h = (both y).wave c s q h

  -- Each state goes out before the wave is over.
  pub ends : {a k m y : ℕ} → r.Sent a k t m y → y ≤ z + (p.cubs + 1) * p.delay
  ends {a} {k} {m} {y} w = (both y).ends a k m w

  -- And each record enters by then.
  pub enters : {c m y : ℕ} → Entered r c t m y → EntersSoon c m y
  enters {c} {m} {y} w =
      let all : EndsBelow p r g t x z n e y = λ b l. (both b).ends in
      record { by = enters_by all (omega arith) w; within = enters_soon all (omega arith) w; next = λ a. enters_next all (omega arith) w a }

  -- The same of all passes below a beat, as one statement.
  pub all_waves : (b : ℕ) → WaveBelow p r g t x z n e b
  all_waves b y l = (both y).wave

  -- A cub of a visit within the horizon is reached when the wave is over, if it has not been away
  -- since the stop.
  pub reached_at : {b : ℕ} (m : ℕ) → n ≤ m → due p t.slot.0 m ≤ horizon p (time_of p z)
      → r.Came (cub_of p m) b → IsSameLife r (cub_of p m) z b → z + (p.cubs + 1) * p.delay ≤ b
      → ReachedBy r (cub_of p m) t.instance.0 (z + (p.cubs + 1) * p.delay)
  reached_at m low h w life late =
      reach_in_life m (all_waves (z + (p.cubs + 1) * p.delay + 1)) low h w life late
