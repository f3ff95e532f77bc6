-- What is cut at a visit's cub is cut at the next two cubs when the next visit may open.
use Rattle.std.proofs.Common.{◌≡◌, ℕ, ◌+◌, ◌<◌, ◌≤◌, arith, ⊎_elim, inl, inr}
use Rattle.std.specs.Prelude.{◌⊎◌}
use Rattle.std.proofs.lemmas.Bool.{cases_lt}
use Rattle.tiger_base.specs.declared.tenancy.Tenancy.{Tenancy}
use Rattle.slot_plan.specs.declared.params.Params.{Params}
use Rattle.slot_plan.specs.Times.{time_of, due, cub_of}
use Rattle.slot_plan.proofs.Times.{time_next, time_mono, due_later, due_mono, due_add}
use Rattle.proof_schedule.specs.HoldLaws.{horizon}
use Rattle.proof_schedule.specs.Facts.{Facts, Cut, PassedBy, IsFirstLife}
use Rattle.proof_schedule.specs.Schedule.{MayOpen}
use Rattle.proof_schedule.proofs.Invariant.{Setting, IsOpening, CutOn, IsLongBack}
use Rattle.proof_schedule.proofs.Lives.{same_life_or_return}
use Rattle.proof_schedule.proofs.Silence.{reached_gone}
use Rattle.proof_schedule.proofs.Ahead.{reached_passed}
use Rattle.proof_schedule.proofs.Ends.{IsEnd, end_of}
use Rattle.proof_schedule.proofs.Reach.{hop, passed_there, all_waves}
use Rattle.proof_schedule.proofs.Soon.{put_over}
use Rattle.proof_schedule.proofs.Waves.{passed_reached, reached_after}

module _ (p : Params) (r : Facts) (g : Setting p r) where
  -- Of a tenancy t that was put and stopped.
  module _ (t : Tenancy) (x z n : ℕ) (e : IsEnd p r t x z n) where
    -- A visit that opens after the stop lies behind the first of the wave.
    beyond : {y k : ℕ} → z < y → t.first < k → IsOpening p t k y → n < k
    beyond {y} {k} zy low o =
        let now = o.opens in
        let only = o.only_now in
        let m = time_mono p (z + 1) y (omega arith) in
        let s = time_next p z in
        let opens = g.room.opens in
        ⊎_elim
        (λ (l : n < k). l)
        (λ (l : k ≤ n). ⊎_elim
        (λ (a : due p t.slot.0 n ≤ time_of p z + p.skew).
        let mono = due_mono p t.slot.0 k n l in
        absurd (omega arith))
        (λ a. let a0 = a.0 in absurd (omega arith))
        e.begins)
        (cases_lt n k)

    -- If its cub has passed the deschedule on in its first life, the next two cubs get it in time;
    -- or the next visit is so late that the stop is long ago, or one of them was away since the
    -- stop, and has been back for long.
    next_cut : {k y b : ℕ} (a q : ℕ) → r.Came (cub_of p k) y → IsFirstLife r (cub_of p k) y
        → q ≡ k + a → (a ≡ 1) ⊎ (a ≡ 2) → n < k
        → k < n + p.cubs → MayOpen p t (k + 1) b → y + p.delay < b
        → r.Came (cub_of p q) b → IsLongBack p r (cub_of p q) b
        → PassedBy r (cub_of p k) t.instance.0 y → Cut p r (cub_of p q) t.instance.0 b
    next_cut {k} {y} {b} a q came first there which low high may late w long v =
        let room = g.room in
        ⊎_elim
        (λ (far : horizon p (time_of p z) < due p t.slot.0 (k + 1)). inr (record { beat = z; gone = e.gone; late = omega (arith, room) }))
        (λ (near : due p t.slot.0 (k + 1) ≤ horizon p (time_of p z)).
        let waves = all_waves p r g t x z n e (y + 1) in
        let at = passed_there p r g t x z n e k waves low high first v in
        ⊎_elim
        (λ life.
        let got = passed_reached p r g
        (hop p r g t x z n e k a q came first (omega arith)
        there which near w life (omega arith) at) in
        let gb = got.by in
        inl (record { beat = got.beat; reached = got.reached; by = omega arith }))
        (λ back.
        let after = back.after in
        let over = long back.beat back.returned back.by in
        let m = time_mono p z back.beat (omega arith) in
        inr (record { beat = z; gone = e.gone; late = omega arith }))
        (same_life_or_return p r g.law (cub_of p q) z b))
        (cases_lt (horizon p (time_of p z)) (due p t.slot.0 (k + 1)))

    -- A visit a turn ahead opens a play time after the stop.
    turn_late : {c k y b : ℕ} → n + p.cubs ≤ k → MayOpen p t k y → y ≤ b → Cut p r c t.instance.0 b
    turn_late {c} {k} {y} {b} far may le =
        let mono = due_mono p t.slot.0 (n + p.cubs) k far in
        let a = due_add p t.slot.0 n p.cubs in
        let near = e.near in
        let turn = g.turn.turn in
        let room = g.room in
        let tb = time_mono p y b le in
        inr (record { beat = z; gone = e.gone; late = omega (arith, room) })

    -- So what has reached the cub of a visit in its first life is cut at the next two.
    reached_on : {k y b rb l : ℕ} (a q : ℕ) → q ≡ k + a → (a ≡ 1) ⊎ (a ≡ 2) → t.first < k
        → y + p.delay < b → IsOpening p t k y → MayOpen p t (k + 1) b
        → r.Reached (cub_of p k) t.instance.0 rb → rb ≤ y → r.Ticked (cub_of p k) y l
        → IsFirstLife r (cub_of p k) y → r.Came (cub_of p q) b → IsLongBack p r (cub_of p q) b
        → Cut p r (cub_of p q) t.instance.0 b
    reached_on {k} {y} {b} {rb} {l} a q there which low late o may h by tick first w long =
        let after = reached_after p r g t x z n e h in
        let beyond_k = beyond (omega arith) low o in
        let opens = o.opens in
        let later = due_later p t.slot.0 t.first k low in
        ⊎_elim
        (λ (near : k < n + p.cubs).
        let came = g.law.run.came tick in
        let mono = due_mono p t.slot.0 (t.first + 1) k (omega arith) in
        let heard = put_over p g.room r g.law e.put (omega arith) in
        let passed = reached_passed p r g t x z n e h by came first (λ wait next. inl heard) in
        next_cut a q came first there which beyond_k near may late w long passed)
        (λ (far : n + p.cubs ≤ k). turn_late far opens (omega arith))
        (cases_lt k (n + p.cubs))

  -- And what is long gone there is long gone everywhere.
  pub cut_on : (b : ℕ) → CutOn p r b
  cut_on b c x y l k q n t i low more late o may tick first cut there which w long = ⊎_elim
      (λ a.
      let gone = reached_gone p g.ok g.room r g.law (cub_of p n) t.instance.0 a.beat a.reached in
      let end = end_of p r g i gone.gone in
      reached_on t x gone.beat end.0 end.1 k q there which
      low late o may a.reached a.by tick first w long)
      (λ a.
      let la = a.late in
      let m = time_mono p y b (omega arith) in
      inr (record { beat = a.beat; gone = a.gone; late = omega arith }))
      cut
