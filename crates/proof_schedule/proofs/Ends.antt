-- Where the deschedule of a tenancy begins its way, and until when its instance may be put.
use Rattle.std.proofs.Common.{◌≡◌, ℕ, ◌+◌, ◌*◌, ◌<◌, ◌≤◌, refl, sym, ap, subst, ◌∙◌, arith, ⊎_elim, inl, inr}
use Rattle.std.specs.Prelude.{◌⊎◌}
use Rattle.std.proofs.lemmas.Bool.{cases_lt}
use Rattle.tiger_base.specs.declared.tenancy.Ask.{Ask}
use Rattle.tiger_base.specs.declared.tenancy.Tenancy.{Tenancy}
use Rattle.slot_plan.specs.declared.params.Params.{Params}
use Rattle.slot_plan.specs.Times.{time_of, due, cub_of, disk_of}
use Rattle.slot_plan.proofs.Times.{time_add, time_mono, due_next, cub_ahead}
use Rattle.proof_schedule.specs.Facts.{Facts}
use Rattle.proof_schedule.proofs.Starts.{disk_cub, ordered, put_first}
use Rattle.proof_schedule.proofs.Room.{way}
use Rattle.proof_schedule.proofs.Lives.{first_same_life}
use Rattle.proof_schedule.proofs.Timely.{put_in_time}
use Rattle.proof_schedule.proofs.Invariant.{Setting}

-- The controller stopped the instance of t at a disk: it did not yet know of the Put of beat x. So
-- the deschedule goes to the cub of the first visit and the next one, long before that visit is
-- due.
pub record WasWaiting (p : Params) (r : Facts) (t : Tenancy) (x z n : ℕ) : Type 0 where
  pub disk : ℕ
  pub stopped : r.StoppedWaiting t.instance.0 disk z
  pub here : cub_of p disk ≡ cub_of p t.first
  pub next : cub_of p (disk + 1) ≡ cub_of p (t.first + 1)
  pub base : n ≡ t.first
  pub early : z < x + 2 * p.delay
  pub undue : time_of p z + p.skew + way p < due p t.slot.0 t.first

-- Tenancy t was put in beat x, and its instance stopped in beat z: its deschedule begins at visit
-- n. That is the last visit that is due then, or the first.
pub record IsEnd (p : Params) (r : Facts) (t : Tenancy) (x z n : ℕ) : Type 0 where
  pub cub : ℕ
  pub put : r.Put cub t x
  pub gone : r.Gone t.instance.0 z
  pub low : t.first ≤ n
  pub near : time_of p z < due p t.slot.0 n + p.play
  pub begins : (due p t.slot.0 n ≤ time_of p z + p.skew) ⊎ ((n ≡ t.first) × (time_of p z < due p t.slot.0 n))
  pub soon : x < z + p.delay
  pub how : r.StoppedAt t.instance.0 t.slot.0 n z ⊎ WasWaiting p r t x z n

-- The cub of a visit's disk is the visit's cub.
cub_of_disk : (p : Params) (n : ℕ) → cub_of p (disk_of p n) ≡ cub_of p n
unfolding cub_of
cub_of_disk p n = disk_cub p n

module _ (p : Params) (r : Facts) (g : Setting p r) where
  -- An instance is put once: of two Puts the later one is in a beat of the invariant.
  pub one_put : {c d x y : ℕ} {t u : Tenancy} → r.Put c t x → r.Put d u y
      → u.instance.0 ≡ t.instance.0 → (d ≡ c) × (u ≡ t) × (y ≡ x)
  one_put {c} {d} {x} {y} {t} {u} i j e = ⊎_elim
      (λ (l : x < y). let o = g.once y d c x u t (omega arith) j i (sym e) in (sym o.0, sym o.1, sym o.2))
      (λ (l : y ≤ x). g.once x c d y t u l i j e)
      (cases_lt x y)

  -- A tenancy that is stopped at a visit has its end there.
  end_at : {c x z s n : ℕ} {t : Tenancy} → r.Put c t x → r.Gone t.instance.0 z
      → r.StoppedAt t.instance.0 s n z → IsEnd p r t x z n
  end_at {c} {x} {z} {s} {n} {t} i gone h =
      let k = g.law.stops.place h in
      let same = one_put i k.put k.same in
      let before = k.before in
      let beats : k.beat ≡ x = same.2 in
      let slot : s ≡ t.slot.0 = sym k.slot ∙ ap (λ (u : Tenancy). u.slot.0) same.1 in
      let firsts : k.tenancy.first ≡ t.first = ap (λ (u : Tenancy). u.first) same.1 in
      let low = k.low in
      let dn : due p s n ≡ due p t.slot.0 n = ap (λ v. due p v n) slot in
      let dm : due p s (n + 1) ≡ due p t.slot.0 n + p.play = ap (λ v. due p v (n + 1)) slot ∙ due_next p t.slot.0 n in
      record {
        cub = c;
        put = i;
        gone = gone;
        low = omega arith;
        near = ⊎_elim (λ a. let a1 = a.1 in omega arith) (λ a. let a1 = a.1 in omega arith) k.last;
        begins = ⊎_elim (λ a. let a0 = a.0 in inl (omega arith)) (λ a. let a1 = a.1 in inr (a.0 ∙ firsts, omega arith)) k.last;
        soon = omega arith;
        how = inl (subst (λ v. r.StoppedAt t.instance.0 v n z) slot h);
      }

  -- The disk at which an instance is stopped is that of its first visit.
  pub disk_is : {c d x z : ℕ} {t : Tenancy} → r.Put c t x → r.StoppedWaiting t.instance.0 d z
      → d ≡ disk_of p t.first
  disk_is {c} {d} {x} {z} {t} i h =
      let k = g.law.stops.waiting h in
      let o = ordered p g.ok g.room r g.law i in
      let asks : k.ask ≡ o.ask = (g.law.starts.one_order o.begun k.begun (ap (λ v. v.0) o.asked.instance ∙ sym k.same)).0 in
      sym k.disk ∙ ap (λ (q : Ask). q.disk.0) asks ∙ o.asked.disk

  -- The cub of that disk is the cub of the first visit.
  pub first_cub : {d : ℕ} (t : Tenancy) → d ≡ disk_of p t.first → cub_of p d ≡ cub_of p t.first
  first_cub {d} t e = ap (λ v. cub_of p v) e ∙ cub_of_disk p t.first

  -- The cub after it is the cub of the second visit.
  pub second_cub : {d : ℕ} (t : Tenancy) → d ≡ disk_of p t.first
      → cub_of p (d + 1) ≡ cub_of p (t.first + 1)
  second_cub {d} t e = sym (cub_ahead p d 1) ∙ ap (λ v. cub_of p (v + 1)) (first_cub t e) ∙ cub_ahead p t.first 1

  -- An instance that is stopped at a disk is put less than a way after the stop: after that, the
  -- deschedule has come, and the start is gone.
  waiting_put : {c d x z : ℕ} {t : Tenancy} → r.Put c t x → r.StoppedWaiting t.instance.0 d z
      → x < z + p.delay
  waiting_put {c} {d} {x} {z} {t} i h = ⊎_elim
      (λ (l : x < z + p.delay). l)
      (λ (late : z + p.delay ≤ x).
      let put = g.law.states.inserts i in
      let disk_of_first = disk_is i h in
      let to = ⊎_elim
      (λ w. inl (w.own ∙ sym (first_cub t disk_of_first)))
      (λ w. inr (w.next ∙ sym (second_cub t disk_of_first)))
      put.who in
      let life = first_same_life r c x put.first z in
      let k = g.law.links.bare_arrives c x h to put.tick.came life late in
      let by = k.by in
      let after = put_first p g.ok g.room r g.law i (g.law.holds.reached_bare k.got) in
      absurd (omega arith))
      (cases_lt x (z + p.delay))

  -- A tenancy that is stopped at a disk has its end at its first visit.
  end_waiting : {c d x z : ℕ} {t : Tenancy} → r.Put c t x → r.Gone t.instance.0 z
      → r.StoppedWaiting t.instance.0 d z → IsEnd p r t x z t.first
  end_waiting {c} {d} {x} {z} {t} i gone h =
      let early = g.early z c d x t h i in
      let timely = put_in_time p g.room r g.law i in
      let m = time_mono p z (x + p.delay + p.delay) (omega arith) in
      let a = time_add p (x + p.delay) p.delay in
      let a1 = time_add p x p.delay in
      let close = g.room.close in
      let disk_of_first = disk_is i h in
      let undue : time_of p z + p.skew + way p < due p t.slot.0 t.first = omega (arith, close) in
      record {
        cub = c;
        put = i;
        gone = gone;
        low = omega arith;
        near = omega arith;
        begins = inr (refl, omega arith);
        soon = waiting_put i h;
        how = inr (record { disk = d; stopped = h; here = first_cub t disk_of_first; next = second_cub t disk_of_first; base = refl; early = early; undue = undue });
      }

  -- So each tenancy of an instance that is stopped has its end.
  pub end_of : {c x z : ℕ} {t : Tenancy} → r.Put c t x → r.Gone t.instance.0 z
      → (n : ℕ) × IsEnd p r t x z n
  end_of {c} {x} {z} {t} i gone = ⊎_elim
      (λ h. (h.1, end_at i gone h.2))
      (λ h. (t.first, end_waiting i gone h.1))
      (g.law.stops.how gone)
