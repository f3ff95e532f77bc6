-- If the cub of a visit died long before, the next cub believes it dead in time, has the visit's record, and splits it.
use Rattle.std.proofs.Common.{◌≡◌, ℕ, ◌+◌, ◌-◌, ◌*◌, ◌<◌, ◌≤◌, refl, sym, subst, ◌∙◌, arith, ⊎_elim, inr, eq-or-lt_of_le}
use Rattle.std.proofs.lemmas.Bool.{cases_lt}
use Rattle.tiger_base.specs.declared.tenancy.Tenancy.{Tenancy}
use Rattle.slot_plan.specs.declared.params.Params.{Params}
use Rattle.slot_plan.specs.Times.{time_of, due, cub_of, takeover}
use Rattle.slot_plan.proofs.Times.{time_add, time_below, time_mono, due_pos, cub_below, cub_ahead}
use Rattle.proof_schedule.specs.Facts.{Facts, LivedTo, BelievedBy, EnteredBy}
use Rattle.proof_schedule.proofs.Lives.{first_same_life, first_is_open, next_first_life}
use Rattle.proof_schedule.proofs.Room.{way, way_is, soon_after}
use Rattle.proof_schedule.proofs.Timely.{entered_in_time}
use Rattle.proof_pieces.specs.PieceFacts.{PieceFacts}
use Rattle.proof_pieces.proofs.Leaving.{lead}
use Rattle.proof_service.specs.ServiceFacts.{ServiceFacts, SplitBy, IsLeftTo}
use Rattle.proof_service.specs.ServiceLaws.{HeardTill}
use Rattle.proof_service.proofs.Service.{Service}
use Rattle.proof_service.proofs.Serving.{Awaited, in_run, not_reached, not_cut}
use Rattle.proof_service.proofs.Ticks.{turn}

-- Visit n may be in a window from beat b on, and is not due yet.
pub record IsOpen (p : Params) (t : Tenancy) (n b : ℕ) : Type 0 where
  pub opens : due p t.slot.0 n ≤ time_of p b + p.window_a + p.skew
  pub early : time_of p b < due p t.slot.0 n

-- By beat b a death of beat e is believed, and what is due a takeover after the death can still be
-- split.
record Belief (p : Params) (e b : ℕ) : Type 0 where
  late : time_of p e + way p + p.skew + p.deadman < time_of p b
  early : time_of p b + p.read_lead + 2 * p.skew + way p + p.beat < time_of p e + takeover p

-- Each death is believed by such a beat.
belief : (p : Params) → 1 ≤ p.beat → (e : ℕ) → (b : ℕ) × Belief p e b
unfolding takeover
belief p some e =
    let o = turn p some (time_of p e + way p + p.skew + p.deadman + 1) (omega arith) in
    let meets = o.1.meets in
    let only_now = o.1.only_now in
    let w = way_is p in
    (o.0, record { late = omega arith; early = omega arith })

module _ (p : Params) (r : Facts) (q : PieceFacts) (w : ServiceFacts) (end : ℕ) (s : Service p r q w end) where
  -- A later visit than a slot's first is open in some beat.
  pub opening : (t : Tenancy) (n : ℕ) → 1 ≤ n → (b : ℕ) × IsOpen p t n b
  opening t n some =
      let pos = due_pos p t.slot.0 n some in
      let room = s.setting.room in
      let o = turn p room.beat (due p t.slot.0 n - (p.window_a + p.skew)) (omega arith) in
      let meets = o.1.meets in
      let only_now = o.1.only_now in
      let split = lead p s.setting.ok in
      (o.0, record { opens = omega arith; early = omega arith })

  -- A cub whose predecessor died so long before a tick believes it dead then.
  believes : {c d e b l : ℕ} → r.Died d e → d < p.cubs → c ≡ cub_of p (d + 1) → r.Ticked c b l
      → time_of p e + way p + p.skew + p.deadman < time_of p b
      → BelievedBy r c b
  believes {c} {d} {e} {b} {l} died small next tick long =
      let low = (s.setting.law.run.reads tick).0 in
      ⊎_elim
      (λ k. k)
      (λ k. ⊎_elim
      (λ (h : HeardTill p r c b l).
      let up = s.laws.heard_from h.heard small next in
      let alive = s.setting.law.run.last up.came died up.first in
      let m = time_mono p up.beat e alive in
      let soon = soon_after p up.beat h.beat up.soon in
      let till = h.till in
      absurd (omega arith))
      (λ h. absurd (omega arith))
      k)
      (s.laws.watches tick (next_first_life p r s.setting.law c b died next))

  -- The cub after one that dies never dies, so it ends each beat of the run in its first life.
  pub goes_on : {e : ℕ} (b n : ℕ) → r.Died (cub_of p n) e → b < end → LivedTo r (cub_of p (n + 1)) b
  goes_on {e} b n died l = ⊎_elim
      (λ k. k)
      (λ k. absurd (s.setting.law.run.apart died k.died (sym (cub_ahead p n 1))))
      (s.laws.ends l (cub_below p (n + 1) s.setting.ok.ranges))

-- Of an awaited visit n of t, whose cub died in beat e, and which is left to the next one.
module _ (p : Params) (r : Facts) (q : PieceFacts) (w : ServiceFacts) (end : ℕ) (s : Service p r q w end)
    (t : Tenancy) (n : ℕ) (v : Awaited p r end t n) (e : ℕ) (died : r.Died (cub_of p n) e)
    (f : ℕ) (meets : due p t.slot.0 n ≤ time_of p f)
    (left : IsLeftTo p w (cub_of p (n + 1)) t n f) where
  -- A record that the next cub has at a tick, after the belief and early enough, is split.
  split_at : {b : ℕ} → EnteredBy r (cub_of p (n + 1)) t n b
      → time_of p e + way p + p.skew + p.deadman < time_of p b
      → time_of p b + p.read_lead + 2 * p.skew + way p + p.beat ≤ due p t.slot.0 n
      → SplitBy q (cub_of p (n + 1)) t n b
  split_at {b} entered late early =
      let far = in_run p r q w end s t n v b (omega (arith, s.setting.room)) in
      let k = goes_on p r q w end s b n died (omega arith) in
      let high = (s.setting.law.run.reads k.ticked).1 in
      let believed = believes p r q w end s died (cub_below p n s.setting.ok.ranges) (sym (cub_ahead p n 1)) k.ticked late in
      let before = time_below p b f (omega (arith, s.setting.room)) in
      let then : IsLeftTo p w (cub_of p (n + 1)) t n b =
      λ from y took by. left from y took (omega arith) in
      ⊎_elim
      (λ h. h)
      (λ h. absurd (not_reached p r q w end s t n v h (omega (arith, s.setting.room))))
      (s.laws.split_due believed entered refl k.ticked k.first then (omega arith))

  -- So a record that enters early enough is split by the belief, or when it enters.
  split_entered : (y b : ℕ) → EnteredBy r (cub_of p (n + 1)) t n y → Belief p e b
      → time_of p y + p.read_lead + 2 * p.skew + way p + p.beat ≤ due p t.slot.0 n
      → time_of p e + takeover p ≤ due p t.slot.0 n
      → (x : ℕ) × SplitBy q (cub_of p (n + 1)) t n x
  split_entered y b h g early long =
      let late = g.late in
      let in_time = g.early in
      let by = h.by in
      let c : ℕ = cub_of p (n + 1) in
      let first = next_first_life p r s.setting.law c b died (sym (cub_ahead p n 1)) in
      let same = first_same_life r c b first h.beat in
      ⊎_elim
      (λ (before : b < y). let m = time_mono p b y (omega arith) in (y, split_at h (omega arith) early))
      (λ (after : y ≤ b).
      let then : EnteredBy r c t n b =
      record { beat = h.beat; entered = h.entered; by = omega arith; life = same } in
      (b, split_at then late (omega arith)))
      (cases_lt b y)

  -- The next cub's record of a later visit enters before the visit's window may open.
  split_later : {c x : ℕ} → r.Put c t x → t.first < n → n ≤ t.last
      → time_of p e + takeover p ≤ due p t.slot.0 n
      → (b : ℕ) × SplitBy q (cub_of p (n + 1)) t n b
  split_later {c} {x} i low high long =
      let o = opening p r q w end s t n (omega arith) in
      let open_early = o.1.early in
      let far = in_run p r q w end s t n v o.0 (omega (arith, s.setting.room)) in
      let k = goes_on p r q w end s o.0 n died (omega arith) in
      ⊎_elim
      (λ h.
      let z = (entered_in_time p s.setting.room r s.setting.law h.entered).later low in
      let split = lead p s.setting.ok in
      let wider = s.setting.room.opens in
      let g = belief p s.setting.room.beat e in
      let then : EnteredBy r (cub_of p (n + 1)) t n h.beat =
      record { beat = h.beat; entered = h.entered; by = omega arith; life = λ x back le. le } in
      split_entered h.beat g.0 then g.1 (omega arith) long)
      (λ h. absurd (not_cut p r q w end s t n v h (omega arith)))
      (s.one.beside c x o.0 e k.reading n t i low high o.1.opens died k.ticked)

-- And of an awaited first visit.
module _ (p : Params) (r : Facts) (q : PieceFacts) (w : ServiceFacts) (end : ℕ) (s : Service p r q w end)
    (t : Tenancy) (v : Awaited p r end t t.first) (e : ℕ) (died : r.Died (cub_of p t.first) e)
    (f : ℕ) (meets : due p t.slot.0 t.first ≤ time_of p f)
    (left : IsLeftTo p w (cub_of p (t.first + 1)) t t.first f) where
  -- If the visit's own cub put, the state of the Put comes before the belief.
  split_put : {c x : ℕ} → r.Put c t x → c ≡ cub_of p t.first
      → time_of p e + takeover p ≤ due p t.slot.0 t.first
      → (b : ℕ) × SplitBy q (cub_of p (t.first + 1)) t t.first b
  split_put {c} {x} i own long =
      let z = s.setting.law.states.inserts i in
      let own_died = subst (λ d. r.Died d e) (sym own) died in
      let alive = s.setting.law.run.last z.tick.came own_died z.first in
      let g = belief p s.setting.room.beat e in
      let late = g.1.late in
      let early = g.1.early in
      let far = in_run p r q w end s t t.first v g.0 (omega (arith, s.setting.room)) in
      let k = goes_on p r q w end s g.0 t.first died (omega arith) in
      let m = time_mono p x e alive in
      let a = time_add p x p.delay in
      let after = time_below p (x + p.delay) g.0 (omega arith) in
      let d : ℕ = due p t.slot.0 t.first in
      let let_in = first_is_open p r (cub_of p (t.first + 1)) g.0 k.first d in
      ⊎_elim
      (λ h. (g.0, split_at p r q w end s t t.first v e died f meets left h late (omega arith)))
      (λ h. absurd (not_cut p r q w end s t t.first v h (omega (arith, s.setting.room))))
      (s.one.first_backup c x g.0 k.reading t i own k.ticked (omega arith) let_in)

  -- If the next cub put, it splits the visit in the tick of its Put.
  split_own : {c x : ℕ} → r.Put c t x → c ≡ cub_of p (t.first + 1) → BelievedBy r c x
      → (b : ℕ) × SplitBy q (cub_of p (t.first + 1)) t t.first b
  split_own {c} {x} i next believed =
      let z = s.setting.law.states.inserts i in
      let above = z.above in
      let low = z.tick.low in
      let split = lead p s.setting.ok in
      let entered : EnteredBy r c t t.first x =
      record { beat = x; entered = inr z.entered; by = omega arith; life = λ y back le. le } in
      let first_left : IsLeftTo p w c t t.first x = λ from y took by. inr refl in
      let whole = ⊎_elim
      (λ k. k)
      (λ k. absurd (s.setting.law.run.apart died k (next ∙ sym (cub_ahead p t.first 1))))
      z.whole in
      let o = ⊎_elim
      (λ h. h)
      (λ h. absurd (not_reached p r q w end s t t.first v h (omega (arith, s.setting.room))))
      (s.laws.split_due believed entered next whole z.first first_left (omega arith)) in
      (x, subst (λ d. SplitBy q d t t.first x) next o)

  -- One of the two put.
  split_first : {c x : ℕ} → r.Put c t x → time_of p e + takeover p ≤ due p t.slot.0 t.first
      → (b : ℕ) × SplitBy q (cub_of p (t.first + 1)) t t.first b
  split_first {c} {x} i long = ⊎_elim
      (λ own. split_put i own long)
      (λ k. split_own i k.0 k.1)
      (s.one.who c x t i)

module _ (p : Params) (r : Facts) (q : PieceFacts) (w : ServiceFacts) (end : ℕ) (s : Service p r q w end) where
  -- So an awaited visit whose cub died a takeover before it is due, and which is left to the next
  -- cub, is split by that.
  pub is_split : {c x e n f : ℕ} {t : Tenancy} → r.Put c t x → t.first ≤ n → n ≤ t.last
      → Awaited p r end t n → r.Died (cub_of p n) e → time_of p e + takeover p ≤ due p t.slot.0 n
      → due p t.slot.0 n ≤ time_of p f → IsLeftTo p w (cub_of p (n + 1)) t n f
      → (b : ℕ) × SplitBy q (cub_of p (n + 1)) t n b
  is_split {c} {x} {e} {n} {f} {t} i low high v died long meets left = ⊎_elim
      (λ (same : t.first ≡ n). subst
      (λ m. Awaited p r end t m → r.Died (cub_of p m) e
      → time_of p e + takeover p ≤ due p t.slot.0 m → due p t.slot.0 m ≤ time_of p f
      → IsLeftTo p w (cub_of p (m + 1)) t m f → (b : ℕ) × SplitBy q (cub_of p (m + 1)) t m b)
      same
      (λ v died long meets left. split_first p r q w end s t v e died f meets left i long)
      v died long meets left)
      (λ (l : t.first < n). split_later p r q w end s t n v e died f meets left i l high long)
      (eq-or-lt_of_le low)
