-- What a record is there for long before it leaves is asked for, answered and sent, unless its read fails.
use Rattle.std.proofs.Common.{◌≡◌, ℕ, ◌+◌, ◌-◌, ◌*◌, ◌<◌, ◌≤◌, ap, ◌∙◌, refl, arith, ⊎_elim, inl, inr}
use Rattle.std.specs.Prelude.{◌⊎◌}
use Rattle.tiger_base.specs.declared.tenancy.Tenancy.{Tenancy}
use Rattle.slot_plan.specs.declared.params.Params.{Params}
use Rattle.slot_plan.specs.Times.{time_of, due, cub_of}
use Rattle.slot_plan.proofs.Times.{time_add, time_below, time_mono, time_next}
use Rattle.proof_schedule.specs.Facts.{Facts, ReachedBy, Cut}
use Rattle.proof_schedule.proofs.Room.{way}
use Rattle.proof_pieces.specs.PieceFacts.{PieceFacts, leave, Arises}
use Rattle.proof_pieces.proofs.Entries.{arises_early}
use Rattle.proof_pieces.proofs.Leaving.{leave_after, leave_until}
use Rattle.proof_service.specs.Blocks.{LeftInTime, ReadFailed, IsSettled, IsUnstopped}
use Rattle.proof_service.specs.ServiceFacts.{ServiceFacts, ArisesBy, IsCutOff, MayServe}
use Rattle.proof_service.specs.ServiceLaws.{HasLeft}
use Rattle.proof_service.proofs.Back.{may_serve_before}
use Rattle.proof_service.proofs.Leads.{after_two, read_room}
use Rattle.proof_service.proofs.Lives.{Lives, in_life, since_life}
use Rattle.proof_service.proofs.Service.{Service}
use Rattle.proof_service.proofs.Ticks.{turn, first_tick}

-- Visit n is settled, and its instance was not stopped in time.
pub record Awaited (p : Params) (r : Facts) (end : ℕ) (t : Tenancy) (n : ℕ) : Type 0 where
  pub settled : IsSettled p end t n
  pub unstopped : IsUnstopped p r t n

-- Piece j left in time, or its read failed.
abbrev pub LeftOrFailed : Params → PieceFacts → ServiceFacts → ℕ → ℕ → Tenancy → ℕ → ℕ → Type 0
LeftOrFailed p q w end c t n j = LeftInTime p q end c t n j ⊎ ReadFailed w end c t n j

module _ (p : Params) (r : Facts) (q : PieceFacts) (w : ServiceFacts) (end : ℕ) (s : Service p r q w end)
    (t : Tenancy) (n : ℕ) (v : Awaited p r end t n) where
  -- The instance was not stopped before a beat that begins by the time at which the next visit is
  -- due.
  not_gone : {b y : ℕ} → r.Gone t.instance.0 y → y < b → time_of p b ≤ due p t.slot.0 n + p.play → ⊥
  not_gone {b} {y} gone before le =
      let z = v.unstopped y gone in
      let m = time_mono p (y + 1) b (omega arith) in
      let next = time_next p y in
      let some = s.setting.room.beat in
      omega arith

  -- So it is cut nowhere by then,
  pub not_cut : {c b : ℕ} → Cut p r c t.instance.0 b → time_of p b ≤ due p t.slot.0 n + p.play → ⊥
  not_cut {c} {b} k le = let o = s.one.cut c t.instance.0 b k in not_gone o.gone o.before le

  -- no deschedule of it has come,
  pub not_reached : {c b : ℕ} → ReachedBy r c t.instance.0 b
      → time_of p b ≤ due p t.slot.0 n + p.play → ⊥
  not_reached k le = not_cut (inl k) le

  -- and nothing that is kept of the visit was dropped.
  pub not_cut_off : {c b : ℕ} → IsCutOff r w c t.instance.0 n b
      → time_of p b ≤ due p t.slot.0 n + p.play → ⊥
  not_cut_off {c} {b} k le = ⊎_elim
      (λ a. not_reached a le)
      (λ a.
      let by = a.by in
      let from = s.laws.killed a.killed in
      let before = from.earlier in
      not_reached {c = from.cub} (record { beat = from.beat; reached = from.reached; by = omega arith }) le)
      k

  -- What is sent a way before the next visit is due is got before the end.
  pub in_run : (b : ℕ) → time_of p b + way p < due p t.slot.0 n + p.play → b + p.delay < end
  in_run b early =
      let settled = v.settled in
      let next = time_next p end in
      let a = time_add p b p.delay in
      let room = s.setting.room in
      time_below p (b + p.delay) end (omega (arith, room))

  -- What is stored before it leaves is sent at the first tick at which it is to leave, if the cub
  -- lives until then and may serve it.
  stored_left : {j from y f : ℕ} → j ≤ p.pieces → w.Stored (cub_of p (n + j)) t n j y → from ≤ y
      → time_of p y + p.skew < leave p t n j → Lives r (cub_of p (n + j)) from f
      → MayServe p r (cub_of p (n + j)) t n j f → leave p t n j ≤ time_of p f
      → LeftInTime p q end (cub_of p (n + j)) t n j
  stored_left {j} {from} {y} {f} few stored since early lives serving late =
      let o = first_tick p r s.setting lives late y since early in
      let later = o.later in
      let by = o.by in
      let come = o.come in
      let low = (s.setting.law.run.reads o.ticked).0 in
      let high = (s.setting.law.run.reads o.ticked).1 in
      let past = (s.setting.law.run.reads o.before.ticked).0 in
      let undue = o.before.undue in
      let e : time_of p o.beat ≡ time_of p o.before.beat + p.beat = ap (λ b. time_of p b) o.before.next ∙ time_next p o.before.beat in
      let until = leave_until p s.setting.ok t n j few in
      let top : time_of p o.beat < leave p t n j + p.beat = omega arith in
      let c : ℕ = cub_of p (n + j) in
      let same = in_life lives y o.beat since by in
      let may = may_serve_before p r c t n j o.beat f (omega arith) serving in
      ⊎_elim
      (λ k. record { beat = o.beat; serves = k; low = omega arith; high = top; got = in_run o.beat (omega arith) })
      (λ k. absurd (not_cut_off k (omega arith)))
      (s.laws.serves_due stored (omega arith) o.ticked same may come (omega arith) o.before)

  -- What is asked for less than a beat after it might be is answered before it leaves, if the cub
  -- lives until then.
  asked_left : {j from a f : ℕ} → j ≤ p.pieces → q.Asks (cub_of p (n + j)) t n j a → from ≤ a
      → time_of p a + p.read_lead < leave p t n j + p.beat → Lives r (cub_of p (n + j)) from f
      → MayServe p r (cub_of p (n + j)) t n j f → leave p t n j ≤ time_of p f
      → LeftOrFailed p q w end (cub_of p (n + j)) t n j
  asked_left {j} {from} {a} {f} few asks since early lives serving late =
      let two = after_two p a in
      let read = read_room p s.setting.ok in
      let until = leave_until p s.setting.ok t n j few in
      let before = time_below p (a + 2 * p.delay) f (omega (arith, s.setting.room)) in
      let ended = lives.ended f (omega arith) (omega arith) in
      let came = s.setting.law.run.came ended.ticked in
      let same = in_life lives a f since (omega arith) in
      let o = s.laws.answers asks came same (omega arith) in
      let m = time_mono p o.beat (a + 2 * p.delay) o.soon in
      let later = o.later in
      let in_time : time_of p o.beat + p.skew < leave p t n j = omega arith in
      ⊎_elim
      (λ k. ⊎_elim
      (λ stored. inl (stored_left few stored (omega arith) in_time lives serving late))
      (λ failed. let far = in_run o.beat (omega arith) in inr (record { beat = o.beat; failed = failed; before = omega arith }))
      k)
      (λ k. ⊎_elim
      (λ (h : HasLeft p r (cub_of p (n + j)) t n j o.beat).
      let past = h.past in
      let high = (s.setting.law.run.reads h.ticked).1 in
      let hb = h.before in
      let hm = time_mono p h.beat o.beat (omega arith) in
      absurd (omega arith))
      (λ h. absurd (not_cut_off h (omega arith)))
      k)
      o.what

  -- A record enters before it is to be asked for. So if its cub lives until it leaves and may serve
  -- it, it is asked for, and leaves or its read fails.
  pub there_left : {j from f : ℕ} (e : ℕ) → j ≤ p.pieces → Arises r q (cub_of p (n + j)) t n j e
      → from ≤ e → Lives r (cub_of p (n + j)) from f
      → MayServe p r (cub_of p (n + j)) t n j f → leave p t n j ≤ time_of p f
      → LeftOrFailed p q w end (cub_of p (n + j)) t n j
  there_left {j} {from} {f} e few arises since lives serving late =
      let early = arises_early p r s.setting q s.pieces arises in
      let due_first = leave_after p t n j in
      let some = s.setting.room.beat in
      let o = turn p some (leave p t n j - p.read_lead) (omega arith) in
      let a : ℕ = o.0 in
      let meets = o.1.meets in
      let only_now = o.1.only_now in
      let read = read_room p s.setting.ok in
      let until = leave_until p s.setting.ok t n j few in
      let after = time_below p e a (omega arith) in
      let before = time_below p a f (omega (arith, s.setting.room)) in
      let k = lives.ended a (omega arith) (omega arith) in
      let reads = s.setting.law.run.reads {l = k.reading} k.ticked in
      let low = reads.0 in
      let high = reads.1 in
      let c : ℕ = cub_of p (n + j) in
      let same = in_life lives e a since (omega arith) in
      let h : ArisesBy r q c t n j a =
      record { beat = e; arises = arises; by = omega arith; life = same } in
      let may = may_serve_before p r c t n j a f (omega arith) serving in
      ⊎_elim
      (λ h.
      let by = h.by in
      let m = time_mono p h.beat a by in
      let low = since_life lives h.beat a (omega arith) h.life in
      asked_left few h.asks low (omega arith) lives serving late)
      (λ h. absurd (not_cut_off h (omega arith)))
      (s.laws.asks_due h refl k.ticked (omega (arith, s.setting.room)) (omega arith) may)
