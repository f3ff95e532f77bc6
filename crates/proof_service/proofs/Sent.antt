-- What is sent to the viewers is sent in time, once, and in the order of the visits.
use Rattle.std.proofs.Common.{◌≡◌, ℕ, zero, suc, ◌+◌, ◌<◌, ◌≤◌, refl, sym, ap, subst, ◌∙◌, arith, ⊎_elim, inl, inr}
use Rattle.tiger_base.specs.declared.tenancy.Tenancy.{Tenancy}
use Rattle.slot_plan.specs.declared.params.Params.{Params}
use Rattle.slot_plan.specs.Times.{time_of, cub_of}
use Rattle.slot_plan.proofs.Times.{time_add, time_below, time_mono, time_next, due_later}
use Rattle.proof_schedule.specs.Facts.{Facts}
use Rattle.proof_pieces.specs.PieceFacts.{PieceFacts, leave}
use Rattle.proof_pieces.proofs.Entries.{origin, split_dead, arises_early, there_soon}
use Rattle.proof_pieces.proofs.Leaving.{leave_after, leave_until}
use Rattle.proof_service.specs.ServiceFacts.{ServiceFacts}
use Rattle.proof_service.proofs.Back.{served_later, split_not_back}
use Rattle.proof_service.proofs.Mirrors.{split_soon}
use Rattle.proof_service.proofs.Service.{Service}

module _ (p : Params) (r : Facts) (q : PieceFacts) (w : ServiceFacts) (end : ℕ) (s : Service p r q w end) where
  -- What is sent was to leave, as far as the cub's clock can tell, and not a beat before.
  pub sent_in_time : {c n j b : ℕ} {t : Tenancy} → q.Serves c t n j b
      → (leave p t n j ≤ time_of p b + p.skew) × (time_of p b < leave p t n j + p.beat)
  sent_in_time k =
      let o = s.pieces.serves k in
      let soon = o.soon in
      let high = o.tick.high in
      (omega arith, there_soon p r s.setting q s.pieces o)

  -- What is asked for was to be, and not a beat before.
  pub asked_in_time : {c n j b : ℕ} {t : Tenancy} → q.Asks c t n j b
      → (leave p t n j ≤ time_of p b + p.skew + p.read_lead)
      × (time_of p b + p.read_lead < leave p t n j + p.beat)
  asked_in_time {c} {n} {j} {b} {t} k =
      let o = s.pieces.asks k in
      let soon = o.soon in
      let high = o.tick.high in
      let after = leave_after p t n j in
      let upper : time_of p b + p.read_lead < leave p t n j + p.beat = ⊎_elim
      (λ (same : o.beat ≡ b).
      let e : time_of p o.beat ≡ time_of p b = ap (λ m. time_of p m) same in
      let early = arises_early p r s.setting q s.pieces o.arises in
      let some = s.setting.room.beat in
      omega arith)
      (λ u.
      let e : time_of p b ≡ time_of p u.beat + p.beat = ap (λ m. time_of p m) u.next ∙ time_next p u.beat in
      let low = (s.setting.law.run.reads u.ticked).0 in
      let undue = u.undue in
      omega arith)
      o.fresh in
      (omega arith, upper)

  -- What is sent of one instance is sent by records of one tenancy, since an instance is put once.
  same_tenancy : {c d n m i j a b : ℕ} {t u : Tenancy} → q.Serves c t n i a → q.Serves d u m j b
      → u.instance.0 ≡ t.instance.0 → u ≡ t
  same_tenancy {c} {d} {n} {m} {i} {j} {a} {b} {t} {u} k l same =
      let h = s.right.held c n i a t (inr k) in
      let o = s.right.held d m j b u (inr l) in
      (s.one.once h.cub o.cub h.beat o.beat t u h.put o.put same).1

  -- So each piece of an instance's visit is sent once.
  pub once : {c d n j a b : ℕ} {t u : Tenancy} → q.Serves c t n j a → q.Serves d u n j b
      → u.instance.0 ≡ t.instance.0
      → (d ≡ c) × (u ≡ t) × (b ≡ a)
  once {c} {d} {n} {j} {a} {b} {t} {u} k l same =
      let e = same_tenancy k l same in
      s.right.one_sent c d n j a b t u k l (ap (λ (x : Tenancy). x.slot.0) e)

  -- The whole block is sent by a cub that goes on until the visit is due, and the visit is split by
  -- the next one only if that cub died before and did not come back in time: then it does not send
  -- the whole block.
  not_split : {c d n a b : ℕ} {t : Tenancy} → q.Serves c t n 0 a → q.Split d t n b → ⊥
  not_split {c} {d} {n} {a} {b} {t} k split =
      let o = s.pieces.serves k in
      let low = (sent_in_time k).0 in
      let early = split_soon p r q w end s {gap = 1} (inl (refl, split)) in
      let dead = split_dead p r s.setting q s.pieces split in
      let by = dead.died.by in
      let long = dead.long in
      let none : n + 0 ≡ n = omega arith in
      let here : cub_of p n ≡ c = sym (o.here ∙ ap (λ m. cub_of p m) none) in
      let before = time_mono p (dead.until + p.delay + 2) b long in
      ⊎_elim
      (λ first.
      let died = subst (λ x. r.Died x dead.died.beat) here dead.died.died in
      let alive = s.setting.law.run.last o.tick.came died first in
      let m = time_mono p a (dead.until + p.delay + 2) (omega arith) in
      omega (arith, s.setting.room))
      (λ back.
      let e = s.laws.returns_ended back.returned in
      let late = s.laws.may_serve k back.beat e.reading back.returned e.ticked back.by refl in
      ⊎_elim
      (λ early. omega arith)
      (λ first. served_later p r q w end s k back.returned back.by first)
      (split_not_back p r q w end s split (sym here) back.returned e.ticked))
      (s.setting.law.run.returns c a)

  -- So a piece is not sent with the whole block: what its own cub split, it does not send whole.
  not_both : {c d n a b : ℕ} {t : Tenancy} (j : ℕ) → q.Serves c t n 0 a → q.Serves d t n (suc j) b
      → ⊥
  not_both j k l = ⊎_elim
      (λ a. not_split k a.1)
      (λ a. s.laws.unread a.1 k)
      (origin p r s.setting q s.pieces (omega arith) (s.pieces.serves l).arises).split

  pub alone : {c d n a b : ℕ} {t u : Tenancy} (j : ℕ) → q.Serves c t n 0 a → q.Serves d u n j b
      → u.instance.0 ≡ t.instance.0 → j ≡ 0
  alone zero k l same = refl
  alone {d = d} {n = n} {b = b} (suc j) k l same =
      absurd (not_both j k (subst (λ x. q.Serves d x n (suc j) b) (same_tenancy k l same) l))

  -- What is sent of a visit is got before anything of any later visit is sent.
  pub order : {c d n m i j x y : ℕ} {t u : Tenancy} → n < m → q.Serves c t n i x → q.Serves d u m j y
      → u.instance.0 ≡ t.instance.0 → x + p.delay < y
  order {c} {d} {n} {m} {i} {j} {x} {y} {t} {u} later k l same =
      let second : q.Serves d t m j y = subst (λ v. q.Serves d v m j y) (same_tenancy k l same) l in
      let high = (sent_in_time k).1 in
      let low = (sent_in_time second).0 in
      let until = leave_until p s.setting.ok t n i (s.pieces.serves k).few in
      let after = leave_after p t m j in
      let play_apart = due_later p t.slot.0 n m later in
      let a = time_add p x p.delay in
      time_below p (x + p.delay) y (omega arith)
