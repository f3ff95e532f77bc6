-- Each settled visit is served, whole or in pieces, or there is an excuse.
use Rattle.std.proofs.Common.{◌≡◌, ℕ, zero, suc, ◌+◌, ◌<◌, ◌≤◌, refl, sym, ap, subst, ◌∙◌, arith, ⊎_elim, inl, inr, eq-or-lt_of_le}
use Rattle.std.specs.Prelude.{◌⊎◌}
use Rattle.std.proofs.lemmas.Bool.{cases_lt}
use Rattle.tiger_base.specs.declared.tenancy.Tenancy.{Tenancy}
use Rattle.slot_plan.specs.declared.params.Params.{Params}
use Rattle.slot_plan.specs.Times.{time_of, due, cub_of, takeover}
use Rattle.slot_plan.proofs.Times.{time_below, time_mono, due_mono, cub_below, cub_ahead}
use Rattle.proof_schedule.specs.Facts.{Facts, LivedTo, Entered, EnteredBy, IsOpenTo}
use Rattle.proof_schedule.proofs.Lives.{first_same_life, first_is_open, open_before}
use Rattle.proof_schedule.proofs.Timely.{put_in_time}
use Rattle.proof_pieces.specs.PieceFacts.{PieceFacts, Arises}
use Rattle.proof_service.specs.Blocks.{IsDelivered, IsExcused, IsNotBackFor}
use Rattle.proof_service.specs.ServiceFacts.{ServiceFacts, MayServe}
use Rattle.proof_service.proofs.Back.{IsBackFor, first_life, second_life, first_may_serve, back_may_serve, back_or_not, left_to_next}
use Rattle.proof_service.proofs.Lives.{Lives, in_life, since_life}
use Rattle.proof_service.proofs.Mirrors.{GoesOut, all_or_one, split_soon}
use Rattle.proof_service.proofs.Service.{Service}
use Rattle.proof_service.proofs.Serving.{Awaited, LeftOrFailed, in_run, not_cut, there_left}
use Rattle.proof_service.proofs.Takeover.{goes_on, opening, is_split}
use Rattle.proof_service.proofs.Ticks.{turn}

module _ (p : Params) (r : Facts) (q : PieceFacts) (w : ServiceFacts) (end : ℕ) (s : Service p r q w end) where
  -- The cub of a later visit has its record before the window opens, if it lives then and lets in
  -- what is due then.
  later_comes : {c x from f n : ℕ} {t : Tenancy} → r.Put c t x → t.first < n → n ≤ t.last
      → Awaited p r end t n → Lives r (cub_of p n) from f
      → (from ≡ 0) ⊎ (time_of p from + p.window_a + p.skew < due p t.slot.0 n)
      → IsOpenTo p r (cub_of p n) (due p t.slot.0 n) f
      → due p t.slot.0 n ≤ time_of p f
      → EnteredBy r (cub_of p n) t n f
  later_comes {c} {x} {from} {f} {n} {t} i low high v lives begins let_in late =
      let o = opening p r q w end s t n (omega arith) in
      let b : ℕ = o.0 in
      let opens = o.1.opens in
      let early = o.1.early in
      let before = time_below p b f (omega arith) in
      let below : from ≤ b = ⊎_elim
      (λ z. omega arith)
      (λ l. let m = time_below p from b (omega arith) in omega arith)
      begins in
      let k = lives.ended b below (omega arith) in
      let then = open_before p r (cub_of p n) (due p t.slot.0 n) b f (omega arith) let_in in
      ⊎_elim
      (λ h.
      let by = h.by in
      let same = in_life lives h.beat f (since_life lives h.beat b below h.life) (omega arith) in
      record { beat = h.beat; entered = h.entered; by = omega arith; life = same })
      (λ h. absurd (not_cut p r q w end s t n v h (omega arith)))
      (s.one.kept c x b k.reading n t i low high opens k.ticked then)

  -- The cub of the first visit has it by its own Put: nobody puts for a cub that goes on.
  first_comes : {c x f : ℕ} {t : Tenancy} → r.Put c t x → LivedTo r (cub_of p t.first) f
      → due p t.slot.0 t.first ≤ time_of p f
      → EnteredBy r (cub_of p t.first) t t.first f
  first_comes {c} {x} {f} {t} i ended late =
      let z = s.setting.law.states.inserts i in
      let early = put_in_time p s.setting.room r s.setting.law i in
      let before = time_below p x f (omega arith) in
      ⊎_elim
      (λ own.
      let entered = subst (λ d. r.Inserted d t t.first x) own z.entered in
      let same = first_same_life r (cub_of p t.first) f ended.first x in
      record { beat = x; entered = inr entered; by = omega arith; life = same })
      (λ k.
      let dead = k.2 in
      let by = dead.died.by in
      let long = dead.long in
      let came = s.setting.law.run.came ended.ticked in
      let alive = s.setting.law.run.last came dead.died.died ended.first in
      absurd (omega arith))
      (s.one.who c x t i)

  -- So the cub of a visit has its record, if it goes on in its first life until the visit is due.
  pub comes : {c x f n : ℕ} {t : Tenancy} → r.Put c t x → t.first ≤ n → n ≤ t.last
      → Awaited p r end t n → LivedTo r (cub_of p n) f → due p t.slot.0 n ≤ time_of p f
      → EnteredBy r (cub_of p n) t n f
  comes {c} {x} {f} {n} {t} i low high v ended late = ⊎_elim
      (λ (same : t.first ≡ n). subst
      (λ m. LivedTo r (cub_of p m) f → due p t.slot.0 m ≤ time_of p f
      → EnteredBy r (cub_of p m) t m f)
      same
      (λ ended late. first_comes i ended late)
      ended late)
      (λ (l : t.first < n).
      let let_in = first_is_open p r (cub_of p n) f ended.first (due p t.slot.0 n) in
      later_comes i l high v (first_life p r q w end s n ended) (inl refl) let_in late)
      (eq-or-lt_of_le low)

  -- And the block leaves whole from a cub that lives and may serve it, or its read fails.
  pub whole_left : {from f n : ℕ} {t : Tenancy} → Awaited p r end t n → EnteredBy r (cub_of p n) t n f
      → Lives r (cub_of p n) from f → from ≤ f → MayServe p r (cub_of p n) t n 0 f
      → due p t.slot.0 n ≤ time_of p f
      → LeftOrFailed p q w end (cub_of p n) t n 0
  whole_left {from} {f} {n} {t} v k lives below serving late =
      let none : n + 0 ≡ n = omega arith in
      let by = k.by in
      let low = since_life lives k.beat f below k.life in
      subst
      (λ m. Entered r (cub_of p m) t n k.beat → Lives r (cub_of p m) from f
      → MayServe p r (cub_of p m) t n 0 f → LeftOrFailed p q w end (cub_of p m) t n 0)
      none
      (λ entered lives serving.
      there_left p r q w end s t n v {j = 0} {from = from} {f = f} k.beat (omega arith)
      (inl (refl, entered)) low lives serving late)
      k.entered lives serving

  -- The block leaves whole from a cub that came back in time for it, or its read fails.
  back_left : {c x f n : ℕ} {t : Tenancy} → r.Put c t x → n ≤ t.last → Awaited p r end t n
      → IsBackFor p r t n → f < end → due p t.slot.0 n ≤ time_of p f
      → LeftOrFailed p q w end (cub_of p n) t n 0
  back_left {c} {x} {f} {n} {t} i high v h within late =
      let low = (s.setting.law.run.reads h.ticked).0 in
      let far = h.late in
      let lives = second_life p r q w end s h.returned within in
      let let_in : IsOpenTo p r (cub_of p n) (due p t.slot.0 n) f = λ y back le.
      let one : y ≡ h.beat = s.laws.returns_once h.returned back in
      let same : time_of p y ≡ time_of p h.beat = ap (λ z. time_of p z) one in
      omega (arith, s.setting.room) in
      let k = later_comes i h.more high v lives (inr (omega (arith, s.setting.room))) let_in late in
      let before = time_below p h.beat f (omega (arith, s.setting.room)) in
      whole_left v k lives (omega arith) (back_may_serve p r q w end s h f) late

  -- Where the next cub split a visit since the visit's own died, its record of the first piece arose
  -- with that, and the mirror states of the others went out.
  goes_out : {e n b : ℕ} {t : Tenancy} → Awaited p r end t n → r.Died (cub_of p n) e
      → q.Split (cub_of p (n + 1)) t n b → (j : ℕ) → 1 ≤ j → j ≤ p.pieces
      → Arises r q (cub_of p (n + j)) t n j b ⊎ GoesOut p q t n j b
  goes_out v died split zero some few = absurd (omega arith)
  goes_out v died split (suc zero) some few = inl (inr (inl (refl, split)))
  goes_out {e} {n} {b} {t} v died split (suc (suc k)) some few =
      let early = split_soon p r q w end s {gap = 1} (inl (refl, split)) in
      let far = in_run p r q w end s t n v b (omega (arith, s.setting.room)) in
      let here = goes_on p r q w end s b n died (omega arith) in
      let sent = s.laws.mirrors_due (k + 1) split here.ticked (omega arith) (omega arith) in
      let piece : k + 1 + 1 ≡ suc (suc k) = omega arith in
      let sum : n + 1 + (k + 1) ≡ n + suc (suc k) = omega arith in
      let to : cub_of p (n + suc (suc k)) ≡ cub_of p (cub_of p (n + 1) + (k + 1)) =
      sym (cub_ahead p (n + 1) (k + 1) ∙ ap (λ m. cub_of p m) sum) in
      inr (record {
        from = cub_of p (n + 1);
        ahead = k + 1;
        sent = subst (λ i. q.MirrorSent (cub_of p (n + 1)) (k + 1) t n i b) piece sent;
        to = to;
      })

  -- If the visit's cub died first and did not come back in time, then the next one took over and
  -- served the visit in pieces, or a piece was lost, or the visit was due too soon after the death.
  dead_served : {c x e n : ℕ} {t : Tenancy} (f : ℕ) → r.Put c t x → t.first ≤ n → n ≤ t.last
      → Awaited p r end t n → r.Died (cub_of p n) e → e < end
      → time_of p e < due p t.slot.0 n + p.beat
      → due p t.slot.0 n ≤ time_of p f → IsNotBackFor p r t n
      → IsDelivered p q end t n ⊎ IsExcused p r w end t n
  dead_served {c} {x} {e} {n} {t} f i low high v died before early meets away = ⊎_elim
      (λ (near : due p t.slot.0 n < time_of p e + takeover p).
      inr (inr (inr (record {
        beat = e;
        died = died;
        before = before;
        early = early;
        late = near;
        away = away;
      }))))
      (λ (long : time_of p e + takeover p ≤ due p t.slot.0 n).
      let left = left_to_next p r q w end s t n f away in
      let split = (is_split p r q w end s i low high v died long meets left).1 in
      ⊎_elim
      (λ all. inl (inr all))
      (λ one. inr (inr (inl (record {
        beat = e;
        died = died;
        before = before;
        long = long;
        away = away;
        piece = one.piece;
        low = one.low;
        high = one.high;
        lost = one.lost;
      }))))
      (all_or_one p r q w end s t n v split.beat 1 (cub_of p (n + 1)) (inl (refl, split.split))
      (λ j some few. goes_out v died split.split j some few) p.pieces (omega arith)))
      (cases_lt (due p t.slot.0 n) (time_of p e + takeover p))

  -- So each awaited visit of what is put is served, or there is an excuse: its cub goes on until it
  -- is due, or died before; and then it came back in time for the visit, or not.
  pub served_at : {c x n : ℕ} {t : Tenancy} → r.Put c t x → t.first ≤ n → n ≤ t.last
      → Awaited p r end t n
      → IsDelivered p q end t n ⊎ IsExcused p r w end t n
  served_at {c} {x} {n} {t} i low high v =
      let early = put_in_time p s.setting.room r s.setting.law i in
      let first = due_mono p t.slot.0 t.first n low in
      let o = turn p s.setting.room.beat (due p t.slot.0 n) (omega arith) in
      let f : ℕ = o.0 in
      let meets = o.1.meets in
      let only_now = o.1.only_now in
      let far = in_run p r q w end s t n v f (omega (arith, s.setting.room)) in
      ⊎_elim
      (λ h.
      let may = first_may_serve p r (cub_of p n) t n 0 f h.first in
      let k = comes i low high v h meets in
      whole (whole_left v k (first_life p r q w end s n h) (omega arith) may meets))
      (λ h.
      let by = h.by in
      let m = time_mono p h.beat f by in
      ⊎_elim
      (λ k. whole (back_left i high v k (omega arith) meets))
      (λ away. dead_served f i low high v h.died (omega arith) (omega arith) meets away)
      (back_or_not p r q w end s t n f low meets))
      (s.laws.ends (omega arith) (cub_below p n s.setting.ok.ranges))
    where
      -- The block left whole, or its read failed.
      whole : LeftOrFailed p q w end (cub_of p n) t n 0
          → IsDelivered p q end t n ⊎ IsExcused p r w end t n
      whole k = ⊎_elim (λ left. inl (inl left)) (λ failed. inr (inl failed)) k
