-- Where no cub dies and cubs know of their disks' deaths, each settled visit is served, or a read failed.
use Rattle.std.proofs.Common.{◌≡◌, ℕ, ◌+◌, ◌*◌, ◌<◌, ◌≤◌, refl, sym, ap, subst, arith, ⊎_elim, inl, inr, eq-or-lt_of_le}
use Rattle.std.specs.Prelude.{◌⊎◌, Option, Some, None}
use Rattle.std.proofs.lemmas.Bool.{cases_lt}
use Rattle.tiger_base.specs.declared.tenancy.Tenancy.{Tenancy}
use Rattle.slot_plan.specs.declared.params.Params.{Params}
use Rattle.slot_plan.specs.Times.{time_of, due, cub_of, disk_of}
use Rattle.slot_plan.proofs.Times.{time_below, time_mono, due_mono, cub_below, cub_ahead}
use Rattle.proof_schedule.specs.Facts.{Facts, LivedTo, Entered, EnteredBy, IsSameLife}
use Rattle.proof_schedule.proofs.Room.{way}
use Rattle.proof_schedule.proofs.Timely.{entered_in_time, put_in_time}
use Rattle.proof_pieces.specs.PieceFacts.{PieceFacts, Arises}
use Rattle.proof_pieces.proofs.Leaving.{lead}
use Rattle.proof_service.specs.Blocks.{IsDelivered}
use Rattle.proof_service.specs.ServiceFacts.{ServiceFacts, SparedBy}
use Rattle.proof_service.specs.Spares.{IsExcusedOn, PieceFailed, SpareLaws, spare_lead}
use Rattle.proof_service.proofs.Back.{first_life, first_may_serve}
use Rattle.proof_service.proofs.Lives.{Lives}
use Rattle.proof_service.proofs.Mirrors.{GoesOut, all_or_one}
use Rattle.proof_service.proofs.Served.{comes, whole_left}
use Rattle.proof_service.proofs.Service.{Service}
use Rattle.proof_service.proofs.Serving.{Awaited, LeftOrFailed, in_run, not_reached}
use Rattle.proof_service.proofs.Ticks.{turn}

-- In a beat not before x the cub of visit n has its record, so early that the visit can be split.
record CanSplit (p : Params) (r : Facts) (t : Tenancy) (n x : ℕ) : Type 0 where
  pub beat : ℕ
  pub reading : ℕ
  pub after : x ≤ beat
  pub entered : EnteredBy r (cub_of p n) t n beat
  pub ticked : r.Ticked (cub_of p n) beat reading
  pub early : reading + p.read_lead + p.skew + way p + p.beat ≤ due p t.slot.0 n

module _ (p : Params) (r : Facts) (q : PieceFacts) (w : ServiceFacts) (end : ℕ)
    (s : Service p r q w end) (death : ℕ → Option ℕ) (z : SpareLaws p r q death) where
  -- Who never dies has one life.
  one_life : (c a b : ℕ) → IsSameLife r c a b
  one_life c a b y back le =
      let o = s.setting.law.run.returned back in
      absurd (z.calm c o.beat o.died)

  -- Each cub ends each beat below the end.
  lived : {b : ℕ} (n : ℕ) → b < end → LivedTo r (cub_of p n) b
  lived n low = ⊎_elim
      (λ h. h)
      (λ h. absurd (z.calm (cub_of p n) h.beat h.died))
      (s.laws.ends low (cub_below p n s.setting.ok.ranges))

  -- If the record entered before the disk's death, the visit can be split at the death.
  at_death : {x y f n : ℕ} {t : Tenancy} → Entered r (cub_of p n) t n y → y < x
      → Lives r (cub_of p n) 0 f → time_of p x + spare_lead p ≤ due p t.slot.0 n
      → due p t.slot.0 n ≤ time_of p f → CanSplit p r t n x
  at_death {x} {y} {f} {n} {t} entered before lives long late =
      let below = time_below p x f (omega (arith, s.setting.room)) in
      let k = lives.ended x (omega arith) (omega arith) in
      let high = (s.setting.law.run.reads k.ticked).1 in
      record {
        beat = x;
        reading = k.reading;
        after = omega arith;
        entered = record { beat = y; entered = entered; by = omega arith; life = one_life (cub_of p n) y x };
        ticked = k.ticked;
        early = omega arith;
      }

  -- The record of a later visit enters so early that the visit can be split then.
  can_split_later : {x y f n : ℕ} {t : Tenancy} → Entered r (cub_of p n) t n y → y ≤ f
      → t.first < n → Lives r (cub_of p n) 0 f → time_of p x + spare_lead p ≤ due p t.slot.0 n
      → due p t.slot.0 n ≤ time_of p f → CanSplit p r t n x
  can_split_later {x} {y} {f} {n} {t} entered by low lives long late = ⊎_elim
      (λ (before : y < x). at_death entered before lives long late)
      (λ (after : x ≤ y).
      let k = lives.ended y (omega arith) by in
      let high = (s.setting.law.run.reads k.ticked).1 in
      let o = (entered_in_time p s.setting.room r s.setting.law entered).later low in
      let leads = lead p s.setting.ok in
      let opens = s.setting.room.opens in
      record {
        beat = y;
        reading = k.reading;
        after = after;
        entered = record { beat = y; entered = entered; by = omega arith; life = one_life (cub_of p n) y y };
        ticked = k.ticked;
        early = omega arith;
      })
      (cases_lt y x)

  -- That of a first visit enters by a Put of the visit's cub, at whose reading it can be split.
  can_split_first : {c x y f : ℕ} {t : Tenancy} → r.Put c t y
      → Lives r (cub_of p t.first) 0 f → time_of p x + spare_lead p ≤ due p t.slot.0 t.first
      → due p t.slot.0 t.first ≤ time_of p f → CanSplit p r t t.first x
  can_split_first {c} {x} {y} {f} {t} put lives long late =
      let k = s.setting.law.states.inserts put in
      let own : c ≡ cub_of p t.first = ⊎_elim
      (λ o. o)
      (λ o. let dead = o.2 in absurd (z.calm (cub_of p t.first) dead.died.beat dead.died.died))
      (s.one.who c y t put) in
      let entered = subst (λ d. r.Inserted d t t.first y) own k.entered in
      let ticked = ⊎_elim (λ o. o) (λ o. absurd (z.calm c y o)) k.whole in
      let above = k.above in
      let leads = lead p s.setting.ok in
      ⊎_elim
      (λ (before : y < x). at_death (inr entered) before lives long late)
      (λ (after : x ≤ y). record {
        beat = y;
        reading = k.reading;
        after = after;
        entered = record { beat = y; entered = inr entered; by = omega arith; life = one_life (cub_of p t.first) y y };
        ticked = subst (λ d. r.Ticked d y k.reading) own ticked;
        early = omega arith;
      })
      (cases_lt y x)

  -- So each visit can be split that is due long enough behind its disk's death.
  can_split : {c x y f n : ℕ} {t : Tenancy} → r.Put c t y → t.first ≤ n
      → EnteredBy r (cub_of p n) t n f → Lives r (cub_of p n) 0 f
      → time_of p x + spare_lead p ≤ due p t.slot.0 n
      → due p t.slot.0 n ≤ time_of p f → CanSplit p r t n x
  can_split {c} {x} {y} {f} {n} {t} put low k lives long late = ⊎_elim
      (λ (same : t.first ≡ n). subst
      (λ m. Lives r (cub_of p m) 0 f → time_of p x + spare_lead p ≤ due p t.slot.0 m
      → due p t.slot.0 m ≤ time_of p f → CanSplit p r t m x)
      same
      (λ lives long late. can_split_first put lives long late)
      lives long late)
      (λ (l : t.first < n). can_split_later k.entered k.by l lives long late)
      (eq-or-lt_of_le low)

  -- And if it is awaited, it is split.
  is_spared : {x n : ℕ} {t : Tenancy} → Awaited p r end t n → death (disk_of p n) ≡ Some x
      → (k : CanSplit p r t n x) → SparedBy q (cub_of p n) t n k.beat
  is_spared {x} {n} {t} v dies k =
      let early = k.early in
      let low = (s.setting.law.run.reads k.ticked).0 in
      ⊎_elim
      (λ h. h)
      (λ h. absurd (not_reached p r q w end s t n v h (omega arith)))
      (z.spare_due (record { beat = x; dies = dies; by = k.after }) k.entered refl k.ticked early)

  -- Then its pieces leave, or the read of one failed.
  spared_served : {n b : ℕ} {t : Tenancy} → Awaited p r end t n → q.Spared (cub_of p n) t n b
      → IsDelivered p q end t n ⊎ PieceFailed p w end t n
  spared_served {n} {b} {t} v spared = ⊎_elim
      (λ all. inl (inr all))
      (λ one. inr (record {
        piece = one.piece;
        low = one.low;
        high = one.high;
        failed = ⊎_elim
            (λ h. h)
            (λ h. absurd (z.calm (cub_of p (n + one.piece)) h.beat h.died))
            one.lost;
      }))
      (all_or_one p r q w end s t n v b 0 (cub_of p n) (inr (refl, spared))
      (λ j some few. goes_out j some few) p.pieces (omega arith))
    where
      -- The mirror state of each piece goes out.
      goes_out : (j : ℕ) → 1 ≤ j → j ≤ p.pieces
          → Arises r q (cub_of p (n + j)) t n j b ⊎ GoesOut p q t n j b
      goes_out j some few = inr (record {
        from = cub_of p n;
        ahead = j;
        sent = z.spare_mirrors_due j spared some few;
        to = sym (cub_ahead p n j);
      })

  -- So each awaited visit of what is put is served, or there is an excuse.
  pub spare_served_at : {c y n : ℕ} {t : Tenancy} → r.Put c t y → t.first ≤ n → n ≤ t.last
      → Awaited p r end t n
      → IsDelivered p q end t n ⊎ IsExcusedOn p w end (death (disk_of p n)) t n
  spare_served_at {c} {y} {n} {t} put low high v =
      let early = put_in_time p s.setting.room r s.setting.law put in
      let first = due_mono p t.slot.0 t.first n low in
      let o = turn p s.setting.room.beat (due p t.slot.0 n) (omega arith) in
      let f : ℕ = o.0 in
      let meets = o.1.meets in
      let only_now = o.1.only_now in
      let far = in_run p r q w end s t n v f (omega (arith, s.setting.room)) in
      let h = lived {b = f} n (omega arith) in
      let lives = first_life p r q w end s n h in
      let may = first_may_serve p r (cub_of p n) t n 0 f h.first in
      let k = comes p r q w end s put low high v h meets in
      let whole = whole_left p r q w end s v k lives (omega arith) may meets in
      on_disk f k lives meets whole (death (disk_of p n)) refl
    where
      -- By whether its disk dies, and when.
      on_disk : (f : ℕ) → EnteredBy r (cub_of p n) t n f → Lives r (cub_of p n) 0 f
          → due p t.slot.0 n ≤ time_of p f → LeftOrFailed p q w end (cub_of p n) t n 0
          → (dies : Option ℕ) → death (disk_of p n) ≡ dies
          → IsDelivered p q end t n ⊎ IsExcusedOn p w end dies t n
      on_disk f k lives meets whole None same =
          ⊎_elim (λ left. inl (inl left)) (λ failed. inr failed) whole
      on_disk f k lives meets whole (Some x) same = ⊎_elim
          (λ (near : due p t.slot.0 n < time_of p x + spare_lead p). ⊎_elim
          (λ left. inl (inl left))
          (λ failed. inr (inr (record { failed = failed; soon = near })))
          whole)
          (λ (long : time_of p x + spare_lead p ≤ due p t.slot.0 n). ⊎_elim
          (λ served. inl served)
          (λ failed. inr (inl failed))
          (spared_served v (is_spared v same (can_split put low k lives long meets)).spared))
          (cases_lt (due p t.slot.0 n) (time_of p x + spare_lead p))
