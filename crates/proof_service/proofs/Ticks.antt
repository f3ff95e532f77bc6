-- The first tick of one cub at which a time has come.
use Rattle.std.proofs.Common.{◌≡◌, ℕ, zero, suc, ◌+◌, ◌-◌, ◌<◌, ◌≤◌, refl, sym, subst, arith, ⊎_elim}
use Rattle.std.proofs.lemmas.Bool.{cases_lt}
use Rattle.slot_plan.specs.declared.params.Params.{Params}
use Rattle.slot_plan.specs.Times.{time_of}
use Rattle.slot_plan.proofs.Times.{time_below, time_mono, time_zero}
use Rattle.proof_schedule.specs.Facts.{Facts}
use Rattle.proof_schedule.proofs.Beats.{first_beat}
use Rattle.proof_schedule.proofs.Invariant.{Setting}
use Rattle.proof_pieces.specs.PieceLaws.{WasUndue}
use Rattle.proof_service.proofs.Lives.{Lives}

-- Beat b is the first at whose time another time has come, and not just the run's first beat.
pub record Turn (p : Params) (time b : ℕ) : Type 0 where
  pub meets : time ≤ time_of p b
  pub only_now : time_of p b < time + p.beat

-- Each time after the run's beginning has such a beat.
pub turn : (p : Params) → 1 ≤ p.beat → (time : ℕ) → 1 ≤ time → (b : ℕ) × Turn p time b
turn p some time late =
    let f = first_beat p some time in
    let m = f.1.meets in (
      f.0,
      record {
        meets = m;
        only_now = ⊎_elim
            (λ (e : f.0 ≡ 0). let z : time_of p f.0 ≡ 0 = subst (λ v. time_of p v ≡ 0) (sym e) (time_zero p) in omega arith)
            (λ h. h)
            f.1.first;
      },
    )

-- Of cub c's ticks after one beat and up to another, the first at which a time has come.
pub record FirstTick (p : Params) (r : Facts) (c time after until : ℕ) : Type 0 where
  pub beat : ℕ
  pub reading : ℕ
  pub ticked : r.Ticked c beat reading
  pub come : time ≤ reading
  pub later : after < beat
  pub by : beat ≤ until
  pub before : WasUndue p r c beat time 0

module _ (p : Params) (r : Facts) (g : Setting p r) where
  -- From a tick at which the time has not come, the first at which it has is found beat by beat.
  search : {c from e time : ℕ} → Lives r c from e → time ≤ time_of p e → (k y l : ℕ) → y + k ≡ e
      → from ≤ y → r.Ticked c y l → l < time
      → FirstTick p r c time y e
  search {c} {from} {e} {time} h late zero y l sum low w early =
      let reads = (g.law.run.reads w).0 in
      let mono = time_mono p e y (omega arith) in
      absurd (omega arith)
  search {c} {from} {e} {time} h late (suc k) y l sum low w early =
      let n = h.ended (y + 1) (omega arith) (omega arith) in
      ⊎_elim
      (λ (below : n.reading < time).
      let o = search h late k (y + 1) n.reading (omega arith) (omega arith) n.ticked below in
      let later = o.later in
      record { beat = o.beat; reading = o.reading; ticked = o.ticked; come = o.come; later = omega arith; by = o.by; before = o.before })
      (λ (now : time ≤ n.reading). record {
        beat = y + 1;
        reading = n.reading;
        ticked = n.ticked;
        come = now;
        later = omega arith;
        by = omega arith;
        before = record { beat = y; reading = l; ticked = w; next = refl; undue = omega arith };
      })
      (cases_lt n.reading time)

  -- So a cub that ended a beat by which a time has come had a first such tick after each beat of
  -- that life well before that time.
  pub first_tick : {c from e time : ℕ} → Lives r c from e → time ≤ time_of p e
      → (y : ℕ) → from ≤ y → time_of p y + p.skew < time
      → FirstTick p r c time y e
  first_tick {c} {from} {e} {time} h late y low early =
      let before = time_below p y e (omega arith) in
      let n = h.ended y low (omega arith) in
      let top = (g.law.run.reads n.ticked).1 in
      search h late (e - y) y n.reading (omega arith) low n.ticked (omega arith)
