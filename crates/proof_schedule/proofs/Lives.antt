-- The lives of a cub that dies and comes back: which beats are of one life, and what it lets in.
use Rattle.std.proofs.Common.{◌≡◌, ℕ, ◌+◌, ◌<◌, ◌≤◌, arith, ⊎_elim, inl, inr}
use Rattle.std.specs.Prelude.{◌⊎◌}
use Rattle.std.proofs.lemmas.Bool.{cases_lt}
use Rattle.tiger_base.specs.declared.tenancy.Tenancy.{Tenancy}
use Rattle.slot_plan.specs.declared.params.Params.{Params}
use Rattle.slot_plan.specs.Times.{time_of, due, cub_of}
use Rattle.slot_plan.proofs.Times.{time_below}
use Rattle.proof_schedule.specs.Facts.{Facts, LastReturn, Entered, NobodyReturns, IsFirstLife, IsSameLife, IsOpenTo, enters_from}
use Rattle.proof_schedule.specs.HoldLaws.{horizon}
use Rattle.proof_schedule.specs.Laws.{Laws}
use Rattle.proof_schedule.proofs.Room.{Room}

-- If nobody comes back, each cub is in its first life in each beat.
pub nobody_first : (r : Facts) (c b : ℕ) → NobodyReturns r → IsFirstLife r c b
nobody_first r c b none = λ w back. absurd (none c w back)

-- If nobody comes back, the law on the last return holds.
pub nobody_returns : (r : Facts) (c b : ℕ) → NobodyReturns r → IsFirstLife r c b ⊎ LastReturn r c b
nobody_returns r c b none = inl (nobody_first r c b none)

-- All beats up to one of a cub's first life are of that life.
pub first_same_life : (r : Facts) (c b : ℕ) → IsFirstLife r c b → (x : ℕ) → IsSameLife r c x b
first_same_life r c b first x = λ w back le. let l = first w back in absurd (omega arith)

-- A cub that is in its first life in a beat was so in each lower one.
pub first_life_before : (r : Facts) (c b y : ℕ) → y ≤ b → IsFirstLife r c b → IsFirstLife r c y
first_life_before r c b y le first = λ w back. let l = first w back in omega arith

-- A cub in its first life lets in whatever is due.
pub first_is_open : (p : Params) (r : Facts) (c b : ℕ) → IsFirstLife r c b → (at : ℕ)
    → IsOpenTo p r c at b
first_is_open p r c b first at = λ w back le. let l = first w back in absurd (omega arith)

-- If two beats are of one life, so are the latter and each beat above the former.
pub same_life_later : (r : Facts) (c x y b : ℕ) → x ≤ y → IsSameLife r c x b → IsSameLife r c y b
same_life_later r c x y b l life = λ w back le. let m = life w back le in omega arith

-- If two beats are of one life, so are the former and each beat below the latter.
pub same_life_before : (r : Facts) (c x d b : ℕ) → d ≤ b → IsSameLife r c x b → IsSameLife r c x d
same_life_before r c x d b l life = λ w back le. life w back (omega arith)

-- If two beats are of one life, and the latter and a third one are, so are the first and the third.
pub same_life_on : (r : Facts) (c x d b : ℕ)
    → IsSameLife r c x d → IsSameLife r c d b → IsSameLife r c x b
same_life_on r c x d b life more = λ w back le. life w back (more w back le)

-- If a cub lets in what is due at some time, it did so in each lower beat.
pub open_before : (p : Params) (r : Facts) (c at d b : ℕ)
    → d ≤ b → IsOpenTo p r c at b → IsOpenTo p r c at d
open_before p r c at d b l let_in = λ w back le. let_in w back (omega arith)

-- Cub c came back after beat x, by beat b.
pub record ReturnAfter (r : Facts) (c x b : ℕ) : Type 0 where
  pub beat : ℕ
  pub returned : r.Returned c beat
  pub after : x < beat
  pub by : beat ≤ b

module _ (p : Params) (r : Facts) (law : Laws p r) where
  -- Two beats are of one life of a cub, or it came back between them.
  pub same_life_or_return : (c x b : ℕ) → IsSameLife r c x b ⊎ ReturnAfter r c x b
  same_life_or_return c x b = ⊎_elim
      (λ first. inl (first_same_life r c b first x))
      (λ k.
      let by = k.by in
      ⊎_elim
      (λ (l : x < k.beat).
      inr (record { beat = k.beat; returned = k.returned; after = l; by = by }))
      (λ (l : k.beat ≤ x). inl (λ w back le. let m = k.last w back le in omega arith))
      (cases_lt x k.beat))
      (law.run.returns c b)

  -- The cub after one that dies, in whatever beat, is in its first life for ever.
  pub next_first_life : {c a : ℕ} (d b : ℕ) → r.Died c a → d ≡ cub_of p (c + 1)
      → IsFirstLife r d b
  next_first_life d b died next = λ w back.
      let k = law.run.returned back in
      absurd (law.run.apart died k.died next)

  -- So is the cub before it.
  pub previous_first_life : {c a : ℕ} (d b : ℕ) → r.Died c a → c ≡ cub_of p (d + 1)
      → IsFirstLife r d b
  previous_first_life d b died next = λ w back.
      let k = law.run.returned back in
      absurd (law.run.apart k.died died next)

  -- What enters a cub that has come back is due late enough after its return.
  pub entered_late : {c n y : ℕ} {t : Tenancy} (w : ℕ)
      → Entered r c t n y → r.Returned c w → w ≤ y
      → enters_from p (time_of p w) ≤ due p t.slot.0 n
  entered_late {c} {n} {y} {t} w e back le = ⊎_elim
      (λ k. law.states.late k back le)
      (λ k.
      let l = (law.states.inserts (law.states.inserted k).0).first w back in
      absurd (omega arith))
      e

  -- So a cub that has a record of a visit within the horizon of a stop has not been away since the
  -- stop: that visit is due too early for one that came back after it.
  pub same_life_since_stop : {c n y z : ℕ} {t : Tenancy} (b : ℕ)
      → Room p → Entered r c t n y → due p t.slot.0 n ≤ horizon p (time_of p z)
      → IsSameLife r c y b → IsSameLife r c z b
  same_life_since_stop {c} {n} {y} {z} {t} b room e near life = λ w back le.
      let late = entered_late w e back (life w back le) in
      let play = room.play in
      let l = time_below p w z (omega arith) in
      omega arith
