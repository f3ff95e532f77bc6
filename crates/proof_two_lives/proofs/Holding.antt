-- The laws of deschedules of one life, said of all lives.
use Rattle.std.proofs.Common.{◌≡◌, ℕ, ◌+◌, ◌<◌, ◌≤◌, arith, ⊎_elim, inl, inr}
use Rattle.std.specs.Prelude.{◌⊎◌}
use Rattle.tiger_base.specs.declared.tenancy.Tenancy.{Tenancy}
use Rattle.slot_plan.specs.declared.params.Params.{Params}
use Rattle.slot_plan.specs.Times.{time_of, due}
use Rattle.proof_schedule.specs.Facts.{Facts, EnteredAmong, GotTagBy, PassedBy, IsReleasedBy, IsBeside, IsSameLife}
use Rattle.proof_schedule.specs.HoldLaws.{HoldLaws, IsPass, IsTold, horizon}
use Rattle.proof_schedule.proofs.Lives.{ReturnAfter}
use Rattle.proof_two_lives.specs.TwoLives.{beside}
use Rattle.proof_two_lives.proofs.Forward.{pass_of, passed_of, released_of, tag_of, told_of}
use Rattle.proof_two_lives.proofs.OneLife.{IsOneLife, in_same_life}

module _ {p : Params} {x j : Facts} {In : ℕ → ℕ → Type 0} (one : IsOneLife x j In)
    (law : HoldLaws p (beside j x)) where
  kept_among : {c n b y : ℕ} {t : Tenancy} → In c y → EnteredAmong j c t n b y
      → EnteredAmong (beside j x) c t n b y ⊎ ReturnAfter j c b y
  kept_among {c} {n} {b} {y} {t} here h = ⊎_elim
      (λ a. ⊎_elim (λ k. inl (inl (k, a.1))) (λ k. inr k) (one.kept.took here a.1 a.0))
      (λ a.
      let before = a.1 in
      let le : b ≤ y = omega arith in
      ⊎_elim (λ k. inl (inr (k, before))) (λ k. inr k) (one.kept.inserted here le a.0))
      h

  pub reached : {c v y : ℕ} → x.Reached c v y
      → ((s q : ℕ) × j.GotTag c v s q y) ⊎ j.GotBare c v y
  reached h = ⊎_elim
      (λ k. inl (k.0, k.1, one.facts.tag k.2))
      (λ k. inr (one.facts.bare k))
      (law.reached h)

  pub pass : {c v s q y : ℕ} → x.Passed c v s q y → IsPass p j c v s q y
  pass h = pass_of one.facts (law.pass h)

  pub passes : {c v s q y b : ℕ} → x.Passed c v s q y → j.Came c b → y ≤ b → IsSameLife j c y b
      → due p s (q + 1) ≤ horizon p (time_of p y)
      → j.Told c 1 v s (q + 1) y × j.Told c 2 v s (q + 1) y
  passes h came le same soon =
      let k = law.passes h came le same soon in
      (one.facts.told k.0, one.facts.told k.1)

  pub told : {a k v s q y : ℕ} → x.Told a k v s q y → IsTold p j a k v s q y
  told h = told_of one.facts (law.told h)

  pub tag_passes : {c v s q y : ℕ} → x.GotTag c v s q y → IsBeside p c q → PassedBy j c v y
  tag_passes h near = passed_of one.facts (law.tag_passes h near)

  pub record_passes : {c n b y : ℕ} {t : Tenancy} → x.GotBare c t.instance.0 y
      → EnteredAmong j c t n b y → IsSameLife j c b y → time_of p y + p.skew < due p t.slot.0 n
      → PassedBy j c t.instance.0 y ⊎ ((s q : ℕ) × GotTagBy j c t.instance.0 s q y)
  record_passes {c} {n} {b} {y} {t} h e same undue = ⊎_elim
      (λ k. inl (passed_of one.facts k))
      (λ k. inr (k.0, k.1, tag_of one.facts k.2))
      (law.record_passes h
      (in_same_life same (kept_among (one.lives.bare c t.instance.0 y h) e))
      same undue)

  pub pass_once : {c v s q y u m z : ℕ} → j.Passed c v s q y → x.Passed c v u m z → y ≤ z
      → IsSameLife j c y z → ((m ≡ q) × (z ≡ y)) ⊎ IsReleasedBy p j c v z
  pass_once {c} {v} {s} {q} {y} {u} {m} {z} h k le same = ⊎_elim
      (λ a. inl a)
      (λ a. inr (released_of one.facts a))
      (law.pass_once
      (in_same_life same (one.kept.passed (one.lives.passed c v u m z k) le h))
      k le same)

  pub took : {c n y b : ℕ} {t : Tenancy} → x.Took c t n y → j.Reached c t.instance.0 b → b < y
      → IsSameLife j c b y → IsReleasedBy p j c t.instance.0 y
  took {c} {n} {y} {b} {t} h reached before same =
      let le : b ≤ y = omega arith in
      let own = in_same_life same (one.kept.reached (one.lives.took c t n y h) le reached) in
      released_of one.facts (law.took h own before same)
