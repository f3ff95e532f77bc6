-- Each of two lives is one life of the facts of both.
use Rattle.std.proofs.Common.{ℕ, ◌<◌, ◌≤◌, arith, ⊎_elim, inl, inr}
use Rattle.std.specs.Prelude.{◌⊎◌}
use Rattle.std.proofs.lemmas.Bool.{cases_lt}
use Rattle.proof_schedule.specs.Facts.{Facts, IsFirstLife, IsSameLife}
use Rattle.proof_schedule.proofs.Lives.{ReturnAfter}
use Rattle.proof_two_lives.specs.TwoLives.{AreOfLives, CameBackBy, joined_facts}
use Rattle.proof_two_lives.proofs.Forward.{AreFactsOf}
use Rattle.proof_two_lives.proofs.OneLife.{AreKept, IsOneLife}

first_facts : (r s : Facts) → AreFactsOf r (joined_facts r s)
first_facts r s = record {
  ticked = λ a. inl a;
  put = λ a. inl a;
  inserted = λ a. inl a;
  took = λ a. inl a;
  shows = λ a. inl a;
  sent = λ a. inl a;
  got = λ a. inl a;
  asked = λ a. inl a;
  apart = λ a. inl a;
  told = λ a. inl a;
  reached = λ a. inl a;
  tag = λ a. inl a;
  bare = λ a. inl a;
  passed = λ a. inl a;
  beat = λ a. inl a;
  heard = λ a. inl a;
  believed = λ a. inl a;
}

later_facts : (r s : Facts) → AreFactsOf s (joined_facts r s)
later_facts r s = record {
  ticked = λ a. inr a;
  put = λ a. inr a;
  inserted = λ a. inr a;
  took = λ a. inr a;
  shows = λ a. inr a;
  sent = λ a. inr a;
  got = λ a. inr a;
  asked = λ a. inr a;
  apart = λ a. inr a;
  told = λ a. inr a;
  reached = λ a. inr a;
  tag = λ a. inr a;
  bare = λ a. inr a;
  passed = λ a. inr a;
  beat = λ a. inr a;
  heard = λ a. inr a;
  believed = λ a. inr a;
}

-- What is told of a later life is behind each beat of a first one.
pub keep_first : (r s : Facts) {c y b : ℕ} {B C : Type 0} → IsFirstLife r c b → y ≤ b
    → (C → CameBackBy r c y) → B ⊎ C → B ⊎ ReturnAfter (joined_facts r s) c y b
keep_first r s first le later h = ⊎_elim
    (λ a. inl a)
    (λ a.
    let k = later a in
    let by = k.by in
    let after = first k.beat k.returned in
    absurd (omega arith))
    h

-- Between what is told of a first life and a beat of a later one the cub came back.
pub keep_later : (r s : Facts) {c y b : ℕ} {B C : Type 0} → CameBackBy r c b
    → (B → IsFirstLife r c y) → B ⊎ C → C ⊎ ReturnAfter (joined_facts r s) c y b
keep_later r s here first h = ⊎_elim
    (λ a.
    let after = first a here.beat here.returned in
    let by = here.by in
    inr (record { beat = here.beat; returned = here.returned; after = after; by = by }))
    (λ a. inl a)
    h

module _ {r s : Facts} (firsts : AreOfLives r (IsFirstLife r))
    (laters : AreOfLives s (CameBackBy r)) where
  abbrev J : Facts
  J = joined_facts r s

  first_kept : AreKept r J (IsFirstLife r)
  first_kept = record {
    ticked = λ {c} {y} {b} {l} here le k. keep_first r s here le (laters.ticked c y l) k;
    inserted = λ {c} {n} {y} {b} {t} here le k. keep_first r s here le (laters.inserted c t n y) k;
    took = λ {c} {n} {y} {b} {t} here le k. keep_first r s here le (laters.took c t n y) k;
    asked = λ {c} {y} {b} {ask} here le k. keep_first r s here le (laters.asked c ask y) k;
    apart = λ {c} {y} {b} {ask} here le k. keep_first r s here le (laters.apart c ask y) k;
    reached = λ {c} {v} {y} {b} here le k. keep_first r s here le (laters.reached c v y) k;
    passed = λ {c} {v} {s = u} {q} {y} {b} here le k.
        keep_first r s here le (laters.passed c v u q y) k;
    heard = λ {c} {y} {b} here le k. keep_first r s here le (laters.heard c y) k;
    believed = λ {c} {y} {b} here le k. keep_first r s here le (laters.believed c y) k;
  }

  later_kept : AreKept s J (CameBackBy r)
  later_kept = record {
    ticked = λ {c} {y} {b} {l} here le k. keep_later r s here (firsts.ticked c y l) k;
    inserted = λ {c} {n} {y} {b} {t} here le k. keep_later r s here (firsts.inserted c t n y) k;
    took = λ {c} {n} {y} {b} {t} here le k. keep_later r s here (firsts.took c t n y) k;
    asked = λ {c} {y} {b} {ask} here le k. keep_later r s here (firsts.asked c ask y) k;
    apart = λ {c} {y} {b} {ask} here le k. keep_later r s here (firsts.apart c ask y) k;
    reached = λ {c} {v} {y} {b} here le k. keep_later r s here (firsts.reached c v y) k;
    passed = λ {c} {v} {s = u} {q} {y} {b} here le k.
        keep_later r s here (firsts.passed c v u q y) k;
    heard = λ {c} {y} {b} here le k. keep_later r s here (firsts.heard c y) k;
    believed = λ {c} {y} {b} here le k. keep_later r s here (firsts.believed c y) k;
  }

  first_on : (c y b : ℕ) → IsFirstLife r c y → IsSameLife J c y b → IsFirstLife r c b
  first_on c y b first same w back = ⊎_elim
      (λ (l : b < w). l)
      (λ (l : w ≤ b).
      let low = same w back l in
      let high = first w back in
      absurd (omega arith))
      (cases_lt b w)

  later_on : (c y b : ℕ) → CameBackBy r c y → y ≤ b → CameBackBy r c b
  later_on c y b h le =
      let by = h.by in
      record { beat = h.beat; returned = h.returned; by = omega arith }

  pub first_life : IsOneLife r J (IsFirstLife r)
  first_life = record {
    facts = first_facts r s;
    lives = firsts;
    kept = first_kept;
    on = λ {c} {y} {b} here le same. first_on c y b here same;
  }

  pub later_life : IsOneLife s J (CameBackBy r)
  later_life = record {
    facts = later_facts r s;
    lives = laters;
    kept = later_kept;
    on = λ {c} {y} {b} here le same. later_on c y b here le;
  }
