-- What befalls a node in a beat by its life: it acts, its death cuts it off, it dies, it is dead, or it returns.
use Rattle.std.proofs.Common.{◌≡◌, ◌≢◌, ℕ, ◌+◌, ◌<◌, ◌≤◌, Bool, true, false, not, ◌&&◌, ◌||◌, Option, Some, None}
use Rattle.std.proofs.Common.{refl, ap}
use Rattle.std.proofs.Common.{sym, ◌∙◌, arith, ⊎_elim, inl, inr}
use Rattle.std.specs.Prelude.{◌==◌, nat_lt, nat_le, is_some, ◌⊎◌}
use Rattle.std.proofs.lemmas.Bool.{cases_lt, cases_eq, eq-eqb, ne_eqb}
use Rattle.std.proofs.lemmas.Bool.Decides.{nat_tests}
use Rattle.node_kit.specs.Courses.{ReturnsLater}
use Rattle.node_kit.specs.Life.{acts, dies, returns, ends_in}
use Rattle.run_facts.specs.Timed.{death_within}
use Rattle.run_facts.proofs.Fronts.{lived}

-- it acts in the beat, by its first life
pub record IsFirst (death left back : Option ℕ) (b : ℕ) : Type 0 where
  pub acts_then : acts (lived death left back) b ≡ true
  pub whole : ends_in (lived death left back) b ≡ false
  pub here : returns (lived death left back) b ≡ false
  pub before : death_within b death ≡ None
  pub after : death_within (b + 1) death ≡ None

-- it dies in the beat, cut off or not
pub record IsLast (death left back : Option ℕ) (b : ℕ) : Type 0 where
  pub acts_then : acts (lived death left back) b ≡ is_some left
  pub ends_then : ends_in (lived death left back) b ≡ is_some left
  pub dies_then : dies (lived death left back) b ≡ not (is_some left)
  pub here : returns (lived death left back) b ≡ false
  pub before : death_within b death ≡ None
  pub after : death_within (b + 1) death ≡ Some b
  pub later : death_within (b + 1) back ≡ None

-- it is dead
pub record IsGone (death left back : Option ℕ) (b : ℕ) : Type 0 where
  pub died : ℕ
  pub idle : acts (lived death left back) b ≡ false
  pub undead : dies (lived death left back) b ≡ false
  pub here : returns (lived death left back) b ≡ false
  pub before : death_within b death ≡ Some died
  pub after : death_within (b + 1) death ≡ Some died
  pub away : death_within b back ≡ None
  pub still : death_within (b + 1) back ≡ None

-- or it has returned, in this beat or before
pub record IsUpAgain (death left back : Option ℕ) (b : ℕ) : Type 0 where
  pub died : ℕ
  pub again : ℕ
  pub acts_then : acts (lived death left back) b ≡ true
  pub whole : ends_in (lived death left back) b ≡ false
  pub apart : died + 2 ≤ again
  pub before : death_within b death ≡ Some died
  pub after : death_within (b + 1) death ≡ Some died
  pub is_back : death_within (b + 1) back ≡ Some again
  pub when_back : ((again ≡ b) × (returns (lived death left back) b ≡ true) × (death_within b back ≡ None))
      ⊎ ((returns (lived death left back) b ≡ false) × (death_within b back ≡ Some again))

within-not : (b d : ℕ) → b ≤ d → death_within b (Some d) ≡ None
within-not b d h = let e : nat_lt d b ≡ false = grind (arith, nat_tests, h) in rw e refl

within-some : (b d : ℕ) → d < b → death_within b (Some d) ≡ Some d
within-some b d h = let e : nat_lt d b ≡ true = grind (arith, nat_tests, h) in rw e refl

by-left : (s : Bool) → (false || (true && (s && true)) || false) ≡ s
by-left true = refl
by-left false = refl

pub befalls : (death left back : Option ℕ) (b : ℕ) → ReturnsLater death back
    → IsFirst death left back b ⊎ (IsLast death left back b ⊎ (IsGone death left back b ⊎ IsUpAgain death left back b))
unfolding acts dies returns
befalls None left None b later =
    inl (record { acts_then = refl; whole = refl; here = refl; before = refl; after = refl })
befalls None left (Some w) b later = absurd later
befalls (Some d) left None b later = ⊎_elim
    (λ (low : b < d).
    let t : nat_lt b d ≡ true = grind (arith, nat_tests, low) in
    let o : (b == d) ≡ false = ne_eqb b d (λ q. omega (arith, q, low)) in
    inl (record {
      acts_then = rw t refl;
      whole = rw o refl;
      here = refl;
      before = within-not b d (omega (arith, low));
      after = within-not (b + 1) d (omega (arith, low));
    }))
    (λ (high : d ≤ b). ⊎_elim
    (λ (same : b ≡ d).
    let t : nat_lt b d ≡ false = grind (arith, nat_tests, same) in
    let o : (b == d) ≡ true = eq-eqb b d same in
    inr (inl (record {
      acts_then = rw (t, o) (by-left (is_some left));
      ends_then = rw o refl;
      dies_then = rw o refl;
      here = refl;
      before = within-not b d (omega (arith, same));
      after = within-some (b + 1) d (omega (arith, same)) ∙ ap Some (sym same);
      later = refl;
    })))
    (λ (other : b ≢ d).
    let t : nat_lt b d ≡ false = grind (arith, nat_tests, high) in
    let o : (b == d) ≡ false = ne_eqb b d other in
    inr (inr (inl (record {
      died = d;
      idle = rw (t, o) refl;
      undead = rw o refl;
      here = refl;
      before = within-some b d (omega (arith, high, other));
      after = within-some (b + 1) d (omega (arith, high));
      away = refl;
      still = refl;
    }))))
    (cases_eq b d))
    (cases_lt b d)
befalls (Some d) left (Some w) b later = ⊎_elim
    (λ (low : b < d).
    let t : nat_lt b d ≡ true = grind (arith, nat_tests, low) in
    let o : (b == d) ≡ false = ne_eqb b d (λ q. omega (arith, q, low)) in
    let r : (b == w) ≡ false = ne_eqb b w (λ q. omega (arith, q, low, later)) in
    inl (record {
      acts_then = rw t refl;
      whole = rw o refl;
      here = r;
      before = within-not b d (omega (arith, low));
      after = within-not (b + 1) d (omega (arith, low));
    }))
    (λ (high : d ≤ b). ⊎_elim
    (λ (same : b ≡ d).
    let t : nat_lt b d ≡ false = grind (arith, nat_tests, same) in
    let o : (b == d) ≡ true = eq-eqb b d same in
    let r : (b == w) ≡ false = ne_eqb b w (λ q. omega (arith, q, same, later)) in
    let z : nat_le w b ≡ false = grind (arith, nat_tests, same, later) in
    inr (inl (record {
      acts_then = rw (t, o, z) (by-left (is_some left));
      ends_then = rw o refl;
      dies_then = rw o refl;
      here = r;
      before = within-not b d (omega (arith, same));
      after = within-some (b + 1) d (omega (arith, same)) ∙ ap Some (sym same);
      later = within-not (b + 1) w (omega (arith, same, later));
    })))
    (λ (other : b ≢ d).
    let t : nat_lt b d ≡ false = grind (arith, nat_tests, high) in
    let o : (b == d) ≡ false = ne_eqb b d other in
    ⊎_elim
    (λ (early : b < w).
    let r : (b == w) ≡ false = ne_eqb b w (λ q. omega (arith, q, early)) in
    let z : nat_le w b ≡ false = grind (arith, nat_tests, early) in
    inr (inr (inl (record {
      died = d;
      idle = rw (t, o, z) refl;
      undead = rw o refl;
      here = r;
      before = within-some b d (omega (arith, high, other));
      after = within-some (b + 1) d (omega (arith, high));
      away = within-not b w (omega (arith, early));
      still = within-not (b + 1) w (omega (arith, early));
    }))))
    (λ (late : w ≤ b).
    let z : nat_le w b ≡ true = grind (arith, nat_tests, late) in
    inr (inr (inr (record {
      died = d;
      again = w;
      acts_then = rw (t, o, z) refl;
      whole = rw o refl;
      apart = later;
      before = within-some b d (omega (arith, high, other));
      after = within-some (b + 1) d (omega (arith, high));
      is_back = within-some (b + 1) w (omega (arith, late));
      when_back = ⊎_elim
          (λ (now : b ≡ w). inl (sym now, eq-eqb b w now, within-not b w (omega (arith, now))))
          (λ (past : b ≢ w). inr (ne_eqb b w past, within-some b w (omega (arith, late, past))))
          (cases_eq b w);
    }))))
    (cases_lt b w))
    (cases_eq b d))
    (cases_lt b d)
