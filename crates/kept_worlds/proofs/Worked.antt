-- The worked histories.
use Rattle.std.proofs.Common.{◌≡◌, ℕ, zero, suc, ◌<◌, ◌≤◌, true, false, ◌||◌, refl, sym, arith, subst, ⊎_elim, inl, inr}
use Rattle.std.specs.Prelude.{◌⊎◌, ◌==◌}
use Rattle.std.proofs.lemmas.Bool.{cases_Bool, cases_eq, ne_eqb}
use Rattle.tiger_base.specs.declared.number.Stamp.{Stamp}
use Rattle.slot_plan.specs.Samples.{small}
use Rattle.run_facts.specs.Events.NodeEvent.{Dies}
use Rattle.run_facts.specs.Histories.{beat}
use Rattle.run_facts.specs.Samples.{ticking}
use Rattle.ring_world.specs.Faults.{cub_after}
use Rattle.kept_worlds.specs.Merges.{LivesThrough, MayHappen}
use Rattle.kept_worlds.specs.MergeSamples.{dies_and_returns, takes_and_dies, takes_and_ends, two_die}

pub all-early : MayHappen small 9 2 (ticking 2 0 0)
all-early = record {
  early = λ n i low at. at;
  cubs = λ n i low at died. absurd (cc);
  idle = λ n j i stamp low before at is. absurd (cc);
  apart = λ cub low. inl (λ i at. refl);
}

pub one-late : MayHappen small 9 1 (ticking 2 0 0) → ⊥
one-late may = let low = may.early 0 1 (omega arith) (omega arith) in omega (arith, low)

-- who is neither of two lives, and nobody has more than one event
others-live : (a b n : ℕ) → (n ≡ a → ⊥) → (n ≡ b → ⊥) → (two_die a b).count n ≡ 0
others-live a b n one other =
    let t : (n == a) ≡ false = ne_eqb n a one in
    let u : (n == b) ≡ false = ne_eqb n b other in
    rw (t, u) refl

one-event : (a b n : ℕ) → (two_die a b).count n ≤ 1
one-event a b n = ⊎_elim
    (λ (t : (n == a || n == b) ≡ true). rw t (omega arith))
    (λ (t : (n == a || n == b) ≡ false). rw t (omega arith))
    (cases_Bool (n == a || n == b))

-- two cubs that have another between them
lives-beside : (cub : ℕ) → LivesThrough (two_die 3 5) cub ⊎ LivesThrough (two_die 3 5) (cub_after small cub)
lives-beside cub = ⊎_elim
    (λ (three : cub ≡ 3). inr (subst (λ q. LivesThrough (two_die 3 5) (cub_after small q)) (sym three) (λ i at. absurd (omega (arith, at)))))
    (λ (not_three : cub ≡ 3 → ⊥). ⊎_elim
    (λ (five : cub ≡ 5). inr (subst (λ q. LivesThrough (two_die 3 5) (cub_after small q)) (sym five) (λ i at. absurd (omega (arith, at)))))
    (λ (not_five : cub ≡ 5 → ⊥). inl (λ i at. let none = others-live 3 5 cub not_three not_five in absurd (omega (arith, at, none))))
    (cases_eq cub 5))
    (cases_eq cub 3)

pub two-apart : MayHappen small 9 1 (two_die 3 5)
two-apart = record {
  early = λ n i low at. omega arith;
  cubs = λ n i low at died. ⊎_elim
      (λ (eight : n ≡ 8). let none = others-live 3 5 n (λ e. omega (arith, e, eight)) (λ e. omega (arith, e, eight)) in
      absurd (omega (arith, at, none)))
      (λ (other : n ≡ 8 → ⊥). omega (arith, low, other))
      (cases_eq n 8);
  idle = λ n j i stamp low before at is. let one = one-event 3 5 n in absurd (omega (arith, before, at, one));
  apart = λ cub low. lives-beside cub;
}

pub two-beside : MayHappen small 9 1 (two_die 3 4) → ⊥
two-beside may = ⊎_elim
    (λ (lives : LivesThrough (two_die 3 4) 3). let q = lives 0 (omega arith) in absurd (cc))
    (λ (lives : LivesThrough (two_die 3 4) 4). let q = lives 0 (omega arith) in absurd (cc))
    (may.apart 3 (omega arith))

pub two-round : MayHappen small 9 1 (two_die 0 7) → ⊥
two-round may = ⊎_elim
    (λ (lives : LivesThrough (two_die 0 7) 7). let q = lives 0 (omega arith) in absurd (cc))
    (λ (lives : LivesThrough (two_die 0 7) 0). let q = lives 0 (omega arith) in absurd (cc))
    (may.apart 7 (omega arith))

pub disk-dies : MayHappen small 9 1 (two_die 3 8) → ⊥
disk-dies may = let low = may.cubs 8 0 (omega arith) (omega arith) refl in omega (arith, low)

-- node 3 alone has events, and two of them
idle-count : (n b : ℕ) → (n ≡ 3 → ⊥) → (takes_and_dies b).count n ≡ 0
idle-count n b other = let t : (n == 3) ≡ false = ne_eqb n 3 other in rw t refl

two-events : (n b : ℕ) → (takes_and_dies b).count n ≤ 2
two-events n b = ⊎_elim
    (λ (t : (n == 3) ≡ true). rw t (omega arith))
    (λ (t : (n == 3) ≡ false). rw t (omega arith))
    (cases_Bool (n == 3))

early-at : (n i : ℕ) → beat (takes_and_dies 2) n i < 3
early-at n zero = omega arith
early-at n (suc i) = omega arith

later-at : (n j i : ℕ) → j < i → i < 2 → beat (takes_and_dies 2) n j < beat (takes_and_dies 2) n i
later-at n j zero before at = absurd (omega (arith, before))
later-at n zero (suc i) before at = omega arith
later-at n (suc j) (suc i) before at = absurd (omega (arith, before, at))

pub dies-later : MayHappen small 9 3 (takes_and_dies 2)
dies-later = record {
  early = λ n i low at. early-at n i;
  cubs = λ n i low at died. ⊎_elim
      (λ (three : n ≡ 3). omega (arith, three))
      (λ (other : n ≡ 3 → ⊥). let none = idle-count n 2 other in absurd (omega (arith, at, none)))
      (cases_eq n 3);
  idle = λ n j i stamp low before at is. let two = two-events n 2 in later-at n j i before (omega (arith, at, two));
  apart = λ cub low. ⊎_elim
      (λ (three : cub ≡ 3). inr (subst (λ q. LivesThrough (takes_and_dies 2) (cub_after small q)) (sym three) (λ i at. absurd (omega (arith, at)))))
      (λ (other : cub ≡ 3 → ⊥). inl (λ i at. let none = idle-count cub 2 other in absurd (omega (arith, at, none))))
      (cases_eq cub 3);
}

pub dies-at_once : MayHappen small 9 3 (takes_and_dies 1) → ⊥
dies-at_once may =
    let later = may.idle 3 0 1 (record { beat = 1; reading = 0 }) (omega arith) (omega arith) (omega arith) refl in
    omega (arith, later)

-- a death that comes in an event
cut-count : (n : ℕ) → (n ≡ 3 → ⊥) → takes_and_ends.count n ≡ 0
cut-count n other = let t : (n == 3) ≡ false = ne_eqb n 3 other in rw t refl

cut-early : (n i : ℕ) → beat takes_and_ends n i < 3
cut-early n zero = omega arith
cut-early n (suc i) = omega arith

never-apart : (n i : ℕ) (s : Stamp) → takes_and_ends.event n i ≡ Dies s → ⊥
never-apart n zero s is = absurd (cc)
never-apart n (suc i) s is = absurd (cc)

pub dies-in_event : MayHappen small 9 3 takes_and_ends
dies-in_event = record {
  early = λ n i low at. cut-early n i;
  cubs = λ n i low at died. ⊎_elim
      (λ (three : n ≡ 3). omega (arith, three))
      (λ (other : n ≡ 3 → ⊥). let none = cut-count n other in absurd (omega (arith, at, none)))
      (cases_eq n 3);
  idle = λ n j i stamp low before at is. absurd (never-apart n i stamp is);
  apart = λ cub low. ⊎_elim
      (λ (three : cub ≡ 3). inr (subst (λ q. LivesThrough takes_and_ends (cub_after small q)) (sym three) (λ i at. absurd (omega (arith, at)))))
      (λ (other : cub ≡ 3 → ⊥). inl (λ i at. let none = cut-count cub other in absurd (omega (arith, at, none))))
      (cases_eq cub 3);
}

-- a death and the return behind it
back-count : (n : ℕ) → (n ≡ 3 → ⊥) → dies_and_returns.count n ≡ 0
back-count n other = let t : (n == 3) ≡ false = ne_eqb n 3 other in rw t refl

back-early : (n i : ℕ) → beat dies_and_returns n i < 4
back-early n zero = omega arith
back-early n (suc i) = omega arith

back-idle : (n j i : ℕ) (s : Stamp) → j < i → dies_and_returns.event n i ≡ Dies s → ⊥
back-idle n j zero s before is = omega (arith, before)
back-idle n j (suc i) s before is = absurd (cc)

pub dies-returns : MayHappen small 9 4 dies_and_returns
dies-returns = record {
  early = λ n i low at. back-early n i;
  cubs = λ n i low at died. ⊎_elim
      (λ (three : n ≡ 3). omega (arith, three))
      (λ (other : n ≡ 3 → ⊥). let none = back-count n other in absurd (omega (arith, at, none)))
      (cases_eq n 3);
  idle = λ n j i stamp low before at is. absurd (back-idle n j i stamp before is);
  apart = λ cub low. ⊎_elim
      (λ (three : cub ≡ 3). inr (subst (λ q. LivesThrough dies_and_returns (cub_after small q)) (sym three) (λ i at. absurd (omega (arith, at)))))
      (λ (other : cub ≡ 3 → ⊥). inl (λ i at. let none = back-count cub other in absurd (omega (arith, at, none))))
      (cases_eq cub 3);
}

pub returns-late : MayHappen small 9 3 dies_and_returns → ⊥
returns-late may = let low = may.early 3 1 (omega arith) (omega arith) in omega (arith, low)
