-- What comes and goes: what holds at a number came at a lower one and has held since, or holds until one at which it may go.
use Rattle.std.proofs.Common.{◌≡◌, ℕ, zero, suc, ◌<◌, ◌≤◌, sym, subst, arith, ⊎_elim, inl, inr, eq-or-lt_of_le}
use Rattle.std.specs.Prelude.{◌⊎◌}

-- a number from one on and before another of which something holds
pub record Within (Is : ℕ → Type 0) (j i : ℕ) : Type 0 where
  pub at : ℕ
  pub from : j ≤ at
  pub before : at < i
  pub is : Is at

pub within_wider : (Is : ℕ → Type 0) (j k i n : ℕ) → k ≤ j → i ≤ n → Within Is j i → Within Is k n
within_wider Is j k i n from to w =
    let f = w.from in let b = w.before in record { at = w.at; from = omega arith; before = omega arith; is = w.is }

-- it came at a number before this one, and has held since
pub record Since (Has Came : ℕ → Type 0) (i : ℕ) : Type 0 where
  pub at : ℕ
  pub before : at < i
  pub came : Came at
  pub since : (k : ℕ) → at < k → k ≤ i → Has k

-- it might go at a number from one on and before another, and held until then
pub record Until (Has May : ℕ → Type 0) (j i : ℕ) : Type 0 where
  pub at : ℕ
  pub from : j ≤ at
  pub before : at < i
  pub has : Has at
  pub may : May at

module _ (Has : ℕ → Type 0) where
  -- what never held at first came
  pub came_since : (Came : ℕ → Type 0) → (Has 0 → ⊥) → (i : ℕ) → ((k : ℕ) → k < i → Has (suc k) → Has k ⊎ Came k) → Has i
      → Since Has Came i
  came_since Came none zero back h = absurd (none h)
  came_since Came none (suc i) back h = ⊎_elim
      (λ q.
      let s = came_since Came none i (λ k low. back k (omega arith)) q in
      let b = s.before in
      record {
        at = s.at;
        before = omega arith;
        came = s.came;
        since = λ k from to. ⊎_elim
            (λ (e : k ≡ suc i). subst Has (sym e) h)
            (λ (l : k < suc i). s.since k from (omega arith))
            (eq-or-lt_of_le to);
      })
      (λ q. record {
        at = i;
        before = omega arith;
        came = q;
        since = λ k from to. subst Has (let e : suc i ≡ k = omega arith in e) h;
      })
      (back i (omega arith) h)

  -- what holds held before, or came since
  pub held_or_came : (Came : ℕ → Type 0) (i j : ℕ) → j ≤ i → ((k : ℕ) → j ≤ k → k < i → Has (suc k) → Has k ⊎ Came k) → Has i
      → Has j ⊎ Within Came j i
  held_or_came Came zero j le back h = inl (subst Has (let e : 0 ≡ j = omega arith in e) h)
  held_or_came Came (suc i) j le back h = ⊎_elim
      (λ (e : j ≡ suc i). inl (subst Has (sym e) h))
      (λ (l : j < suc i). ⊎_elim
      (λ q. ⊎_elim
      (λ w. inl w)
      (λ w. inr (within_wider Came j j i (suc i) (omega arith) (omega arith) w))
      (held_or_came Came i j (omega arith) (λ k from low. back k from (omega arith)) q))
      (λ q. inr (record { at = i; from = omega arith; before = omega arith; is = q }))
      (back i (omega arith) (omega arith) h))
      (eq-or-lt_of_le le)

  -- what held holds, or might go since
  pub held_until : (May : ℕ → Type 0) (i j : ℕ) → j ≤ i → ((k : ℕ) → j ≤ k → k < i → Has k → Has (suc k) ⊎ May k) → Has j
      → Has i ⊎ Until Has May j i
  held_until May zero j le forth h = inl (subst Has (let e : j ≡ 0 = omega arith in e) h)
  held_until May (suc i) j le forth h = ⊎_elim
      (λ (e : j ≡ suc i). inl (subst Has e h))
      (λ (l : j < suc i). ⊎_elim
      (λ q. ⊎_elim
      (λ w. inl w)
      (λ w. inr (record { at = i; from = omega arith; before = omega arith; has = q; may = w }))
      (forth i (omega arith) (omega arith) q))
      (λ q.
      let b = q.before in
      inr (record { at = q.at; from = q.from; before = omega arith; has = q.has; may = q.may }))
      (held_until May i j (omega arith) (λ k from low. forth k from (omega arith)) h))
      (eq-or-lt_of_le le)
