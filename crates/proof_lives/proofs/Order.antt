-- The order of a cub's inputs and their beats: a tick is the last of its beat.
use Rattle.std.proofs.Common.{◌≡◌, ℕ, zero, suc, ◌+◌, ◌-◌, ◌<◌, ◌≤◌, true, false, cond, refl, sym, subst, arith, ⊎_elim, eq-or-lt_of_le}
use Rattle.std.proofs.lemmas.Bool.{cases_Bool, cases_lt}
use Rattle.tiger_base.specs.declared.number.Stamp.{Stamp}
use Rattle.tiger_base.specs.declared.message.Msg.{Msg}
use Rattle.slot_plan.specs.declared.params.Params.{Params}
use Rattle.node_kit.specs.Steps.{Input}
use Rattle.node_kit.specs.Steps.Input.{Take, Tick}
use Rattle.proof_lives.specs.Lives.{ticks_at, beat_at, IsLife}
use Rattle.run_facts.specs.Events.{is_tick_input}

pub ticks_step : (inputs : ℕ → Input Msg) (i : ℕ) → (ticks_at inputs i ≤ ticks_at inputs (suc i)) × (ticks_at inputs (suc i) ≤ ticks_at inputs i + 1)
ticks_step inputs i = ⊎_elim
    (λ (e : is_tick_input (inputs i) ≡ true). rw e (omega arith, omega arith))
    (λ (e : is_tick_input (inputs i) ≡ false). rw e (omega arith, omega arith))
    (cases_Bool (is_tick_input (inputs i)))

pub ticks_rise : (inputs : ℕ → Input Msg) (i j : ℕ) → i ≤ j → ticks_at inputs i ≤ ticks_at inputs j
ticks_rise inputs i zero h = let e : i ≡ 0 = omega arith in subst (λ k. ticks_at inputs k ≤ 0) (sym e) (omega arith)
ticks_rise inputs i (suc j) h = ⊎_elim
    (λ (e : i ≡ suc j). subst (λ k. ticks_at inputs k ≤ ticks_at inputs (suc j)) (sym e) (omega arith))
    (λ (l : i < suc j). let s = ticks_step inputs j in let r = ticks_rise inputs i j (omega arith) in let s0 = s.0 in omega arith)
    (eq-or-lt_of_le h)

pub after_tick : (inputs : ℕ → Input Msg) (i : ℕ) → is_tick_input (inputs i) ≡ true → ticks_at inputs (suc i) ≡ ticks_at inputs i + 1
after_tick inputs i e = rw e (omega arith)

-- each tick that is counted up to an input stands before it
pub record TickCounted (inputs : ℕ → Input Msg) (i b : ℕ) : Type 0 where
  pub at : ℕ
  pub before : at < i
  pub tick : is_tick_input (inputs at) ≡ true
  pub number : ticks_at inputs at ≡ b

pub ticked_before : (inputs : ℕ → Input Msg) (i b : ℕ) → b < ticks_at inputs i → TickCounted inputs i b
ticked_before inputs zero b h = absurd (omega arith)
ticked_before inputs (suc i) b h = ⊎_elim
    (λ (l : b < ticks_at inputs i). let t = ticked_before inputs i b l in let tb = t.before in record { at = t.at; before = omega arith; tick = t.tick; number = t.number })
    (λ (g : ticks_at inputs i ≤ b). ⊎_elim
    (λ (e : is_tick_input (inputs i) ≡ true). let s = after_tick inputs i e in record { at = i; before = omega arith; tick = e; number = omega arith })
    (λ (e : is_tick_input (inputs i) ≡ false). let q : b < ticks_at inputs i = subst (λ t. b < cond t (suc (ticks_at inputs i)) (ticks_at inputs i)) e h in absurd (omega arith))
    (cases_Bool (is_tick_input (inputs i))))
    (cases_lt b (ticks_at inputs i))

pub tick_of : (i : Input Msg) → is_tick_input i ≡ true → (stamp : Stamp) × (i ≡ Tick stamp)
tick_of (Tick stamp) e = (stamp, refl)
tick_of (Take stamp link m) e = absurd (cc)

-- before an input stands the tick of a lower beat
pub record TickBefore (inputs : ℕ → Input Msg) (i b : ℕ) : Type 0 where
  pub at : ℕ
  pub before : at < i
  pub tick : is_tick_input (inputs at) ≡ true
  pub beat : beat_at inputs at ≡ b

module _ (p : Params) (count : ℕ) (inputs : ℕ → Input Msg) (life : IsLife p count inputs) where
  -- earlier inputs have lower beats or the same
  pub beats_rise : (j i : ℕ) → j ≤ i → i < count → beat_at inputs j ≤ beat_at inputs i
  beats_rise j i h low = let a = life.in_beat j (omega arith) in let b = life.in_beat i low in let r = ticks_rise inputs j i h in omega arith

  -- an input of a tick's beat or a lower one is not behind the tick
  pub not_behind : (j i : ℕ) → i < count → j < count → is_tick_input (inputs i) ≡ true → beat_at inputs j ≤ beat_at inputs i → j ≤ i
  not_behind j i low high tick h = ⊎_elim
      (λ (g : i < j).
      let a = life.in_beat j high in
      let b = life.in_beat i low in
      let s = after_tick inputs i tick in
      let r = ticks_rise inputs (suc i) j (omega arith) in
      absurd (omega arith))
      (λ g. g)
      (cases_lt i j)

  -- an input before a tick and of its beat, and what comes behind the tick
  pub behind : (j i : ℕ) → j < i → i < count → is_tick_input (inputs j) ≡ true → beat_at inputs j < beat_at inputs i
  behind j i h low tick =
      let a = life.in_beat j (omega arith) in
      let b = life.in_beat i low in
      let s = after_tick inputs j tick in
      let r = ticks_rise inputs (suc j) i (omega arith) in
      omega arith

  -- the tick that ended a lower beat, from the one on in which the life began
  pub tick_before : (i b : ℕ) → i < count → beat_at inputs 0 ≤ b → b < beat_at inputs i → TickBefore inputs i b
  tick_before i b low from below =
      let first : ℕ = beat_at inputs 0 in
      let a = life.in_beat i low in
      let t = ticked_before inputs i (b - first) (omega arith) in
      let tb = t.before in
      let tn = t.number in
      let d = life.in_beat t.at (omega arith) in
      record { at = t.at; before = t.before; tick = t.tick; beat = omega arith }
