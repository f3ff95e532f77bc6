-- Which events of a node before its return have an input: all, or all but the last one, its death.
use Rattle.std.proofs.Common.{◌≡◌, ℕ, zero, suc, ◌+◌, ◌-◌, ◌<◌, ◌≤◌, ◌==◌, Bool, true, false, None, cond, refl, sym, ap, subst, ◌∙◌, arith, ⊎_elim, eq-or-lt_of_le}
use Rattle.std.proofs.lemmas.Bool.{cases_Bool, eq-eqb, ne_eqb}
use Rattle.tiger_base.specs.declared.message.Msg.{Msg}
use Rattle.run_facts.specs.Events.{NodeEvent, is_death, is_return, is_tick_input}
use Rattle.run_facts.specs.Events.NodeEvent.{Does, Ends, Dies, Returns}
use Rattle.run_facts.specs.Histories.{History, count_of, ticks}
use Rattle.proof_lives.specs.Lives.{ticks_at, cut_in}
use Rattle.proof_lives.specs.Histories.{input_of, has_input, cut_of_event, acting, before_return, first_events, lives_of}
use Rattle.proof_lives.proofs.Carrying.{tick_same}

-- an event without an input is a death or a return
pub without_input : (e : NodeEvent Msg) → has_input e ≡ false → is_return e ≡ false → is_death e ≡ true
without_input (Does i) f back = absurd (cc)
without_input (Ends i sends) f back = refl
without_input (Dies stamp) f back = refl
without_input (Returns stamp) f back = absurd (cc)

-- one in which a node lives on is whole
pub alive_whole : (e : NodeEvent Msg) → is_death e ≡ false → cut_of_event e ≡ None
alive_whole (Does i) f = refl
alive_whole (Ends i sends) f = absurd (cc)
alive_whole (Dies stamp) f = refl
alive_whole (Returns stamp) f = refl

-- ---- the events before a return

-- of the first i events of a node the first k stand before its return, if that is one of them
abbrev pub IsFront : {S : Type 0} → History Msg S → ℕ → ℕ → ℕ → Type 0
IsFront h n i k =
    (k ≤ i) × ((j : ℕ) → j < k → is_return (h.event n j) ≡ false) × (k < i → is_return (h.event n k) ≡ true)

one_more : {S : Type 0} (h : History Msg S) (n i : ℕ) → before_return h n i ≡ i
    → before_return h n (suc i) ≡ cond (is_return (h.event n i)) i (suc i)
one_more h n i same =
    ap (λ (b : Bool). cond b (cond (is_return (h.event n i)) i (suc i)) (before_return h n i))
    (eq-eqb (before_return h n i) i same)

no_more : {S : Type 0} (h : History Msg S) (n i : ℕ) → before_return h n i < i
    → before_return h n (suc i) ≡ before_return h n i
no_more h n i less =
    ap (λ (b : Bool). cond b (cond (is_return (h.event n i)) i (suc i)) (before_return h n i))
    (ne_eqb (before_return h n i) i (λ q. omega arith))

pub front_is : {S : Type 0} (h : History Msg S) (n i : ℕ) → IsFront h n i (before_return h n i)
front_is h n zero = (omega arith, λ j low. absurd (omega arith), λ low. absurd (omega arith))
front_is h n (suc i) =
    let before = front_is h n i in
    let low = before.0 in
    ⊎_elim
    (λ (same : before_return h n i ≡ i).
    let here : (j : ℕ) → j < i → is_return (h.event n j) ≡ false = λ j less. before.1 j (omega arith) in
    ⊎_elim
    (λ (t : is_return (h.event n i) ≡ true).
    let is : before_return h n (suc i) ≡ i = one_more h n i same ∙ ap (λ (b : Bool). cond b i (suc i)) t in
    subst (IsFront h n (suc i)) (sym is) (omega arith, here, λ less. t))
    (λ (f : is_return (h.event n i) ≡ false).
    let is : before_return h n (suc i) ≡ suc i = one_more h n i same ∙ ap (λ (b : Bool). cond b i (suc i)) f in
    subst (IsFront h n (suc i)) (sym is) (
      omega arith,
      λ j less. ⊎_elim
          (λ (q : j ≡ i). ap (λ k. is_return (h.event n k)) q ∙ f)
          (λ (l : j < i). here j l)
          (eq-or-lt_of_le (let z : j ≤ i = omega arith in z)),
      λ less. absurd (omega arith),
    ))
    (cases_Bool (is_return (h.event n i))))
    (λ (less : before_return h n i < i).
    subst (IsFront h n (suc i)) (sym (no_more h n i less))
    (omega arith, before.1, λ more. before.2 less))
    (eq-or-lt_of_le low)

-- of a node's events before its return none but the last is a death
module _ {S : Type 0} (h : History Msg S) (n : ℕ)
    (here : (i : ℕ) → i < first_events h n → is_return (h.event n i) ≡ false)
    (ended : (i : ℕ) → i < first_events h n → is_death (h.event n i) ≡ true → i + 1 ≡ first_events h n) where
  -- an event before the last one is no death
  pub early : (i : ℕ) → i + 1 < first_events h n → is_death (h.event n i) ≡ false
  early i low = ⊎_elim
      (λ (t : is_death (h.event n i) ≡ true). let z = ended i (omega arith) t in absurd (omega arith))
      (λ (f : is_death (h.event n i) ≡ false). f)
      (cases_Bool (is_death (h.event n i)))

  -- so it has an input
  pub early_input : (i : ℕ) → i + 1 < first_events h n → has_input (h.event n i) ≡ true
  early_input i low = ⊎_elim
      (λ (t : has_input (h.event n i) ≡ true). t)
      (λ (f : has_input (h.event n i) ≡ false).
      let died = without_input (h.event n i) f (here i (omega arith)) in
      let z : true ≡ false = sym died ∙ early i low in absurd (cc))
      (cases_Bool (has_input (h.event n i)))

  all_act : (i : ℕ) → i < first_events h n → count_of has_input h n i ≡ i
  all_act zero low = refl
  all_act (suc i) low =
      ap (λ (b : Bool). cond b (suc (count_of has_input h n i)) (count_of has_input h n i)) (early_input i (omega arith))
      ∙ ap (λ (k : ℕ). suc k) (all_act i (omega arith))

  -- an event that counts, and has an input
  pub record Acts (i : ℕ) : Type 0 where
    pub done : i < first_events h n
    pub input : has_input (h.event n i) ≡ true

  counts : (k : ℕ) → first_events h n ≡ k
      → ((i : ℕ) → i < count_of has_input h n k → Acts i)
      × ((i : ℕ) → i < k → has_input (h.event n i) ≡ true → i < count_of has_input h n k)
  counts zero e = (λ i low. absurd (omega arith), λ i low acts. low)
  counts (suc m) e =
      let before : count_of has_input h n m ≡ m = all_act m (omega arith) in
      ⊎_elim
      (λ (t : has_input (h.event n m) ≡ true).
      let all : count_of has_input h n (suc m) ≡ suc m =
      ap (λ (b : Bool). cond b (suc (count_of has_input h n m)) (count_of has_input h n m)) t
      ∙ ap (λ (k : ℕ). suc k) before in (
        λ i low. record {
          done = omega arith;
          input = ⊎_elim
              (λ (q : i ≡ m). ap (λ (j : ℕ). has_input (h.event n j)) q ∙ t)
              (λ (l : i < m). early_input i (omega arith))
              (eq-or-lt_of_le (let z : i ≤ m = omega arith in z));
        },
        λ i low acts. let z : i < count_of has_input h n (suc m) = omega arith in z,
      ))
      (λ (f : has_input (h.event n m) ≡ false).
      let all : count_of has_input h n (suc m) ≡ m =
      ap (λ (b : Bool). cond b (suc (count_of has_input h n m)) (count_of has_input h n m)) f ∙ before in (
        λ i low. record { done = omega arith; input = early_input i (omega arith) },
        λ i low acts. ⊎_elim
            (λ (q : i ≡ m).
            let z : true ≡ false = sym acts ∙ ap (λ (j : ℕ). has_input (h.event n j)) q ∙ f in absurd (cc))
            (λ (l : i < m). let z : i < count_of has_input h n (suc m) = omega arith in z)
            (eq-or-lt_of_le (let z : i ≤ m = omega arith in z)),
      ))
      (cases_Bool (has_input (h.event n m)))

  -- the events with an input are the first ones, and are as many as count
  pub acts_at : (i : ℕ) → i < acting h n → Acts i
  acts_at i low = (counts (first_events h n) refl).0 i low

  pub among_acting : (i : ℕ) → i < first_events h n → has_input (h.event n i) ≡ true → i < acting h n
  among_acting i low acts = (counts (first_events h n) refl).1 i low acts

  -- an event that is no death is one of them
  pub alive_acts : (i : ℕ) → i < first_events h n → is_death (h.event n i) ≡ false → i < acting h n
  alive_acts i low lives = ⊎_elim
      (λ (t : has_input (h.event n i) ≡ true). among_acting i low t)
      (λ (f : has_input (h.event n i) ≡ false).
      let died = without_input (h.event n i) f (here i low) in
      let z : true ≡ false = sym died ∙ lives in absurd (cc))
      (cases_Bool (has_input (h.event n i)))

  -- they are all, or all but the last
  pub most_act : first_events h n ≤ acting h n + 1
  most_act = go (first_events h n) refl
    where
      go : (k : ℕ) → first_events h n ≡ k → k ≤ acting h n + 1
      go zero e = omega arith
      go (suc zero) e = omega arith
      go (suc (suc m)) e = let z = among_acting m (omega arith) (early_input m (omega arith)) in omega arith

  -- the ticks of these events are those of the inputs
  pub ticks_acting : (i : ℕ) → i ≤ acting h n → ticks h n i ≡ ticks_at (λ k. input_of (h.event n k)) i
  ticks_acting zero low = refl
  ticks_acting (suc i) low =
      let t = tick_same (h.event n i) (acts_at i (omega arith)).input in
      let before = ticks_acting i (omega arith) in
      ap (λ (b : Bool). cond b (suc (ticks h n i)) (ticks h n i)) t
      ∙ ap (λ (k : ℕ). cond (is_tick_input (input_of (h.event n i))) (suc k) k) before

  pub ticks_same : (i : ℕ) → i < first_events h n → ticks h n i ≡ ticks_at (λ k. input_of (h.event n k)) i
  ticks_same i low = let most = most_act in ticks_acting i (omega arith)

  -- a life is cut off where its node's death comes in an event
  pub cut_same : (i : ℕ) → i < acting h n → cut_in (lives_of h) n i ≡ cut_of_event (h.event n i)
  cut_same i low = ⊎_elim
      (λ (last : suc i ≡ acting h n).
      let e : (suc i == acting h n) ≡ true = eq-eqb (suc i) (acting h n) last in
      let one : acting h n - 1 ≡ i = omega arith in
      ap (λ (b : Bool). cond b ((lives_of h).cut n) None) e ∙ ap (λ (k : ℕ). cut_of_event (h.event n k)) one)
      (λ (more : suc i < acting h n).
      let e : (suc i == acting h n) ≡ false = ne_eqb (suc i) (acting h n) (λ q. omega arith) in
      let next = (acts_at (suc i) more).done in
      ap (λ (b : Bool). cond b ((lives_of h).cut n) None) e
      ∙ sym (alive_whole (h.event n i) (early i (omega arith))))
      (eq-or-lt_of_le (let z : suc i ≤ acting h n = omega arith in z))
