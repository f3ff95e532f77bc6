-- Belief along a cub's life: it is written down in the tick in which it begins, lasts from then on, and leaves no
-- redundant start.
use Rattle.std.proofs.Common.{◌≡◌, ℕ, zero, suc, ◌<◌, ◌≤◌, [], Bool, true, not, refl, sym, ap, subst, ◌∙◌, arith, ⊎_elim, eq-or-lt_of_le}
use Rattle.tiger_base.specs.declared.number.CubNo.{CubNo}
use Rattle.tiger_base.specs.declared.number.Stamp.{Stamp}
use Rattle.tiger_base.specs.declared.message.Msg.{Msg}
use Rattle.slot_plan.specs.declared.params.Params.{Params}
use Rattle.node_kit.specs.declared.journal.What.TheVariants as what
use Rattle.node_kit.specs.declared.outbox.Out.TheVariants as out
use Rattle.node_kit.specs.Steps.{Deed, Input}
use Rattle.node_kit.specs.Steps.Input.{Tick}
use Rattle.deadman.specs.Silence.{is_silent}
use Rattle.cub_rules.specs.declared.store.Store.{Store}
use Rattle.cub_changes.proofs.Beliefs.{keep_belief, belief_lasts}
use Rattle.proof_cubs.specs.Grounds.{HasWritten, BeliefIsWritten}
use Rattle.proof_lives.specs.Lives.{store_at, outs_at, deed_of}
use Rattle.lists.specs.Elements.{In}
use Rattle.proof_lives.proofs.Steps.{and_false}
use Rattle.proof_lives.proofs.Ticking.{before_inserting}
use Rattle.proof_lives.proofs.HoldLaws.{no_both}
use Rattle.cub_changes.proofs.Chains.{deadman_of}
use Rattle.std.proofs.lemmas.Bool.{not-false}

-- A cub whose watch is silent at a tick believes its predecessor dead when insertion begins.
pub silent_believes : (p : Params) (c : ℕ) (stamp : Stamp) (h : Store) → is_silent h.watch stamp.reading ≡ true
    → (before_inserting p c stamp h).believes ≡ true
silent_believes p c stamp h e =
    let silent : Bool = is_silent h.watch stamp.reading in
    deadman_of p c stamp (λ (d : Deed Msg Store). d.state.believes ≡ true) h
    (λ _. refl)
    (λ f. ⊎_elim (λ b. not-false h.believes b) (λ s. absurd (no_both e s)) (and_false (not h.believes) silent f))

-- A cub that believes its predecessor dead when insertion begins has no redundant start then.
pub none_apart : (p : Params) (c : ℕ) (stamp : Stamp) (h : Store)
    → (h.believes ≡ true → h.starts.redundant ≡ []) → (before_inserting p c stamp h).believes ≡ true
    → (before_inserting p c stamp h).starts.redundant ≡ []
none_apart p c stamp h none =
    deadman_of p c stamp (λ (d : Deed Msg Store). d.state.believes ≡ true → d.state.starts.redundant ≡ []) h
    (λ _ _. refl)
    (λ _ e. none e)

-- ---- along a life
module _ (p : Params) (c : ℕ) (inputs : ℕ → Input Msg) where
  later : {i : ℕ} → HasWritten p c inputs i → HasWritten p c inputs (suc i)
  later w = let l = w.before in record { at = w.at; before = omega arith; wrote = w.wrote }

  -- A cub that believes its predecessor dead wrote so.
  pub written : (i : ℕ) → (store_at p c inputs i).believes ≡ true → HasWritten p c inputs i
  written zero e = absurd (cc)
  written (suc i) e = ⊎_elim
      (λ b. later (written i b))
      (λ o. record { at = i; before = omega arith; wrote = o })
      ((keep_belief p c (inputs i) (store_at p c inputs i)).written e)

  -- Once it wrote so it believes it.
  pub believes_after : (i j : ℕ) (who : CubNo) → j < i → In (out.Act (what.Believed who)) (outs_at p c inputs j)
      → (store_at p c inputs i).believes ≡ true
  believes_after zero j who l o = absurd (omega arith)
  believes_after (suc i) j who l o =
      let k = keep_belief p c (inputs i) (store_at p c inputs i) in
      ⊎_elim
      (λ (e : j ≡ i).
      let now = subst (λ n. In (out.Act (what.Believed who)) (outs_at p c inputs n)) e o in
      (k.entry who now).4)
      (λ (b : j < i). k.stays (believes_after i j who b o))
      (eq-or-lt_of_le (let z : j ≤ i = omega arith in z))

  -- It has no redundant start while it believes it.
  pub apart_at : (i : ℕ) → (store_at p c inputs i).believes ≡ true → (store_at p c inputs i).starts.redundant ≡ []
  apart_at zero e = refl
  apart_at (suc i) e = (keep_belief p c (inputs i) (store_at p c inputs i)).none_apart (apart_at i) e

  -- The cub believes after a tick what it believes when insertion begins.
  after_tick : (i : ℕ) (stamp : Stamp) → inputs i ≡ Tick stamp
      → (store_at p c inputs (suc i)).believes ≡ (before_inserting p c stamp (store_at p c inputs i)).believes
  after_tick i stamp is =
      let h : Store = store_at p c inputs i in
      ap (λ (x : Input Msg). (deed_of p c x h).state.believes) is ∙ belief_lasts p c stamp h

  -- Belief that is there after a tick is there when insertion begins.
  pub believes_when : (i : ℕ) (stamp : Stamp) → inputs i ≡ Tick stamp → (store_at p c inputs (suc i)).believes ≡ true
      → (before_inserting p c stamp (store_at p c inputs i)).believes ≡ true
  believes_when i stamp is e = sym (after_tick i stamp is) ∙ e

-- So belief is written, and leaves no redundant start.
pub belief : BeliefIsWritten
belief p c inputs i e = record { written = written p c inputs i e; none_apart = apart_at p c inputs i e }
