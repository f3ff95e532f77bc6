-- The numbers of messages on a link, in a life of the node that takes them: which event takes which, and what a return loses.
use Rattle.std.proofs.Common.{◌≡◌, ℕ, zero, suc, ◌+◌, ◌<◌, ◌≤◌, ◌==◌, List, [], ◌∷◌, ◌++◌, length, filter, nat_lt, true, false, refl, ap, subst, arith, ⊎_elim, eq-or-lt_of_le, length-append}
use Rattle.std.specs.Prelude.{◌⊎◌}
use Rattle.std.proofs.lemmas.Bool.{cases_Bool, lt-ltb, le-ltb}
use Rattle.tiger_base.specs.declared.message.Msg.{Msg}
use Rattle.tiger_base.specs.Notes.{noted}
use Rattle.slot_plan.specs.declared.params.Params.{Params}
use Rattle.node_kit.specs.declared.outbox.Out.{Out}
use Rattle.node_kit.specs.declared.outbox.Out.TheVariants as out
use Rattle.node_kit.specs.Steps.{Deed, Input}
use Rattle.run_facts.specs.Events.{Dated, sends_of}
use Rattle.run_facts.specs.Histories.{History, IsRun, below, beat, outs, place, sent}
use Rattle.lists.proofs.Elements.{chosen}
pub use Rattle.run_facts.proofs.Passing.{places_rise, taken_between, takes_next}
use Rattle.proof_lives.proofs.Returns.{beats_never_fall}

-- ---- what was sent below a beat

below_all : (b : ℕ) (ds : List (Dated Msg)) → below b ds ≤ length ds
below_all b [] = omega arith
below_all b (d ∷ ds) =
    let r = below_all b ds in
    chosen (λ (xs : List (Dated Msg)). length xs ≤ suc (length ds)) (nat_lt d.beat b)
    (d ∷ filter (λ x. nat_lt x.beat b) ds) (filter (λ x. nat_lt x.beat b) ds)
    (λ _. omega arith) (λ _. omega arith)

below_both : (b : ℕ) (xs ys : List (Dated Msg)) → below b (xs ++ ys) ≡ below b xs + below b ys
below_both b [] ys = omega arith
below_both b (x ∷ xs) ys =
    let r = below_both b xs ys in
    ⊎_elim
    (λ (t : nat_lt x.beat b ≡ true).
    let one : below b (x ∷ (xs ++ ys)) ≡ suc (below b (xs ++ ys)) = rw t refl in
    let two : below b (x ∷ xs) ≡ suc (below b xs) = rw t refl in
    omega arith)
    (λ (f : nat_lt x.beat b ≡ false).
    let one : below b (x ∷ (xs ++ ys)) ≡ below b (xs ++ ys) = rw f refl in
    let two : below b (x ∷ xs) ≡ below b xs = rw f refl in
    omega arith)
    (cases_Bool (nat_lt x.beat b))

-- all that is sent in a beat is sent below another one, or nothing is
early_sends : (l x b : ℕ) (os : List (Out Msg)) → x < b → below b (sends_of l x os) ≡ length (sends_of l x os)
early_sends l x b [] low = refl
early_sends l x b (out.Act w ∷ os) low = early_sends l x b os low
early_sends l x b (out.Send link m ∷ os) low =
    let r = early_sends l x b os low in
    chosen (λ (ds : List (Dated Msg)). below b ds ≡ length ds) (link.0 == l)
    ((record { beat = x; item = m }) ∷ sends_of l x os) (sends_of l x os)
    (λ _. rw (lt-ltb x b low) (ap (λ k. suc k) r)) (λ _. r)

late_sends : (l x b : ℕ) (os : List (Out Msg)) → b ≤ x → below b (sends_of l x os) ≡ 0
late_sends l x b [] low = refl
late_sends l x b (out.Act w ∷ os) low = late_sends l x b os low
late_sends l x b (out.Send link m ∷ os) low =
    let r = late_sends l x b os low in
    chosen (λ (ds : List (Dated Msg)). below b ds ≡ 0) (link.0 == l)
    ((record { beat = x; item = m }) ∷ sends_of l x os) (sends_of l x os)
    (λ _. rw (le-ltb x b low) r) (λ _. r)

module _ {S : Type 0} {step : S → Input Msg → Deed Msg S} {p : Params} {nodes : ℕ} {h : History Msg S}
    (run : IsRun noted step p nodes h) (l n : ℕ) (known : n < nodes) where
  abbrev all_to : ℕ → List (Dated Msg)
  all_to i = sent noted step l h n i

  abbrev now : ℕ → List (Dated Msg)
  now i = sends_of l (beat h n i) (outs noted step h n i)

  all_early : (b i : ℕ) → i ≤ h.count n → ((j : ℕ) → j < i → beat h n j < b) → below b (all_to i) ≡ length (all_to i)
  all_early b zero low early = refl
  all_early b (suc i) low early =
      let r = all_early b i (omega arith) (λ j less. early j (omega arith)) in
      let s = early_sends l (beat h n i) b (outs noted step h n i) (early i (omega arith)) in
      let both = below_both b (all_to i) (now i) in
      let long : length (all_to i ++ now i) ≡ length (all_to i) + length (now i) = length-append (all_to i) (now i) in
      omega arith

  -- what node n sends below beat b has the lowest numbers on the link, and what it sends later has greater ones
  pub sent_below : (b i at place : ℕ) → i ≤ h.count n → at < i → place < length (now at) → beat h n at < b
      → length (all_to at) + place < below b (all_to i)
  sent_below b zero at place low less here early = absurd (omega arith)
  sent_below b (suc i) at place low less here early =
      let both = below_both b (all_to i) (now i) in
      ⊎_elim
      (λ (e : at ≡ i).
      let last = early_sends l (beat h n i) b (outs noted step h n i) (subst (λ k. beat h n k < b) e early) in
      let before = all_early b i (omega arith) (λ j lower.
      let rise = beats_never_fall run n known j i (omega arith) (omega arith) in
      let same : beat h n at ≡ beat h n i = ap (beat h n) e in omega arith) in
      let count : length (now at) ≡ length (now i) = ap (λ k. length (now k)) e in
      let sum : length (all_to at) ≡ length (all_to i) = ap (λ k. length (all_to k)) e in
      omega arith)
      (λ (more : at < i).
      let r = sent_below b i at place (omega arith) more here early in
      omega arith)
      (eq-or-lt_of_le (let z : at ≤ i = omega arith in z))

  pub sent_since : (b i at : ℕ) → i ≤ h.count n → at < i → b ≤ beat h n at → below b (all_to i) ≤ length (all_to at)
  sent_since b zero at low less late = absurd (omega arith)
  sent_since b (suc i) at low less late =
      let both = below_both b (all_to i) (now i) in
      let rise = beats_never_fall run n known at i (omega arith) (omega arith) in
      let none = late_sends l (beat h n i) b (outs noted step h n i) (omega arith) in
      ⊎_elim
      (λ (e : at ≡ i).
      let most = below_all b (all_to i) in
      let sum : length (all_to at) ≡ length (all_to i) = ap (λ k. length (all_to k)) e in
      omega arith)
      (λ (more : at < i).
      let r = sent_since b i at (omega arith) more late in
      omega arith)
      (eq-or-lt_of_le (let z : at ≤ i = omega arith in z))
