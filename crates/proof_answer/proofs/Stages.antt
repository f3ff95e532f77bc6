-- Whether a node lives, is dead or is back behind some of its events, and what may come next.
use Rattle.std.proofs.Common.{◌≡◌, ℕ, zero, suc, ◌+◌, ◌<◌, ◌≤◌, List, [], ◌∷◌, true, false, Option, Some, refl, ap}
use Rattle.std.proofs.Common.{sym, ◌∙◌, subst, arith, ⊎_elim}
use Rattle.std.proofs.lemmas.Bool.{cases_Bool, cases_eq}
use Rattle.tiger_base.specs.declared.message.Note.{Note}
use Rattle.slot_plan.specs.declared.params.Params.{Params}
use Rattle.node_kit.specs.Steps.{Input, Deed}
use Rattle.run_facts.specs.Events.{NodeEvent, is_death, is_return, behind}
use Rattle.run_facts.specs.Events.NodeEvent.{Does, Ends, Dies, Returns}
use Rattle.run_facts.specs.Histories.{History, IsBack, IsRun, IsComplete, past, open_beat}
use Rattle.run_facts.proofs.Listed.{listed, next-sum, no-more}

pub data Stage : Type 0 where
  Alive : Stage
  Dead : Stage
  Back : Stage

-- behind an event that is no death a node lives on, or it is back
abbrev pub onward : Stage → Stage
onward Alive = Alive
onward Dead = Back
onward Back = Back

abbrev pub next_stage : {M : Type 0} → Stage → NodeEvent M → Stage
next_stage s (Does i) = onward s
next_stage s (Ends i sends) = Dead
next_stage s (Dies stamp) = Dead
next_stage s (Returns stamp) = onward s

-- a return comes behind a death and nowhere else, and who is back does not die again
abbrev pub MayCome : {M : Type 0} → Stage → NodeEvent M → Type 0
MayCome Alive e = is_return e ≡ false
MayCome Dead e = is_return e ≡ true
MayCome Back e = (is_return e ≡ false) × (is_death e ≡ false)

-- so where one event may come another one is a return if the first is
pub returns-alike : {M : Type 0} (s : Stage) (e f : NodeEvent M) → MayCome s e → MayCome s f → is_return e ≡ is_return f
returns-alike Alive e f h g = h ∙ sym g
returns-alike Dead e f h g = h ∙ sym g
returns-alike Back e f h g = h.0 ∙ sym g.0

-- a node that is up is at its end in the last beat, and who is dead then does not return in the run's beats
abbrev pub IsAtEnd : Option ℕ → ℕ → Stage → ℕ → Type 0
IsAtEnd back beats Alive t = t ≡ beats
IsAtEnd back beats Dead t = (w : ℕ) → back ≡ Some w → beats ≤ w
IsAtEnd back beats Back t = t ≡ beats

-- so it goes on to the end
abbrev pub GoesOn : {M : Type 0} → Option ℕ → ℕ → Stage → ℕ → List (NodeEvent M) → Type 0
GoesOn back beats s t [] = IsAtEnd back beats s t
GoesOn back beats s t (e ∷ es) = MayCome s e × GoesOn back beats (next_stage s e) (behind e t) es

-- what is so before a node's event of number i: none before it is a death, or the last is one, or one before that
abbrev IsStage : {M S : Type 0} → History M S → ℕ → ℕ → Stage → Type 0
IsStage h n i Alive = (j : ℕ) → j < i → is_death (h.event n j) ≡ false
IsStage h n i Dead = (j : ℕ) × (i ≡ suc j) × (is_death (h.event n j) ≡ true)
IsStage h n i Back = (j : ℕ) × (j + 1 < i) × (is_death (h.event n j) ≡ true)

onward-is : {M S : Type 0} (h : History M S) (n i : ℕ) (s : Stage) → is_death (h.event n i) ≡ false → IsStage h n i s
    → IsStage h n (suc i) (onward s)
onward-is h n i Alive none is = λ j low. ⊎_elim
    (λ (e : j ≡ i). subst (λ k. is_death (h.event n k) ≡ false) (sym e) none)
    (λ (other : j ≡ i → ⊥). is j (omega (arith, low, other)))
    (cases_eq j i)
onward-is h n i Dead none is = (is.0, (let at = is.1 in omega (arith, at)), is.2)
onward-is h n i Back none is = (is.0, (let at = is.1 in omega (arith, at)), is.2)

next-is : {M S : Type 0} (h : History M S) (n i : ℕ) (s : Stage) (e : NodeEvent M) → h.event n i ≡ e
    → IsStage h n i s → IsStage h n (suc i) (next_stage s e)
next-is {M} h n i s (Does x) at is = onward-is h n i s (ap (λ (e : NodeEvent M). is_death e) at) is
next-is {M} h n i s (Ends x sends) at is = (i, refl, ap (λ (e : NodeEvent M). is_death e) at)
next-is {M} h n i s (Dies x) at is = (i, refl, ap (λ (e : NodeEvent M). is_death e) at)
next-is {M} h n i s (Returns x) at is = onward-is h n i s (ap (λ (e : NodeEvent M). is_death e) at) is

module _ {M S : Type 0} (note : M → Note) (step : S → Input M → Deed M S) (p : Params) (nodes beats : ℕ)
    (h : History M S) (run : IsRun note step p nodes h) (complete : IsComplete note step nodes beats h)
    (n : ℕ) (known : n < nodes) (back : Option ℕ)
    (returns : (i : ℕ) → (past note step h n i).life.back ≡ back) where
  not-back : (i : ℕ) → i < h.count n → (IsBack h n i → ⊥) → is_return (h.event n i) ≡ false
  not-back i low none = ⊎_elim
      (λ (t : is_return (h.event n i) ≡ true). absurd (none (run.returned n i known low t)))
      (λ (f : is_return (h.event n i) ≡ false). f)
      (cases_Bool (is_return (h.event n i)))

  may-come : (i : ℕ) (s : Stage) → i < h.count n → IsStage h n i s → MayCome s (h.event n i)
  may-come i Alive low is = not-back i low (λ b.
      let at = b.next in
      let none = is b.last (omega (arith, at)) in
      let died = b.died in absurd (cc))
  may-come i Dead low is =
      let at : is.0 + 1 ≡ i = (let e = is.1 in omega (arith, e)) in
      let before : is.0 < h.count n = omega (arith, at, low) in
      ⊎_elim
      (λ (e : is.0 + 1 ≡ h.count n). absurd (omega (arith, e, at, low)))
      (λ (r : is_return (h.event n (is.0 + 1)) ≡ true). subst (λ k. is_return (h.event n k) ≡ true) at r)
      (run.ended n is.0 known before is.2)
  may-come i Back low is =
      let far = is.1 in
      let before : is.0 < h.count n = omega (arith, far, low) in (
        not-back i low (λ b.
            let at = b.next in
            let one = run.once n is.0 b.last known before (omega (arith, at, low)) is.2 b.died in
            omega (arith, one, at, far)),
        ⊎_elim
            (λ (t : is_death (h.event n i) ≡ true).
            let one = run.once n is.0 i known before low is.2 t in absurd (omega (arith, one, far)))
            (λ (f : is_death (h.event n i) ≡ false). f)
            (cases_Bool (is_death (h.event n i))),
      )

  at-end : (s : Stage) → IsStage h n (h.count n) s → IsAtEnd back beats s (open_beat h n (h.count n))
  at-end Alive is = complete.until_end n known (λ i low died. let none = is i low in absurd (cc))
  at-end Dead is = λ w e.
      let at = is.1 in
      complete.comes_back n is.0 w known (omega (arith, at)) is.2 (returns is.0 ∙ e)
  at-end Back is = complete.until_end n known (λ i low died.
      let far = is.1 in
      let one = run.once n is.0 i known (omega (arith, far)) low is.2 died in
      omega (arith, one, far))

  -- a history goes on so
  goes-from : (i k : ℕ) (s : Stage) → i + k ≡ h.count n → IsStage h n i s
      → GoesOn back beats s (open_beat h n i) (listed h n i k)
  goes-from i zero s sum is =
      let none : h.count n ≡ i = no-more i (h.count n) sum in
      subst (λ j. IsAtEnd back beats s (open_beat h n j)) none
      (at-end s (subst (λ j. IsStage h n j s) (sym none) is))
  goes-from i (suc k) s sum is = (
    may-come i s (omega (arith, sum)) is,
    goes-from (suc i) k (next_stage s (h.event n i)) (next-sum i k (h.count n) sum) (next-is h n i s (h.event n i) refl is),
  )

  pub goes-on : GoesOn back beats Alive 0 (listed h n 0 (h.count n))
  goes-on = goes-from 0 (h.count n) Alive (omega arith) (λ j low. absurd (omega (arith, low)))
