-- What the record of a run gives of a node's return: where the next one is, that there is one, and what comes behind it.
use Rattle.std.proofs.Common.{◌≡◌, ℕ, zero, suc, ◌+◌, ◌<◌, ◌≤◌, List, [], ◌∷◌, Bool, true, false, Some, cond, refl, sym, ap, subst, ◌∙◌, arith, ⊎_elim, inl, inr, eq-or-lt_of_le}
use Rattle.std.specs.Prelude.{◌⊎◌, nat_lt, slice_get}
use Rattle.std.specs.List.{AllByRecursion}
use Rattle.std.proofs.lemmas.Option.{none-some}
use Rattle.std.proofs.lemmas.Bool.Decides.{nat_tests}
use Rattle.std.proofs.lemmas.Bool.{cases_Bool}
use Rattle.tiger_base.specs.declared.message.Note.{Note}
use Rattle.tiger_base.specs.declared.number.Stamp.{Stamp}
use Rattle.slot_plan.specs.declared.params.Params.{Params}
use Rattle.node_kit.specs.Steps.{Deed, Input}
use Rattle.node_kit.specs.Steps.Input.{Take, Tick}
use Rattle.run_facts.specs.Accounts.{Rising}
use Rattle.run_facts.specs.Events.{NodeEvent, Dated, is_death, is_return, is_take_on, sends_of, stamp_at}
use Rattle.run_facts.specs.Events.NodeEvent.{Does, Ends, Dies, Returns}
use Rattle.run_facts.specs.Histories.{History, IsRun, beat, below, open_beat, outs, place, sent}
use Rattle.run_facts.proofs.Along.{sends_of-dated}
use Rattle.run_facts.proofs.Passing.{beats_never_fall, return_opens}
use Rattle.run_facts.proofs.Rows.{all-append}
use Rattle.ring_world.proofs.Lists.{get-all, rising-both, rising-same}

-- the first return from a number on and below another one, or that
pub record IsNextBack {M S : Type 0} (h : History M S) (n i m : ℕ) : Type 0 where
  pub at : ℕ
  pub from : i ≤ at
  pub low : at ≤ m
  pub here : (j : ℕ) → i ≤ j → j < at → is_return (h.event n j) ≡ false
  pub ends : (at ≡ m) ⊎ ((at < m) × (is_return (h.event n at) ≡ true))

pub next-back : {M S : Type 0} (h : History M S) (n i k m : ℕ) → i + k ≡ m → IsNextBack h n i m
next-back h n i zero m sum = record {
  at = i;
  from = omega arith;
  low = omega (arith, sum);
  here = λ j low high. absurd (omega (arith, low, high));
  ends = inl (omega (arith, sum));
}
next-back h n i (suc k) m sum = ⊎_elim
    (λ (t : is_return (h.event n i) ≡ true). record {
      at = i;
      from = omega arith;
      low = omega (arith, sum);
      here = λ j low high. absurd (omega (arith, low, high));
      ends = inr (omega (arith, sum), t);
    })
    (λ (f : is_return (h.event n i) ≡ false).
    let b = next-back h n (suc i) k m (omega (arith, sum)) in
    let up = b.from in
    record {
      at = b.at;
      from = omega (arith, up);
      low = b.low;
      here = λ j low high. ⊎_elim
          (λ (e : i ≡ j). subst (λ q. is_return (h.event n q) ≡ false) e f)
          (λ (more : i < j). b.here j more high)
          (eq-or-lt_of_le low);
      ends = b.ends;
    })
    (cases_Bool (is_return (h.event n i)))

-- the number of the message that a node takes next on a link
abbrev pub number_of : {M S : Type 0} → ℕ → History M S → ℕ → ℕ → ℕ
number_of l h n i = place l h n i

module _ {M S : Type 0} (note : M → Note) (step : S → Input M → Deed M S) (p : Params) (nodes : ℕ) (h : History M S)
    (run : IsRun note step p nodes h) (n : ℕ) (known : n < nodes) where
  -- a node dies once, so it returns once, and is up behind that
  pub one-death : (i j : ℕ) → i < h.count n → j < h.count n → is_death (h.event n i) ≡ true → is_return (h.event n j) ≡ true
      → suc i ≡ j
  one-death i j low high died back =
      let b = run.returned n j known high back in
      let next = b.next in
      let same = run.once n i b.last known low (omega (arith, next, high)) died b.died in
      omega (arith, next, same)

  -- what is sent is in beats that never fall
  pub sent-low : (l i b : ℕ) → i ≤ h.count n → ((j : ℕ) → j < i → beat h n j ≤ b)
      → AllByRecursion (λ (d : Dated M). d.beat ≤ b) (sent note step l h n i)
  sent-low l zero b low early = tt
  sent-low l (suc i) b low early =
      all-append (λ (d : Dated M). d.beat ≤ b) (sent note step l h n i) (sends_of l (beat h n i) (outs note step h n i))
      (sent-low l i b (omega (arith, low)) (λ j less. early j (omega (arith, less))))
      (sends_of-dated (λ q. q ≤ b) l (beat h n i) (outs note step h n i) (early i (omega arith)))

  pub sent-rises : (l i : ℕ) → i ≤ h.count n → Rising (λ (d : Dated M). d.beat) (sent note step l h n i)
  sent-rises l zero low = tt
  sent-rises l (suc i) low =
      let now = beat h n i in
      let more = sends_of l now (outs note step h n i) in
      rising-both (λ (d : Dated M). d.beat) now (sent note step l h n i) more (sent-rises l i (omega (arith, low)))
      (sent-low l i now (omega (arith, low)) (λ j less. beats_never_fall run n known j i (omega (arith, less)) (omega (arith, low))))
      (rising-same (λ (d : Dated M). d.beat) now more (sends_of-dated (λ q. q ≡ now) l now (outs note step h n i) refl))
      (sends_of-dated (λ q. now ≤ q) l now (outs note step h n i) (omega arith))

-- a message of a row in order that was sent below a beat has a number below that of how many were
pub below-more : {X : Type 0} (b : ℕ) (ds : List (Dated X)) (k : ℕ) (d : Dated X) → Rising (λ (q : Dated X). q.beat) ds
    → slice_get ds k ≡ Some d → d.beat < b → k < below b ds
below-more b [] k d rises at low = absurd (none-some d at)
below-more b (x ∷ xs) zero d rises at low =
    let same : x ≡ d = cc in
    let first = subst (λ (q : Dated _). q.beat < b) (sym same) low in
    let t : nat_lt x.beat b ≡ true = grind (arith, nat_tests, first) in
    rw t (omega arith)
below-more {X} b (x ∷ xs) (suc k) d rises at low =
    let up = get-all (λ (q : Dated X). x.beat ≤ q.beat) xs k d at rises.0 in
    let t : nat_lt x.beat b ≡ true = grind (arith, nat_tests, up, low) in
    let rest = below-more b xs k d rises.1 at low in
    rw t (omega (arith, rest))

module _ {M S : Type 0} (note : M → Note) (step : S → Input M → Deed M S) (p : Params) (nodes : ℕ) (h : History M S)
    (run : IsRun note step p nodes h) (n : ℕ) (known : n < nodes) where
  -- behind a return nothing is a death or another return
  pub up-again : (r i : ℕ) → r < h.count n → i < h.count n → is_return (h.event n r) ≡ true → r < i
      → (is_death (h.event n i) ≡ false) × (is_return (h.event n i) ≡ false)
  up-again r i high low back more = (
    ⊎_elim
        (λ (t : is_death (h.event n i) ≡ true).
        let e = one-death note step p nodes h run n known i r low high t back in absurd (omega (arith, e, more)))
        (λ (f : is_death (h.event n i) ≡ false). f)
        (cases_Bool (is_death (h.event n i))),
    ⊎_elim
        (λ (t : is_return (h.event n i) ≡ true).
        let one = run.returned n r known high back in
        let two = run.returned n i known low t in
        let a = one.next in
        let b = two.next in
        let same = run.once n one.last two.last known (omega (arith, a, high)) (omega (arith, b, low)) one.died two.died in
        absurd (omega (arith, a, b, same, more)))
        (λ (f : is_return (h.event n i) ≡ false). f)
        (cases_Bool (is_return (h.event n i))),
  )

  return-is : (e : NodeEvent M) → is_return e ≡ true → e ≡ Returns (stamp_at e)
  return-is (Does i) t = absurd (cc)
  return-is (Ends i sends) t = absurd (cc)
  return-is (Dies stamp) t = absurd (cc)
  return-is (Returns stamp) t = refl

  -- nothing is taken in the beat of a return, so that what comes behind it is the tick of that beat
  pub back-ticks : (r : ℕ) → suc r < h.count n → is_return (h.event n r) ≡ true
      → (stamp : Stamp) × (h.event n (suc r) ≡ Does (Tick stamp)) × (stamp.beat ≡ beat h n r)
  back-ticks r low back = by_event (h.event n (suc r)) refl
    where
      high : r < h.count n
      high = omega (arith, low)

      up : (is_death (h.event n (suc r)) ≡ false) × (is_return (h.event n (suc r)) ≡ false)
      up = up-again r (suc r) high low back (omega arith)

      dated : beat h n (suc r) ≡ beat h n r
      dated = run.in_beat n (suc r) known low up.1 ∙ return_opens (h.event n r) (open_beat h n r) back

      by_event : (e : NodeEvent M) → h.event n (suc r) ≡ e
          → (stamp : Stamp) × (h.event n (suc r) ≡ Does (Tick stamp)) × (stamp.beat ≡ beat h n r)
      by_event (Does (Tick stamp)) is =
          (stamp, is, sym (ap (λ (e : NodeEvent M). (stamp_at e).beat) is) ∙ dated)
      by_event (Does (Take stamp link msg)) is =
          let l = link.0 in
          let came = run.carried n (suc r) stamp link msg known low (inl is) in
          let number : place l h n (suc r) ≡ h.before l =
          ap (λ (b : Bool). cond b (h.before l) (cond (is_take_on l (h.event n r)) (suc (place l h n r)) (place l h n r))) back in
          let lost = run.before l came.from n r (stamp_at (h.event n r)) came.known known came.ends high
          (return-is (h.event n r) back) in
          let now : stamp.beat ≡ beat h n r = sym (ap (λ (e : NodeEvent M). (stamp_at e).beat) is) ∙ dated in
          let later = came.later in
          let less = below-more (beat h n r) (sent note step l h came.from (h.count came.from)) (place l h n (suc r))
          (record { beat = came.when; item = msg })
          (sent-rises note step p nodes h run came.from came.known l (h.count came.from) (omega arith)) came.was_sent
          (omega (arith, now, later)) in
          absurd (omega (arith, number, lost, less))
      by_event (Ends i sends) is = let q : true ≡ false = sym (ap is_death is) ∙ up.0 in absurd (cc)
      by_event (Dies stamp) is = let q : true ≡ false = sym (ap is_death is) ∙ up.0 in absurd (cc)
      by_event (Returns stamp) is = let q : true ≡ false = sym (ap is_return is) ∙ up.1 in absurd (cc)
