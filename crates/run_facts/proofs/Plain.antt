-- A run whose events are plain is a plain run: the open beat is the number of ticks, and the number of a message on its
-- link is that of those taken.
use Rattle.std.proofs.Common.{◌≡◌, ℕ, ◌+◌, ◌<◌, ◌≤◌, true, false, sym, ◌∙◌, subst, arith, ⊎_elim, inl}
use Rattle.std.proofs.lemmas.Bool.{cases_eq}
use Rattle.tiger_base.specs.declared.message.Note.{Note}
use Rattle.slot_plan.specs.declared.params.Params.{Params}
use Rattle.node_kit.specs.Steps.{Input, Deed}
use Rattle.run_facts.specs.Events.{IsPlain, is_death, is_return}
use Rattle.run_facts.specs.Histories.{History, IsUp, CameOn, IsRun, ticks, takes, place, open_beat}
use Rattle.run_facts.specs.Plain.{IsPlainRun}
use Rattle.run_facts.proofs.Timelines.{plain-here}
use Rattle.run_facts.proofs.Recording.{open-ticked, place-takes}

module _ {M S : Type 0} (note : M → Note) (step : S → Input M → Deed M S) (p : Params) (nodes : ℕ) (h : History M S)
    (plain : (n i : ℕ) → n < nodes → i < h.count n → IsPlain (h.event n i)) where
  here : (n i : ℕ) → n < nodes → i < h.count n → is_return (h.event n i) ≡ false
  here n i known low = plain-here (h.event n i) (plain n i known low)

  pub ticked-to : (n i : ℕ) → n < nodes → i ≤ h.count n → open_beat h n i ≡ ticks h n i
  ticked-to n i known low = open-ticked h n i (λ j below. here n j known (omega (arith, below, low)))

  pub taken-to : (l n i : ℕ) → n < nodes → i ≤ h.count n → place l h n i ≡ takes l h n i
  taken-to l n i known low = place-takes l h n i (λ j below. here n j known (omega (arith, below, low)))

  alive-up : (n : ℕ) → ((j : ℕ) → j < h.count n → is_death (h.event n j) ≡ false) → IsUp h n
  alive-up n alive i low died = let q : true ≡ false = sym died ∙ alive i low in absurd (cc)

  last-of : IsRun note step p nodes h → (n i : ℕ) → n < nodes → i < h.count n → is_death (h.event n i) ≡ true
      → i + 1 ≡ h.count n
  last-of run n i known low died = ⊎_elim
      (λ (e : i + 1 ≡ h.count n). e)
      (λ (other : i + 1 ≡ h.count n → ⊥). ⊎_elim
      (λ (e : i + 1 ≡ h.count n). e)
      (λ (back : is_return (h.event n (i + 1)) ≡ true).
      let q : true ≡ false = sym back ∙ here n (i + 1) known (omega (arith, low, other)) in absurd (cc))
      (run.ended n i known low died))
      (cases_eq (i + 1) (h.count n))

  pub plain-run : IsRun note step p nodes h → IsPlainRun note step p nodes h
  plain-run run = record {
    plain = plain;
    in_beat = λ n i known low. run.in_beat n i known low (here n i known low)
        ∙ ticked-to n i known (omega (arith, low));
    reads = run.reads;
    rising = run.rising;
    level = λ n m i known other low alive.
        let t = run.level n m i known other low (alive-up m alive) in
        let same = ticked-to m (h.count m) other (omega arith) in
        omega (arith, t, same);
    ended = last-of run;
    fair = run.fair;
    carried = λ n i stamp link msg known low is.
        subst (λ k. CameOn note step p nodes h n link.0 k stamp.beat msg)
        (taken-to link.0 n i known (omega (arith, low)))
        (run.carried n i stamp link msg known low (inl is));
    arrives = λ l from n k when msg sender known ends was due.
        let ticked = ticked-to n (h.count n) known (omega arith) in
        let taken = taken-to l n (h.count n) known (omega arith) in
        let got = run.arrives l from n k when msg sender known ends was (omega (arith, due, ticked)) in
        omega (arith, got, taken);
  }
