-- What a run gives of a node before its return and behind it: which events are deaths, and how its beats rise.
use Rattle.std.proofs.Common.{◌≡◌, ℕ, zero, suc, ◌+◌, ◌<◌, ◌≤◌, Bool, true, false, None, cond, refl, sym, ap, ◌∙◌, arith, ⊎_elim}
use Rattle.std.proofs.lemmas.Bool.{cases_Bool, cases_lt}
use Rattle.tiger_base.specs.declared.message.Msg.{Msg}
use Rattle.tiger_base.specs.Notes.{noted}
use Rattle.slot_plan.specs.declared.params.Params.{Params}
use Rattle.node_kit.specs.Steps.{Deed, Input}
use Rattle.run_facts.specs.Events.{NodeEvent, behind, is_death, is_return, is_tick_input}
use Rattle.run_facts.specs.Events.NodeEvent.{Does, Ends, Dies, Returns}
use Rattle.run_facts.specs.Histories.{History, IsRun, beat, open_beat, ticks}
pub use Rattle.run_facts.proofs.Passing.{beats_never_fall, ends_beat, opens_after, opens_by, opens_rise}
use Rattle.run_facts.proofs.Passing.{death_here, return_opens}
use Rattle.run_facts.proofs.Recording.{open-ticked}
use Rattle.proof_lives.specs.Lives.{ticks_at}
use Rattle.proof_lives.specs.Histories.{cut_of_event, first_events, has_input, input_of, later_from}
use Rattle.proof_lives.proofs.Acting.{alive_whole, front_is, without_input}

-- a tick ends its beat, and no other event but a return opens one
pub input_opens : (e : NodeEvent Msg) (b : ℕ) → has_input e ≡ true
    → behind e b ≡ cond (is_tick_input (input_of e)) (suc b) b
input_opens (Does i) b t = refl
input_opens (Ends i sends) b t = refl
input_opens (Dies stamp) b t = absurd (cc)
input_opens (Returns stamp) b t = absurd (cc)

pub no_death_back : (e : NodeEvent Msg) → is_death e ≡ true → is_return e ≡ true → ⊥
no_death_back e d b = let here = death_here e d in absurd (cc)

module _ {S : Type 0} {step : S → Input Msg → Deed Msg S} {p : Params} {nodes : ℕ} {h : History Msg S}
    (run : IsRun noted step p nodes h) (n : ℕ) (known : n < nodes) where
  -- ---- deaths and returns

  pub first_low : first_events h n ≤ h.count n
  first_low = (front_is h n (h.count n)).0

  pub first_here : (i : ℕ) → i < first_events h n → is_return (h.event n i) ≡ false
  first_here = (front_is h n (h.count n)).1

  pub first_back : first_events h n < h.count n → is_return (h.event n (first_events h n)) ≡ true
  first_back = (front_is h n (h.count n)).2

  -- before a return only the last event is a death
  pub first_ended : (i : ℕ) → i < first_events h n → is_death (h.event n i) ≡ true → i + 1 ≡ first_events h n
  first_ended i low died =
      let most = first_low in
      ⊎_elim
      (λ (e : i + 1 ≡ h.count n). omega arith)
      (λ (t : is_return (h.event n (i + 1)) ≡ true). ⊎_elim
      (λ (more : i + 1 < first_events h n).
      let z : true ≡ false = sym t ∙ first_here (i + 1) more in absurd (cc))
      (λ (same : first_events h n ≤ i + 1). omega arith)
      (cases_lt (i + 1) (first_events h n)))
      (run.ended n i known (omega arith) died)

  -- a return stands behind a death, two beats later or more
  pub record Died : Type 0 where
    pub at : ℕ
    pub next : first_events h n ≡ at + 1
    pub death : is_death (h.event n at) ≡ true
    pub apart : beat h n at + 2 ≤ beat h n (first_events h n)

  pub died : first_events h n < h.count n → Died
  died low =
      let b = run.returned n (first_events h n) known low (first_back low) in
      let next = b.next in
      record { at = b.last; next = omega arith; death = b.died; apart = b.apart }

  -- behind it comes neither a death nor a return
  pub later_alive : (i : ℕ) → first_events h n < i → i < h.count n → is_death (h.event n i) ≡ false
  later_alive i more low = ⊎_elim
      (λ (t : is_death (h.event n i) ≡ true).
      let d = died (omega arith) in
      let next = d.next in
      let same = run.once n i d.at known low (omega arith) t d.death in
      absurd (omega arith))
      (λ (f : is_death (h.event n i) ≡ false). f)
      (cases_Bool (is_death (h.event n i)))

  pub later_here : (i : ℕ) → first_events h n < i → i < h.count n → is_return (h.event n i) ≡ false
  later_here i more low = ⊎_elim
      (λ (t : is_return (h.event n i) ≡ true).
      let d = died (omega arith) in
      let next = d.next in
      let b = run.returned n i known low t in
      let behind_it = b.next in
      let same = run.once n b.last d.at known (omega arith) (omega arith) b.died d.death in
      absurd (omega arith))
      (λ (f : is_return (h.event n i) ≡ false). f)
      (cases_Bool (is_return (h.event n i)))

  -- so each event there has an input, and is whole
  pub later_input : (i : ℕ) → first_events h n < i → i < h.count n → has_input (h.event n i) ≡ true
  later_input i more low = ⊎_elim
      (λ (t : has_input (h.event n i) ≡ true). t)
      (λ (f : has_input (h.event n i) ≡ false).
      let dies = without_input (h.event n i) f (later_here i more low) in
      let z : true ≡ false = sym dies ∙ later_alive i more low in absurd (cc))
      (cases_Bool (has_input (h.event n i)))

  pub later_whole : (i : ℕ) → first_events h n < i → i < h.count n → cut_of_event (h.event n i) ≡ None
  later_whole i more low = alive_whole (h.event n i) (later_alive i more low)

  -- ---- beats

  -- before a return the open beat is the number of ticks
  pub open_first : (i : ℕ) → i ≤ first_events h n → open_beat h n i ≡ ticks h n i
  open_first i low = open-ticked h n i (λ j less. first_here j (omega arith))

  -- and behind it that of the return and the ticks since
  pub open_back : first_events h n < h.count n → open_beat h n (later_from h n) ≡ beat h n (first_events h n)
  open_back low = return_opens (h.event n (first_events h n)) (open_beat h n (first_events h n)) (first_back low)

  pub open_later : (i : ℕ) → later_from h n + i ≤ h.count n
      → open_beat h n (later_from h n + i)
      ≡ beat h n (first_events h n) + ticks_at (λ k. input_of (h.event n (later_from h n + k))) i
  open_later zero low =
      let e : later_from h n + 0 ≡ later_from h n = omega arith in
      let back = open_back (omega arith) in
      let same : open_beat h n (later_from h n + 0) ≡ open_beat h n (later_from h n) = ap (open_beat h n) e in
      omega arith
  open_later (suc i) low =
      let from : ℕ = later_from h n in
      let e : from + suc i ≡ suc (from + i) = omega arith in
      let before = open_later i (omega arith) in
      let act = later_input (from + i) (omega arith) (omega arith) in
      let o = input_opens (h.event n (from + i)) (open_beat h n (from + i)) act in
      let same : open_beat h n (from + suc i) ≡ behind (h.event n (from + i)) (open_beat h n (from + i)) = ap (open_beat h n) e in
      ⊎_elim
      (λ (t : is_tick_input (input_of (h.event n (from + i))) ≡ true).
      let q : cond (is_tick_input (input_of (h.event n (from + i)))) (suc (open_beat h n (from + i))) (open_beat h n (from + i))
      ≡ suc (open_beat h n (from + i)) = ap (λ (x : Bool). cond x (suc (open_beat h n (from + i))) (open_beat h n (from + i))) t in
      let r : ticks_at (λ k. input_of (h.event n (from + k))) (suc i) ≡ suc (ticks_at (λ k. input_of (h.event n (from + k))) i) =
      ap (λ (x : Bool). cond x (suc (ticks_at (λ k. input_of (h.event n (from + k))) i)) (ticks_at (λ k. input_of (h.event n (from + k))) i)) t in
      omega arith)
      (λ (t : is_tick_input (input_of (h.event n (from + i))) ≡ false).
      let q : cond (is_tick_input (input_of (h.event n (from + i)))) (suc (open_beat h n (from + i))) (open_beat h n (from + i))
      ≡ open_beat h n (from + i) = ap (λ (x : Bool). cond x (suc (open_beat h n (from + i))) (open_beat h n (from + i))) t in
      let r : ticks_at (λ k. input_of (h.event n (from + k))) (suc i) ≡ ticks_at (λ k. input_of (h.event n (from + k))) i =
      ap (λ (x : Bool). cond x (suc (ticks_at (λ k. input_of (h.event n (from + k))) i)) (ticks_at (λ k. input_of (h.event n (from + k))) i)) t in
      omega arith)
      (cases_Bool (is_tick_input (input_of (h.event n (from + i)))))
