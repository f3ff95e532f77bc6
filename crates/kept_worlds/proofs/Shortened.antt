-- The history in which each death that comes in a tick of which nothing goes out comes in the take before it, if there is one.
use Rattle.std.proofs.Common.{◌≡◌, ℕ, zero, suc, ◌-◌, ◌<◌, ◌≤◌, List, [], ◌∷◌, Bool, true, false, ◌&&◌, Option, Some, None, refl, ap, sym, ◌∙◌, subst, arith, cond, ⊎_elim, inl, inr}
use Rattle.std.specs.Prelude.{◌==◌, nat_lt, if◌then◌else◌}
use Rattle.std.proofs.lemmas.Bool.{cases_Bool, cases_eq, cases_lt, and_parts, eq-eqb}
use Rattle.std.proofs.lemmas.Bool.Decides.{nat_tests}
use Rattle.tiger_base.specs.declared.number.LinkNo.{LinkNo}
use Rattle.tiger_base.specs.declared.number.Stamp.{Stamp}
use Rattle.tiger_base.specs.declared.message.Note.{Note}
use Rattle.node_kit.specs.declared.outbox.Out.{Out}
use Rattle.node_kit.specs.Outputs.{send_count}
use Rattle.node_kit.specs.Steps.{Input, Deed}
use Rattle.node_kit.specs.Steps.Input.{Take, Tick}
use Rattle.run_facts.specs.Events.{NodeEvent, Past, is_death, left_outs}
use Rattle.run_facts.specs.Events.NodeEvent.{Does, Ends, Dies, Returns}
use Rattle.run_facts.specs.Histories.{History, past}
use Rattle.kept_worlds.proofs.Shorter.{AreAlike, IsAlike}

abbrev pub is_nothing : {M : Type 0} → List (Out M) → Bool
is_nothing [] = true
is_nothing (o ∷ os) = false

nothing-is : {M : Type 0} (os : List (Out M)) → is_nothing os ≡ true → os ≡ []
nothing-is [] h = refl
nothing-is (o ∷ os) h = absurd (cc)

-- a whole take, and a tick in which the death comes and of which nothing goes out
abbrev takes_whole : {M : Type 0} → NodeEvent M → Bool
takes_whole (Does (Take stamp link msg)) = true
takes_whole (Does (Tick stamp)) = false
takes_whole (Ends i sends) = false
takes_whole (Dies stamp) = false
takes_whole (Returns stamp) = false

abbrev ends_nothing : {M S : Type 0} → (S → Input M → Deed M S) → Past S → NodeEvent M → Bool
ends_nothing step x (Does i) = false
ends_nothing step x (Ends (Take stamp link msg) sends) = false
ends_nothing step x (Ends (Tick stamp) sends) = is_nothing (left_outs step (Tick stamp) sends x)
ends_nothing step x (Dies stamp) = false
ends_nothing step x (Returns stamp) = false

take-is : {M : Type 0} (e : NodeEvent M) → takes_whole e ≡ true
    → (stamp : Stamp) × (link : LinkNo) × (msg : M) × (e ≡ Does (Take stamp link msg))
take-is (Does (Take stamp link msg)) h = (stamp, link, msg, refl)
take-is (Does (Tick stamp)) h = absurd (cc)
take-is (Ends i sends) h = absurd (cc)
take-is (Dies stamp) h = absurd (cc)
take-is (Returns stamp) h = absurd (cc)

tick-is : {M S : Type 0} (step : S → Input M → Deed M S) (x : Past S) (e : NodeEvent M) → ends_nothing step x e ≡ true
    → (now : Stamp) × (sends : ℕ) × (e ≡ Ends (Tick now) sends) × (left_outs step (Tick now) sends x ≡ [])
tick-is step x (Does i) h = absurd (cc)
tick-is step x (Ends (Take stamp link msg) sends) h = absurd (cc)
tick-is step x (Ends (Tick stamp) sends) h =
    (stamp, sends, refl, nothing-is (left_outs step (Tick stamp) sends x) h)
tick-is step x (Dies stamp) h = absurd (cc)
tick-is step x (Returns stamp) h = absurd (cc)

-- the take, if the death comes in it and all goes out
abbrev cut_off : {M S : Type 0} → (S → Input M → Deed M S) → S → NodeEvent M → NodeEvent M
cut_off step s (Does i) = Ends i (send_count (step s i).outs)
cut_off step s (Ends i sends) = Ends i sends
cut_off step s (Dies stamp) = Dies stamp
cut_off step s (Returns stamp) = Returns stamp

module _ {M S : Type 0} (note : M → Note) (step : S → Input M → Deed M S) (h : History M S) where
  -- event i of node n is a whole take, and the next one such a tick
  abbrev ends_so : ℕ → ℕ → Bool
  ends_so n i = takes_whole (h.event n i) && ends_nothing step (past note step h n (suc i)) (h.event n (suc i))

  -- the greatest number below another one from which two events are so, if there is one
  abbrev cut_below : ℕ → ℕ → Option ℕ
  cut_below n zero = None
  cut_below n (suc i) = if ends_so n i then Some i else cut_below n i

  abbrev cut_in : ℕ → Option ℕ
  cut_in n = cut_below n (h.count n - 1)

  -- the count, the event of a number, and the number below which nothing is changed, if there is such a tick
  abbrev count_by : ℕ → Option ℕ → ℕ
  count_by n None = h.count n
  count_by n (Some last) = h.count n - 1

  abbrev event_by : ℕ → Option ℕ → ℕ → NodeEvent M
  event_by n None i = h.event n i
  event_by n (Some last) i =
      if nat_lt i last then h.event n i
      else if i == last then cut_off step (past note step h n last).state (h.event n last)
      else h.event n (suc i)

  abbrev pub shortened : History M S
  shortened = record {
    first = h.first;
    life = h.life;
    count = λ n. count_by n (cut_in n);
    event = λ n i. event_by n (cut_in n) i;
    before = h.before;
  }

  record EndsSo (n m last : ℕ) : Type 0 where
    low : last < m
    so : ends_so n last ≡ true

  cut-is : (n m last : ℕ) → cut_below n m ≡ Some last → EndsSo n m last
  cut-is n zero last e = absurd (cc)
  cut-is n (suc i) last e = ⊎_elim
      (λ (t : ends_so n i ≡ true).
      let is : i ≡ last = some-number i last (sym (ap (λ (b : Bool). cond b (Some i) (cut_below n i)) t) ∙ e) in
      record { low = omega (arith, is); so = subst (λ k. ends_so n k ≡ true) is t })
      (λ (f : ends_so n i ≡ false).
      let r = cut-is n i last (sym (ap (λ (b : Bool). cond b (Some i) (cut_below n i)) f) ∙ e) in
      let low = r.low in
      record { low = omega (arith, low); so = r.so })
      (cases_Bool (ends_so n i))
    where
      some-number : (x y : ℕ) → Some x ≡ Some y → x ≡ y
      some-number x y e = cc

  -- and if there is none, no two events are so
  cut-none : (n m i : ℕ) → cut_below n m ≡ None → i < m → ends_so n i ≡ false
  cut-none n zero i e low = absurd (omega (arith, low))
  cut-none n (suc m) i e low = ⊎_elim
      (λ (t : ends_so n m ≡ true).
      let q : Some m ≡ None = sym (ap (λ (b : Bool). cond b (Some m) (cut_below n m)) t) ∙ e in absurd (cc))
      (λ (f : ends_so n m ≡ false). ⊎_elim
      (λ (is : i ≡ m). subst (λ k. ends_so n k ≡ false) (sym is) f)
      (λ (other : i ≡ m → ⊥).
      cut-none n m i (sym (ap (λ (b : Bool). cond b (Some m) (cut_below n m)) f) ∙ e) (omega (arith, low, other)))
      (cases_eq i m))
      (cases_Bool (ends_so n m))

  same-below : (n last i : ℕ) → i < last → event_by n (Some last) i ≡ h.event n i
  same-below n last i low = let t : nat_lt i last ≡ true = grind (arith, nat_tests, low) in rw t refl

  cut-there : (n last : ℕ) → event_by n (Some last) last ≡ cut_off step (past note step h n last).state (h.event n last)
  cut-there n last =
      let t : nat_lt last last ≡ false = grind (arith, nat_tests) in
      let e : (last == last) ≡ true = eq-eqb last last refl in
      rw (t, e) refl

  cut-behind : (n last i : ℕ) → last < i → event_by n (Some last) i ≡ h.event n (suc i)
  cut-behind n last i high =
      let t : nat_lt i last ≡ false = grind (arith, nat_tests, high) in
      let e : (i == last) ≡ false = grind (arith, nat_tests, high) in
      rw (t, e) refl

  -- which of both it is
  pub alike-by : (n : ℕ) (o : Option ℕ) → cut_in n ≡ o → IsAlike note step h shortened n
  alike-by n None none = record {
    last = h.count n;
    same = λ i low. ap (λ o. event_by n o i) none;
    kind = inl (ap (count_by n) none, omega arith);
  }
  alike-by n (Some last) some =
      let e = cut-is n (h.count n - 1) last some in
      let low = e.low in
      let both = and_parts (takes_whole (h.event n last)) (ends_nothing step (past note step h n (suc last)) (h.event n (suc last))) e.so in
      let take = take-is (h.event n last) both.0 in
      let tick = tick-is step (past note step h n (suc last)) (h.event n (suc last)) both.1 in
      let count : shortened.count n ≡ h.count n - 1 = ap (count_by n) some in
      record {
        last = last;
        same = λ i below_it. ap (λ o. event_by n o i) some ∙ same-below n last i below_it;
        kind = inr (record {
          size = omega (arith, count, low);
          inside = omega (arith, count, low);
          stamp = take.0;
          link = take.1;
          msg = take.2;
          now = tick.0;
          sends = tick.1;
          takes = take.3;
          ticks = tick.2;
          none = tick.3;
          ends = ap (λ o. event_by n o last) some ∙ cut-there n last ∙ ap (cut_off step (past note step h n last).state) take.3;
          later = λ i high within. ap (λ o. event_by n o i) some ∙ cut-behind n last i high;
        });
      }

  pub alike : AreAlike note step h shortened
  alike = record { first = λ n. refl; life = λ n. refl; before = λ l. refl; each = λ n. alike-by n (cut_in n) refl }

  -- something goes out of a tick in which the death comes, if a take comes right before it
  pub goes-out : (n i : ℕ) (stamp now : Stamp) (link : LinkNo) (msg : M) (sends : ℕ) → suc i < shortened.count n
      → shortened.event n i ≡ Does (Take stamp link msg) → shortened.event n (suc i) ≡ Ends (Tick now) sends
      → ((j : ℕ) → j < h.count n → is_death (h.event n j) ≡ true → (k : ℕ) → k < h.count n → is_death (h.event n k) ≡ true → j ≡ k)
      → is_nothing (left_outs step (Tick now) sends (past note step h n (suc i))) ≡ false
  goes-out n i stamp now link msg sends low takes ends once = by_cut (cut_in n) refl
    where
      uncut_tick : NodeEvent M → Bool
      uncut_tick (Does i) = true
      uncut_tick (Ends (Take a b d) k) = true
      uncut_tick (Ends (Tick a) k) = false
      uncut_tick (Dies a) = true
      uncut_tick (Returns a) = true

      by_cut : (o : Option ℕ) → cut_in n ≡ o
          → is_nothing (left_outs step (Tick now) sends (past note step h n (suc i))) ≡ false
      by_cut None none =
          let count : shortened.count n ≡ h.count n = ap (count_by n) none in
          let take : h.event n i ≡ Does (Take stamp link msg) = sym (ap (λ o. event_by n o i) none) ∙ takes in
          let tick : h.event n (suc i) ≡ Ends (Tick now) sends = sym (ap (λ o. event_by n o (suc i)) none) ∙ ends in
          sym (ap (λ (e : NodeEvent M). takes_whole e && ends_nothing step (past note step h n (suc i)) (h.event n (suc i))) take
          ∙ ap (λ (e : NodeEvent M). ends_nothing step (past note step h n (suc i)) e) tick)
          ∙ cut-none n (h.count n - 1) i none (omega (arith, count, low))
      by_cut (Some last) some =
          let e = cut-is n (h.count n - 1) last some in
          let inner = e.low in
          let count : shortened.count n ≡ h.count n - 1 = ap (count_by n) some in
          let both = and_parts (takes_whole (h.event n last)) (ends_nothing step (past note step h n (suc last)) (h.event n (suc last))) e.so in
          let cut = (tick-is step (past note step h n (suc last)) (h.event n (suc last)) both.1).2 in
          let mine : shortened.event n (suc i) ≡ event_by n (Some last) (suc i) = ap (λ o. event_by n o (suc i)) some in
          absurd (⊎_elim
          (λ (below_it : suc i < last).
          let there : h.event n (suc i) ≡ Ends (Tick now) sends = sym (mine ∙ same-below n last (suc i) below_it) ∙ ends in
          let same = once (suc i) (omega (arith, below_it, inner)) (ap is_death there) (suc last) (omega (arith, inner)) (ap is_death cut) in
          omega (arith, same, below_it))
          (λ (high : last ≤ suc i). ⊎_elim
          (λ (is : last ≡ suc i).
          let take = take-is (h.event n last) both.0 in
          let t : true ≡ false = ap uncut_tick (sym (ap (cut_off step (past note step h n last).state) take.3)
          ∙ sym (cut-there n last) ∙ ap (λ k. event_by n (Some last) k) is ∙ sym mine ∙ ends) in absurd (cc))
          (λ (other : last ≡ suc i → ⊥).
          let there : h.event n (suc (suc i)) ≡ Ends (Tick now) sends =
          sym (mine ∙ cut-behind n last (suc i) (omega (arith, other, high))) ∙ ends in
          let same = once (suc (suc i)) (omega (arith, count, low)) (ap is_death there) (suc last) (omega (arith, inner)) (ap is_death cut) in
          omega (arith, same, other))
          (cases_eq last (suc i)))
          (cases_lt (suc i) last))
