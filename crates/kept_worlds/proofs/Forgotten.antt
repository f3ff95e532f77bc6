-- What the shorter history has of the first one: its beats, what is sent in it, its deaths, and the record of a run.
use Rattle.std.proofs.Common.{◌≡◌, ℕ, zero, suc, ◌+◌, ◌<◌, ◌≤◌, List, [], ◌++◌, true, false, refl, ap, sym, ◌∙◌, subst, arith, ⊎_elim, inl, inr, append-nil}
use Rattle.std.specs.Prelude.{◌⊎◌, slice_get}
use Rattle.std.specs.List.{AllByRecursion}
use Rattle.std.proofs.lemmas.Bool.{cases_eq, cases_lt}
use Rattle.tiger_base.specs.declared.number.Stamp.{Stamp}
use Rattle.tiger_base.specs.declared.message.Note.{Note}
use Rattle.slot_plan.specs.declared.params.Params.{Params}
use Rattle.node_kit.specs.declared.outbox.Out.{Out}
use Rattle.node_kit.specs.Steps.{Input, Deed, IsAllowed}
use Rattle.node_kit.specs.Steps.Input.{Take, Tick}
use Rattle.run_facts.specs.Events.{NodeEvent, Past, Dated, after, after_cut, after_input, behind, outs_of, kept_outs, stamp_at, is_death, is_return, sends_of}
use Rattle.run_facts.specs.Events.NodeEvent.{Does, Ends, Dies, Returns}
use Rattle.run_facts.specs.Histories.{History, CameOn, IsBack, IsRun, IsUp, below, past, outs, beat, open_beat, place, sent}
use Rattle.kept_worlds.proofs.Lifeless.{outs-twin}
use Rattle.kept_worlds.proofs.Returning.{back-ticks}
use Rattle.kept_worlds.proofs.Shorter.{AreAlike, IsCut, back-same, beat-same, beside, far, inside, last_in, old, old-count, old-high, old-low, old-rises, outs-same, past-same, place-all, place-to, reading-same, takes-same}

-- a return changes nothing and puts nothing out, and its beat is open behind it
after-back : {M S : Type 0} (note : M → Note) (step : S → Input M → Deed M S) (e : NodeEvent M) (x : Past S) → is_return e ≡ true
    → after note step e x ≡ x
after-back note step (Does i) x t = absurd (cc)
after-back note step (Ends i sends) x t = absurd (cc)
after-back note step (Dies stamp) x t = absurd (cc)
after-back note step (Returns stamp) x t = refl

outs-back : {M S : Type 0} (step : S → Input M → Deed M S) (e : NodeEvent M) (x : Past S) → is_return e ≡ true
    → outs_of step e x ≡ []
outs-back step (Does i) x t = absurd (cc)
outs-back step (Ends i sends) x t = absurd (cc)
outs-back step (Dies stamp) x t = absurd (cc)
outs-back step (Returns stamp) x t = refl

behind-back : {M : Type 0} (e : NodeEvent M) (a b : ℕ) → is_return e ≡ true → behind e a ≡ behind e b
behind-back (Does i) a b t = absurd (cc)
behind-back (Ends i sends) a b t = absurd (cc)
behind-back (Dies stamp) a b t = absurd (cc)
behind-back (Returns stamp) a b t = refl

-- what a node becomes hangs on what it was, and not on its life or journal
state-after : {M S : Type 0} (note : M → Note) (step : S → Input M → Deed M S) (e : NodeEvent M) (x y : Past S) → x.state ≡ y.state
    → (after note step e x).state ≡ (after note step e y).state
unfolding after_input after_cut
state-after note step (Does i) x y t = ap (λ s. (step s i).state) t
state-after note step (Ends i sends) x y t = ap (λ s. (step s i).state) t
state-after note step (Dies stamp) x y t = t
state-after note step (Returns stamp) x y t = t

module _ {M S : Type 0} (note : M → Note) (step : S → Input M → Deed M S) (p : Params) (nodes : ℕ) (h g : History M S)
    (alike : AreAlike note step h g) (run : IsRun note step p nodes h) (n : ℕ) (known : n < nodes) where
  abbrev at_last : ℕ
  at_last = last_in note step h g alike n

  abbrev old_in : ℕ → ℕ
  old_in i = old note step h g alike n i

  abbrev Cut : Type 0
  Cut = IsCut note step h g n at_last

  pub tick-low : Cut → suc at_last < h.count n
  tick-low s = let a = s.size in let b = s.inside in omega (arith, a, b)

  pub tick-dies : Cut → is_death (h.event n (suc at_last)) ≡ true
  tick-dies s = ap is_death s.ticks

  -- behind the death comes the return
  pub back-next : Cut → suc at_last < g.count n → is_return (h.event n (suc (suc at_last))) ≡ true
  back-next s more = ⊎_elim
      (λ (end : suc at_last + 1 ≡ h.count n). let a = s.size in absurd (omega (arith, end, a, more)))
      (λ (back : is_return (h.event n (suc at_last + 1)) ≡ true).
      let e : suc at_last + 1 ≡ suc (suc at_last) = omega arith in
      subst (λ k. is_return (h.event n k) ≡ true) e back)
      (run.ended n (suc at_last) known (tick-low s) (tick-dies s))

  -- ---- beats

  pub open-low : (i : ℕ) → i ≤ at_last → open_beat g n i ≡ open_beat h n i
  open-low zero low = refl
  open-low (suc i) low =
      ap (behind (g.event n i)) (open-low i (omega (arith, low)))
      ∙ ap (λ (e : NodeEvent M). behind e (open_beat h n i)) ((alike.each n).same i (omega (arith, low)))

  -- the take leaves the beat open, and the tick ends it
  pub open-cut : Cut → (open_beat g n (suc at_last) ≡ open_beat h n (suc at_last))
      × (open_beat h n (suc (suc at_last)) ≡ suc (open_beat h n (suc at_last)))
      × (open_beat h n (suc at_last) ≡ open_beat h n at_last)
  open-cut s =
      let mine : open_beat g n (suc at_last) ≡ open_beat g n at_last =
      ap (λ (e : NodeEvent M). behind e (open_beat g n at_last)) s.ends in
      let theirs : open_beat h n (suc at_last) ≡ open_beat h n at_last =
      ap (λ (e : NodeEvent M). behind e (open_beat h n at_last)) s.takes in (
        mine ∙ open-low at_last (omega arith) ∙ sym theirs,
        ap (λ (e : NodeEvent M). behind e (open_beat h n (suc at_last))) s.ticks,
        theirs,
      )

  open-high : Cut → (i : ℕ) → suc at_last < i → i ≤ g.count n → open_beat g n i ≡ open_beat h n (suc i)
  open-high s zero high low = absurd (omega (arith, high))
  open-high s (suc i) high low =
      let event = s.later i (omega (arith, high)) (omega (arith, low)) in
      ap (λ (e : NodeEvent M). behind e (open_beat g n i)) event ∙ ⊎_elim
      (λ (is : suc at_last ≡ i).
      let back = subst (λ k. is_return (h.event n (suc k)) ≡ true) is (back-next s (omega (arith, is, low))) in
      behind-back (h.event n (suc i)) (open_beat g n i) (open_beat h n (suc i)) back)
      (λ (other : suc at_last ≡ i → ⊥).
      ap (behind (h.event n (suc i))) (open-high s i (omega (arith, other, high)) (omega (arith, low))))
      (cases_eq (suc at_last) i)

  pub open-to : (i : ℕ) → i ≤ g.count n → (i ≡ suc at_last → ⊥) → open_beat g n i ≡ open_beat h n (old_in i)
  open-to i low other = ⊎_elim
      (λ (below_it : i < suc at_last).
      open-low i (omega (arith, below_it)) ∙ ap (open_beat h n) (sym (old-low at_last i (omega (arith, below_it)))))
      (λ (high : suc at_last ≤ i).
      let s = far note step h g alike n at_last (omega (arith, high, low)) (omega arith) in
      open-high s i (omega (arith, high, other)) low ∙ ap (open_beat h n) (sym (old-high at_last i high)))
      (cases_lt i (suc at_last))

  pub open-most : (i : ℕ) → i ≤ g.count n → open_beat g n i ≤ open_beat h n (old_in i)
  open-most i low = ⊎_elim
      (λ (is : i ≡ suc at_last).
      let s = far note step h g alike n at_last (omega (arith, is, low)) (omega arith) in
      let o = open-cut s in
      let a = o.0 in
      let b = o.1 in
      let mine : open_beat g n i ≡ open_beat g n (suc at_last) = ap (open_beat g n) is in
      let theirs : open_beat h n (old_in i) ≡ open_beat h n (suc (suc at_last)) =
      ap (open_beat h n) (old-high at_last i (omega (arith, is)) ∙ ap suc is) in
      omega (arith, a, b, mine, theirs))
      (λ (other : i ≡ suc at_last → ⊥). let same = open-to i low other in omega (arith, same))
      (cases_eq i (suc at_last))

  -- the tick comes in the beat of the take
  pub beat-cut : (s : Cut) → beat h n (suc at_last) ≡ beat h n at_last
  beat-cut s =
      let low = tick-low s in
      let a = run.in_beat n (suc at_last) known low (ap is_return s.ticks) in
      let b = run.in_beat n at_last known (omega (arith, low)) (ap is_return s.takes) in
      let c = (open-cut s).2 in
      omega (arith, a, b, c)

  -- ---- states, if a node that returns forgets that tick

  abbrev pub IsForgotten : Type 0
  IsForgotten =
      Cut → suc at_last < g.count n → (w : Stamp) → beat h n (suc at_last) + 2 ≤ w.beat
      → step (past note step h n (suc (suc at_last))).state (Tick w) ≡ step (past note step h n (suc at_last)).state (Tick w)

  pub state-cut : Cut → (past note step g n (suc at_last)).state ≡ (past note step h n (suc at_last)).state
  unfolding after_input after_cut
  state-cut s =
      ap (λ (e : NodeEvent M). (after note step e (past note step g n at_last)).state) s.ends
      ∙ ap (λ (x : Past S). (step x.state (Take s.stamp s.link s.msg)).state)
      (past-same note step h g alike n at_last (omega arith))
      ∙ sym (ap (λ (e : NodeEvent M). (after note step e (past note step h n at_last)).state) s.takes)

  -- behind the return comes a tick, by which it is forgotten
  record Anew (s : Cut) : Type 0 where
    now : Stamp
    event : h.event n (suc (suc (suc at_last))) ≡ Does (Tick now)
    same : step (past note step h n (suc (suc at_last))).state (Tick now)
        ≡ step (past note step h n (suc at_last)).state (Tick now)

  anew-of : IsForgotten → (s : Cut) → suc (suc at_last) < g.count n → Anew s
  anew-of forgets s more =
      let size = s.size in
      let back = back-next s (omega (arith, more)) in
      let t = back-ticks note step p nodes h run n known (suc (suc at_last)) (omega (arith, more, size)) back in
      let r = run.returned n (suc (suc at_last)) known (omega (arith, more, size)) back in
      let next = r.next in
      let apart = r.apart in
      let is : r.last ≡ suc at_last = omega (arith, next) in
      let from : beat h n r.last ≡ beat h n (suc at_last) = ap (beat h n) is in
      let dated = t.2 in
      record { now = t.0; event = t.1; same = forgets s (omega (arith, more)) t.0 (omega (arith, dated, from, apart)) }

  -- before that tick
  past-back : (s : Cut) → suc at_last < g.count n
      → (past note step g n (suc (suc at_last)) ≡ past note step g n (suc at_last))
      × (past note step h n (suc (suc (suc at_last))) ≡ past note step h n (suc (suc at_last)))
  past-back s more =
      let back = back-next s more in (
        after-back note step (g.event n (suc at_last)) (past note step g n (suc at_last))
            (ap is_return (s.later (suc at_last) (omega arith) more) ∙ back),
        after-back note step (h.event n (suc (suc at_last))) (past note step h n (suc (suc at_last))) back,
      )

  states : IsForgotten → (s : Cut) → (i : ℕ) → suc (suc at_last) < i → i ≤ g.count n
      → (past note step g n i).state ≡ (past note step h n (suc i)).state
  unfolding after_input
  states forgets s zero high low = absurd (omega (arith, high))
  states forgets s (suc i) high low =
      let event = s.later i (omega (arith, high)) (omega (arith, low)) in
      ⊎_elim
      (λ (is : suc (suc at_last) ≡ i).
      let a = anew-of forgets s (omega (arith, is, low)) in
      let b = past-back s (omega (arith, is, low)) in
      let tick : h.event n (suc i) ≡ Does (Tick a.now) = ap (λ k. h.event n (suc k)) (sym is) ∙ a.event in
      let mine : past note step g n i ≡ past note step g n (suc at_last) = ap (past note step g n) (sym is) ∙ b.0 in
      let theirs : past note step h n (suc i) ≡ past note step h n (suc (suc at_last)) =
      ap (λ k. past note step h n (suc k)) (sym is) ∙ b.1 in
      ap (λ (e : NodeEvent M). (after note step e (past note step g n i)).state) (event ∙ tick)
      ∙ ap (λ (x : Past S). (step x.state (Tick a.now)).state) mine
      ∙ ap (λ q. (step q (Tick a.now)).state) (state-cut s)
      ∙ sym (ap (λ (d : Deed M S). d.state) a.same)
      ∙ sym (ap (λ (x : Past S). (step x.state (Tick a.now)).state) theirs)
      ∙ sym (ap (λ (e : NodeEvent M). (after note step e (past note step h n (suc i))).state) tick))
      (λ (other : suc (suc at_last) ≡ i → ⊥).
      ap (λ (e : NodeEvent M). (after note step e (past note step g n i)).state) event
      ∙ state-after note step (h.event n (suc i)) (past note step g n i) (past note step h n (suc i))
      (states forgets s i (omega (arith, high, other)) (omega (arith, low))))
      (cases_eq (suc (suc at_last)) i)

  -- ---- outputs

  pub outs-high : IsForgotten → (s : Cut) → (i : ℕ) → at_last < i → i < g.count n → outs note step g n i ≡ outs note step h n (suc i)
  unfolding kept_outs
  outs-high forgets s i high low =
      let event = s.later i high low in
      ap (λ (e : NodeEvent M). outs_of step e (past note step g n i)) event ∙ ⊎_elim
      (λ (is : suc at_last ≡ i).
      let back = subst (λ k. is_return (h.event n (suc k)) ≡ true) is (back-next s (omega (arith, is, low))) in
      outs-back step (h.event n (suc i)) (past note step g n i) back
      ∙ sym (outs-back step (h.event n (suc i)) (past note step h n (suc i)) back))
      (λ (other : suc at_last ≡ i → ⊥). ⊎_elim
      (λ (is : suc (suc at_last) ≡ i).
      let a = anew-of forgets s (omega (arith, is, low)) in
      let b = past-back s (omega (arith, is, low)) in
      let tick : h.event n (suc i) ≡ Does (Tick a.now) = ap (λ k. h.event n (suc k)) (sym is) ∙ a.event in
      let mine : past note step g n i ≡ past note step g n (suc at_last) = ap (past note step g n) (sym is) ∙ b.0 in
      let theirs : past note step h n (suc i) ≡ past note step h n (suc (suc at_last)) =
      ap (λ k. past note step h n (suc k)) (sym is) ∙ b.1 in
      ap (λ (e : NodeEvent M). outs_of step e (past note step g n i)) tick
      ∙ ap (λ (x : Past S). (step x.state (Tick a.now)).outs) mine
      ∙ ap (λ q. (step q (Tick a.now)).outs) (state-cut s)
      ∙ sym (ap (λ (d : Deed M S). d.outs) a.same)
      ∙ sym (ap (λ (x : Past S). (step x.state (Tick a.now)).outs) theirs)
      ∙ sym (ap (λ (e : NodeEvent M). outs_of step e (past note step h n (suc i))) tick))
      (λ (more : suc (suc at_last) ≡ i → ⊥).
      outs-twin step (h.event n (suc i)) (past note step g n i) (past note step h n (suc i))
      (states forgets s i (omega (arith, high, other, more)) (omega (arith, low))))
      (cases_eq (suc (suc at_last)) i))
      (cases_eq (suc at_last) i)

  pub outs-to : IsForgotten → (i : ℕ) → i < g.count n → outs note step g n i ≡ outs note step h n (old_in i)
  outs-to forgets i low = ⊎_elim
      (λ (below_it : i < suc at_last).
      let is = old-low at_last i (omega (arith, below_it)) in
      outs-same step (past note step h n (old_in i)).state (h.event n (old_in i)) (g.event n i)
      (beside note step h g alike n i low) (past note step h n (old_in i)) (past note step g n i) refl
      (past-same note step h g alike n i (omega (arith, below_it)) ∙ ap (past note step h n) (sym is)))
      (λ (high : suc at_last ≤ i).
      let s = far note step h g alike n i low (omega (arith, high)) in
      outs-high forgets s i high low ∙ ap (outs note step h n) (sym (old-high at_last i high)))
      (cases_lt i (suc at_last))

  sent-cut : (l : ℕ) → Cut → sent note step l h n (suc (suc at_last)) ≡ sent note step l h n (suc at_last)
  sent-cut l s =
      let nothing : outs note step h n (suc at_last) ≡ [] =
      ap (λ (e : NodeEvent M). outs_of step e (past note step h n (suc at_last))) s.ticks ∙ s.none in
      ap (λ (os : List (Out M)). sent note step l h n (suc at_last) ++ sends_of l (beat h n (suc at_last)) os) nothing
      ∙ append-nil (sent note step l h n (suc at_last))

  pub sent-to : IsForgotten → (l i : ℕ) → i ≤ g.count n → sent note step l g n i ≡ sent note step l h n (old_in i)
  sent-to forgets l zero low = ap (sent note step l h n) (sym (old-low at_last 0 (omega arith)))
  sent-to forgets l (suc i) low =
      let at : i < g.count n = omega (arith, low) in
      let one : sent note step l g n (suc i) ≡ sent note step l h n (suc (old_in i)) =
      ap (λ (ds : List (Dated M)). ds ++ sends_of l (beat g n i) (outs note step g n i)) (sent-to forgets l i (omega (arith, low)))
      ∙ ap (λ (b : ℕ). sent note step l h n (old_in i) ++ sends_of l b (outs note step g n i)) (beat-same note step h g alike n i at)
      ∙ ap (λ (os : List (Out M)). sent note step l h n (old_in i) ++ sends_of l (beat h n (old_in i)) os) (outs-to forgets i at) in
      one ∙ ⊎_elim
      (λ (below_it : i < at_last).
      ap (sent note step l h n) (ap suc (old-low at_last i (omega (arith, below_it))) ∙ sym (old-low at_last (suc i) (omega (arith, below_it)))))
      (λ (high : at_last ≤ i). ⊎_elim
      (λ (is : at_last ≡ i).
      let s = far note step h g alike n i at high in
      ap (λ k. sent note step l h n (suc k)) (old-low at_last i (omega (arith, is)) ∙ sym is) ∙ sym (sent-cut l s)
      ∙ ap (sent note step l h n) (ap (λ k. suc (suc k)) is ∙ sym (old-high at_last (suc i) (omega (arith, is)))))
      (λ (other : at_last ≡ i → ⊥).
      ap (sent note step l h n) (ap suc (old-high at_last i (omega (arith, other, high))) ∙ sym (old-high at_last (suc i) (omega (arith, other, high)))))
      (cases_eq at_last i))
      (cases_lt i at_last)

  pub sent-all : IsForgotten → (l : ℕ) → sent note step l g n (g.count n) ≡ sent note step l h n (h.count n)
  sent-all forgets l = sent-to forgets l (g.count n) (omega arith) ∙ ap (sent note step l h n) (old-count note step h g alike n)

  -- ---- deaths

  -- the death of the first behind one of the second
  pub record IsFate (i : ℕ) : Type 0 where
    pub at : ℕ
    pub low : at < h.count n
    pub died : is_death (h.event n at) ≡ true
    pub where_it_is : ((i < at_last) × (at ≡ i)) ⊎ ((i ≡ at_last) × (at ≡ suc at_last) × Cut)

  pub fate : (i : ℕ) → i < g.count n → is_death (g.event n i) ≡ true → IsFate i
  fate i low died = ⊎_elim
      (λ (below_it : i < at_last).
      let inner = inside note step h g alike n i low in
      let is = old-low at_last i (omega (arith, below_it)) in
      record {
        at = i;
        low = omega (arith, inner, is);
        died = sym (ap is_death ((alike.each n).same i below_it)) ∙ died;
        where_it_is = inl (below_it, refl);
      })
      (λ (high : at_last ≤ i).
      let s = far note step h g alike n i low high in
      ⊎_elim
      (λ (is : i ≡ at_last).
      record { at = suc at_last; low = tick-low s; died = tick-dies s; where_it_is = inr (is, refl, s) })
      (λ (other : i ≡ at_last → ⊥).
      let theirs : is_death (h.event n (suc i)) ≡ true = sym (ap is_death (s.later i (omega (arith, other, high)) low)) ∙ died in
      let size = s.size in
      let same = run.once n (suc i) (suc at_last) known (omega (arith, low, size)) (tick-low s) theirs (tick-dies s) in
      absurd (omega (arith, same, other)))
      (cases_eq i at_last))
      (cases_lt i at_last)

  -- a death of the first is one of the second
  pub fated : (j : ℕ) → j < h.count n → is_death (h.event n j) ≡ true
      → (i : ℕ) × (i < g.count n) × (is_death (g.event n i) ≡ true)
      × (((g.count n ≡ h.count n) × (i ≡ j)) ⊎ ((i ≡ at_last) × (j ≡ suc at_last) × Cut))
  fated j low died = ⊎_elim
      (λ (s : (g.count n ≡ h.count n) × (h.count n ≤ at_last)).
      let a = s.0 in
      let b = s.1 in
      (j, omega (arith, a, low), ap is_death ((alike.each n).same j (omega (arith, b, low))) ∙ died, inl (a, refl)))
      (λ (s : Cut).
      let same = run.once n j (suc at_last) known low (tick-low s) died (tick-dies s) in
      (at_last, s.inside, ap is_death s.ends, inr (refl, same, s)))
      (alike.each n).kind

  pub up-to : IsUp g n → IsUp h n × (open_beat g n (g.count n) ≡ open_beat h n (h.count n))
  up-to up =
      let not_cut : g.count n ≡ suc at_last → ⊥ = λ all.
      (let s = far note step h g alike n at_last (omega (arith, all)) (omega arith) in
      let more = up at_last s.inside (ap is_death s.ends) in
      omega (arith, more, all)) in (
        λ j low died.
            (let f = fated j low died in
            let more = up f.0 f.1 f.2 in
            ⊎_elim
            (λ (same : (g.count n ≡ h.count n) × (f.0 ≡ j)). let a = same.0 in let b = same.1 in omega (arith, a, b, more))
            (λ (cut : (f.0 ≡ at_last) × (j ≡ suc at_last) × Cut).
            let a = cut.0 in let b = cut.1 in let size = cut.2.size in omega (arith, a, b, size, more))
            f.3),
        open-to (g.count n) (omega arith) not_cut ∙ ap (open_beat h n) (old-count note step h g alike n),
      )

module _ {M S : Type 0} (note : M → Note) (step : S → Input M → Deed M S) (p : Params) (nodes : ℕ) (h g : History M S)
    (alike : AreAlike note step h g) (run : IsRun note step p nodes h)
    (forgets : (n : ℕ) (known : n < nodes) → IsForgotten note step p nodes h g alike run n known) where
  abbrev to : ℕ → ℕ → ℕ
  to n i = old note step h g alike n i

  low-to : (n i : ℕ) → i < g.count n → to n i < h.count n
  low-to n i low = inside note step h g alike n i low

  sent-same : (l n : ℕ) → n < nodes → sent note step l g n (g.count n) ≡ sent note step l h n (h.count n)
  sent-same l n known = sent-all note step p nodes h g alike run n known (forgets n known) l

  came-same : (n l k : ℕ) (now : ℕ) (msg : M) → CameOn note step p nodes h n l k now msg
      → CameOn note step p nodes g n l k now msg
  came-same n l k now msg came = record {
    from = came.from;
    known = came.known;
    ends = came.ends;
    when = came.when;
    was_sent = ap (λ (ds : List (Dated M)). slice_get ds k) (sent-same l came.from came.known) ∙ came.was_sent;
    later = came.later;
    soon = came.soon;
  }

  -- a return stands behind the death
  returned-same : (n i : ℕ) → n < nodes → i < g.count n → is_return (g.event n i) ≡ true → IsBack g n i
  returned-same n i known low back = ⊎_elim
      (λ (below_it : i < last_in note step h g alike n).
      let is = old-low (last_in note step h g alike n) i (omega (arith, below_it)) in
      let inner = low-to n i low in
      let theirs = sym (ap is_return ((alike.each n).same i below_it)) ∙ back in
      let r = run.returned n i known (omega (arith, inner, is)) theirs in
      let next = r.next in
      let apart = r.apart in
      let one : beat g n r.last ≡ beat h n r.last =
      ap (λ (e : NodeEvent M). (stamp_at e).beat) ((alike.each n).same r.last (omega (arith, next, below_it))) in
      let two : beat g n i ≡ beat h n i = ap (λ (e : NodeEvent M). (stamp_at e).beat) ((alike.each n).same i below_it) in
      record {
        last = r.last;
        next = next;
        died = ap is_death ((alike.each n).same r.last (omega (arith, next, below_it))) ∙ r.died;
        apart = omega (arith, apart, one, two);
      })
      (λ (high : last_in note step h g alike n ≤ i).
      let s = far note step h g alike n i low high in
      ⊎_elim
      (λ (is : last_in note step h g alike n ≡ i).
      let q : true ≡ false = sym back ∙ ap (λ k. is_return (g.event n k)) (sym is) ∙ ap is_return s.ends in absurd (cc))
      (λ (other : last_in note step h g alike n ≡ i → ⊥).
      let event = s.later i (omega (arith, other, high)) low in
      let size = s.size in
      let r = run.returned n (suc i) known (omega (arith, low, size)) (sym (ap is_return event) ∙ back) in
      let next = r.next in
      let apart = r.apart in
      let cut_low : suc (last_in note step h g alike n) < h.count n = omega (arith, size, low, high) in
      let same = run.once n r.last (suc (last_in note step h g alike n)) known (omega (arith, next, low, size)) cut_low r.died
      (ap is_death s.ticks) in
      let one : beat g n (last_in note step h g alike n) ≡ beat h n (last_in note step h g alike n) =
      ap (λ (e : NodeEvent M). (stamp_at e).beat) s.ends ∙ sym (ap (λ (e : NodeEvent M). (stamp_at e).beat) s.takes) in
      let two : beat g n i ≡ beat h n (suc i) = ap (λ (e : NodeEvent M). (stamp_at e).beat) event in
      let three = beat-cut note step p nodes h g alike run n known s in
      let four : beat h n r.last ≡ beat h n (suc (last_in note step h g alike n)) = ap (beat h n) same in
      record {
        last = last_in note step h g alike n;
        next = omega (arith, next, same);
        died = ap is_death s.ends;
        apart = omega (arith, apart, one, two, three, four);
      })
      (cases_eq (last_in note step h g alike n) i))
      (cases_lt i (last_in note step h g alike n))

  ended-same : (n i : ℕ) → n < nodes → i < g.count n → is_death (g.event n i) ≡ true
      → (i + 1 ≡ g.count n) ⊎ (is_return (g.event n (i + 1)) ≡ true)
  ended-same n i known low died =
      let f = fate note step p nodes h g alike run n known i low died in
      let end = run.ended n f.at known f.low f.died in
      ⊎_elim
      (λ (end : i + 1 ≡ g.count n). inl end)
      (λ (other : i + 1 ≡ g.count n → ⊥). inr (⊎_elim
      (λ (same : (i < last_in note step h g alike n) × (f.at ≡ i)).
      let is = same.1 in
      let there : is_return (h.event n (i + 1)) ≡ true = ⊎_elim
      (λ (e : f.at + 1 ≡ h.count n). at_end n i known low same.0 (omega (arith, e, is)) other)
      (λ (back : is_return (h.event n (f.at + 1)) ≡ true). subst (λ k. is_return (h.event n (k + 1)) ≡ true) is back)
      end in
      ⊎_elim
      (λ (below_it : i + 1 < last_in note step h g alike n). ap is_return ((alike.each n).same (i + 1) below_it) ∙ there)
      (λ (high : last_in note step h g alike n ≤ i + 1).
      let s = far note step h g alike n (i + 1) (omega (arith, low, other)) high in
      let size = s.size in
      let inner = s.inside in
      let twice = run.once n f.at (suc (last_in note step h g alike n)) known f.low (omega (arith, size, inner)) f.died
      (ap is_death s.ticks) in
      let first = same.0 in
      absurd (omega (arith, twice, is, first)))
      (cases_lt (i + 1) (last_in note step h g alike n)))
      (λ (cut : (i ≡ last_in note step h g alike n) × (f.at ≡ suc (last_in note step h g alike n))
      × IsCut note step h g n (last_in note step h g alike n)).
      let is = cut.0 in
      let s = cut.2 in
      let more : suc (last_in note step h g alike n) < g.count n = omega (arith, low, other, is) in
      let event = s.later (suc (last_in note step h g alike n)) (omega arith) more in
      let back = back-next note step p nodes h g alike run n known s more in
      let e : i + 1 ≡ suc (last_in note step h g alike n) = omega (arith, is) in
      subst (λ k. is_return (g.event n k) ≡ true) (sym e) (ap is_return event ∙ back))
      f.where_it_is))
      (cases_eq (i + 1) (g.count n))
    where
      at_end : (n i : ℕ) → n < nodes → i < g.count n → i < last_in note step h g alike n → i + 1 ≡ h.count n
          → (i + 1 ≡ g.count n → ⊥) → is_return (h.event n (i + 1)) ≡ true
      at_end n i known low below_it end other = ⊎_elim
          (λ (s : (g.count n ≡ h.count n) × (h.count n ≤ last_in note step h g alike n)).
          let same = s.0 in absurd (other (omega (arith, same, end))))
          (λ (s : IsCut note step h g n (last_in note step h g alike n)).
          let size = s.size in let inner = s.inside in absurd (omega (arith, size, inner, end, below_it)))
          (alike.each n).kind

  once-same : (n j i : ℕ) → n < nodes → j < g.count n → i < g.count n → is_death (g.event n j) ≡ true
      → is_death (g.event n i) ≡ true → j ≡ i
  once-same n j i known one two died also =
      let a = fate note step p nodes h g alike run n known j one died in
      let b = fate note step p nodes h g alike run n known i two also in
      let same = run.once n a.at b.at known a.low b.low a.died b.died in
      ⊎_elim
      (λ (x : (j < last_in note step h g alike n) × (a.at ≡ j)). ⊎_elim
      (λ (y : (i < last_in note step h g alike n) × (b.at ≡ i)). let p = x.1 in let q = y.1 in omega (arith, p, q, same))
      (λ (y : (i ≡ last_in note step h g alike n) × (b.at ≡ suc (last_in note step h g alike n))
      × IsCut note step h g n (last_in note step h g alike n)).
      let p = x.0 in let q = x.1 in let r = y.1 in absurd (omega (arith, p, q, r, same)))
      b.where_it_is)
      (λ (x : (j ≡ last_in note step h g alike n) × (a.at ≡ suc (last_in note step h g alike n))
      × IsCut note step h g n (last_in note step h g alike n)). ⊎_elim
      (λ (y : (i < last_in note step h g alike n) × (b.at ≡ i)).
      let p = y.0 in let q = y.1 in let r = x.1 in absurd (omega (arith, p, q, r, same)))
      (λ (y : (i ≡ last_in note step h g alike n) × (b.at ≡ suc (last_in note step h g alike n))
      × IsCut note step h g n (last_in note step h g alike n)).
      let p = x.0 in let q = y.0 in omega (arith, p, q))
      b.where_it_is)
      a.where_it_is

  pub run-same : IsRun note step p nodes g
  run-same = record {
    in_beat = λ n i known low here.
        let theirs : is_return (h.event n (to n i)) ≡ false = sym (back-same note step h g alike n i low) ∙ here in
        beat-same note step h g alike n i low
        ∙ run.in_beat n (to n i) known (low-to n i low) theirs
        ∙ sym (open-to note step p nodes h g alike run n known i (omega (arith, low)) (λ is.
        let s = far note step h g alike n i low (omega (arith, is)) in
        let more : suc (last_in note step h g alike n) < g.count n = omega (arith, is, low) in
        let back = ap is_return (s.later (suc (last_in note step h g alike n)) (omega arith) more)
        ∙ back-next note step p nodes h g alike run n known s more in
        let q : true ≡ false = sym back ∙ subst (λ k. is_return (g.event n k) ≡ false) is here in absurd (cc)));
    returned = returned-same;
    reads = λ n i known low.
        let b = beat-same note step h g alike n i low in
        let r = reading-same note step h g alike n i low in
        let in_h = run.reads n (to n i) known (low-to n i low) in
        rw (b, r) in_h;
    rising = λ n j i known up low.
        let one = reading-same note step h g alike n j (omega (arith, up, low)) in
        let two = reading-same note step h g alike n i low in
        let in_h = run.rising n (to n j) (to n i) known (old-rises (last_in note step h g alike n) j i up) (low-to n i low) in
        omega (arith, one, two, in_h);
    level = λ n m i known other low up.
        let t = up-to note step p nodes h g alike run m other up in
        let in_h = run.level n m (to n i) known other (low-to n i low) t.0 in
        let b = beat-same note step h g alike n i low in
        let o = t.1 in
        omega (arith, in_h, b, o);
    ended = ended-same;
    once = once-same;
    fair = λ n i known low.
        subst (AllByRecursion (IsAllowed note p n))
        (sym (outs-to note step p nodes h g alike run n known (forgets n known) i low))
        (run.fair n (to n i) known (low-to n i low));
    carried = λ n i stamp link msg known low takes.
        let in_h = run.carried n (to n i) stamp link msg known (low-to n i low)
        (takes-same step _ (h.event n (to n i)) (g.event n i) (beside note step h g alike n i low) stamp link msg takes) in
        subst (λ (k : ℕ). CameOn note step p nodes g n link.0 k stamp.beat msg)
        (sym (place-to note step h g alike n link.0 i (omega (arith, low))))
        (came-same n link.0 (place link.0 h n (to n i)) stamp.beat msg in_h);
    arrives = λ l from n k when msg sender known ends was due.
        let far_on = open-most note step p nodes h g alike run n known (g.count n) (omega arith) in
        let all = ap (open_beat h n) (old-count note step h g alike n) in
        let in_h = run.arrives l from n k when msg sender known ends
        (ap (λ (ds : List (Dated M)). slice_get ds k) (sym (sent-same l from sender)) ∙ was)
        (omega (arith, due, far_on, all)) in
        let number = place-all note step h g alike n l in
        omega (arith, in_h, number);
    in_time = λ l from n i k when msg sender known ends low back was due.
        let theirs : is_return (h.event n (to n i)) ≡ true = sym (back-same note step h g alike n i low) ∙ back in
        let far_on = open-most note step p nodes h g alike run n known i (omega (arith, low)) in
        let in_h = run.in_time l from n (to n i) k when msg sender known ends (low-to n i low) theirs
        (ap (λ (ds : List (Dated M)). slice_get ds k) (sym (sent-same l from sender)) ∙ was)
        (omega (arith, due, far_on)) in
        let number = place-to note step h g alike n l i (omega (arith, low)) in
        omega (arith, in_h, number);
    before = λ l from n i stamp sender known ends low is.
        let theirs : is_return (h.event n (to n i)) ≡ true = sym (back-same note step h g alike n i low) ∙ ap is_return is in
        let event : h.event n (to n i) ≡ Returns stamp = back-event n i low stamp is in
        alike.before l
        ∙ run.before l from n (to n i) stamp sender known ends (low-to n i low) event
        ∙ ap (below stamp.beat) (sym (sent-same l from sender));
  }
    where
      back-event : (n i : ℕ) (low : i < g.count n) (stamp : Stamp) → g.event n i ≡ Returns stamp
          → h.event n (to n i) ≡ Returns stamp
      back-event n i low stamp is = ⊎_elim
          (λ (q : g.event n i ≡ h.event n (to n i)). sym q ∙ is)
          (λ q. let t : true ≡ false = sym (ap is_return is) ∙ ap is_return q.4 in absurd (cc))
          (beside note step h g alike n i low)
