-- What a node sends on a link, in the order of its beats: what is sent below a beat stands before the rest.
use Rattle.std.proofs.Common.{◌≡◌, ℕ, suc, ◌<◌, ◌≤◌, List, [], ◌∷◌, ◌++◌, filter, length, true, false, refl, ap, ◌∙◌}
use Rattle.std.proofs.Common.{arith, ⊎_elim}
use Rattle.std.specs.Prelude.{nat_lt, nat_le}
use Rattle.std.specs.List.{AllByRecursion}
use Rattle.std.proofs.lemmas.Bool.{cases_Bool}
use Rattle.std.proofs.lemmas.Bool.Decides.{nat_tests}
use Rattle.tiger_base.specs.declared.message.Note.{Note}
use Rattle.link_timing.specs.Clock.{Clock, after_send}
use Rattle.node_kit.specs.Steps.{Input, Deed}
use Rattle.run_facts.specs.Accounts.{Rising, clock_after}
use Rattle.run_facts.specs.Events.{NodeEvent, Past, Dated, after, outs_of, stamp_at, sends_of, sends_along}
use Rattle.run_facts.specs.Histories.{below}
use Rattle.run_facts.specs.Paced.{Passage, passages}
use Rattle.run_facts.proofs.Along.{sends_of-dated, sends-dated}
use Rattle.run_facts.proofs.Journals.{rising-append}
use Rattle.run_facts.proofs.Links.{passages-append}
use Rattle.run_facts.proofs.Rows.{all-weaker, filter-none, filter-all}

-- a node whose events' beats never fall sends in beats that never fall
pub rising-sends : {M S : Type 0} (note : M → Note) (step : S → Input M → Deed M S) (l : ℕ) (es : List (NodeEvent M))
    (past : Past S) → Rising (λ (e : NodeEvent M). (stamp_at e).beat) es
    → Rising (λ (d : Dated M). d.beat) (sends_along note step l es past)
rising-sends note step l [] past r = tt
rising-sends {M} note step l (e ∷ es) past r =
    let next = after note step e past in
    rising-append (λ (d : Dated M). d.beat) (stamp_at e).beat (sends_of l (stamp_at e).beat (outs_of step e past))
    (sends_along note step l es next)
    (sends_of-dated (λ b. b ≡ (stamp_at e).beat) l (stamp_at e).beat (outs_of step e past) refl)
    (sends-dated note step (λ b. (stamp_at e).beat ≤ b) l es next r.0) (rising-sends note step l es next r.1)

-- those of the beats below one, and those of the others
pub parts-at : {X : Type 0} (w : ℕ) (ds : List (Dated X)) → Rising (λ (d : Dated X). d.beat) ds
    → ds ≡ filter (λ (d : Dated X). nat_lt d.beat w) ds ++ filter (λ (d : Dated X). nat_le w d.beat) ds
parts-at w [] r = refl
parts-at {X} w (d ∷ ds) r = ⊎_elim
    (λ (e : nat_lt d.beat w ≡ true).
    let f : nat_le w d.beat ≡ false = grind (arith, nat_tests, e) in
    rw (e, f) (ap (λ qs. d ∷ qs) (parts-at w ds r.1)))
    (λ (e : nat_lt d.beat w ≡ false).
    let f : nat_le w d.beat ≡ true = grind (arith, nat_tests, e) in
    let high : w ≤ d.beat = grind (arith, nat_tests, e) in
    let above = all-weaker (λ (q : Dated X). d.beat ≤ q.beat) (λ q. w ≤ q.beat) ds (λ q h. omega
    (arith, h, high)) r.0 in
    let none = filter-none (λ (q : Dated X). nat_lt q.beat w) ds
    (all-weaker (λ (q : Dated X). w ≤ q.beat) (λ q. nat_lt q.beat w ≡ false) ds (λ q h. grind (arith, nat_tests, h))
    above) in
    let all = filter-all (λ (q : Dated X). nat_le w q.beat) ds
    (all-weaker (λ (q : Dated X). w ≤ q.beat) (λ q. nat_le w q.beat ≡ true) ds (λ q h. grind (arith, nat_tests, h))
    above) in
    rw (e, f, none, all) refl)
    (cases_Bool (nat_lt d.beat w))

passes-low : {X : Type 0} (w : ℕ) (ds : List (Dated X))
    → AllByRecursion (λ (d : Dated X). d.beat < w) (filter (λ (d : Dated X). nat_lt d.beat w) ds)
passes-low w [] = tt
passes-low w (d ∷ ds) = ⊎_elim
    (λ (e : nat_lt d.beat w ≡ true). rw e (grind (arith, nat_tests, e), passes-low w ds))
    (λ (e : nat_lt d.beat w ≡ false). rw e (passes-low w ds))
    (cases_Bool (nat_lt d.beat w))

passes-high : {X : Type 0} (w : ℕ) (ds : List (Dated X))
    → AllByRecursion (λ (d : Dated X). w ≤ d.beat) (filter (λ (d : Dated X). nat_le w d.beat) ds)
passes-high w [] = tt
passes-high w (d ∷ ds) = ⊎_elim
    (λ (e : nat_le w d.beat ≡ true). rw e (grind (arith, nat_tests, e), passes-high w ds))
    (λ (e : nat_le w d.beat ≡ false). rw e (passes-high w ds))
    (cases_Bool (nat_le w d.beat))

-- a passage is sent when its message is
passages-sent : {X : Type 0} (P : ℕ → Type 0) (clock : Clock) (ds : List (Dated X))
    → AllByRecursion (λ (d : Dated X). P d.beat) ds → AllByRecursion (λ (f : Passage X). P f.sent) (passages clock ds)
passages-sent P clock [] h = tt
passages-sent P clock (d ∷ ds) h = (h.0, passages-sent P (after_send clock d.beat) ds h.1)

length-passages : {X : Type 0} (clock : Clock) (ds : List (Dated X)) → length (passages clock ds) ≡ length ds
length-passages clock [] = refl
length-passages clock (d ∷ ds) = ap suc (length-passages (after_send clock d.beat) ds)

-- so what is sent on a link is what was sent below a beat, and behind it the rest
pub record IsParted {X : Type 0} (w : ℕ) (sent : List (Dated X)) (fs : List (Passage X)) : Type 0 where
  pub before : List (Passage X)
  pub rest : List (Passage X)
  pub all : fs ≡ before ++ rest
  pub low : AllByRecursion (λ (f : Passage X). f.sent < w) before
  pub high : AllByRecursion (λ (f : Passage X). w ≤ f.sent) rest
  pub count : length before ≡ below w sent

pub parted : {X : Type 0} (w : ℕ) (clock : Clock) (sent : List (Dated X)) → Rising (λ (d : Dated X). d.beat) sent
    → IsParted w sent (passages clock sent)
parted {X} w clock sent r =
    let early = filter (λ (d : Dated X). nat_lt d.beat w) sent in
    let late = filter (λ (d : Dated X). nat_le w d.beat) sent in
    record {
      before = passages clock early;
      rest = passages (clock_after clock early) late;
      all = ap (passages clock) (parts-at w sent r) ∙ passages-append clock early late;
      low = passages-sent (λ b. b < w) clock early (passes-low w sent);
      high = passages-sent (λ b. w ≤ b) (clock_after clock early) late (passes-high w sent);
      count = length-passages clock early;
    }
