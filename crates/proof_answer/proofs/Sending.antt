-- What a node sends below a beat is what its events below that beat send, and its sends are in order.
use Rattle.std.proofs.Common.{◌≡◌, ℕ, ◌≤◌, List, [], ◌∷◌, ◌++◌, true, false, refl, ap, sym, ◌∙◌, arith, ⊎_elim}
use Rattle.std.specs.Prelude.{nat_lt, ◌==◌}
use Rattle.std.specs.List.{AllByRecursion}
use Rattle.std.proofs.lemmas.Bool.{cases_Bool}
use Rattle.std.proofs.lemmas.Bool.Decides.{nat_tests}
use Rattle.std.proofs.lemmas.List.Elements.{filter-append}
use Rattle.tiger_base.specs.declared.message.Note.{Note}
use Rattle.tiger_base.specs.Limits.{most_beats}
use Rattle.node_kit.specs.declared.outbox.Out.{Out}
use Rattle.node_kit.specs.declared.outbox.Out.TheVariants as out
use Rattle.node_kit.specs.Steps.{Input, Deed}
use Rattle.run_facts.specs.Events.{NodeEvent, Past, Dated, after, outs_of, stamp_at, sends_of, sends_along}
use Rattle.run_facts.specs.Accounts.{Rising, AreInOrder}
use Rattle.run_facts.proofs.Rows.{all-weaker, filter-all, filter-none}
use Rattle.run_facts.proofs.Along.{sends_of-dated, sends-dated}
use Rattle.proof_answer.proofs.Dated.{events_below, dated_below, order-lower}

-- what is sent below a beat is what the events below it send
pub sends-below : {M S : Type 0} (note : M → Note) (step : S → Input M → Deed M S) (b l : ℕ)
    (es : List (NodeEvent M)) (past : Past S)
    → Rising (λ (e : NodeEvent M). (stamp_at e).beat) es
    → dated_below b (sends_along note step l es past) ≡ sends_along note step l (events_below b es) past
sends-below note step b l [] past r = refl
sends-below {M} note step b l (e ∷ es) past r =
    let now = (stamp_at e).beat in
    let here = sends_of l now (outs_of step e past) in
    let rest = sends_along note step l es (after note step e past) in
    ⊎_elim
    (λ (q : nat_lt now b ≡ true).
    let dated = sends_of-dated (λ x. nat_lt x b ≡ true) l now (outs_of step e past) q in
    let all = filter-all (λ (d : Dated M). nat_lt d.beat b) here dated in
    let kept : events_below b (e ∷ es) ≡ e ∷ events_below b es = rw q refl in
    filter-append (λ (d : Dated M). nat_lt d.beat b) here rest
    ∙ ap (λ ds. ds ++ dated_below b rest) all
    ∙ ap (λ ds. here ++ ds) (sends-below note step b l es (after note step e past) r.1)
    ∙ sym (ap (λ fs. sends_along note step l fs past) kept))
    (λ (q : nat_lt now b ≡ false).
    let late : AllByRecursion (λ (f : NodeEvent M). nat_lt (stamp_at f).beat b ≡ false) (e ∷ es) = (
      q,
      all-weaker (λ (f : NodeEvent M). now ≤ (stamp_at f).beat) (λ f. nat_lt (stamp_at f).beat b ≡ false) es
          (λ f h. grind (arith, nat_tests, q, h)) r.0,
    ) in
    let none : events_below b (e ∷ es) ≡ [] =
    filter-none (λ (f : NodeEvent M). nat_lt (stamp_at f).beat b) (e ∷ es) late in
    let dated = sends-dated note step (λ x. nat_lt x b ≡ false) l (e ∷ es) past late in
    filter-none (λ (d : Dated M). nat_lt d.beat b) (here ++ rest) dated
    ∙ sym (ap (λ fs. sends_along note step l fs past) none))
    (cases_Bool (nat_lt now b))

-- the sends of one event stand in order before those of the later ones
order-sends_of : {M : Type 0} (l low beat : ℕ) (os : List (Out M)) (ds : List (Dated M)) → low ≤ beat
    → beat ≤ most_beats
    → AreInOrder beat ds → AreInOrder low (sends_of l beat os ++ ds)
order-sends_of l low beat [] ds h few r = order-lower low beat ds h r
order-sends_of l low beat (out.Send link msg ∷ os) ds h few r = ⊎_elim
    (λ (e : (link.0 == l) ≡ true). rw e (h, few, order-sends_of l beat beat os ds (omega arith) few r))
    (λ (e : (link.0 == l) ≡ false). rw e (order-sends_of l low beat os ds h few r))
    (cases_Bool (link.0 == l))
order-sends_of l low beat (out.Act what ∷ os) ds h few r = order-sends_of l low beat os ds h few r

-- what a node sends is in order
pub order-sends : {M S : Type 0} (note : M → Note) (step : S → Input M → Deed M S) (l low : ℕ)
    (es : List (NodeEvent M)) (past : Past S)
    → AllByRecursion (λ e. low ≤ (stamp_at e).beat) es
    → AllByRecursion (λ e. (stamp_at e).beat ≤ most_beats) es
    → Rising (λ (e : NodeEvent M). (stamp_at e).beat) es
    → AreInOrder low (sends_along note step l es past)
order-sends note step l low [] past h few r = tt
order-sends note step l low (e ∷ es) past h few r =
    let next = after note step e past in
    let rest = order-sends note step l (stamp_at e).beat es next r.0 few.1 r.1 in
    order-sends_of l low (stamp_at e).beat (outs_of step e past) (sends_along note step l es next) h.0 few.0 rest
