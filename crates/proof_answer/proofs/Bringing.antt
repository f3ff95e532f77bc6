-- What a link brings up to a beat was sent below it, since each message takes a beat at least.
use Rattle.std.proofs.Common.{◌≡◌, ℕ, suc, ◌≤◌, List, [], ◌∷◌, map, filter, true, false, refl, ap, sym, ◌∙◌, arith, cond, ⊎_elim}
use Rattle.std.specs.Prelude.{nat_lt}
use Rattle.std.specs.List.{AllByRecursion}
use Rattle.std.proofs.lemmas.Bool.{cases_Bool}
use Rattle.std.proofs.lemmas.Bool.Decides.{nat_tests}
use Rattle.link_timing.specs.Clock.{Clock, IsClock, arrival_at, after_send}
use Rattle.link_timing.proofs.Arrivals.{GoesOn-from_IsClock, IsClock-after_send}
use Rattle.node_kit.specs.Life.{Lifetime}
use Rattle.run_facts.specs.Events.{Dated}
use Rattle.run_facts.specs.Paced.{Passage, passages, is_heard, brought}
use Rattle.run_facts.specs.Accounts.{AreInOrder}
use Rattle.run_facts.proofs.Rows.{all-weaker, filter-none}
use Rattle.proof_answer.proofs.Dated.{dated_below, arriving_below, order-above}
use Rattle.proof_answer.proofs.Lists.{filter-swap}

-- nothing that is sent in a beat or later arrives by that beat
passages-late : {X : Type 0} (clock : Clock) (b : ℕ) (ds : List (Dated X)) → IsClock clock
    → b ≤ clock.last_send
    → AreInOrder clock.last_send ds
    → AllByRecursion (λ (f : Passage X). nat_lt f.arrival (suc b) ≡ false) (passages clock ds)
passages-late clock b [] k l h = tt
passages-late clock b (d ∷ ds) k l h =
    let later = (GoesOn-from_IsClock clock d.beat k h.0).later in
    let rises = h.0 in
    let next = IsClock-after_send clock d.beat k h.0 h.1 in
    let rest = passages-late (after_send clock d.beat) b ds next (omega (arith, l, rises)) h.2 in
    (grind (arith, nat_tests, later, l, rises), rest)

-- what arrives up to a beat is what arrives so of the sends below it
passages-below : {X : Type 0} (clock : Clock) (b : ℕ) (ds : List (Dated X)) → IsClock clock
    → AreInOrder clock.last_send ds
    → arriving_below (suc b) (passages clock ds) ≡ arriving_below (suc b) (passages clock (dated_below b ds))
passages-below clock b [] k h = refl
passages-below {X} clock b (d ∷ ds) k h =
    let f : Passage X = record { sent = d.beat; arrival = arrival_at clock d.beat; item = d.item } in
    let next = IsClock-after_send clock d.beat k h.0 h.1 in
    ⊎_elim
    (λ (q : nat_lt d.beat b ≡ true).
    let rest = passages-below (after_send clock d.beat) b ds next h.2 in
    rw q (ap (λ (ps : List (Passage X)). cond (nat_lt f.arrival (suc b)) (f ∷ ps) ps) rest))
    (λ (q : nat_lt d.beat b ≡ false).
    let later = (GoesOn-from_IsClock clock d.beat k h.0).later in
    let high : b ≤ d.beat = grind (arith, nat_tests, q) in
    let late = all-weaker (λ (x : Dated X). d.beat ≤ x.beat) (λ x. nat_lt x.beat b ≡ false) ds
    (λ x l. grind (arith, nat_tests, l, q)) (order-above d.beat ds h.2) in
    let none_sent : dated_below b (d ∷ ds) ≡ [] =
    filter-none (λ (x : Dated X). nat_lt x.beat b) (d ∷ ds) (q, late) in
    let none_comes = filter-none (λ (x : Passage X). nat_lt x.arrival (suc b)) (passages clock (d ∷ ds))
    (grind (arith, nat_tests, later, high), passages-late (after_send clock d.beat) b ds next high h.2) in
    none_comes ∙ sym (ap (λ xs. arriving_below (suc b) (passages clock xs)) none_sent))
    (cases_Bool (nat_lt d.beat b))

brought-below : {X : Type 0} (b : ℕ) (ps : List (Passage X))
    → dated_below b (map brought ps) ≡ map brought (arriving_below b ps)
brought-below b [] = refl
brought-below b (f ∷ ps) = ⊎_elim
    (λ (q : nat_lt f.arrival b ≡ true). rw q (ap (λ ds. brought f ∷ ds) (brought-below b ps)))
    (λ (q : nat_lt f.arrival b ≡ false). rw q (brought-below b ps))
    (cases_Bool (nat_lt f.arrival b))

-- what a link brings that its receiver hears, each in the beat in which it is brought
abbrev pub heard_on : {X : Type 0} → Clock → Lifetime → ℕ → List (Dated X) → List (Dated X)
heard_on clock life beats sent = map brought (filter (is_heard life beats) (passages clock sent))

-- so it is up to a beat, if this was sent below the beat
abbrev pub heard_up_to : {X : Type 0} → Clock → Lifetime → ℕ → ℕ → List (Dated X) → List (Dated X)
heard_up_to clock life beats b sent =
    map brought (filter (is_heard life beats) (arriving_below (suc b) (passages clock sent)))

pub heard-below : {X : Type 0} (clock : Clock) (life : Lifetime) (beats b : ℕ) (sent : List (Dated X)) → IsClock clock
    → AreInOrder clock.last_send sent
    → dated_below (suc b) (heard_on clock life beats sent) ≡ heard_up_to clock life beats b (dated_below b sent)
heard-below {X} clock life beats b sent k h =
    brought-below (suc b) (filter (is_heard life beats) (passages clock sent))
    ∙ ap (map brought) (
    filter-swap (λ (f : Passage X). nat_lt f.arrival (suc b)) (is_heard life beats) (passages clock sent)
    ∙ ap (filter (is_heard life beats)) (passages-below clock b sent k h)
    )
