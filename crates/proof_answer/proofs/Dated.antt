-- Lists with dates: what of them lies below a beat, and that sends are in order.
use Rattle.std.proofs.Common.{ℕ, ◌≤◌, List, [], ◌∷◌, filter, arith}
use Rattle.std.specs.Prelude.{nat_lt}
use Rattle.std.specs.List.{AllByRecursion}
use Rattle.run_facts.specs.Events.{NodeEvent, Dated, stamp_at}
use Rattle.run_facts.specs.Paced.{Passage}
use Rattle.run_facts.specs.Accounts.{AreInOrder}
use Rattle.run_facts.proofs.Rows.{all-weaker}

-- the events of the beats below one, what is sent or taken in them, and what arrives in them
abbrev pub events_below : {M : Type 0} → ℕ → List (NodeEvent M) → List (NodeEvent M)
events_below b es = filter (λ e. nat_lt (stamp_at e).beat b) es

abbrev pub dated_below : {X : Type 0} → ℕ → List (Dated X) → List (Dated X)
dated_below b ds = filter (λ d. nat_lt d.beat b) ds

abbrev pub arriving_below : {X : Type 0} → ℕ → List (Passage X) → List (Passage X)
arriving_below b ps = filter (λ f. nat_lt f.arrival b) ps

-- sends in order from a beat on are so from each lower one on, and none lies below it
pub order-lower : {X : Type 0} (low high : ℕ) (ds : List (Dated X)) → low ≤ high → AreInOrder high ds
    → AreInOrder low ds
order-lower low high [] l h = tt
order-lower low high (d ∷ ds) l h = (let q = h.0 in omega (arith, l, q), h.1, h.2)

pub order-above : {X : Type 0} (low : ℕ) (ds : List (Dated X)) → AreInOrder low ds
    → AllByRecursion (λ (d : Dated X). low ≤ d.beat) ds
order-above low [] h = tt
order-above {X} low (d ∷ ds) h =
    let q = h.0 in
    let rest = order-above d.beat ds h.2 in
    (q, all-weaker (λ (x : Dated X). d.beat ≤ x.beat) (λ x. low ≤ x.beat) ds (λ x l. omega (arith, l, q)) rest)
