-- Reading the items of an array one after the other, as a loop does.
use Rattle.std.proofs.Common.{◌≡◌, ℕ, suc, ◌+◌, ◌≤◌, ◌<◌, List, [], ◌∷◌, ◌++◌, length, map, drop, get_or, Option, Some, None, Result, Ok, Err, sym, ap, ◌∙◌, add-one, drop-cons}
use Rattle.std.proofs.lemmas.List.{at_drop_all}
use Rattle.serde_json.specs.Data.{Data}
use Rattle.serde_json.specs.View.{view}
use Rattle.serde_json.specs.declared.value.Value.{Value}
use Rattle.scenario_read.specs.declared.stop.ScenarioFault.{ScenarioFault}
use Rattle.scenario_read.specs.declared.stop.ReadStop.{ReadStop}
use Rattle.scenario_read.specs.declared.stop.ReadStop.TheVariants as stops
use Rattle.scenario_read.specs.Fault.{◌>>=◌, Stops, broken, found}
use Rattle.scenario_read.specs.Items.{items_after}

-- the items so far with the values from an index on mean what all values mean
pub record GoesOn {X : Type 0} (rule : ℕ) (next : List X → Data → Option X) (front : List X) (values : List Value) (index : ℕ) : Type 0 where
  pub same : items_after rule next front (map view (drop index values)) ≡ items_after rule next [] (map view values)

split : (vs : List Value) (i : ℕ) (v : Value) → i < length vs → v ≡ get_or vs i v → drop i vs ≡ v ∷ drop (i + 1) vs
split vs i v lt is = rw (add-one, drop-cons vs i v) (ap (λ (w : Value). w ∷ drop (suc i) vs) (sym is))

one_turn : {X : Type 0} (rule : ℕ) (next : List X → Data → Option X) (front : List X) (vs : List Value) (i : ℕ) (v : Value) → i < length vs → v ≡ get_or vs i v
    → GoesOn rule next front vs i
    → (found (next front (view v)) (broken rule (length front)) >>= λ x. items_after rule next (front ++ x ∷ []) (map view (drop (i + 1) vs))) ≡ items_after rule next [] (map view vs)
unfolding items_after
one_turn rule next front vs i v lt is so_far = sym (ap (λ (ws : List Value). items_after rule next front (map view ws)) (split vs i v lt is)) ∙ so_far.same

pub GoesOn-more : {X : Type 0} (rule : ℕ) (next : List X → Data → Option X) (front : List X) (vs : List Value) (i : ℕ) (v : Value) (x : X) → i < length vs → v ≡ get_or vs i v
    → next front (view v) ≡ Some x → GoesOn rule next front vs i → GoesOn rule next (front ++ x ∷ []) vs (i + 1)
GoesOn-more {X = X} rule next front vs i v x lt is e so_far =
    record { same = sym (ap (λ (o : Option X). found o (broken rule (length front)) >>= λ y. items_after rule next (front ++ y ∷ []) (map view (drop (i + 1) vs))) e) ∙ one_turn rule next front vs i v lt is so_far }

-- the refusal of the item of this index
abbrev refused : {X : Type 0} → ℕ → ℕ → Result (List X) ScenarioFault
refused rule k = Err (broken rule k)

pub GoesOn-fault : {X : Type 0} (rule : ℕ) (next : List X → Data → Option X) (front : List X) (vs : List Value) (i : ℕ) (v : Value) (n : ℕ) → n ≡ length front → i < length vs → v ≡ get_or vs i v
    → next front (view v) ≡ None → GoesOn rule next front vs i → items_after rule next [] (map view vs) ≡ Err (broken rule n)
GoesOn-fault {X = X} rule next front vs i v n count lt is e so_far =
    sym (one_turn rule next front vs i v lt is so_far) ∙ ap (λ (o : Option X). found o (broken rule (length front)) >>= λ y. items_after rule next (front ++ y ∷ []) (map view (drop (i + 1) vs))) e
    ∙ ap (refused {X = X} rule) (sym count)

-- the reader of an item stopped as the item means
pub GoesOn-stop : {X : Type 0} (rule : ℕ) (next : List X → Data → Option X) (front : List X) (vs : List Value) (i : ℕ) (v : Value) (stop : ReadStop) (n : ℕ) → n ≡ length front → i < length vs → v ≡ get_or vs i v
    → Stops stop (found (next front (view v)) (broken rule n)) → GoesOn rule next front vs i → Stops stop (items_after rule next [] (map view vs))
GoesOn-stop {X = X} rule next front vs i v (stops.Fault fault) n count lt is e so_far =
    sym (one_turn rule next front vs i v lt is so_far)
    ∙ ap (λ (k : ℕ). found (next front (view v)) (broken rule k) >>= λ y. items_after rule next (front ++ y ∷ []) (map view (drop (i + 1) vs))) (sym count)
    ∙ ap (λ (r : Result X ScenarioFault). r >>= λ y. items_after rule next (front ++ y ∷ []) (map view (drop (i + 1) vs))) e
GoesOn-stop rule next front vs i v stops.NoMemory n count lt is e so_far = tt

pub GoesOn-all : {X : Type 0} (rule : ℕ) (next : List X → Data → Option X) (front : List X) (vs : List Value) (i : ℕ) → length vs ≤ i → GoesOn rule next front vs i
    → items_after rule next [] (map view vs) ≡ Ok front
unfolding items_after
GoesOn-all rule next front vs i le so_far = sym so_far.same ∙ at_drop_all (λ (ws : List Value). items_after rule next front (map view ws)) vs i le
