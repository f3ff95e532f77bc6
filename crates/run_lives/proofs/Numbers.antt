-- The numbers of a node's events around its return, and those of the messages that it takes.
use Rattle.std.proofs.Common.{◌≡◌, ℕ, zero, suc, ◌+◌, ◌<◌, ◌≤◌, List, [], ◌∷◌, ◌++◌, length, Bool, true, false}
use Rattle.std.proofs.Common.{Some, refl, ap, ◌∙◌, cond, arith, ⊎_elim}
use Rattle.std.specs.Prelude.{slice_get, ◌==◌}
use Rattle.std.specs.List.{AllByRecursion}
use Rattle.std.proofs.lemmas.Bool.{cases_Bool, eq-eqb}
use Rattle.tiger_base.specs.declared.number.Stamp.{Stamp}
use Rattle.tiger_base.specs.declared.number.LinkNo.{LinkNo}
use Rattle.node_kit.specs.Life.{Lifetime}
use Rattle.node_kit.specs.Steps.{Input, stamp_of}
use Rattle.node_kit.specs.Steps.Input.{Take, Tick}
use Rattle.run_facts.specs.Accounts.{AreHere, event_at, front, history_of, input_in}
use Rattle.run_facts.specs.Events.{NodeEvent, Dated, stamp_at, is_return, is_input_on, is_take_on, input_on, take_on}
use Rattle.run_facts.specs.Events.{takes_along}
use Rattle.run_facts.specs.Events.NodeEvent.{Does, Ends, Dies, Returns}
use Rattle.run_facts.specs.Histories.{History, count_of, place, place_behind}
use Rattle.run_facts.proofs.Indexed.{passing, count-front, all-at}
use Rattle.run_facts.proofs.Rows.{all-append}
use Rattle.run_lives.proofs.Missing.{event-behind}

-- a front of two lists is one of the first, as far as that goes
pub front-first : {M : Type 0} (es fs : List (NodeEvent M)) (i : ℕ) → i ≤ length es
    → front i (es ++ fs) ≡ front i es
front-first es fs zero low = refl
front-first [] fs (suc i) low = absurd (omega (arith, low))
front-first (e ∷ es) fs (suc i) low = ap (λ qs. e ∷ qs) (front-first es fs i (omega (arith, low)))

pub all-front : {M : Type 0} (P : NodeEvent M → Type 0) (i : ℕ) (es : List (NodeEvent M)) → AllByRecursion P es
    → AllByRecursion P (front i es)
all-front P zero es h = tt
all-front P (suc i) [] h = tt
all-front P (suc i) (e ∷ es) h = (h.0, all-front P i es h.1)

-- what an event takes, whole or cut off
take-of : {M : Type 0} (l : ℕ) (e : NodeEvent M) (i : Input M) → input_in e ≡ Some i → take_on l e ≡ input_on l i
take-of l (Does j) i is = let same : j ≡ i = cc in ap (input_on l) same
take-of l (Ends j k) i is = let same : j ≡ i = cc in ap (input_on l) same
take-of l (Dies s) i is = absurd (cc)
take-of l (Returns s) i is = absurd (cc)

skip-input : {M : Type 0} (l : ℕ) (i : Input M) (ds : List (Dated M)) (k : ℕ)
    → slice_get (input_on l i ++ ds) (cond (is_input_on l i) (suc k) k) ≡ slice_get ds k
skip-input l (Take s link msg) ds k = ⊎_elim
    (λ (q : (link.0 == l) ≡ true). rw q refl)
    (λ (q : (link.0 == l) ≡ false). rw q refl)
    (cases_Bool (link.0 == l))
skip-input l (Tick s) ds k = refl

skip-one : {M : Type 0} (l : ℕ) (e : NodeEvent M) (ds : List (Dated M)) (k : ℕ)
    → slice_get (take_on l e ++ ds) (cond (is_take_on l e) (suc k) k) ≡ slice_get ds k
skip-one l (Does i) ds k = skip-input l i ds k
skip-one l (Ends i j) ds k = skip-input l i ds k
skip-one l (Dies s) ds k = refl
skip-one l (Returns s) ds k = refl

-- the message that an event takes is the one of its number
pub got-at : {M : Type 0} (l : ℕ) (es : List (NodeEvent M)) (i : ℕ) (stamp : Stamp) (link : LinkNo) (msg : M)
    → i < length es → link.0 ≡ l → input_in (event_at es i) ≡ Some (Take stamp link msg)
    → slice_get (takes_along l es) (passing (is_take_on l) (front i es)) ≡ Some
    (record { beat = stamp.beat; item = msg })
got-at l [] i stamp link msg low same is = absurd (omega (arith, low))
got-at {M} l (e ∷ es) zero stamp link msg low same is =
    let one : Dated M = record { beat = stamp.beat; item = msg } in
    ap (λ ds. slice_get (ds ++ takes_along l es) 0) (take-of l e (Take stamp link msg) is)
    ∙ ap (λ b. slice_get (cond b (one ∷ []) [] ++ takes_along l es) 0) (eq-eqb link.0 l same)
got-at l (e ∷ es) (suc i) stamp link msg low same is =
    skip-one l e (takes_along l es) (passing (is_take_on l) (front i es))
    ∙ got-at l es i stamp link msg (omega (arith, low)) same is

-- what is taken has the beats of the events that take it
input-dated : {M : Type 0} (P : ℕ → Type 0) (l : ℕ) (i : Input M) → P (stamp_of i).beat
    → AllByRecursion (λ (d : Dated M). P d.beat) (input_on l i)
input-dated P l (Take s link msg) h = ⊎_elim
    (λ (q : (link.0 == l) ≡ true). rw q (h, tt))
    (λ (q : (link.0 == l) ≡ false). rw q tt)
    (cases_Bool (link.0 == l))
input-dated P l (Tick s) h = tt

take-dated : {M : Type 0} (P : ℕ → Type 0) (l : ℕ) (e : NodeEvent M) → P (stamp_at e).beat
    → AllByRecursion (λ (d : Dated M). P d.beat) (take_on l e)
take-dated P l (Does i) h = input-dated P l i h
take-dated P l (Ends i k) h = input-dated P l i h
take-dated P l (Dies s) h = tt
take-dated P l (Returns s) h = tt

pub takes-dated : {M : Type 0} (P : ℕ → Type 0) (l : ℕ) (es : List (NodeEvent M))
    → AllByRecursion (λ e. P (stamp_at e).beat) es → AllByRecursion (λ (d : Dated M). P d.beat) (takes_along l es)
takes-dated P l [] h = tt
takes-dated {M} P l (e ∷ es) h = all-append (λ (d : Dated M). P d.beat) (take_on l e) (takes_along l es)
    (take-dated P l e h.0) (takes-dated P l es h.1)

-- the number of a message that is taken behind the return: those that the return lost, and those taken since
place-one : {M : Type 0} (l before k : ℕ) (e : NodeEvent M) → is_return e ≡ false
    → place_behind l before e k ≡ cond (is_take_on l e) (suc k) k
place-one l before k e here = rw here refl

more-by : (t : Bool) (a b : ℕ) → cond t (suc (a + b)) (a + b) ≡ a + cond t (suc b) b
more-by true a b = omega arith
more-by false a b = refl

module _ {M S : Type 0} (first : ℕ → S) (life : ℕ → Lifetime) (lost : ℕ → ℕ) (events : ℕ → List (NodeEvent M))
    (n : ℕ) (one rest : List (NodeEvent M)) (s : Stamp) (parts : events n ≡ one ++ Returns s ∷ rest)
    (here : AreHere rest) where
  abbrev its_history : History M S
  its_history = history_of first life lost events

  abbrev rest_alone : History M S
  rest_alone = history_of first life lost (λ k. rest)

  return-at : event_at (events n) (length one) ≡ Returns s
  return-at =
      let q : length one ≡ length one + 0 = omega arith in
      ap (λ es. event_at es (length one)) parts ∙ ap (event_at (one ++ Returns s ∷ rest)) q
      ∙ event-behind one (Returns s ∷ rest) 0

  pub rest-at : (j : ℕ) → event_at (events n) (length one + 1 + j) ≡ event_at rest j
  rest-at j =
      let q : length one + 1 + j ≡ length one + suc j = omega arith in
      ap (λ es. event_at es (length one + 1 + j)) parts ∙ ap (event_at (one ++ Returns s ∷ rest)) q
      ∙ event-behind one (Returns s ∷ rest) (suc j)

  place-since : (l j k : ℕ) → k ≡ length one + 1 + j → j ≤ length rest
      → place l its_history n k ≡ lost l + count_of (is_take_on l) rest_alone n j
  place-since l zero k at low =
      let q : k ≡ suc (length one) = omega (arith, at) in
      let none : lost l ≡ lost l + 0 = omega arith in
      ap (place l its_history n) q
      ∙ ap (λ e. place_behind l (lost l) e (place l its_history n (length one))) return-at ∙ none
  place-since l (suc j) k at low =
      let q : k ≡ suc (length one + 1 + j) = omega (arith, at) in
      let before = place-since l j (length one + 1 + j) refl (omega (arith, low)) in
      let up : is_return (event_at rest j) ≡ false = all-at (λ e. is_return e ≡ false) rest j (omega
      (arith, low)) here in
      let t = is_take_on l (event_at rest j) in
      let c = count_of (is_take_on l) rest_alone n j in
      ap (place l its_history n) q
      ∙ ap (λ e. place_behind l (lost l) e (place l its_history n (length one + 1 + j))) (rest-at j)
      ∙ ap (place_behind l (lost l) (event_at rest j)) before
      ∙ place-one l (lost l) (lost l + c) (event_at rest j) up ∙ more-by t (lost l) c

  pub place-again : (l j : ℕ) → j ≤ length rest
      → place l its_history n (length one + 1 + j) ≡ lost l + passing (is_take_on l) (front j rest)
  place-again l j low = place-since l j (length one + 1 + j) refl low
      ∙ ap (λ c. lost l + c) (count-front (is_take_on l) first life lost (λ k. rest) n j low)
