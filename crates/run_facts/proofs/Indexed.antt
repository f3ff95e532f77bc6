-- Lists of events as a history, in which each event has its number.
use Rattle.std.proofs.Common.{◌≡◌, ℕ, zero, suc, ◌<◌, ◌≤◌, List, [], ◌∷◌, ◌++◌, length, Bool, true}
use Rattle.std.proofs.Common.{false, Some, refl, ap, sym, ◌∙◌, subst, arith, cond, ⊎_elim, append-nil}
use Rattle.std.specs.Prelude.{slice_get, option_map, if◌then◌else◌}
use Rattle.std.specs.List.{AllByRecursion}
use Rattle.std.proofs.lemmas.Option.{none-some}
use Rattle.std.proofs.lemmas.Bool.{cases_Bool}
use Rattle.tiger_base.specs.declared.message.Note.{Note}
use Rattle.slot_plan.specs.declared.params.Params.{Params}
use Rattle.link_timing.specs.Clock.{Clock, after_send}
use Rattle.node_kit.specs.Life.{Lifetime}
use Rattle.node_kit.specs.Steps.{Input, Deed, IsAllowed}
use Rattle.node_kit.specs.Steps.Input.{Take, Tick}
use Rattle.run_facts.specs.Events.{NodeEvent, Past, Dated, opening, after, after_all, outs_of, stamp_at}
use Rattle.run_facts.specs.Events.{is_return, is_take_on, behind, AreFair, sends_of, sends_along}
use Rattle.run_facts.specs.Events.{takes_along}
use Rattle.run_facts.specs.Events.NodeEvent.{Does, Ends, Dies, Returns}
use Rattle.run_facts.specs.Histories.{past, last_of, count_of, sent, open_beat}
use Rattle.run_facts.specs.Paced.{Passage, passages}
use Rattle.run_facts.specs.Accounts.{Rising, IsTimely, open_after, IsOpen, AreCounted, event_at}
use Rattle.run_facts.specs.Accounts.{front, history_of}
use Rattle.run_facts.proofs.Along.{after_all-append, sends-append}
use Rattle.run_facts.proofs.Timelines.{open-append}

pub front-more : {M : Type 0} (i : ℕ) (es : List (NodeEvent M)) → i < length es
    → front (suc i) es ≡ front i es ++ event_at es i ∷ []
front-more i [] h = absurd (omega (arith, h))
front-more zero (e ∷ es) h = refl
front-more (suc i) (e ∷ es) h = ap (λ fs. e ∷ fs) (front-more i es (omega (arith, h)))

pub front-all : {M : Type 0} (es : List (NodeEvent M)) → front (length es) es ≡ es
front-all [] = refl
front-all (e ∷ es) = ap (λ fs. e ∷ fs) (front-all es)

pub past-front : {M S : Type 0} (note : M → Note) (step : S → Input M → Deed M S) (first : ℕ → S) (life : ℕ → Lifetime)
    (lost : ℕ → ℕ) (events : ℕ → List (NodeEvent M)) (n i : ℕ)
    → i ≤ length (events n) → past note step (history_of first life lost events) n i ≡ after_all note step
    (front i (events n)) (opening (first n) (life n))
past-front note step first life lost events n zero h = refl
past-front note step first life lost events n (suc i) h =
    ap (after note step (event_at (events n) i)) (past-front note step first life lost events n i (omega (arith, h)))
    ∙ sym (ap (λ es. after_all note step es (opening (first n) (life n))) (front-more i (events n) (omega (arith, h)))
    ∙ after_all-append note step (front i (events n)) (event_at (events n) i ∷ []) (opening (first n) (life n)))

pub last-all : {M S : Type 0} (note : M → Note) (step : S → Input M → Deed M S) (first : ℕ → S) (life : ℕ → Lifetime)
    (lost : ℕ → ℕ) (events : ℕ → List (NodeEvent M)) (n : ℕ)
    → last_of note step (history_of first life lost events) n ≡ after_all note step (events n)
    (opening (first n) (life n))
last-all note step first life lost events n =
    past-front note step first life lost events n (length (events n)) (omega arith)
    ∙ ap (λ es. after_all note step es (opening (first n) (life n))) (front-all (events n))

-- how many of the events pass a test
abbrev pub passing : {M : Type 0} → (NodeEvent M → Bool) → List (NodeEvent M) → ℕ
passing test [] = 0
passing test (e ∷ es) = if test e then suc (passing test es) else passing test es

passing-more : {M : Type 0} (test : NodeEvent M → Bool) (es : List (NodeEvent M)) (e : NodeEvent M)
    → passing test (es ++ e ∷ []) ≡ (if test e then suc (passing test es) else passing test es)
passing-more test [] e = refl
passing-more test (f ∷ es) e = ⊎_elim
    (λ (p : test f ≡ true). rw p (ap suc (passing-more test es e) ∙ moved (test e)))
    (λ (p : test f ≡ false). rw p (passing-more test es e))
    (cases_Bool (test f))
  where
    moved : (b : Bool) → suc (cond b (suc (passing test es)) (passing test es)) ≡ cond b (suc (suc (passing test es)))
        (suc (passing test es))
    moved true = refl
    moved false = refl

pub count-front : {M S : Type 0} (test : NodeEvent M → Bool) (first : ℕ → S) (life : ℕ → Lifetime) (lost : ℕ → ℕ)
    (events : ℕ → List (NodeEvent M)) (n i : ℕ)
    → i ≤ length (events n) → count_of test (history_of first life lost events) n i ≡ passing test (front i (events n))
count-front test first life lost events n zero h = refl
count-front test first life lost events n (suc i) h =
    ap (λ k. cond (test (event_at (events n) i)) (suc k) k)
    (count-front test first life lost events n i (omega (arith, h)))
    ∙ sym (passing-more test (front i (events n)) (event_at (events n) i))
    ∙ sym (ap (passing test) (front-more i (events n) (omega (arith, h))))

-- what was sent
pub sent-front : {M S : Type 0} (note : M → Note) (step : S → Input M → Deed M S) (l : ℕ) (first : ℕ → S)
    (life : ℕ → Lifetime) (lost : ℕ → ℕ) (events : ℕ → List (NodeEvent M)) (n i : ℕ)
    → i ≤ length (events n) → sent note step l (history_of first life lost events) n i ≡ sends_along note step l
    (front i (events n)) (opening (first n) (life n))
sent-front note step l first life lost events n zero h = refl
sent-front note step l first life lost events n (suc i) h =
    let e = event_at (events n) i in
    let open_n = opening (first n) (life n) in
    let low : i ≤ length (events n) = omega (arith, h) in
    ap (λ ds. ds ++ sends_of l (stamp_at e).beat
    (outs_of step e (past note step (history_of first life lost events) n i)))
    (sent-front note step l first life lost events n i low)
    ∙ ap (λ s. sends_along note step l (front i (events n)) open_n ++ sends_of l (stamp_at e).beat (outs_of step e s))
    (past-front note step first life lost events n i low)
    ∙ ap (λ ds. sends_along note step l (front i (events n)) open_n ++ ds)
    (sym (append-nil (sends_of l (stamp_at e).beat
    (outs_of step e (after_all note step (front i (events n)) open_n)))))
    ∙ sym (sends-append note step l (front i (events n)) (e ∷ []) open_n)
    ∙ sym (ap (λ es. sends_along note step l es open_n) (front-more i (events n) (omega (arith, h))))

pub sent-all : {M S : Type 0} (note : M → Note) (step : S → Input M → Deed M S) (l : ℕ) (first : ℕ → S)
    (life : ℕ → Lifetime) (lost : ℕ → ℕ) (events : ℕ → List (NodeEvent M)) (n : ℕ)
    → sent note step l (history_of first life lost events) n (length (events n)) ≡ sends_along note step l (events n)
    (opening (first n) (life n))
sent-all note step l first life lost events n =
    sent-front note step l first life lost events n (length (events n)) (omega arith)
    ∙ ap (λ es. sends_along note step l es (opening (first n) (life n))) (front-all (events n))

-- what holds of all holds of each
pub all-at : {M : Type 0} (P : NodeEvent M → Type 0) (es : List (NodeEvent M)) (i : ℕ) → i < length es
    → AllByRecursion P es → P (event_at es i)
all-at P [] i h all = absurd (omega (arith, h))
all-at P (e ∷ es) zero h all = all.0
all-at P (e ∷ es) (suc i) h all = all-at P es i (omega (arith, h)) all.1

pub rising-at : {M : Type 0} (f : NodeEvent M → ℕ) (es : List (NodeEvent M)) (j i : ℕ) → j ≤ i → i < length es
    → Rising f es → f (event_at es j) ≤ f (event_at es i)
rising-at f [] j i low h r = absurd (omega (arith, h))
rising-at f (e ∷ es) zero zero low h r = omega arith
rising-at f (e ∷ es) zero (suc i) low h r = all-at (λ x. f e ≤ f x) es i (omega (arith, h)) r.0
rising-at f (e ∷ es) (suc j) zero low h r = absurd (omega (arith, low))
rising-at f (e ∷ es) (suc j) (suc i) low h r = rising-at f es j i (omega (arith, low)) (omega (arith, h)) r.1

open-here : {M : Type 0} (t : ℕ) (e : NodeEvent M) → is_return e ≡ false → IsOpen t e → (stamp_at e).beat ≡ t
open-here t (Does i) h k = k
open-here t (Ends i sends) h k = k
open-here t (Dies stamp) h k = k
open-here t (Returns stamp) h k = absurd (cc)

pub counted-at : {M : Type 0} (t : ℕ) (es : List (NodeEvent M)) (i : ℕ) → i < length es → AreCounted t es
    → is_return (event_at es i) ≡ false
    → (stamp_at (event_at es i)).beat ≡ open_after t (front i es)
counted-at t [] i h c here = absurd (omega (arith, h))
counted-at t (e ∷ es) zero h c here = open-here t e here c.0
counted-at t (e ∷ es) (suc i) h c here = counted-at (behind e t) es i (omega (arith, h)) c.1 here

pub open-front : {M S : Type 0} (first : ℕ → S) (life : ℕ → Lifetime) (lost : ℕ → ℕ) (events : ℕ → List (NodeEvent M))
    (n i : ℕ)
    → i ≤ length (events n) → open_beat (history_of first life lost events) n i ≡ open_after 0 (front i (events n))
open-front first life lost events n zero h = refl
open-front first life lost events n (suc i) h =
    ap (behind (event_at (events n) i)) (open-front first life lost events n i (omega (arith, h)))
    ∙ sym (open-append 0 (front i (events n)) (event_at (events n) i ∷ []))
    ∙ sym (ap (open_after 0) (front-more i (events n) (omega (arith, h))))

pub open-all : {M S : Type 0} (first : ℕ → S) (life : ℕ → Lifetime) (lost : ℕ → ℕ) (events : ℕ → List (NodeEvent M))
    (n : ℕ)
    → open_beat (history_of first life lost events) n (length (events n)) ≡ open_after 0 (events n)
open-all first life lost events n =
    open-front first life lost events n (length (events n)) (omega arith) ∙ ap (open_after 0) (front-all (events n))

pub fair-at : {M S : Type 0} (note : M → Note) (step : S → Input M → Deed M S) (p : Params) (n : ℕ)
    (es : List (NodeEvent M)) (s : Past S) (i : ℕ) → i < length es → AreFair note step p n es s
    → AllByRecursion (IsAllowed note p n) (outs_of step (event_at es i) (after_all note step (front i es) s))
fair-at note step p n [] s i h f = absurd (omega (arith, h))
fair-at note step p n (e ∷ es) s zero h f = f.0
fair-at note step p n (e ∷ es) s (suc i) h f = fair-at note step p n es (after note step e s) i (omega (arith, h)) f.1

pub takes-counted : {M : Type 0} (l : ℕ) (es : List (NodeEvent M))
    → passing (is_take_on l) es ≡ length (takes_along l es)
takes-counted l [] = refl
takes-counted l (Does (Take s k m) ∷ es) = ⊎_elim
    (λ (p : is_take_on l (Does (Take s k m)) ≡ true). rw p (ap suc (takes-counted l es)))
    (λ (p : is_take_on l (Does (Take s k m)) ≡ false). rw p (takes-counted l es))
    (cases_Bool (is_take_on l (Does (Take s k m))))
takes-counted l (Does (Tick s) ∷ es) = takes-counted l es
takes-counted l (Ends (Take s k m) j ∷ es) = ⊎_elim
    (λ (p : is_take_on l (Does (Take s k m)) ≡ true). rw p (ap suc (takes-counted l es)))
    (λ (p : is_take_on l (Does (Take s k m)) ≡ false). rw p (takes-counted l es))
    (cases_Bool (is_take_on l (Does (Take s k m))))
takes-counted l (Ends (Tick s) j ∷ es) = takes-counted l es
takes-counted l (Dies s ∷ es) = takes-counted l es
takes-counted l (Returns s ∷ es) = takes-counted l es

-- a passage is of what was sent
pub passage-at : {X : Type 0} (clock : Clock) (ds : List (Dated X)) (k : ℕ) (f : Passage X)
    → slice_get (passages clock ds) k ≡ Some f
    → slice_get ds k ≡ Some (record { beat = f.sent; item = f.item })
passage-at clock [] k f h = absurd (none-some f h)
passage-at {X} clock (d ∷ ds) zero f h =
    ap (λ o. option_map (λ (g : Passage X). record { beat = g.sent; item = g.item }) o) h
passage-at clock (d ∷ ds) (suc k) f h = passage-at (after_send clock d.beat) ds k f h

pub sending-at : {X : Type 0} (clock : Clock) (ds : List (Dated X)) (k : ℕ) (d : Dated X) → slice_get ds k ≡ Some d
    → (f : Passage X) × (slice_get (passages clock ds) k ≡ Some f) × (f.sent ≡ d.beat)
sending-at clock [] k d h = absurd (none-some d h)
sending-at {X} clock (e ∷ ds) zero d h = (_, refl, (let q : e ≡ d = cc in ap (λ (x : Dated X). x.beat) q))
sending-at clock (e ∷ ds) (suc k) d h = sending-at (after_send clock e.beat) ds k d h

pub timely-at : {X : Type 0} (most : ℕ) (ps : List (Passage X)) (k : ℕ) (f : Passage X)
    → AllByRecursion (IsTimely most) ps → slice_get ps k ≡ Some f → IsTimely most f
timely-at most [] k f all h = absurd (none-some f h)
timely-at {X} most (x ∷ ps) zero f all h = let same : x ≡ f = cc in
    subst (λ (y : Passage X). IsTimely most y) same all.0
timely-at most (x ∷ ps) (suc k) f all h = timely-at most ps k f all.1 h
