-- What holds of the events that were read.
use Rattle.std.proofs.Common.{◌≡◌, ℕ, zero, suc, ◌+◌, ◌*◌, ◌-◌, ◌/◌, ◌≤◌, ◌<◌, max, Bool, true, false, cond, nat_le, nat_lt, List, [], ◌∷◌, ◌++◌, length, add-one, take, get_or, Option, Some, None, option_and_then, option_map, codes, Result, Ok, Err, refl, subst, sym, ap, ◌∙◌, arith}
use Rattle.std.specs.Prelude.{slice_get, ⊤}
use Rattle.std.specs.List.{All}
use Rattle.std.specs.List.Sorted.{IsNonDecreasingBy}
use Rattle.std.proofs.lemmas.Bool.{leb-true, ltb-true, le-leb, lt-leb}
use Rattle.std.proofs.lemmas.Option.{same_Some}
use Rattle.std.proofs.lemmas.List.Elements.{All-nil, All-push}
use Rattle.std.proofs.lemmas.List.Sums.{sum_by-cons, sum_by_push}
use Rattle.std.proofs.lemmas.List.Sorted.{IsNonDecreasingBy-short, IsNonDecreasingBy-push}
use Rattle.serde_json.specs.Data.{Data}
use Rattle.serde_json.specs.Find.{get}
use Rattle.slot_plan.specs.declared.params.Params.{Params}
use Rattle.slot_plan.specs.Times.{time_of}
use Rattle.scenario_read.specs.declared.stop.ScenarioFault.{ScenarioFault}
use Rattle.scenario_read.specs.declared.scenario.ScEvent.{ScEvent}
use Rattle.scenario_read.specs.declared.scenario.ScEvent.TheVariants.{Begin, Finish}
use Rattle.scenario_read.specs.Fault.{broken, exceeded, found}
use Rattle.json_look.specs.Json.{below_at, has_only, is_one_of}
use Rattle.scenario_read.specs.Items.{items_of}
use Rattle.scenario_read.specs.Events.{beat_of, is_start, starts_in, latest_beat, beat_from, start_in, stop_in, event_in, event_after, events_of, most_blocks, few_blocks}
use Rattle.scenario_read.specs.Sound.{StartsWithin, AreEvents}
use Rattle.json_look.proofs.Inversions.{then-some, tested-some, below_at-range}
use Rattle.scenario_read.proofs.Inversions.{bind-ok, keeps-ok}
use Rattle.scenario_read.proofs.ItemFacts.{items_of-read}

pub starts_in-cons : (e : ScEvent) (es : List ScEvent) → starts_in (e ∷ es) ≡ cond (is_start e) 1 0 + starts_in es
starts_in-cons e es = sum_by-cons (λ (x : ScEvent). cond (is_start x) 1 0) e es

pub starts_in-take_cons : (e : ScEvent) (es : List ScEvent) (k : ℕ) → starts_in (take (suc k) (e ∷ es)) ≡ cond (is_start e) 1 0 + starts_in (take k es)
starts_in-take_cons e es k = starts_in-cons e (take k es)

pub starts_in-one : (e : ScEvent) → starts_in (e ∷ []) ≡ cond (is_start e) 1 0
starts_in-one e = let f = starts_in-cons e [] in omega arith

pub starts_in-push : (es : List ScEvent) (e : ScEvent) → starts_in (es ++ e ∷ []) ≡ starts_in es + starts_in (e ∷ [])
starts_in-push es e = omega (arith, sum_by_push (λ (x : ScEvent). cond (is_start x) 1 0) es e, starts_in-one e)

pub latest_beat-push : (es : List ScEvent) (e : ScEvent) → latest_beat (es ++ e ∷ []) ≡ max (latest_beat es) (beat_of e)
latest_beat-push [] e = omega arith
latest_beat-push (x ∷ es) e = omega (arith, latest_beat-push es e)

-- no beat is above the latest
latest_beat-above : (es : List ScEvent) (k : ℕ) (d : ScEvent) → k < length es → beat_of (get_or es k d) ≤ latest_beat es
latest_beat-above [] k d lt = absurd (omega arith)
latest_beat-above (e ∷ es) zero d lt = omega arith
latest_beat-above (e ∷ es) (suc k) d lt = omega (arith, latest_beat-above es k d (omega arith))

-- each stop is of one of the starts in front of it, where so many more stand before all
abbrev pub StopStarted : ℕ → ScEvent → Type 0
StopStarted starts (Begin beat file) = Unit {0}
StopStarted starts (Finish beat instance) = instance.0 < starts

abbrev pub StopsStarted : ℕ → List ScEvent → Type 0
StopsStarted starts [] = Unit {0}
StopsStarted starts (e ∷ es) = StopStarted starts e × StopsStarted (starts + starts_in (e ∷ [])) es

stop_along : (a b : ℕ) (e : ScEvent) → a ≡ b → StopStarted a e → StopStarted b e
stop_along a b e same h = subst (λ (n : ℕ). StopStarted n e) same h

StopsStarted-push : (starts : ℕ) (es : List ScEvent) (e : ScEvent) → StopsStarted starts es → StopStarted (starts + starts_in es) e → StopsStarted starts (es ++ e ∷ [])
StopsStarted-push starts [] e all h = (stop_along (starts + 0) starts e (omega arith) h, tt)
StopsStarted-push starts (x ∷ es) e all h =
    (all.0, StopsStarted-push (starts + starts_in (x ∷ [])) es e all.1 (stop_along (starts + starts_in (x ∷ es)) (starts + starts_in (x ∷ []) + starts_in es) e (omega (arith, starts_in-cons x es, starts_in-one x)) h))

pub StopsStarted-at : (starts : ℕ) (es : List ScEvent) (k beat v : ℕ) → StopsStarted starts es → slice_get es k ≡ Some (Finish beat (record { 0 = v })) → v < starts + starts_in (take k es)
StopsStarted-at starts [] k beat v all e = absurd (cc)
StopsStarted-at starts (x ∷ es) zero beat v all e =
    let h : StopStarted starts (Finish beat (record { 0 = v })) = subst (StopStarted starts) (same_Some x (Finish beat (record { 0 = v })) e) all.0 in
    omega arith
StopsStarted-at starts (x ∷ es) (suc k) beat v all e = omega (arith, StopsStarted-at (starts + starts_in (x ∷ [])) es k beat v all.1 e, starts_in-take_cons x es k, starts_in-one x)

-- what is read of events one by one
pub record AreEventsSoFar (beats files : ℕ) (events : List ScEvent) : Type 0 where
  pub early : All (λ e. beat_of e < beats) events
  pub in_order : IsNonDecreasingBy beat_of events
  pub within : All (StartsWithin files) events
  pub started : StopsStarted 0 events
  pub few_starts : starts_in events ≤ 2000

-- an event that may stand behind others, by their latest beat and their starts
pub record IsNextEvent (beats files latest starts : ℕ) (e : ScEvent) : Type 0 where
  pub early : beat_of e < beats
  pub rises : latest ≤ beat_of e
  pub within : StartsWithin files e
  pub started : StopStarted starts e
  pub few : starts ≤ 2000 → starts + starts_in (e ∷ []) ≤ 2000

beat_from-range : (beats latest : ℕ) (d : Data) (beat : ℕ) → beat_from beats latest d ≡ Some beat → (beat < beats) × (latest ≤ beat)
unfolding beat_from
beat_from-range beats latest d beat e =
    let a = then-some (λ (k : ℕ). cond (nat_le latest k) (Some k) None) (below_at (codes "beat") beats d) beat e in
    let b = tested-some (nat_le latest a.0) (Some a.0) beat a.2 in
    subst (λ (k : ℕ). (k < beats) × (latest ≤ k)) (same_Some a.0 beat b.1) (below_at-range (codes "beat") beats d a.0 a.1, leb-true latest a.0 b.0)

-- a start by its parts
start-next : (few : Bool) (beats files latest starts : ℕ) (beat file : Option ℕ) (e : ScEvent)
    → (few ≡ true → starts < 2000) → ((b : ℕ) → beat ≡ Some b → (b < beats) × (latest ≤ b)) → ((f : ℕ) → file ≡ Some f → f < files)
    → cond few (option_and_then (λ b. option_map (λ f. Begin b (record { 0 = f })) file) beat) None ≡ Some e → IsNextEvent beats files latest starts e
start-next true beats files latest starts (Some b) (Some f) e fewer early within g =
    let room : starts < 2000 = fewer refl in
    subst (IsNextEvent beats files latest starts) (same_Some (Begin b (record { 0 = f })) e g)
    (record { early = (early b refl).0; rises = (early b refl).1; within = within f refl; started = tt; few = λ most. omega arith })
start-next true beats files latest starts (Some b) None e fewer early within g = absurd (cc)
start-next true beats files latest starts None file e fewer early within g = absurd (cc)
start-next false beats files latest starts beat file e fewer early within g = absurd (cc)

-- a stop by its parts
stop-next : (beats files latest starts : ℕ) (beat instance : Option ℕ) (e : ScEvent)
    → ((b : ℕ) → beat ≡ Some b → (b < beats) × (latest ≤ b)) → ((v : ℕ) → instance ≡ Some v → v < starts)
    → option_and_then (λ b. option_map (λ v. Finish b (record { 0 = v })) instance) beat ≡ Some e → IsNextEvent beats files latest starts e
stop-next beats files latest starts (Some b) (Some v) e early started g =
    subst (IsNextEvent beats files latest starts) (same_Some (Finish b (record { 0 = v })) e g)
    (record { early = (early b refl).0; rises = (early b refl).1; within = tt; started = started v refl; few = λ most. omega arith })
stop-next beats files latest starts (Some b) None e early started g = absurd (cc)
stop-next beats files latest starts None instance e early started g = absurd (cc)

start_in-next : (beats files latest starts : ℕ) (d : Data) (e : ScEvent) → start_in beats files latest starts d ≡ Some e → IsNextEvent beats files latest starts e
unfolding start_in
start_in-next beats files latest starts d e g =
    start-next (nat_lt starts 2000) beats files latest starts (beat_from beats latest d) (below_at (codes "start") files d) e
    (ltb-true starts 2000) (λ b. beat_from-range beats latest d b) (λ f. below_at-range (codes "start") files d f) g

stop_in-next : (beats files latest starts : ℕ) (d : Data) (e : ScEvent) → stop_in beats latest starts d ≡ Some e → IsNextEvent beats files latest starts e
unfolding stop_in
stop_in-next beats files latest starts d e g =
    stop-next beats files latest starts (beat_from beats latest d) (below_at (codes "stop") starts d) e
    (λ b. beat_from-range beats latest d b) (λ v. below_at-range (codes "stop") starts d v) g

-- a value of one of two kinds
one_of_two : {A : Type 0} (P : A → Type 0) (b c : Bool) (o p : Option A) (y : A) → (o ≡ Some y → P y) → (p ≡ Some y → P y) → cond b o (cond c p None) ≡ Some y → P y
one_of_two P true c o p y first second e = first e
one_of_two P false true o p y first second e = second e
one_of_two P false false o p y first second e = absurd (cc)

event_in-next : (beats files latest starts : ℕ) (d : Data) (e : ScEvent) → event_in beats files latest starts d ≡ Some e → IsNextEvent beats files latest starts e
unfolding event_in
event_in-next beats files latest starts d e g =
    one_of_two (IsNextEvent beats files latest starts) (has_only (is_one_of (codes "beat" ∷ codes "start" ∷ [])) d) (has_only (is_one_of (codes "beat" ∷ codes "stop" ∷ [])) d)
    (start_in beats files latest starts d) (stop_in beats latest starts d) e
    (start_in-next beats files latest starts d e) (stop_in-next beats files latest starts d e) g

event_after-keeps : (beats files : ℕ) (front : List ScEvent) (d : Data) (e : ScEvent) → AreEventsSoFar beats files front → event_after beats files front d ≡ Some e → AreEventsSoFar beats files (front ++ e ∷ [])
event_after-keeps beats files front d e h g =
    let n = event_in-next beats files (latest_beat front) (starts_in front) d e g in
    let sum = starts_in-push front e in
    let room : starts_in front + starts_in (e ∷ []) ≤ 2000 = n.few h.few_starts in
    record {
      early = All-push (λ x. beat_of x < beats) front e h.early n.early;
      in_order = IsNonDecreasingBy-push beat_of front e h.in_order (λ x some. omega (arith, n.rises, latest_beat-above front (length front - 1) x (omega arith)));
      within = All-push (StartsWithin files) front e h.within n.within;
      started = StopsStarted-push 0 front e h.started (stop_along (starts_in front) (0 + starts_in front) e (omega arith) n.started);
      few_starts = omega (arith, sum, room);
    }

pub events_of-sound : (beats files : ℕ) (d : Data) (events : List ScEvent) → events_of beats files d ≡ Ok events → AreEvents beats files events
unfolding events_of
events_of-sound beats files d events e =
    let a = bind-ok (found (get (codes "events") d) (broken 9 4000)) (items_of 9 0 4000 4000 (event_after beats files)) events e in
    let none : AreEventsSoFar beats files [] = record {
      early = All-nil (λ (x : ScEvent). beat_of x < beats);
      in_order = IsNonDecreasingBy-short beat_of [] (omega arith);
      within = All-nil (StartsWithin files);
      started = tt;
      few_starts = omega arith;
    } in
    let r = items_of-read 9 0 4000 4000 (event_after beats files) (AreEventsSoFar beats files) a.0 events (event_after-keeps beats files) none a.2 in
    record {
      few = r.high;
      early = r.kept.early;
      in_order = r.kept.in_order;
      within = r.kept.within;
      started = λ k beat v at. omega (arith, StopsStarted-at 0 events k beat v r.kept.started at);
      few_starts = r.kept.few_starts;
    }

pub few_blocks-sound : (p : Params) (beats starts : ℕ) (t : ⊤) → few_blocks p beats starts ≡ Ok t → most_blocks p beats starts ≤ 400000
unfolding few_blocks
few_blocks-sound p beats starts t e =
    leb-true (most_blocks p beats starts) 400000 (keeps-ok (nat_le (most_blocks p beats starts) 400000) (exceeded 10 (most_blocks p beats starts) 400000) t e)

-- an event behind a front, by the front's latest beat and its starts
pub event_in-along : (beats files latest starts : ℕ) (front : List ScEvent) (d : Data) (o : Option ScEvent) → latest ≡ latest_beat front → starts ≡ starts_in front
    → event_in beats files latest starts d ≡ o → event_after beats files front d ≡ o
event_in-along beats files latest starts front d o e f g =
    sym (ap (λ (l : ℕ). event_in beats files l starts d) e ∙ ap (λ (s : ℕ). event_in beats files (latest_beat front) s d) f) ∙ g

starts_in-take : (es : List ScEvent) (i : ℕ) (d : ScEvent) → i < length es → starts_in (take (suc i) es) ≡ starts_in (take i es) + starts_in (get_or es i d ∷ [])
starts_in-take [] i d lt = absurd (omega arith)
starts_in-take (x ∷ es) zero d lt = omega (arith, starts_in-take_cons x es 0, starts_in-one x)
starts_in-take (x ∷ es) (suc i) d lt = let rest = starts_in-take es i d (omega arith) in omega (arith, rest, starts_in-take_cons x es (suc i), starts_in-take_cons x es i)

-- one more event is counted
pub starts_in-more : (es : List ScEvent) (i n m : ℕ) (d : ScEvent) → i < length es → n ≡ starts_in (take i es) → m ≡ n + starts_in (get_or es i d ∷ []) → m ≡ starts_in (take (i + 1) es)
starts_in-more es i n m d lt so_far more = rw add-one (omega (arith, starts_in-take es i d lt))

abbrev too_many : ℕ → Result ⊤ ScenarioFault
too_many blocks = Err (exceeded 10 blocks 400000)

-- the test of the blocks by another count of the starts
pub few_blocks-kept : (p : Params) (beats starts n : ℕ) → n ≡ starts → n * (beats * p.beat / p.play + 1) ≤ 400000 → few_blocks p beats starts ≡ Ok tt
unfolding few_blocks most_blocks time_of
few_blocks-kept p beats starts n same le =
    let few : starts * (beats * p.beat / p.play + 1) ≤ 400000 = subst (λ (k : ℕ). k * (beats * p.beat / p.play + 1) ≤ 400000) same le in
    rw (le-leb (starts * (beats * p.beat / p.play + 1)) 400000 few) refl

pub few_blocks-broken : (p : Params) (beats starts n : ℕ) → n ≡ starts → 400000 < n * (beats * p.beat / p.play + 1) → few_blocks p beats starts ≡ Err (exceeded 10 (n * (beats * p.beat / p.play + 1)) 400000)
unfolding few_blocks most_blocks time_of
few_blocks-broken p beats starts n same more =
    let many : 400000 < starts * (beats * p.beat / p.play + 1) = subst (λ (k : ℕ). 400000 < k * (beats * p.beat / p.play + 1)) same more in
    rw (lt-leb (starts * (beats * p.beat / p.play + 1)) 400000 many) (ap (λ (k : ℕ). too_many (k * (beats * p.beat / p.play + 1))) (sym same))
