-- What a runner hands over: the events of each node, beat for beat, and what was sent and brought on each link.
use Rattle.std.specs.Prelude.{◌≡◌, ℕ, zero, suc, ◌+◌, ◌<◌, ◌≤◌, List, [], ◌∷◌, ◌++◌, filter, true, false, Bool, ◌&&◌}
use Rattle.std.specs.Prelude.{Option, Some, None, length, nat_le, if◌then◌else◌}
use Rattle.std.specs.List.{AllByRecursion}
use Rattle.tiger_base.specs.Limits.{most_beats}
use Rattle.link_timing.specs.Clock.{Clock, IsClock, after_send}
use Rattle.node_kit.specs.Life.{Lifetime, acts, hears, dies, returns, ends_in}
use Rattle.run_facts.specs.Events.{Dated, NodeEvent, Past, after, event_of, behind, stamp_at, is_tick, is_death}
use Rattle.run_facts.specs.Events.{is_return, IsCutUpTo, AreFair, opening, sends_along, takes_along}
use Rattle.run_facts.specs.Paced.{Passage, passages, AreGot}
use Rattle.tiger_base.specs.declared.message.Note.{Note}
use Rattle.run_facts.specs.Timed.{death_within}
use Rattle.tiger_base.specs.declared.number.Stamp.{Stamp}
use Rattle.slot_plan.specs.declared.params.Params.{Params}
use Rattle.node_kit.specs.Links.{IsInLink, links_of, ends_of}
use Rattle.node_kit.specs.Steps.{stamp_of, Input, Deed}
use Rattle.node_kit.specs.Steps.Input.{Take, Tick}
use Rattle.run_facts.specs.Events.NodeEvent.{Does, Ends, Dies, Returns}
use Rattle.slot_plan.specs.Times.{time_of}
use Rattle.run_facts.specs.Histories.{History, below}

-- the event of a number, and the events before it
abbrev pub event_at : {M : Type 0} → List (NodeEvent M) → ℕ → NodeEvent M
event_at [] i = Dies (record { beat = 0; reading = 0 })
event_at (e ∷ es) zero = e
event_at (e ∷ es) (suc i) = event_at es i

abbrev pub front : {M : Type 0} → ℕ → List (NodeEvent M) → List (NodeEvent M)
front zero es = []
front (suc i) [] = []
front (suc i) (e ∷ es) = e ∷ front i es

-- in one of these events a message is taken on link l or on a lower one, and the node's death comes
abbrev pub HasCutIn : {M : Type 0} → ℕ → List (NodeEvent M) → Type 0
HasCutIn l es = (i : ℕ) × (i < length es) × IsCutUpTo l (event_at es i)

-- no key is below one before it
abbrev pub Rising : {X : Type 0} → (X → ℕ) → List X → Type 0
Rising f [] = Unit {0}
Rising f (x ∷ xs) = AllByRecursion (λ y. f x ≤ f y) xs × Rising f xs

-- the clock after sends
abbrev pub clock_after : {X : Type 0} → Clock → List (Dated X) → Clock
clock_after clock [] = clock
clock_after clock (s ∷ ss) = clock_after (after_send clock s.beat) ss

-- from one beat to the greatest delay under way
abbrev pub IsTimely : {X : Type 0} → ℕ → Passage X → Type 0
IsTimely most f = (f.sent < f.arrival) × (f.arrival ≤ f.sent + most)

-- a receiver that acts in the beat hears it
abbrev pub is_caught : {X : Type 0} → Lifetime → Passage X → Bool
is_caught life f = acts life f.arrival && hears life f.sent f.arrival

-- what was sent and what was got on a link, whose clock and what is under way stand so, if all of the beats below one
-- was brought, and the receiver missed only what its death came before
pub record OnLink {X : Type 0} (life : Lifetime) (CameBefore : Type 0) (most : ℕ) (start : Clock)
    (sent got : List (Dated X))
    (clock : Clock) (flights : List (Passage X)) (next : ℕ) : Type 0 where
  pub clocked : clock ≡ clock_after start sent
  pub is_clock : IsClock clock
  pub same_most : clock.most ≡ most
  pub timely : AllByRecursion (IsTimely most) (passages start sent)
  pub rising : Rising (λ (f : Passage X). f.arrival) (passages start sent)
  pub capped : AllByRecursion (λ (f : Passage X). f.arrival ≤ clock.last_arrival) (passages start sent)
  pub gone : List (Passage X)
  pub split : passages start sent ≡ gone ++ flights
  pub got_is : AreGot life CameBefore (filter (is_caught life) gone) got
  pub behind : AllByRecursion (λ (f : Passage X). f.arrival < next) gone
  pub ahead : AllByRecursion (λ (f : Passage X). next ≤ f.arrival) flights

-- what has arrived by a beat, and what is under way still
abbrev pub arriving : {X : Type 0} → ℕ → List (Passage X) → List (Passage X)
arriving beat [] = []
arriving beat (f ∷ fs) = if nat_le f.arrival beat then f ∷ arriving beat fs else []

abbrev pub waiting : {X : Type 0} → ℕ → List (Passage X) → List (Passage X)
waiting beat [] = []
waiting beat (f ∷ fs) = if nat_le f.arrival beat then waiting beat fs else f ∷ fs

-- sends in beats that never fall
abbrev pub AreInOrder : {X : Type 0} → ℕ → List (Dated X) → Type 0
AreInOrder low [] = Unit {0}
AreInOrder low (s ∷ ss) = (low ≤ s.beat) × (s.beat ≤ most_beats) × AreInOrder s.beat ss

abbrev pub tick_count : {M : Type 0} → List (NodeEvent M) → ℕ
tick_count [] = 0
tick_count (e ∷ es) = if is_tick e then suc (tick_count es) else tick_count es

-- the beat that is open behind events, if one was before them
abbrev pub open_after : {M : Type 0} → ℕ → List (NodeEvent M) → ℕ
open_after t [] = t
open_after t (e ∷ es) = open_after (behind e t) es

-- an event is in the open beat, and a return in that or a later one
abbrev pub IsOpen : {M : Type 0} → ℕ → NodeEvent M → Type 0
IsOpen t (Does i) = (stamp_of i).beat ≡ t
IsOpen t (Ends i sends) = (stamp_of i).beat ≡ t
IsOpen t (Dies stamp) = stamp.beat ≡ t
IsOpen t (Returns stamp) = t ≤ stamp.beat

-- each event is in the beat that is open to it
abbrev pub AreCounted : {M : Type 0} → ℕ → List (NodeEvent M) → Type 0
AreCounted t [] = Unit {0}
AreCounted t (e ∷ es) = IsOpen t e × AreCounted (behind e t) es

-- what is taken comes on an in-link
abbrev pub IsLed : {M : Type 0} → Params → ℕ → NodeEvent M → Type 0
IsLed p n (Does (Take stamp link msg)) = IsInLink p n link.0
IsLed p n (Does (Tick stamp)) = Unit {0}
IsLed p n (Ends (Take stamp link msg) sends) = IsInLink p n link.0
IsLed p n (Ends (Tick stamp) sends) = Unit {0}
IsLed p n (Dies stamp) = Unit {0}
IsLed p n (Returns stamp) = Unit {0}

-- the step of an event, whole or cut off
abbrev pub input_in : {M : Type 0} → NodeEvent M → Option (Input M)
input_in (Does i) = Some i
input_in (Ends i sends) = Some i
input_in (Dies stamp) = None
input_in (Returns stamp) = None

-- of two messages taken in one beat the first came on no higher link
abbrev pub AreTurns : {M : Type 0} → Option (Input M) → Option (Input M) → Type 0
AreTurns (Some (Take stamp link msg)) (Some (Take later other more)) = stamp.beat ≡ later.beat → link.0 ≤ other.0
AreTurns old new = Unit {0}

abbrev pub IsInTurn : {M : Type 0} → NodeEvent M → NodeEvent M → Type 0
IsInTurn old new = AreTurns (input_in old) (input_in new)

abbrev pub AreInTurn : {M : Type 0} → List (NodeEvent M) → Type 0
AreInTurn [] = Unit {0}
AreInTurn (e ∷ es) = AllByRecursion (IsInTurn e) es × AreInTurn es

-- it is as the life has it: a death comes in an event only in a beat in which it cuts the node off
abbrev pub LivesBy : {M : Type 0} → Lifetime → NodeEvent M → Type 0
LivesBy life (Does i) = acts life (stamp_of i).beat ≡ true
LivesBy life (Ends i sends) = (acts life (stamp_of i).beat ≡ true) × (ends_in life (stamp_of i).beat ≡ true)
LivesBy life (Dies stamp) = (acts life stamp.beat ≡ false) × (dies life stamp.beat ≡ true)
LivesBy life (Returns stamp) = returns life stamp.beat ≡ true

-- each event is cut off where the death comes in it, and nowhere else
abbrev pub IsWhole : {M S : Type 0} → (S → Input M → Deed M S) → NodeEvent M → Past S → Type 0
IsWhole step (Does i) past = event_of step i past ≡ Does i
IsWhole step (Ends i sends) past = event_of step i past ≡ Ends i sends
IsWhole step (Dies stamp) past = Unit {0}
IsWhole step (Returns stamp) past = Unit {0}

abbrev pub AreWhole : {M S : Type 0} → (M → Note) → (S → Input M → Deed M S) → List (NodeEvent M) → Past S → Type 0
AreWhole note step [] past = Unit {0}
AreWhole note step (e ∷ es) past = IsWhole step e past × AreWhole note step es (after note step e past)

abbrev pub AreAlive : {M : Type 0} → List (NodeEvent M) → Type 0
AreAlive es = AllByRecursion (λ e. is_death e ≡ false) es

-- a death is the last event
abbrev pub DeathIsLast : {M : Type 0} → List (NodeEvent M) → Type 0
DeathIsLast [] = Unit {0}
DeathIsLast (e ∷ es) = (is_death e ≡ true → es ≡ []) × DeathIsLast es

-- no event is a return
abbrev pub AreHere : {M : Type 0} → List (NodeEvent M) → Type 0
AreHere es = AllByRecursion (λ e. is_return e ≡ false) es

-- behind a death there is nothing, or the return, two beats later or more, and what comes after it
abbrev pub GoOn : {M : Type 0} → (ℕ → Stamp) → ℕ → ℕ → Option ℕ → List (NodeEvent M) → Type 0
GoOn when next death None es = es ≡ []
GoOn {M} when next death (Some back) es =
    (rest : List (NodeEvent M)) × (es ≡ Returns (when back) ∷ rest) × AreAlive rest × AreHere rest
    × (open_after back rest ≡ next) × (death + 2 ≤ back)

-- the events before a beat end with its last tick, or with the death, or go on from the return
abbrev pub EndAt : {M : Type 0} → (ℕ → Stamp) → ℕ → Option ℕ → Option ℕ → List (NodeEvent M) → Type 0
EndAt when next None back es = AreAlive es × AreHere es × (open_after 0 es ≡ next)
EndAt {M} when next (Some death) back es =
    (front : List (NodeEvent M)) × (last : NodeEvent M) × (more : List (NodeEvent M)) × (es ≡ front ++ last ∷ more)
    × AreAlive front × AreHere front × (open_after 0 front ≡ death)
    × (is_death last ≡ true) × (stamp_at last ≡ when death) × GoOn when next death back more

-- the events of node n in the beats below one
pub record IsTimeline {M : Type 0} (when : ℕ → Stamp) (p : Params) (n : ℕ) (life : Lifetime) (next : ℕ)
    (es : List (NodeEvent M)) : Type 0 where
  pub stamped : AllByRecursion (λ e. stamp_at e ≡ when (stamp_at e).beat) es
  pub early : AllByRecursion (λ e. (stamp_at e).beat < next) es
  pub counted : AreCounted 0 es
  pub led : AllByRecursion (IsLed p n) es
  pub in_turn : AreInTurn es
  pub lived : AllByRecursion (LivesBy life) es
  pub ends : EndAt when next (death_within next life.death) (death_within next life.back) es

-- a message that is taken in a beat
abbrev pub IsTakeAt : {M : Type 0} → Stamp → Params → ℕ → NodeEvent M → Type 0
IsTakeAt now p n (Does (Take stamp link msg)) = (stamp ≡ now) × IsInLink p n link.0
IsTakeAt now p n (Does (Tick stamp)) = ⊥
IsTakeAt now p n (Ends i sends) = ⊥
IsTakeAt now p n (Dies stamp) = ⊥
IsTakeAt now p n (Returns stamp) = ⊥

-- the clock by which a node's entries are stamped: it shows the true time or more, by the skew at most, and never falls
pub record IsClockOf (p : Params) (when : ℕ → Stamp) : Type 0 where
  pub dated : (b : ℕ) → (when b).beat ≡ b
  pub low : (b : ℕ) → time_of p b ≤ (when b).reading
  pub high : (b : ℕ) → (when b).reading ≤ time_of p b + p.skew
  pub grows : (a b : ℕ) → a ≤ b → (when a).reading ≤ (when b).reading

-- the events of all nodes, beat for beat, each link's account, and how many messages were sent on each link in beats
-- below the return of its receiver
pub record AreAccounted {M S : Type 0} (note : M → Note) (step : S → Input M → Deed M S) (p : Params)
    (when : ℕ → ℕ → Stamp) (life : ℕ → Lifetime) (start : ℕ → Clock)
    (nodes beats : ℕ) (first : ℕ → S) (lost : ℕ → ℕ) (events : ℕ → List (NodeEvent M)) : Type 0 where
  pub clock : (n : ℕ) → IsClockOf p (when n)
  pub fair : (n : ℕ) → n < nodes → AreFair note step p n (events n) (opening (first n) (life n))
  pub whole : (n : ℕ) → n < nodes → AreWhole note step (events n) (opening (first n) (life n))
  pub timeline : (n : ℕ) → n < nodes → IsTimeline (when n) p n (life n) beats (events n)
  pub senders : (l from to : ℕ) → ends_of (links_of p) l ≡ Some (from, to) → from < nodes
  pub links : (l from to : ℕ) → from < nodes → to < nodes → ends_of (links_of p) l ≡ Some (from, to)
      → (clock : Clock) × (flights : List (Passage M))
      × OnLink (life to) (HasCutIn l (events to)) p.delay (start l)
      (sends_along note step l (events from) (opening (first from) (life from))) (takes_along l (events to)) clock
      flights beats
  pub lost_is : (l from to back : ℕ) → from < nodes → to < nodes → ends_of (links_of p) l ≡ Some (from, to)
      → (life to).back ≡ Some back
      → lost l ≡ below back (sends_along note step l (events from) (opening (first from) (life from)))

-- the history of these events, if so many messages were sent on each link below the return of its receiver
abbrev pub history_of : {M S : Type 0} → (ℕ → S) → (ℕ → Lifetime) → (lost : ℕ → ℕ) → (ℕ → List (NodeEvent M))
    → History M S
history_of first life lost events = record {
  first = first;
  life = life;
  count = λ n. length (events n);
  event = λ n i. event_at (events n) i;
  before = lost;
}
