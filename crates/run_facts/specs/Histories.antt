-- The history of a run: for each node its events in its own order, from which all else is computed.
use Rattle.std.specs.Prelude.{◌≡◌, ℕ, zero, suc, ◌+◌, ◌<◌, ◌≤◌, Bool, true, false, List, [], ◌++◌, length, Some}
use Rattle.std.specs.Prelude.{slice_get, if◌then◌else◌, not, ◌⊎◌, nat_lt, filter}
use Rattle.std.specs.List.{AllByRecursion}
use Rattle.tiger_base.specs.declared.number.Stamp.{Stamp}
use Rattle.tiger_base.specs.declared.number.LinkNo.{LinkNo}
use Rattle.tiger_base.specs.declared.message.Note.{Note}
use Rattle.slot_plan.specs.declared.params.Params.{Params}
use Rattle.slot_plan.specs.Times.{time_of}
use Rattle.node_kit.specs.declared.journal.Entry.{Entry}
use Rattle.node_kit.specs.declared.outbox.Out.{Out}
use Rattle.node_kit.specs.Life.{Lifetime, acts, dies, returns}
use Rattle.node_kit.specs.Links.{links_of, ends_of}
use Rattle.node_kit.specs.Steps.{Input, Deed, IsAllowed}
use Rattle.node_kit.specs.Steps.Input.{Take}
use Rattle.run_facts.specs.Events.{NodeEvent, Past, Dated, opening, after, event_of, outs_of, stamp_at, is_tick}
use Rattle.run_facts.specs.Events.{is_death, is_return, is_take_on, sends_of, take_on, behind, IsCutUpTo}
use Rattle.run_facts.specs.Events.NodeEvent.{Does, Ends, Dies, Returns}

-- for each node its state and its life at the beginning, how many events it has, and the event of each number below
-- that; and for each link how many messages were sent on it in beats below the return of its receiver, if that returns
pub record History (M S : Type 0) : Type 0 where
  pub first : ℕ → S
  pub life : ℕ → Lifetime
  pub count : ℕ → ℕ
  pub event : ℕ → ℕ → NodeEvent M
  pub before : ℕ → ℕ

-- node n before its event of number i
abbrev pub past : {M S : Type 0} → (M → Note) → (S → Input M → Deed M S) → History M S → ℕ → ℕ → Past S
past note step h n zero = opening (h.first n) (h.life n)
past note step h n (suc i) = after note step (h.event n i) (past note step h n i)

-- at the end
abbrev pub last_of : {M S : Type 0} → (M → Note) → (S → Input M → Deed M S) → History M S → ℕ → Past S
last_of note step h n = past note step h n (h.count n)

-- what node n puts out in its event of number i
abbrev pub outs : {M S : Type 0} → (M → Note) → (S → Input M → Deed M S) → History M S → ℕ → ℕ → List (Out M)
outs note step h n i = outs_of step (h.event n i) (past note step h n i)

-- when its event of number i happens
abbrev pub beat : {M S : Type 0} → History M S → ℕ → ℕ → ℕ
beat h n i = (stamp_at (h.event n i)).beat

abbrev pub reading : {M S : Type 0} → History M S → ℕ → ℕ → ℕ
reading h n i = (stamp_at (h.event n i)).reading

-- how many of the first i events of node n pass a test
abbrev pub count_of : {M S : Type 0} → (NodeEvent M → Bool) → History M S → ℕ → ℕ → ℕ
count_of test h n zero = 0
count_of test h n (suc i) = if test (h.event n i) then suc (count_of test h n i) else count_of test h n i

-- how many of them are ticks, and how many take a message on a link
abbrev pub ticks : {M S : Type 0} → History M S → ℕ → ℕ → ℕ
ticks h n i = count_of is_tick h n i

abbrev pub takes : {M S : Type 0} → ℕ → History M S → ℕ → ℕ → ℕ
takes l h n i = count_of (is_take_on l) h n i

-- the beat that is open to node n after its first i events
abbrev pub open_beat : {M S : Type 0} → History M S → ℕ → ℕ → ℕ
open_beat h n zero = 0
open_beat h n (suc i) = behind (h.event n i) (open_beat h n i)

-- the number on link l of the message that the node takes next behind an event, if number k is next before it: at a
-- return all are gone that were sent below it
abbrev pub place_behind : {M : Type 0} → ℕ → ℕ → NodeEvent M → ℕ → ℕ
place_behind l before e k = if is_return e then before else if is_take_on l e then suc k else k

abbrev pub place : {M S : Type 0} → ℕ → History M S → ℕ → ℕ → ℕ
place l h n zero = 0
place l h n (suc i) = place_behind l (h.before l) (h.event n i) (place l h n i)

-- node n is up at its end: behind its death, if it has one, comes more
abbrev pub IsUp : {M S : Type 0} → History M S → ℕ → Type 0
IsUp h n = (i : ℕ) → i < h.count n → is_death (h.event n i) ≡ true → i + 1 < h.count n

-- how many events node n has that are no death: if none is a return, it is alive in each of the numbers below
abbrev pub living : {M S : Type 0} → History M S → ℕ → ℕ
living h n = count_of (λ e. not (is_death e)) h n (h.count n)

-- what node n sends on a link in its first i events, in order, each with its beat
abbrev pub sent : {M S : Type 0} → (M → Note) → (S → Input M → Deed M S) → ℕ → History M S → ℕ → ℕ → List (Dated M)
sent note step l h n zero = []
sent note step l h n (suc i) = sent note step l h n i ++ sends_of l (beat h n i) (outs note step h n i)

-- what node n takes on a link in its first i events, in order, each with its beat
abbrev pub taken : {M S : Type 0} → ℕ → History M S → ℕ → ℕ → List (Dated M)
taken l h n zero = []
taken l h n (suc i) = taken l h n i ++ take_on l (h.event n i)

-- how many of these were sent below a beat
abbrev pub below : {X : Type 0} → ℕ → List (Dated X) → ℕ
below b ds = length (filter (λ d. nat_lt d.beat b) ds)

-- an event takes this message, and perhaps the node's death comes in it
abbrev pub TakesAt : {M : Type 0} → NodeEvent M → Stamp → LinkNo → M → Type 0
TakesAt e stamp link msg = (e ≡ Does (Take stamp link msg)) ⊎ ((sends : ℕ) × (e ≡ Ends (Take stamp link msg) sends))

-- the event of number i is a return behind a death, two beats later or more
pub record IsBack {M S : Type 0} (h : History M S) (n i : ℕ) : Type 0 where
  pub last : ℕ
  pub next : i ≡ suc last
  pub died : is_death (h.event n last) ≡ true
  pub apart : beat h n last + 2 ≤ beat h n i

-- node n's death comes in an event in which it takes a message on link l or on a lower one
abbrev pub HasCut : {M S : Type 0} → ℕ → History M S → ℕ → Type 0
HasCut l h n = (i : ℕ) × (i < h.count n) × IsCutUpTo l (h.event n i)

-- what node n takes on a link as number k of that link was sent there as number k by the link's other end, one of
-- so many nodes, from one beat to the greatest delay before
pub record CameOn {M S : Type 0} (note : M → Note) (step : S → Input M → Deed M S) (p : Params)
    (nodes : ℕ) (h : History M S) (n l k now : ℕ) (msg : M) : Type 0 where
  pub from : ℕ
  pub known : from < nodes
  pub ends : ends_of (links_of p) l ≡ Some (from, n)
  pub when : ℕ
  pub was_sent : slice_get (sent note step l h from (h.count from)) k ≡ Some (record { beat = when; item = msg })
  pub later : when < now
  pub soon : now ≤ when + p.delay

-- What carrying, the clocks and the runner give, and nothing of the nodes' rules: for nodes of these numbers, one
-- tick ends each beat, and a node that is up has ended each beat below that of any event; its readings are within the
-- skew and never fall; it dies once at most, and its death is its last event or its return comes next; a return
-- stands behind a death; it puts out what it may; what it takes was sent so, and what was sent was taken, or lost by
-- the return, before the tick that ends the last beat in which it may arrive; and if the node ended that beat before
-- its death, it was taken by then.
pub record IsRun {M S : Type 0} (note : M → Note) (step : S → Input M → Deed M S) (p : Params) (nodes : ℕ)
    (h : History M S) : Type 0 where
  pub in_beat : (n i : ℕ) → n < nodes → i < h.count n → is_return (h.event n i) ≡ false → beat h n i ≡ open_beat h n i
  pub returned : (n i : ℕ) → n < nodes → i < h.count n → is_return (h.event n i) ≡ true → IsBack h n i
  pub reads : (n i : ℕ) → n < nodes → i < h.count n
      → (time_of p (beat h n i) ≤ reading h n i) × (reading h n i ≤ time_of p (beat h n i) + p.skew)
  pub rising : (n j i : ℕ) → n < nodes → j ≤ i → i < h.count n → reading h n j ≤ reading h n i
  pub level : (n m i : ℕ) → n < nodes → m < nodes → i < h.count n → IsUp h m → beat h n i ≤ open_beat h m (h.count m)
  pub ended : (n i : ℕ) → n < nodes → i < h.count n → is_death (h.event n i) ≡ true
      → (i + 1 ≡ h.count n) ⊎ (is_return (h.event n (i + 1)) ≡ true)
  pub once : (n j i : ℕ) → n < nodes → j < h.count n → i < h.count n → is_death (h.event n j) ≡ true
      → is_death (h.event n i) ≡ true → j ≡ i
  pub fair : (n i : ℕ) → n < nodes → i < h.count n → AllByRecursion (IsAllowed note p n) (outs note step h n i)
  pub carried : (n i : ℕ) (stamp : Stamp) (link : LinkNo) (msg : M) → n < nodes → i < h.count n
      → TakesAt (h.event n i) stamp link msg → CameOn note step p nodes h n link.0 (place link.0 h n i) stamp.beat msg
  pub arrives : (l from n k when : ℕ) (msg : M) → from < nodes → n < nodes → ends_of (links_of p) l ≡ Some (from, n)
      → slice_get (sent note step l h from (h.count from)) k ≡ Some (record { beat = when; item = msg })
      → when + p.delay < open_beat h n (h.count n) → k < place l h n (h.count n)
  pub in_time : (l from n i k when : ℕ) (msg : M) → from < nodes → n < nodes → ends_of (links_of p) l ≡ Some (from, n)
      → i < h.count n → is_return (h.event n i) ≡ true
      → slice_get (sent note step l h from (h.count from)) k ≡ Some (record { beat = when; item = msg })
      → when + p.delay < open_beat h n i → k < place l h n i
  pub before : (l from n i : ℕ) (stamp : Stamp) → from < nodes → n < nodes → ends_of (links_of p) l ≡ Some (from, n)
      → i < h.count n → h.event n i ≡ Returns stamp
      → h.before l ≡ below stamp.beat (sent note step l h from (h.count from))

-- The nodes given have lived through this history: they are its first states and have the lives of their numbers,
-- each journal is what its node's events write, and each node at the end is its last state.
pub record IsHistoryOf {M S : Type 0} (note : M → Note) (step : S → Input M → Deed M S) (lives : ℕ → Lifetime)
    (given nodes : List S) (journals : List (List Entry)) (h : History M S) : Type 0 where
  pub opens : (n : ℕ) (s : S) → slice_get given n ≡ Some s → (h.first n ≡ s) × (h.life n ≡ lives n)
  pub writes : (n : ℕ) → n < length given → slice_get journals n ≡ Some (last_of note step h n).journal
  pub ends : (n : ℕ) → n < length given → slice_get nodes n ≡ Some (last_of note step h n).state

-- Each node goes on until its death or the end of the beats: every event is in one of them and as its node's life
-- has it, cut off where its death comes and nowhere else; a node that has not died has ticked in each, and one that
-- has died returns in the beat of its return, if that is one of them, and has ticked in each from there on.
pub record IsComplete {M S : Type 0} (note : M → Note) (step : S → Input M → Deed M S) (nodes beats : ℕ)
    (h : History M S) : Type 0 where
  pub early : (n i : ℕ) → n < nodes → i < h.count n → beat h n i < beats
  pub acting : (n i : ℕ) (input : Input M) → n < nodes → i < h.count n → h.event n i ≡ Does input
      → (acts (past note step h n i).life (beat h n i) ≡ true)
      × (event_of step input (past note step h n i) ≡ Does input)
  pub ending : (n i sends : ℕ) (input : Input M) → n < nodes → i < h.count n → h.event n i ≡ Ends input sends
      → (acts (past note step h n i).life (beat h n i) ≡ true)
      × (event_of step input (past note step h n i) ≡ Ends input sends)
  pub dying : (n i : ℕ) (stamp : Stamp) → n < nodes → i < h.count n → h.event n i ≡ Dies stamp
      → (acts (past note step h n i).life stamp.beat ≡ false) × (dies (past note step h n i).life stamp.beat ≡ true)
  pub returning : (n i : ℕ) (stamp : Stamp) → n < nodes → i < h.count n → h.event n i ≡ Returns stamp
      → returns (past note step h n i).life stamp.beat ≡ true
  pub until_end : (n : ℕ) → n < nodes → IsUp h n → open_beat h n (h.count n) ≡ beats
  pub comes_back : (n i back : ℕ) → n < nodes → i + 1 ≡ h.count n → is_death (h.event n i) ≡ true
      → (past note step h n i).life.back ≡ Some back → beats ≤ back

-- The nodes given have lived through a history of which the record of a run holds, until their deaths or the end.
pub record HaveHistory {M S : Type 0} (note : M → Note) (step : S → Input M → Deed M S) (p : Params)
    (lives : ℕ → Lifetime) (beats : ℕ)
    (given nodes : List S) (journals : List (List Entry)) : Type 0 where
  pub history : History M S
  pub theirs : IsHistoryOf note step lives given nodes journals history
  pub run : IsRun note step p (length given) history
  pub complete : IsComplete note step (length given) beats history
