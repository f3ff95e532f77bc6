-- A share of a run: the nodes that it holds, the links among them, and the ports of the links that enter or leave it.
use Rattle.std.specs.Prelude.{◌≡◌, ◌≢◌, ℕ, zero, suc, ◌+◌, ◌<◌, ◌≤◌, Bool, true, false, ◌==◌, List, [], ◌∷◌, ◌++◌, length, map, Option, Some, None, slice_get, slice_set, if◌then◌else◌, ◌⊎◌}
use Rattle.std.specs.List.{AllByRecursion}
use Rattle.tiger_base.specs.declared.number.LinkNo.{LinkNo}
use Rattle.tiger_base.specs.declared.number.NodeNo.{NodeNo}
use Rattle.tiger_base.specs.declared.message.Note.{Note}
use Rattle.slot_plan.specs.declared.params.Params.{Params}
use Rattle.link_timing.specs.Clock.{new_clock}
use Rattle.node_kit.specs.declared.course.Course.{Course}
use Rattle.node_kit.specs.Courses.{stamp_in}
use Rattle.node_kit.specs.Life.{lifetime_of}
use Rattle.node_kit.specs.Links.{links_of, link_count, ends_of}
use Rattle.node_kit.specs.Steps.{Input, Deed}
use Rattle.run_facts.specs.declared.mail.Flight.{Flight}
use Rattle.run_facts.specs.Accounts.{AreWhole, HasCutIn, IsTimeline, OnLink}
use Rattle.run_facts.specs.Beats.{opening_of, pass}
use Rattle.run_facts.specs.Events.{NodeEvent, after_all, AreFair, sends_along, takes_along}
use Rattle.run_facts.specs.Rings.{Traffic, Ring, IsAt}
use Rattle.ring_engine.specs.Traffic.{AreOpen}
use Rattle.ring_links.specs.Ends.{LineId}
use Rattle.ring_cells.specs.Flows.{Inflow, Outflow, HasReceived}
use Rattle.ring_cells.specs.Kept.{IsInflow, IsOutflow}

-- the port of a link that enters a share: all that came in, and the beat below which nothing comes any more
pub record Entrance (M : Type 0) : Type 0 where
  pub link : LinkNo
  pub line : LineId
  pub flights : List (Flight M)
  pub closed : ℕ

-- the port of a link that leaves a share: all that went out, and the beat below which nothing goes out any more
pub record Exit (M : Type 0) : Type 0 where
  pub link : LinkNo
  pub line : LineId
  pub flights : List (Flight M)
  pub closed : ℕ

-- the receiving end of a link that enters: what is under way on it within the share is what waits
abbrev pub inflow_of : {M : Type 0} → Entrance M → Traffic M → Inflow M
inflow_of i t =
    record { link = i.link; line = i.line; flights = i.flights; closed = i.closed; waiting = t.flights }

-- the sending end of a link that leaves: what is under way on it within the share has been sent, and is to go out
abbrev pub outflow_of : {M : Type 0} → Exit M → Traffic M → Outflow M
outflow_of o t =
    record { link = o.link; line = o.line; flights = o.flights ++ t.flights; closed = o.closed; clock = t.clock }

-- whether a node is among those of these numbers
abbrev pub holds : List NodeNo → ℕ → Bool
holds [] k = false
holds (n ∷ ns) k = if n.0 == k then true else holds ns k

-- a link from one member to another: the account of it has both ends
pub record IsInner {M S : Type 0} (note : M → Note) (step : S → Input M → Deed M S) (c : Course) (first : ℕ → S)
    (b : ℕ) (at : ℕ → ℕ) (events : ℕ → List (NodeEvent M)) (channels : List (Traffic M)) (l from to : ℕ) : Type 0 where
  pub traffic : Traffic M
  pub here : slice_get channels l ≡ Some traffic
  pub calm : traffic.clock.last_send ≤ b
  pub account : OnLink (lifetime_of c to) (HasCutIn l (events to)) c.plan.params.delay
      (new_clock l c.delay c.plan.params.delay)
      (sends_along note step l (events from) (opening_of c from (first from))) (takes_along l (events to)) traffic.clock
      (map pass traffic.flights) (at to)

-- a link that enters, to a member: it has a port
pub record IsEntrance {M : Type 0} (line_of : ℕ → LineId) (c : Course) (at : ℕ → ℕ) (events : ℕ → List (NodeEvent M))
    (channels : List (Traffic M)) (ins : List (Entrance M)) (l to : ℕ) : Type 0 where
  pub place : ℕ
  pub port : Entrance M
  pub there : slice_get ins place ≡ Some port
  pub number : port.link ≡ record { 0 = l }
  pub traffic : Traffic M
  pub here : slice_get channels l ≡ Some traffic
  pub flow : IsInflow line_of (lifetime_of c to) (at to) (events to) (inflow_of port traffic)

-- a link that leaves, from a member: it has a port among those of that member, and all that was sent has gone out
pub record IsExit {M S : Type 0} (line_of : ℕ → LineId) (note : M → Note) (step : S → Input M → Deed M S) (c : Course)
    (first : ℕ → S) (numbers : List NodeNo) (at : ℕ → ℕ) (events : ℕ → List (NodeEvent M)) (channels : List (Traffic M))
    (outs : List (List (Exit M))) (l from : ℕ) : Type 0 where
  pub member : ℕ
  pub is_from : slice_get numbers member ≡ Some (record { 0 = from })
  pub row : List (Exit M)
  pub its_row : slice_get outs member ≡ Some row
  pub place : ℕ
  pub port : Exit M
  pub there : slice_get row place ≡ Some port
  pub number : port.link ≡ record { 0 = l }
  pub traffic : Traffic M
  pub here : slice_get channels l ≡ Some traffic
  pub all_out : traffic.flights ≡ []
  pub flow : IsOutflow line_of note step c from (first from) (at from) (events from) (outflow_of port traffic)

-- The nodes of these numbers, by place, are in beat b: each has come through the beats below b, and some through b too.
-- There are events of which each node, its journal and its life are what they make; a link among them has the account of
-- both its ends, and one that enters or leaves that of one.
pub record IsShare {M S : Type 0} (note : M → Note) (step : S → Input M → Deed M S) (c : Course) (first : ℕ → S)
    (line_of : ℕ → LineId) (numbers : List NodeNo) (b : ℕ) (at : ℕ → ℕ) (events : ℕ → List (NodeEvent M))
    (ring : Ring M S) (ins : List (Entrance M)) (outs : List (List (Exit M))) : Type 0 where
  pub here : (q : ℕ) (n : NodeNo) → slice_get numbers q ≡ Some n
      → IsAt ring q (after_all note step (events n.0) (opening_of c n.0 (first n.0)))
  pub soon : (k : ℕ) → holds numbers k ≡ true → (b ≤ at k) × (at k ≤ b + 1)
  pub fair : (k : ℕ) → holds numbers k ≡ true
      → AreFair note step c.plan.params k (events k) (opening_of c k (first k))
  pub whole : (k : ℕ) → holds numbers k ≡ true → AreWhole note step (events k) (opening_of c k (first k))
  pub timeline : (k : ℕ) → holds numbers k ≡ true
      → IsTimeline (stamp_in c k) c.plan.params k (lifetime_of c k) (at k) (events k)
  pub inner : (l from to : ℕ) → holds numbers from ≡ true → holds numbers to ≡ true
      → ends_of (links_of c.plan.params) l ≡ Some (from, to)
      → IsInner note step c first b at events ring.channels l from to
  pub into : (l from to : ℕ) → holds numbers from ≡ false → holds numbers to ≡ true
      → ends_of (links_of c.plan.params) l ≡ Some (from, to)
      → IsEntrance line_of c at events ring.channels ins l to
  pub out_of : (l from to : ℕ) → holds numbers from ≡ true → holds numbers to ≡ false
      → ends_of (links_of c.plan.params) l ≡ Some (from, to)
      → IsExit line_of note step c first numbers at events ring.channels outs l from

-- a message goes out through a port
abbrev pub sent_out : {M : Type 0} → Flight M → Exit M → Exit M
sent_out f o = record { link = o.link; line = o.line; flights = o.flights ++ f ∷ []; closed = o.closed }

-- a beat is over on it
abbrev pub closed_out : {M : Type 0} → ℕ → Exit M → Exit M
closed_out b o = record { link = o.link; line = o.line; flights = o.flights; closed = b + 1 }

-- there are as many links or more
abbrev pub AreWired : ℕ → List LinkNo → Type 0
AreWired count links = AllByRecursion (λ l. l.0 < count) links

-- beat b is closed on none of the ports of a row, or not on that at a place
abbrev pub AreOpenTo : {M : Type 0} → ℕ → List (Exit M) → Type 0
AreOpenTo b row = AllByRecursion (λ o. o.closed ≤ b) row

abbrev pub IsOpenPlace : {M : Type 0} → ℕ → ℕ → List (Exit M) → Type 0
IsOpenPlace {M} b n row = (o : Exit M) → slice_get row n ≡ Some o → o.closed ≤ b

-- no two ports of a row are of one link
abbrev pub AreApart : List LinkNo → Type 0
AreApart links = (m n : ℕ) (l : LinkNo) → slice_get links m ≡ Some l → slice_get links n ≡ Some l → m ≡ n

abbrev pub links_in : {M : Type 0} → List (Entrance M) → List LinkNo
links_in ins = map (λ i. i.link) ins

abbrev pub links_out : {M : Type 0} → List (Exit M) → List LinkNo
links_out row = map (λ o. o.link) row

-- a link that leads to a member from a node that is none, and one that leads from this member to a node that is none
pub record IsEntering (p : Params) (numbers : List NodeNo) (l : LinkNo) : Type 0 where
  pub from : ℕ
  pub to : ℕ
  pub ends : ends_of (links_of p) l.0 ≡ Some (from, to)
  pub outside : holds numbers from ≡ false
  pub inside : holds numbers to ≡ true

pub record IsLeaving (p : Params) (numbers : List NodeNo) (n : NodeNo) (l : LinkNo) : Type 0 where
  pub to : ℕ
  pub ends : ends_of (links_of p) l.0 ≡ Some (n.0, to)
  pub outside : holds numbers to ≡ false

-- a number has one place; the ports are of links that enter, each of one, and in each row of links that leave from the
-- member at its place, each of one
pub record IsFitted {M : Type 0} (p : Params) (numbers : List NodeNo) (ins : List (Entrance M))
    (outs : List (List (Exit M))) : Type 0 where
  pub once : (q r : ℕ) (n : NodeNo) → slice_get numbers q ≡ Some n → slice_get numbers r ≡ Some n → q ≡ r
  pub ins_lead : (q : ℕ) (i : Entrance M) → slice_get ins q ≡ Some i → IsEntering p numbers i.link
  pub ins_apart : AreApart (links_in ins)
  pub outs_lead : (q r : ℕ) (row : List (Exit M)) (o : Exit M) → slice_get outs q ≡ Some row → slice_get row r ≡ Some o
      → (n : NodeNo) × (slice_get numbers q ≡ Some n) × IsLeaving p numbers n o.link
  pub outs_apart : (q : ℕ) (row : List (Exit M)) → slice_get outs q ≡ Some row → AreApart (links_out row)

-- of these numbers those at the places below q have come through beat b, and the others to it
abbrev pub holds_below : List NodeNo → ℕ → ℕ → Bool
holds_below [] q k = false
holds_below (n ∷ ns) zero k = false
holds_below (n ∷ ns) (suc q) k = if n.0 == k then true else holds_below ns q k

abbrev pub come_to : List NodeNo → ℕ → ℕ → ℕ → ℕ
come_to numbers b q k = if holds_below numbers q k then b + 1 else b

-- all in-ports are closed to a beat
abbrev pub AreClosedTo : {M : Type 0} → ℕ → List (Entrance M) → Type 0
AreClosedTo {M} b ins = (q : ℕ) (i : Entrance M) → slice_get ins q ≡ Some i → b ≤ i.closed

-- the in-ports at the places below n are closed to a beat
abbrev pub AreClosedBelow : {M : Type 0} → ℕ → ℕ → List (Entrance M) → Type 0
AreClosedBelow {M} b n ins = (q : ℕ) (i : Entrance M) → q < n → slice_get ins q ≡ Some i → b ≤ i.closed

-- all that comes in below a beat has come through a port, or not
abbrev pub IsClosedTo : {M : Type 0} → ℕ → Entrance M → Type 0
IsClosedTo b i = b ≤ i.closed

abbrev pub IsShort : {M : Type 0} → ℕ → Entrance M → Type 0
IsShort b i = i.closed < b

-- the first port of a row that falls short of a beat
abbrev pub FirstShort : {M : Type 0} → ℕ → LinkNo → List (Entrance M) → Type 0
FirstShort b l [] = ⊥
FirstShort b l (i ∷ is) = (IsShort b i × (i.link ≡ l)) ⊎ (IsClosedTo b i × FirstShort b l is)

-- a port was waited for: it is closed to a beat, or it falls short and is the answer
abbrev pub IsMet : {M : Type 0} → ℕ → Entrance M → Option LinkNo → Type 0
IsMet b i None = IsClosedTo b i
IsMet b i (Some l) = IsShort b i × (i.link ≡ l)

-- of a row the port at a place was waited for
pub record AwaitedAt {M : Type 0} (b n : ℕ) (answer : Option LinkNo) (old new : List (Entrance M)) : Type 0 where
  pub was : Entrance M
  pub stood : slice_get old n ≡ Some was
  pub now : Entrance M
  pub changed : new ≡ slice_set old n now
  pub rises : was.closed ≤ now.closed
  pub met : IsMet b now answer

-- what came in through a port
pub record HasComeIn {M : Type 0} (q : ℕ) (i : Entrance M) (t : Traffic M) (channels : List (Traffic M))
    (ins : List (Entrance M)) : Type 0 where
  pub port : Entrance M
  pub there : slice_get ins q ≡ Some port
  pub traffic : Traffic M
  pub here : slice_get channels i.link.0 ≡ Some traffic
  pub same_clock : traffic.clock ≡ t.clock
  pub received : HasReceived (inflow_of i t) (inflow_of port traffic)

-- more came in through the ports, and nothing else changed
pub record HasPoured {M : Type 0} (channels : List (Traffic M)) (ins : List (Entrance M)) (channels' : List (Traffic M))
    (ins' : List (Entrance M)) : Type 0 where
  pub each : (q : ℕ) (i : Entrance M) (t : Traffic M) → slice_get ins q ≡ Some i
      → slice_get channels i.link.0 ≡ Some t → HasComeIn q i t channels' ins'
  pub others : (l : ℕ) → ((q : ℕ) (i : Entrance M) → slice_get ins q ≡ Some i → i.link.0 ≢ l)
      → slice_get channels' l ≡ slice_get channels l
  pub same_links : links_in ins' ≡ links_in ins
  pub same_size : length channels' ≡ length channels

-- a port after the turn of its member in a beat: all that was sent has gone out, and the beat is closed
abbrev pub gone_out : {M : Type 0} → ℕ → Exit M → Traffic M → Exit M
gone_out b o t = record { link = o.link; line = o.line; flights = o.flights ++ t.flights; closed = b + 1 }

abbrev pub emptied_out : {M : Type 0} → Traffic M → Traffic M
emptied_out t = record { clock = t.clock; flights = [] }

-- at the ports of a row the turn of their member has ended, but for those from place n on
pub record HaveEndedTo {M : Type 0} (b n : ℕ) (row : List (Exit M)) (channels : List (Traffic M)) (row' : List (Exit M))
    (channels' : List (Traffic M)) : Type 0 where
  pub each : (q : ℕ) (o : Exit M) (t : Traffic M) → q < n → slice_get row q ≡ Some o
      → slice_get channels o.link.0 ≡ Some t
      → (slice_get row' q ≡ Some (gone_out b o t)) × (slice_get channels' o.link.0 ≡ Some (emptied_out t))
  pub still : (q : ℕ) (o : Exit M) → n ≤ q → slice_get row q ≡ Some o
      → (slice_get row' q ≡ Some o) × (slice_get channels' o.link.0 ≡ slice_get channels o.link.0)
  pub others : (l : ℕ) → ((q : ℕ) (o : Exit M) → slice_get row q ≡ Some o → o.link.0 ≢ l)
      → slice_get channels' l ≡ slice_get channels l
  pub same_links : links_out row' ≡ links_out row
  pub same_size : length channels' ≡ length channels

-- all that was sent through a port has gone out
pub record HasGoneOut {M : Type 0} (o : Exit M) (channels : List (Traffic M)) (o' : Exit M) (channels' : List (Traffic M)) : Type 0 where
  pub same_link : o'.link ≡ o.link
  pub out : (t : Traffic M) → slice_get channels o.link.0 ≡ Some t
      → (o' ≡ record { link = o.link; line = o.line; flights = o.flights ++ t.flights; closed = o.closed })
      × (slice_get channels' o.link.0 ≡ Some (emptied_out t))
  pub others : (l : ℕ) → l ≢ o.link.0 → slice_get channels' l ≡ slice_get channels l
  pub same_size : length channels' ≡ length channels

-- at the port at a place the turn of its member has ended
pub record HasEndedAt {M : Type 0} (b n : ℕ) (row : List (Exit M)) (channels : List (Traffic M)) (row' : List (Exit M))
    (channels' : List (Traffic M)) : Type 0 where
  pub port : Exit M
  pub stood : slice_get row n ≡ Some port
  pub then_port : Exit M
  pub changed : row' ≡ slice_set row n (closed_out b then_port)
  pub out : HasGoneOut port channels then_port channels'

-- at all ports of a row the turn of their member has ended
abbrev pub HasEnded : {M : Type 0} → ℕ → List (Exit M) → List (Traffic M) → List (Exit M) → List (Traffic M) → Type 0
HasEnded b row channels row' channels' = HaveEndedTo b (length row) row channels row' channels'
