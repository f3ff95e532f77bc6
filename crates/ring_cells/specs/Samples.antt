-- Small links and shares, of which the worked rows speak. Messages and states are numbers.
use Rattle.std.specs.Prelude.{ℕ, zero, suc, ◌+◌, false, List, [], ◌∷◌, None}
use Rattle.tiger_base.specs.declared.number.LinkNo.{LinkNo}
use Rattle.tiger_base.specs.declared.message.Note.{Note}
use Rattle.link_timing.specs.Clock.{Clock, new_clock, arrival_at, after_send}
use Rattle.node_kit.specs.declared.course.Course.{Course}
use Rattle.node_kit.specs.declared.outbox.Out.TheVariants.{Send}
use Rattle.node_kit.specs.Courses.{IsCourse, Setting}
use Rattle.node_kit.specs.Life.{Lifetime, mortal}
use Rattle.node_kit.specs.Steps.{Input, Deed}
use Rattle.node_kit.specs.Steps.Input.{Take, Tick}
use Rattle.run_facts.specs.declared.mail.Flight.{Flight}
use Rattle.run_facts.specs.declared.mail.Letter.{Letter}
use Rattle.run_facts.specs.Events.{NodeEvent, Past}
use Rattle.run_facts.specs.Events.NodeEvent.{Does}
use Rattle.ring_links.specs.Ends.{LineId}
use Rattle.ring_cells.specs.declared.moved.Moved.{Moved}
use Rattle.ring_cells.specs.Cells.{Seen}
use Rattle.ring_cells.specs.Flows.{Inflow, Outflow}
use Rattle.ring_cells.specs.Kept.{IsInflow, IsOutflow}
use Rattle.ring_cells.specs.Moves.{HasMoved, after_beats_by}

abbrev pub wire : LinkNo
wire = record { 0 = 16 }

-- message 5, sent in beat 0, arrives in beat 1
abbrev pub five : Flight ℕ
five = record { sent = 0; arrival = 1; msg = 5 }

-- a node that never dies takes it in a beat
abbrev pub for_ever : Lifetime
for_ever = mortal None

abbrev pub takes_in : ℕ → List (NodeEvent ℕ)
takes_in beat = Does (Take (record { beat = beat; reading = 0 }) wire 5) ∷ []

-- an in-link on which message 5 came, and this waits, and which is closed below a beat
abbrev pub in_link : (ℕ → LineId) → List (Flight ℕ) → ℕ → Inflow ℕ
in_link line_of waiting closed =
    record { link = wire; line = line_of 16; flights = five ∷ []; closed = closed; waiting = waiting }

-- it has come with its node through the beats below one
abbrev pub ComesIn : ℕ → List (NodeEvent ℕ) → List (Flight ℕ) → ℕ → Type 0
ComesIn next events waiting closed =
    (line_of : ℕ → LineId) → IsInflow line_of for_ever next events (in_link line_of waiting closed)

abbrev pub CannotComeIn : ℕ → List (NodeEvent ℕ) → List (Flight ℕ) → ℕ → Type 0
CannotComeIn next events waiting closed =
    (line_of : ℕ → LineId) → IsInflow line_of for_ever next events (in_link line_of waiting closed) → ⊥

-- a node that sends message 5 at each tick
abbrev pub sends_five : ℕ → Input ℕ → Deed ℕ ℕ
sends_five s (Take stamp link msg) = record { outs = []; state = s }
sends_five s (Tick stamp) = record { outs = Send wire 5 ∷ []; state = s }

abbrev pub one_tick : List (NodeEvent ℕ)
one_tick = Does (Tick (record { beat = 0; reading = 0 })) ∷ []

abbrev pub fresh_clock : Course → Clock
fresh_clock c = new_clock 16 c.delay c.plan.params.delay

-- nothing was sent on an out-link that is closed below a beat, or message 5 was in beat 0
abbrev pub unused : (ℕ → LineId) → Course → ℕ → Outflow ℕ
unused line_of c closed =
    record { link = wire; line = line_of 16; flights = []; closed = closed; clock = fresh_clock c }

abbrev pub used : (ℕ → LineId) → Course → ℕ → Outflow ℕ
used line_of c closed = record {
  link = wire;
  line = line_of 16;
  flights = (record { sent = 0; arrival = arrival_at (fresh_clock c) 0; msg = 5 }) ∷ [];
  closed = closed;
  clock = after_send (fresh_clock c) 0;
}

-- it has come with its node through the beats below one
abbrev pub GoesOut : ℕ → List (NodeEvent ℕ) → ((ℕ → LineId) → Course → Outflow ℕ) → Type 0
GoesOut next events o =
    (line_of : ℕ → LineId) (note : ℕ → Note) (c : Course) → IsCourse c
    → IsOutflow line_of note sends_five c 0 7 next events (o line_of c)

abbrev pub CannotGoOut : ℕ → List (NodeEvent ℕ) → ((ℕ → LineId) → Course → Outflow ℕ) → Type 0
CannotGoOut next events o =
    (line_of : ℕ → LineId) (note : ℕ → Note) (c : Course) → IsOutflow line_of note sends_five c 0 7 next events (o line_of c) → ⊥

-- a share of three beats before one of them, with one member and one in-port, which is closed below a beat
abbrev pub dial : Setting
dial = record { step = 10; offset = 0 }

abbrev pub worked_share : LineId → ℕ → ℕ → Past ℕ → Seen ℕ ℕ
worked_share line next closed past = record {
  number = 0;
  beats = 3;
  next = next;
  spoilt = false;
  numbers = (record { 0 = 0 }) ∷ [];
  dials = dial ∷ [];
  nodes = past.state ∷ [];
  lives = past.life ∷ [];
  journals = past.journal ∷ [];
  links = record { cubs = 8; disks = 8; reach = 2 };
  channels = [];
  ins = (record { link = wire; line = line; flights = []; closed = closed }) ∷ [];
  outs = [];
}

-- beats in which no letter comes
abbrev pub silent : ℕ → List (List (Letter ℕ))
silent zero = []
silent (suc k) = [] ∷ silent k

-- the answer of such a share that does this many beats, whatever its member is
abbrev pub Answers : Moved → ℕ → ℕ → ℕ → Type 0
Answers m next closed k =
    (line : LineId) (note : ℕ → Note) (step : ℕ → Input ℕ → Deed ℕ ℕ) (past : Past ℕ)
    → HasMoved note step m (worked_share line next closed past) (worked_share line (next + k) closed (after_beats_by note step dial next (silent k) past))

abbrev pub CannotAnswer : Moved → ℕ → ℕ → ℕ → Type 0
CannotAnswer m next closed k =
    (line : LineId) (note : ℕ → Note) (step : ℕ → Input ℕ → Deed ℕ ℕ) (past : Past ℕ)
    → HasMoved note step m (worked_share line next closed past) (worked_share line (next + k) closed (after_beats_by note step dial next (silent k) past)) → ⊥
