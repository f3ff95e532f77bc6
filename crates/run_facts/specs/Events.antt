-- What happens to a node in a run, and what that makes of it: it takes a message or it ticks, it dies, in the middle of
-- such an event or apart from it, and it returns.
use Rattle.std.specs.Prelude.{ℕ, Bool, true, false, ◌==◌, ◌≤◌, List, [], ◌∷◌, ◌++◌, Option, Some, None, suc}
use Rattle.std.specs.Prelude.{if◌then◌else◌}
use Rattle.std.specs.List.{AllByRecursion}
use Rattle.tiger_base.specs.declared.number.Stamp.{Stamp}
use Rattle.tiger_base.specs.declared.message.Note.{Note}
use Rattle.slot_plan.specs.declared.params.Params.{Params}
use Rattle.node_kit.specs.declared.journal.Entry.{Entry}
use Rattle.node_kit.specs.declared.journal.What.TheVariants as what
use Rattle.node_kit.specs.declared.outbox.Out.{Out}
use Rattle.node_kit.specs.declared.outbox.Out.TheVariants as out
use Rattle.node_kit.specs.Life.{Lifetime, cut_to, spent}
use Rattle.node_kit.specs.Outputs.{cut_at, with_death}
use Rattle.node_kit.specs.Steps.{Input, Deed, IsAllowed, stamp_of, entries_of}
use Rattle.node_kit.specs.Steps.Input.{Take, Tick}

-- an event of a node: it does a step, or its death comes in one, of which so many messages go out; or it dies; or it
-- returns
pub data NodeEvent (M : Type 0) : Type 0 where
  Does : (input : Input M) → NodeEvent M
  Ends : (input : Input M) (sends : ℕ) → NodeEvent M
  Dies : (stamp : Stamp) → NodeEvent M
  Returns : (stamp : Stamp) → NodeEvent M

-- a node in a run: its state, its life, and what it wrote
pub record Past (S : Type 0) : Type 0 where
  pub state : S
  pub life : Lifetime
  pub journal : List Entry

-- a node before its first event
abbrev pub opening : {S : Type 0} → S → Lifetime → Past S
opening state life = record { state = state; life = life; journal = [] }

abbrev pub is_tick_input : {M : Type 0} → Input M → Bool
is_tick_input (Take stamp link msg) = false
is_tick_input (Tick stamp) = true

-- what a node puts out at an input, if no death comes in it
unfoldable pub kept_outs : {M S : Type 0} → (S → Input M → Deed M S) → Input M → Past S → List (Out M)
kept_outs step i past = (step past.state i).outs

-- the event of an input, if its node's death comes in it with so many messages, or does not
abbrev pub event_to : {M : Type 0} → Input M → Option ℕ → NodeEvent M
event_to i None = Does i
event_to i (Some sends) = Ends i sends

-- the event of an input, as the node's life has it
unfoldable pub event_of : {M S : Type 0} → (S → Input M → Deed M S) → Input M → Past S → NodeEvent M
event_of step i past = event_to i (cut_to past.life (stamp_of i) (is_tick_input i) (step past.state i).outs)

-- the node after an input: its state is its step's, and it wrote what it took and what it put out
unfoldable pub after_input : {M S : Type 0} → (M → Note) → (S → Input M → Deed M S) → Input M → Past S → Past S
after_input note step i past = record {
  state = (step past.state i).state;
  life = spent past.life (stamp_of i) (step past.state i).outs;
  journal = past.journal ++ entries_of note i (kept_outs step i past);
}

-- what is left of what it puts out, if so many messages go out
unfoldable pub left_outs : {M S : Type 0} → (S → Input M → Deed M S) → Input M → ℕ → Past S → List (Out M)
left_outs step i sends past = cut_at sends (step past.state i).outs

-- the node after an input in which its death comes: it wrote what it took, what is left of what it put out, and its
-- death
unfoldable pub after_cut : {M S : Type 0} → (M → Note) → (S → Input M → Deed M S) → Input M → ℕ → Past S → Past S
after_cut note step i sends past = record {
  state = (step past.state i).state;
  life = record past.life { over = true };
  journal = past.journal ++ entries_of note i (with_death (left_outs step i sends past));
}

-- the node after its death, which it wrote down
abbrev pub after_death : {S : Type 0} → Stamp → Past S → Past S
after_death stamp past = record {
  state = past.state;
  life = past.life;
  journal = past.journal ++ (record { stamp = stamp; what = what.Died }) ∷ [];
}

-- the node after an event
abbrev pub after : {M S : Type 0} → (M → Note) → (S → Input M → Deed M S) → NodeEvent M → Past S → Past S
after note step (Does i) past = after_input note step i past
after note step (Ends i sends) past = after_cut note step i sends past
after note step (Dies stamp) past = after_death stamp past
after note step (Returns stamp) past = past

-- and after several, the oldest first
abbrev pub after_all : {M S : Type 0} → (M → Note) → (S → Input M → Deed M S) → List (NodeEvent M) → Past S → Past S
after_all note step [] past = past
after_all note step (e ∷ es) past = after_all note step es (after note step e past)

-- what a node puts out in an event
abbrev pub outs_of : {M S : Type 0} → (S → Input M → Deed M S) → NodeEvent M → Past S → List (Out M)
outs_of step (Does i) past = kept_outs step i past
outs_of step (Ends i sends) past = left_outs step i sends past
outs_of step (Dies stamp) past = []
outs_of step (Returns stamp) past = []

-- node n may put out all that it puts out in these events
abbrev pub AreFair : {M S : Type 0} → (M → Note) → (S → Input M → Deed M S) → Params → ℕ → List (NodeEvent M) → Past S
    → Type 0
AreFair note step p n [] past = Unit {0}
AreFair note step p n (e ∷ es) past =
    AllByRecursion (IsAllowed note p n) (outs_of step e past) × AreFair note step p n es (after note step e past)

-- when an event happens
abbrev pub stamp_at : {M : Type 0} → NodeEvent M → Stamp
stamp_at (Does i) = stamp_of i
stamp_at (Ends i sends) = stamp_of i
stamp_at (Dies stamp) = stamp
stamp_at (Returns stamp) = stamp

abbrev pub is_tick : {M : Type 0} → NodeEvent M → Bool
is_tick (Does i) = is_tick_input i
is_tick (Ends i sends) = is_tick_input i
is_tick (Dies stamp) = false
is_tick (Returns stamp) = false

abbrev pub is_death : {M : Type 0} → NodeEvent M → Bool
is_death (Does i) = false
is_death (Ends i sends) = true
is_death (Dies stamp) = true
is_death (Returns stamp) = false

abbrev pub is_return : {M : Type 0} → NodeEvent M → Bool
is_return (Does i) = false
is_return (Ends i sends) = false
is_return (Dies stamp) = false
is_return (Returns stamp) = true

-- a plain event is a whole step or a death apart from one: no death comes in it, and it is no return
abbrev pub IsPlain : {M : Type 0} → NodeEvent M → Type 0
IsPlain (Does i) = Unit {0}
IsPlain (Ends i sends) = ⊥
IsPlain (Dies stamp) = Unit {0}
IsPlain (Returns stamp) = ⊥

-- the beat that is open to a node behind an event, if beat b is open before it: a tick ends its beat, and a return
-- opens the one in which it happens
abbrev pub behind : {M : Type 0} → NodeEvent M → ℕ → ℕ
behind (Does i) b = if is_tick_input i then suc b else b
behind (Ends i sends) b = if is_tick_input i then suc b else b
behind (Dies stamp) b = b
behind (Returns stamp) b = stamp.beat

-- whether a message is taken on a link
abbrev pub is_input_on : {M : Type 0} → ℕ → Input M → Bool
is_input_on l (Take stamp link msg) = link.0 == l
is_input_on l (Tick stamp) = false

abbrev pub is_take_on : {M : Type 0} → ℕ → NodeEvent M → Bool
is_take_on l (Does i) = is_input_on l i
is_take_on l (Ends i sends) = is_input_on l i
is_take_on l (Dies stamp) = false
is_take_on l (Returns stamp) = false

-- in the event the node takes a message on link l or on a lower one, and its death comes
abbrev pub IsCutUpTo : {M : Type 0} → ℕ → NodeEvent M → Type 0
IsCutUpTo l (Does i) = ⊥
IsCutUpTo l (Ends (Take stamp link msg) sends) = link.0 ≤ l
IsCutUpTo l (Ends (Tick stamp) sends) = ⊥
IsCutUpTo l (Dies stamp) = ⊥
IsCutUpTo l (Returns stamp) = ⊥

-- a thing and the beat in which it was sent or got
pub record Dated (X : Type 0) : Type 0 where
  pub beat : ℕ
  pub item : X

-- what these outputs of a beat send on a link
abbrev pub sends_of : {M : Type 0} → ℕ → ℕ → List (Out M) → List (Dated M)
sends_of l beat [] = []
sends_of l beat (out.Send link msg ∷ os) =
    if link.0 == l then (record { beat = beat; item = msg }) ∷ sends_of l beat os else sends_of l beat os
sends_of l beat (out.Act what ∷ os) = sends_of l beat os

-- what a node sends on a link in these events
abbrev pub sends_along : {M S : Type 0} → (M → Note) → (S → Input M → Deed M S) → ℕ → List (NodeEvent M) → Past S
    → List (Dated M)
sends_along note step l [] past = []
sends_along note step l (e ∷ es) past =
    sends_of l (stamp_at e).beat (outs_of step e past) ++ sends_along note step l es (after note step e past)

-- what a node takes on a link in these events
abbrev pub input_on : {M : Type 0} → ℕ → Input M → List (Dated M)
input_on l (Take stamp link msg) = if link.0 == l then (record { beat = stamp.beat; item = msg }) ∷ [] else []
input_on l (Tick stamp) = []

abbrev pub take_on : {M : Type 0} → ℕ → NodeEvent M → List (Dated M)
take_on l (Does i) = input_on l i
take_on l (Ends i sends) = input_on l i
take_on l (Dies stamp) = []
take_on l (Returns stamp) = []

abbrev pub takes_along : {M : Type 0} → ℕ → List (NodeEvent M) → List (Dated M)
takes_along l [] = []
takes_along l (e ∷ es) = take_on l e ++ takes_along l es

-- what an event writes
abbrev pub entries_at : {M S : Type 0} → (M → Note) → (S → Input M → Deed M S) → NodeEvent M → Past S → List Entry
entries_at note step (Does i) past = entries_of note i (kept_outs step i past)
entries_at note step (Ends i sends) past = entries_of note i (with_death (left_outs step i sends past))
entries_at note step (Returns stamp) past = []
entries_at note step (Dies stamp) past = (record { stamp = stamp; what = what.Died }) ∷ []

-- and several
abbrev pub written : {M S : Type 0} → (M → Note) → (S → Input M → Deed M S) → List (NodeEvent M) → Past S → List Entry
written note step [] past = []
written note step (e ∷ es) past = entries_at note step e past ++ written note step es (after note step e past)

-- the note of what was sent or got
abbrev pub noted_as : {M : Type 0} → (M → Note) → Dated M → Dated Note
noted_as note d = record { beat = d.beat; item = note d.item }
