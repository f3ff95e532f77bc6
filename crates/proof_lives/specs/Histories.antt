-- The lives of the nodes in a history: what befell each of them up to its death, and what befell it from its return on.
use Rattle.std.specs.Prelude.{ℕ, zero, suc, ◌+◌, ◌-◌, ◌==◌, Bool, true, false, Option, Some, None, if◌then◌else◌}
use Rattle.tiger_base.specs.declared.message.Msg.{Msg}
use Rattle.node_kit.specs.Steps.{Input}
use Rattle.node_kit.specs.Steps.Input.{Tick}
use Rattle.run_facts.specs.Events.{NodeEvent, is_return}
use Rattle.run_facts.specs.Events.NodeEvent.{Does, Ends, Dies, Returns}
use Rattle.run_facts.specs.Histories.{History, count_of}
use Rattle.proof_lives.specs.Lives.{Lives}

-- what befell a node in an event; a death apart from a step and a return count as ticks here, and stand in no life
-- without them
abbrev pub input_of : NodeEvent Msg → Input Msg
input_of (Does i) = i
input_of (Ends i sends) = i
input_of (Dies stamp) = Tick stamp
input_of (Returns stamp) = Tick stamp

-- to how many messages the death that comes in an event cuts it off, if one does
abbrev pub cut_of_event : NodeEvent Msg → Option ℕ
cut_of_event (Does i) = None
cut_of_event (Ends i sends) = Some sends
cut_of_event (Dies stamp) = None
cut_of_event (Returns stamp) = None

-- an event in which a node takes a message or ticks, whether or not its death comes in it
abbrev pub has_input : NodeEvent Msg → Bool
has_input (Does i) = true
has_input (Ends i sends) = true
has_input (Dies stamp) = false
has_input (Returns stamp) = false

-- of the first i events of a node those before its first return
abbrev pub before_return : {S : Type 0} → History Msg S → ℕ → ℕ → ℕ
before_return h n zero = 0
before_return h n (suc i) =
    if before_return h n i == i then (if is_return (h.event n i) then i else suc i) else before_return h n i

-- how many of a node's events come before its return, if it has one, and how many with it
abbrev pub first_events : {S : Type 0} → History Msg S → ℕ → ℕ
first_events h n = before_return h n (h.count n)

abbrev pub later_from : {S : Type 0} → History Msg S → ℕ → ℕ
later_from h n = suc (first_events h n)

-- how many of the events before its return have an input: these are all of them, or all but its death
abbrev pub acting : {S : Type 0} → History Msg S → ℕ → ℕ
acting h n = count_of has_input h n (first_events h n)

-- What befell each node of a history up to its death. If the death comes in an event, that is the last one.
abbrev pub lives_of : {S : Type 0} → History Msg S → Lives
lives_of h = record {
  count = acting h;
  input = λ c i. input_of (h.event c i);
  cut = λ c. cut_of_event (h.event c (acting h c - 1));
}

-- What befell each node from its return on, if it has one. It dies no more.
abbrev pub later_lives_of : {S : Type 0} → History Msg S → Lives
later_lives_of h = record {
  count = λ c. h.count c - later_from h c;
  input = λ c i. input_of (h.event c (later_from h c + i));
  cut = λ c. None;
}
