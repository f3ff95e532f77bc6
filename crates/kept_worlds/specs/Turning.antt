-- How the last event of a node is found by what it said in the beat of its death, one thing after another.
use Rattle.std.specs.Prelude.{ℕ, suc, List, [], ◌∷◌, Option, Some, None, if◌then◌else◌}
use Rattle.tiger_base.specs.declared.message.Note.{Note}
use Rattle.node_kit.specs.declared.journal.What.{What}
use Rattle.proof_turns.specs.Turns.{is_of_take}
use Rattle.kept_worlds.specs.declared.turn.Turn.{Turn}
use Rattle.kept_worlds.specs.Events.{is_sent, sends_said, message_got, is_in_take, tick_part}

-- one message more, if an entry says that one was sent
abbrev pub sent_more : ℕ → What → ℕ
sent_more sends w = if is_sent w then suc sends else sends

-- behind an entry that says no message was got: it is of the take still, or of the tick
abbrev pub turn_on : Option Note → ℕ → What → Turn
turn_on None sends w = record { taking = None; sends = sent_more sends w }
turn_on (Some message) sends w =
    if is_of_take message w then record { taking = Some message; sends = sends }
    else record { taking = None; sends = sent_more 0 w }

abbrev pub turn_by : Turn → Option Note → What → Turn
turn_by t None w = turn_on t.taking t.sends w
turn_by t (Some message) w = record { taking = Some message; sends = 0 }

abbrev pub turn_after : Turn → What → Turn
turn_after t w = turn_by t (message_got w) w

-- behind all that was said
abbrev pub turns : Turn → List What → Turn
turns t [] = t
turns t (w ∷ ws) = turns (turn_after t w) ws

-- how many messages were sent by entries of a beat, behind some more, if all of them may come of a take
abbrev pub sends_of_take : Note → ℕ → List What → Option ℕ
sends_of_take message sends [] = Some sends
sends_of_take message sends (w ∷ ws) =
    if is_of_take message w then sends_of_take message (sent_more sends w) ws else None

-- how many the tick sent, if the death does not come in a take
abbrev pub sends_of_tick : List What → Option ℕ
sends_of_tick ws = if is_in_take ws then None else Some (sends_said (tick_part ws ws))
