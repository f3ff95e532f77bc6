-- Which entries of a cub's journal may come of the take of a message, by which they are told from those of the tick that
-- comes behind it.
use Rattle.std.specs.Prelude.{Bool, true, false, ◌==◌}
use Rattle.tiger_base.specs.declared.number.Instance.{Instance}
use Rattle.tiger_base.specs.declared.message.Note.{Note}
use Rattle.tiger_base.specs.declared.message.Note.TheVariants as note
use Rattle.node_kit.specs.declared.journal.What.{What}
use Rattle.node_kit.specs.declared.journal.What.TheVariants as what

-- a start joins the waiting list
abbrev pub is_of_start : What → Bool
is_of_start (what.Queued v disk) = true
is_of_start other = false

-- a viewer state is told to the controller, or a deschedule is passed on for it
abbrev pub is_sent_of_state : Note → Bool
is_sent_of_state (note.Placed tenancy) = true
is_sent_of_state (note.Deschedule v tag) = true
is_sent_of_state other = false

-- it lets records be taken, and the start that waits be dropped
abbrev pub is_of_state : What → Bool
is_of_state (what.Unqueued v) = true
is_of_state (what.Took r) = true
is_of_state (what.Sent link message) = is_sent_of_state message
is_of_state other = false

-- a deschedule is passed on, and the pieces of split visits are killed
abbrev pub is_sent_of_stop : Note → Bool
is_sent_of_stop (note.Deschedule v tag) = true
is_sent_of_stop (note.Kill v slot visit) = true
is_sent_of_stop other = false

-- it drops the instance's start, and its records
abbrev pub is_of_stop : Instance → What → Bool
is_of_stop v (what.Unqueued w) = true
is_of_stop v (what.Dropped r) = r.tenancy.instance.0 == v.0
is_of_stop v (what.Sent link message) = is_sent_of_stop message
is_of_stop v other = false

-- an answer without a part is written down
abbrev pub is_of_answer : What → Bool
is_of_answer (what.ReadFailed want) = true
is_of_answer other = false

-- Whether an entry may come of the take of a message. Of no other message is anything written.
abbrev pub is_of_take : Note → What → Bool
is_of_take (note.Start redundant ask) w = is_of_start w
is_of_take (note.ViewerState state) w = is_of_state w
is_of_take (note.Deschedule v tag) w = is_of_stop v w
is_of_take (note.ReadDone want part) w = is_of_answer w
is_of_take other w = false
