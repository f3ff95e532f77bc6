-- Small messages and entries, of which the worked rows speak.
use Rattle.std.specs.Prelude.{ℕ, true, None}
use Rattle.tiger_base.specs.declared.message.Note.{Note}
use Rattle.tiger_base.specs.declared.message.Note.TheVariants as note
use Rattle.tiger_base.specs.declared.tenancy.Ask.{Ask}
use Rattle.tiger_base.specs.declared.tenancy.Want.{Want}
use Rattle.node_kit.specs.declared.journal.What.{What}
use Rattle.node_kit.specs.declared.journal.What.TheVariants as what
use Rattle.node_kit.specs.declared.outbox.Out.{Out}
use Rattle.node_kit.specs.declared.outbox.Out.TheVariants as out

-- messages: a start, an order that an instance is to stop, and a read that gave nothing
abbrev pub start : Ask → Note
start a = note.Start true a

abbrev pub stop_order : ℕ → Note
stop_order v = note.Deschedule (record { 0 = v }) None

abbrev pub no_part : Want → Note
no_part want = note.ReadDone want None

-- entries: a message was sent on link 0, a start joined the waiting list for a disk, and one left it
abbrev pub sent : Note → What
sent message = what.Sent (record { 0 = 0 }) message

abbrev pub joined_list : ℕ → ℕ → What
joined_list v disk = what.Queued (record { 0 = v }) (record { 0 = disk })

abbrev pub unqueued : ℕ → What
unqueued v = what.Unqueued (record { 0 = v })

-- an output that the journal keeps as it is, in a ring whose messages are their own notes
abbrev pub told : What → Out Note
told w = out.Act w

abbrev pub own : Note → Note
own message = message
