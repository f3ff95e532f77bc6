-- What a journal keeps of a message.
use Rattle.std.specs.Prelude.{option_map}
use Rattle.tiger_base.specs.declared.message.Msg.{Msg}
use Rattle.tiger_base.specs.declared.message.Msg.TheVariants as msg
use Rattle.tiger_base.specs.declared.message.Note.{Note}
use Rattle.tiger_base.specs.declared.message.Note.TheVariants as note

-- the message, with a span in place of a part
abbrev pub noted : Msg → Note
noted (msg.ViewerState state) = note.ViewerState state
noted (msg.MirrorState state) = note.MirrorState state
noted (msg.Start redundant ask) = note.Start redundant ask
noted (msg.Deschedule instance tag) = note.Deschedule instance tag
noted (msg.Kill instance slot visit) = note.Kill instance slot visit
noted (msg.Placed tenancy) = note.Placed tenancy
noted msg.Heartbeat = note.Heartbeat
noted (msg.ReadAsk want) = note.ReadAsk want
noted (msg.ReadDone want part) = note.ReadDone want (option_map (λ p. p.span) part)
noted (msg.Whole want sent part) = note.Whole want sent part.span
noted (msg.Piece want sent part) = note.Piece want sent part.span
noted (msg.Back from) = note.Back from
