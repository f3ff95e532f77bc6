-- That the numbers of a line fit their types. Each value that the program has meets this, but for a death that leaves
-- the greatest number of messages that there is, and a return in beat 0; a number of a definition is any number.
use Rattle.std.specs.Prelude.{◌≡◌, ℕ, ◌+◌, ◌<◌, ◌≤◌, ◌^◌, Option, Some, None, length}
use Rattle.std.specs.List.{All}
use Rattle.hex.specs.Hex.{IsBytes}
use Rattle.node_kit.specs.declared.course.Digest32.{Digest32}
use Rattle.node_kit.specs.declared.course.OrderKind.{OrderKind}
use Rattle.node_kit.specs.declared.course.OrderKind.TheVariants.{Begin, Finish}
use Rattle.node_kit.specs.declared.journal.What.{What}
use Rattle.node_kit.specs.declared.journal.What.TheVariants as what
use Rattle.tiger_base.specs.declared.message.Note.{Note}
use Rattle.tiger_base.specs.declared.message.Note.TheVariants as note
use Rattle.tiger_base.specs.declared.part.Span.{Span}
use Rattle.tiger_base.specs.declared.tenancy.Ask.{Ask}
use Rattle.tiger_base.specs.declared.tenancy.Tag.{Tag}
use Rattle.tiger_base.specs.declared.tenancy.Tenancy.{Tenancy}
use Rattle.tiger_base.specs.declared.tenancy.Want.{Want}
use Rattle.audit_text.specs.declared.item.Item.{Item}
use Rattle.audit_text.specs.declared.item.Item.TheVariants as item
use Rattle.audit_text.specs.Fields.{delay_number, params_fields}

abbrev pub IsShort : ℕ → Type 0
IsShort n = n < 2 ^ 32

abbrev pub IsLong : ℕ → Type 0
IsLong n = n < 2 ^ 64

abbrev pub TenancyFits : Tenancy → Type 0
TenancyFits t =
    IsShort t.instance.0 × IsShort t.file.0 × IsShort t.slot.0 × IsLong t.first × IsLong t.last

abbrev pub AskFits : Ask → Type 0
AskFits a = IsShort a.instance.0 × IsShort a.file.0 × IsLong a.count × IsShort a.disk.0

abbrev pub WantFits : Want → Type 0
WantFits w =
    IsShort w.instance.0 × IsShort w.slot.0 × IsLong w.visit × IsShort w.file.0 × IsLong w.block
    × IsShort w.piece

abbrev pub SpanFits : Span → Type 0
SpanFits s = IsShort s.file.0 × IsLong s.from × IsLong s.len

abbrev pub TagFits : Option Tag → Type 0
TagFits None = Unit {0}
TagFits (Some t) = IsShort t.slot.0 × IsLong t.visit

abbrev pub PartFits : Option Span → Type 0
PartFits None = Unit {0}
PartFits (Some s) = SpanFits s

abbrev pub NoteFits : Note → Type 0
NoteFits (note.ViewerState state) = TenancyFits state.tenancy × IsLong state.visit
NoteFits (note.MirrorState state) =
    TenancyFits state.tenancy × IsLong state.visit × IsShort state.piece
NoteFits (note.Start redundant ask) = AskFits ask
NoteFits (note.Deschedule instance tag) = IsShort instance.0 × TagFits tag
NoteFits (note.Kill instance slot visit) = IsShort instance.0 × IsShort slot.0 × IsLong visit
NoteFits (note.Placed tenancy) = TenancyFits tenancy
NoteFits note.Heartbeat = Unit {0}
NoteFits (note.ReadAsk want) = WantFits want
NoteFits (note.ReadDone want part) = WantFits want × PartFits part
NoteFits (note.Whole want sent part) = WantFits want × IsLong sent × SpanFits part
NoteFits (note.Piece want sent part) = WantFits want × IsLong sent × SpanFits part
NoteFits (note.Back from) = IsLong from

abbrev pub WhatFits : What → Type 0
WhatFits (what.Got link n) = IsShort link.0 × NoteFits n
WhatFits (what.Sent link n) = IsShort link.0 × NoteFits n
WhatFits (what.Took r) = TenancyFits r.tenancy × IsLong r.visit
WhatFits (what.Dropped r) = TenancyFits r.tenancy × IsLong r.visit
WhatFits (what.Queued instance disk) = IsShort instance.0 × IsShort disk.0
WhatFits (what.Unqueued instance) = IsShort instance.0
WhatFits (what.Put tenancy) = TenancyFits tenancy
WhatFits (what.Gone instance) = IsShort instance.0
WhatFits (what.ReadFailed want) = WantFits want
WhatFits (what.Believed cub) = IsShort cub.0
WhatFits what.Died = Unit {0}
WhatFits what.Returned = Unit {0}

-- one more than how many messages may go out is a long number, and a return is not in beat 0
abbrev pub LeftFits : Option ℕ → Type 0
LeftFits None = Unit {0}
LeftFits (Some n) = IsLong (n + 1)

abbrev pub BackFits : Option ℕ → Type 0
BackFits None = Unit {0}
BackFits (Some beat) = (1 ≤ beat) × IsLong beat

abbrev pub OrderFits : OrderKind → Type 0
OrderFits (Begin ask) = AskFits ask
OrderFits (Finish instance) = IsShort instance.0

abbrev pub DigestFits : Digest32 → Type 0
DigestFits d = (length d.0 ≡ 32) × IsBytes d.0

abbrev pub ItemFits : Item → Type 0
ItemFits item.Version = Unit {0}
ItemFits (item.Plan p) = All IsLong (params_fields p)
ItemFits (item.Beats n) = IsLong n
ItemFits (item.Delay d) = IsLong (delay_number d)
ItemFits (item.Offsets offsets) = All IsLong offsets
ItemFits (item.Death cub beat left back) = IsShort cub.0 × IsLong beat × LeftFits left × BackFits back
ItemFits (item.Fault f) = IsShort f.disk.0 × IsLong f.from × IsLong f.until
ItemFits (item.File f) = IsLong f.len × IsShort f.disk.0
ItemFits (item.Order o) = IsLong o.beat × OrderFits o.what
ItemFits (item.Node n) = IsShort n.0
ItemFits (item.Entry e) = IsLong e.stamp.beat × IsLong e.stamp.reading × WhatFits e.what
ItemFits (item.Digest d) = DigestFits d
ItemFits item.End = Unit {0}
