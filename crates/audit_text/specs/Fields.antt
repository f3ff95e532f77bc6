-- The numbers of each line, in the order of the text. A field that may be absent is 0, or 1 and what it holds.
use Rattle.std.specs.Prelude.{ℕ, ◌+◌, Bool, true, false, List, [], ◌∷◌, ◌++◌, Option, Some, None}
use Rattle.link_timing.specs.declared.Delay.{Delay}
use Rattle.link_timing.specs.declared.Delay.TheVariants as delay
use Rattle.node_kit.specs.declared.course.OrderKind.{OrderKind}
use Rattle.node_kit.specs.declared.course.OrderKind.TheVariants.{Begin, Finish}
use Rattle.node_kit.specs.declared.journal.What.{What}
use Rattle.node_kit.specs.declared.journal.What.TheVariants as what
use Rattle.slot_plan.specs.declared.params.Params.{Params}
use Rattle.tiger_base.specs.declared.message.Note.{Note}
use Rattle.tiger_base.specs.declared.message.Note.TheVariants as note
use Rattle.tiger_base.specs.declared.part.Span.{Span}
use Rattle.tiger_base.specs.declared.tenancy.Ask.{Ask}
use Rattle.tiger_base.specs.declared.tenancy.Kind.{Kind}
use Rattle.tiger_base.specs.declared.tenancy.Kind.TheVariants.{Own, Backup}
use Rattle.tiger_base.specs.declared.tenancy.Rec.{Rec}
use Rattle.tiger_base.specs.declared.tenancy.Tag.{Tag}
use Rattle.tiger_base.specs.declared.tenancy.Tenancy.{Tenancy}
use Rattle.tiger_base.specs.declared.tenancy.Want.{Want}
use Rattle.audit_text.specs.declared.item.Item.{Item}
use Rattle.audit_text.specs.declared.item.Item.TheVariants as item
use Rattle.audit_text.specs.declared.item.Word.{Word}
use Rattle.audit_text.specs.declared.item.Word.TheVariants as word

abbrev pub flag_number : Bool → ℕ
flag_number false = 0
flag_number true = 1

abbrev pub kind_number : Kind → ℕ
kind_number Own = 0
kind_number Backup = 1

abbrev pub tenancy_fields : Tenancy → List ℕ
tenancy_fields t = t.instance.0 ∷ t.file.0 ∷ t.slot.0 ∷ t.first ∷ t.last ∷ []

abbrev pub record_fields : Rec → List ℕ
record_fields r = tenancy_fields r.tenancy ++ r.visit ∷ kind_number r.kind ∷ []

abbrev pub ask_fields : Ask → List ℕ
ask_fields a = a.instance.0 ∷ a.file.0 ∷ a.count ∷ a.disk.0 ∷ []

abbrev pub want_fields : Want → List ℕ
want_fields w = w.instance.0 ∷ w.slot.0 ∷ w.visit ∷ w.file.0 ∷ w.block ∷ w.piece ∷ []

abbrev pub span_fields : Span → List ℕ
span_fields s = s.file.0 ∷ s.from ∷ s.len ∷ []

abbrev pub tag_fields : Option Tag → List ℕ
tag_fields None = 0 ∷ []
tag_fields (Some t) = 1 ∷ t.slot.0 ∷ t.visit ∷ []

-- one more than a number that may be 0, and a number that is not; 0 if there is none
abbrev pub one_more : Option ℕ → ℕ
one_more None = 0
one_more (Some n) = n + 1

abbrev pub or_zero : Option ℕ → ℕ
or_zero None = 0
or_zero (Some n) = n

abbrev pub part_fields : Option Span → List ℕ
part_fields None = 0 ∷ []
part_fields (Some s) = 1 ∷ span_fields s

-- a note is its number among the kinds of messages, and its fields
abbrev pub note_fields : Note → List ℕ
note_fields (note.ViewerState state) = 0 ∷ tenancy_fields state.tenancy ++ state.visit ∷ []
note_fields (note.MirrorState state) =
    1 ∷ tenancy_fields state.tenancy ++ state.visit ∷ state.piece ∷ []
note_fields (note.Start redundant ask) = 2 ∷ ask_fields ask ++ flag_number redundant ∷ []
note_fields (note.Deschedule instance tag) = 3 ∷ instance.0 ∷ tag_fields tag
note_fields (note.Kill instance slot visit) = 4 ∷ instance.0 ∷ slot.0 ∷ visit ∷ []
note_fields (note.Placed tenancy) = 5 ∷ tenancy_fields tenancy
note_fields note.Heartbeat = 6 ∷ []
note_fields (note.ReadAsk want) = 7 ∷ want_fields want
note_fields (note.ReadDone want part) = 8 ∷ want_fields want ++ part_fields part
note_fields (note.Whole want sent part) = 9 ∷ want_fields want ++ sent ∷ span_fields part
note_fields (note.Piece want sent part) = 10 ∷ want_fields want ++ sent ∷ span_fields part
note_fields (note.Back from) = 11 ∷ from ∷ []

abbrev pub what_fields : What → List ℕ
what_fields (what.Got link n) = link.0 ∷ note_fields n
what_fields (what.Sent link n) = link.0 ∷ note_fields n
what_fields (what.Took r) = record_fields r
what_fields (what.Dropped r) = record_fields r
what_fields (what.Queued instance disk) = instance.0 ∷ disk.0 ∷ []
what_fields (what.Unqueued instance) = instance.0 ∷ []
what_fields (what.Put tenancy) = tenancy_fields tenancy
what_fields (what.Gone instance) = instance.0 ∷ []
what_fields (what.ReadFailed want) = want_fields want
what_fields (what.Believed cub) = cub.0 ∷ []
what_fields what.Died = []
what_fields what.Returned = []

abbrev pub what_word : What → Word
what_word (what.Got link n) = word.Got
what_word (what.Sent link n) = word.Sent
what_word (what.Took r) = word.Took
what_word (what.Dropped r) = word.Dropped
what_word (what.Queued instance disk) = word.Queued
what_word (what.Unqueued instance) = word.Unqueued
what_word (what.Put tenancy) = word.Put
what_word (what.Gone instance) = word.Gone
what_word (what.ReadFailed want) = word.ReadFailed
what_word (what.Believed cub) = word.Believed
what_word what.Died = word.Died
what_word what.Returned = word.Returned

abbrev pub params_fields : Params → List ℕ
params_fields p =
    p.cubs ∷ p.disks ∷ p.slots ∷ p.play ∷ p.pieces ∷ p.block ∷ p.beat ∷ p.delay ∷ p.skew
    ∷ p.window_a ∷ p.window_b ∷ p.read_lead ∷ p.min_lead ∷ p.max_lead ∷ p.batch ∷ p.heart
    ∷ p.deadman ∷ p.hold ∷ []

abbrev pub delay_number : Delay → ℕ
delay_number (delay.Fixed beats) = beats
delay_number (delay.Drawn number) = number

abbrev pub delay_word : Delay → Word
delay_word (delay.Fixed beats) = word.Fixed
delay_word (delay.Drawn number) = word.Drawn

abbrev pub order_fields : OrderKind → List ℕ
order_fields (Begin ask) = ask_fields ask
order_fields (Finish instance) = instance.0 ∷ []

abbrev pub order_word : OrderKind → Word
order_word (Begin ask) = word.Begin
order_word (Finish instance) = word.Finish

-- the numbers of a line; that of a digest has none
abbrev pub fields_of : Item → List ℕ
fields_of item.Version = 1 ∷ []
fields_of (item.Plan p) = params_fields p
fields_of (item.Beats n) = n ∷ []
fields_of (item.Delay d) = delay_number d ∷ []
fields_of (item.Offsets offsets) = offsets
fields_of (item.Death cub beat left back) = cub.0 ∷ beat ∷ one_more left ∷ or_zero back ∷ []
fields_of (item.Fault f) = f.disk.0 ∷ f.from ∷ f.until ∷ []
fields_of (item.File f) = f.len ∷ f.disk.0 ∷ []
fields_of (item.Order o) = o.beat ∷ order_fields o.what
fields_of (item.Node n) = n.0 ∷ []
fields_of (item.Entry e) = e.stamp.beat ∷ e.stamp.reading ∷ what_fields e.what
fields_of (item.Digest d) = []
fields_of item.End = []

abbrev pub word_of : Item → Word
word_of item.Version = word.Tiger
word_of (item.Plan p) = word.Plan
word_of (item.Beats n) = word.Beats
word_of (item.Delay d) = delay_word d
word_of (item.Offsets offsets) = word.Offsets
word_of (item.Death cub beat left back) = word.Death
word_of (item.Fault f) = word.Fault
word_of (item.File f) = word.File
word_of (item.Order o) = order_word o.what
word_of (item.Node n) = word.Node
word_of (item.Entry e) = what_word e.what
word_of (item.Digest d) = word.Digest
word_of item.End = word.End
