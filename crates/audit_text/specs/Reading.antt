-- What a line is read as, whatever it is: the word that its letters are if they are one, and the item that its numbers
-- then make. A missing number is 0, and a number that is too large is cut.
use Rattle.std.specs.Prelude.{ℕ, ◌+◌, ◌-◌, ◌%◌, ◌^◌, ◌==◌, Bool, true, false, List, Option, Some, None, Result, Ok, Err, drop, if◌then◌else◌, slice_index_or, replicate}
use Rattle.hex.specs.Hex.{decode_sized}
use Rattle.hex.specs.declared.error.FromHexError.{FromHexError}
use Rattle.link_timing.specs.declared.Delay.TheVariants as delay
use Rattle.node_kit.specs.declared.course.Digest32.{Digest32}
use Rattle.node_kit.specs.declared.course.Order.{Order}
use Rattle.node_kit.specs.declared.course.OrderKind.TheVariants.{Begin, Finish}
use Rattle.node_kit.specs.declared.course.ReadFault.{ReadFault}
use Rattle.node_kit.specs.declared.journal.Entry.{Entry}
use Rattle.node_kit.specs.declared.journal.What.{What}
use Rattle.node_kit.specs.declared.journal.What.TheVariants as what
use Rattle.slot_plan.specs.declared.params.Params.{Params}
use Rattle.stripe_layout.specs.declared.catalogue.FileInfo.{FileInfo}
use Rattle.tiger_base.specs.declared.message.Note.{Note}
use Rattle.tiger_base.specs.declared.message.Note.TheVariants as note
use Rattle.tiger_base.specs.declared.part.Span.{Span}
use Rattle.tiger_base.specs.declared.tenancy.Ask.{Ask}
use Rattle.tiger_base.specs.declared.tenancy.Kind.{Kind}
use Rattle.tiger_base.specs.declared.tenancy.Kind.TheVariants.{Own, Backup}
use Rattle.tiger_base.specs.declared.tenancy.PieceState.{PieceState}
use Rattle.tiger_base.specs.declared.tenancy.Rec.{Rec}
use Rattle.tiger_base.specs.declared.tenancy.State.{State}
use Rattle.tiger_base.specs.declared.tenancy.Tag.{Tag}
use Rattle.tiger_base.specs.declared.tenancy.Tenancy.{Tenancy}
use Rattle.tiger_base.specs.declared.tenancy.Want.{Want}
use Rattle.audit_text.specs.declared.item.Item.{Item}
use Rattle.audit_text.specs.declared.item.Item.TheVariants as item
use Rattle.audit_text.specs.declared.item.Word.{Word}
use Rattle.audit_text.specs.declared.item.Word.TheVariants as word

-- the word by its first three letters, which tell the words apart
abbrev pub word_by_b : ℕ → Word
word_by_b third = if third == 97 then word.Beats else if third == 103 then word.Begin else word.Believed

abbrev pub word_by_d : ℕ → ℕ → Word
word_by_d second third =
    if second == 114 then (if third == 97 then word.Drawn else word.Dropped)
    else if third == 97 then word.Death
    else if third == 101 then word.Died
    else word.Digest

abbrev pub word_by_f : ℕ → Word
word_by_f third =
    if third == 120 then word.Fixed else if third == 110 then word.Finish
    else if third == 108 then word.File else word.Fault

abbrev pub word_by_r : ℕ → Word
word_by_r third = if third == 97 then word.ReadFailed else word.Returned

abbrev pub word_by_gpt : ℕ → ℕ → ℕ → Word
word_by_gpt first second third =
    if first == 103 then (if third == 116 then word.Got else word.Gone)
    else if first == 112 then (if second == 108 then word.Plan else word.Put)
    else if second == 105 then word.Tiger
    else word.Took

abbrev pub word_by_first : ℕ → Word
word_by_first first =
    if first == 115 then word.Sent else if first == 113 then word.Queued
    else if first == 117 then word.Unqueued
    else if first == 111 then word.Offsets else if first == 110 then word.Node
    else word.End

abbrev pub word_by : ℕ → ℕ → ℕ → Word
word_by first second third =
    if first == 98 then word_by_b third
    else if first == 100 then word_by_d second third
    else if first == 102 then word_by_f third
    else if first == 103 then word_by_gpt first second third
    else if first == 112 then word_by_gpt first second third
    else if first == 116 then word_by_gpt first second third
    else if first == 114 then word_by_r third
    else word_by_first first

unfoldable pub word_in : List ℕ → Word
word_in line = word_by (slice_index_or line 0 0) (slice_index_or line 1 0) (slice_index_or line 2 0)

-- the number at a place, and the same as a short one
abbrev pub long_at : List ℕ → ℕ → ℕ
long_at ns i = slice_index_or ns i 0

abbrev pub short_at : List ℕ → ℕ → ℕ
short_at ns i = slice_index_or ns i 0 % 2 ^ 32

abbrev pub flag_at : List ℕ → ℕ → Bool
flag_at ns i = if long_at ns i == 0 then false else true

abbrev pub kind_at : List ℕ → ℕ → Kind
kind_at ns i = if long_at ns i == 0 then Own else Backup

abbrev pub tenancy_at : List ℕ → ℕ → Tenancy
tenancy_at ns i = record {
  instance = record { 0 = short_at ns i };
  file = record { 0 = short_at ns (i + 1) };
  slot = record { 0 = short_at ns (i + 2) };
  first = long_at ns (i + 3);
  last = long_at ns (i + 4);
}

abbrev pub state_at : List ℕ → ℕ → State
state_at ns i = record { tenancy = tenancy_at ns i; visit = long_at ns (i + 5) }

abbrev pub piece_at : List ℕ → ℕ → PieceState
piece_at ns i =
    record { tenancy = tenancy_at ns i; visit = long_at ns (i + 5); piece = short_at ns (i + 6) }

abbrev pub record_at : List ℕ → ℕ → Rec
record_at ns i =
    record { tenancy = tenancy_at ns i; visit = long_at ns (i + 5); kind = kind_at ns (i + 6) }

abbrev pub ask_at : List ℕ → ℕ → Ask
ask_at ns i = record {
  instance = record { 0 = short_at ns i };
  file = record { 0 = short_at ns (i + 1) };
  count = long_at ns (i + 2);
  disk = record { 0 = short_at ns (i + 3) };
}

abbrev pub want_at : List ℕ → ℕ → Want
want_at ns i = record {
  visit = long_at ns (i + 2);
  block = long_at ns (i + 4);
  instance = record { 0 = short_at ns i };
  slot = record { 0 = short_at ns (i + 1) };
  file = record { 0 = short_at ns (i + 3) };
  piece = short_at ns (i + 5);
}

abbrev pub span_at : List ℕ → ℕ → Span
span_at ns i =
    record { file = record { 0 = short_at ns i }; from = long_at ns (i + 1); len = long_at ns (i + 2) }

abbrev pub tag_at : List ℕ → ℕ → Option Tag
tag_at ns i =
    if long_at ns i == 0 then None
    else Some (record { slot = record { 0 = short_at ns (i + 1) }; visit = long_at ns (i + 2) })

abbrev pub part_at : List ℕ → ℕ → Option Span
part_at ns i = if long_at ns i == 0 then None else Some (span_at ns (i + 1))

-- the number that one more is told of, and the one that is told if it is not 0
abbrev pub one_less_at : List ℕ → ℕ → Option ℕ
one_less_at ns i = if long_at ns i == 0 then None else Some (long_at ns i - 1)

abbrev pub some_at : List ℕ → ℕ → Option ℕ
some_at ns i = if long_at ns i == 0 then None else Some (long_at ns i)

-- the note of a line: the number of its kind stands behind beat, reading and link
unfoldable pub note_in : List ℕ → Note
note_in ns =
    let kind = long_at ns 3 in
    if kind == 0 then note.ViewerState (state_at ns 4)
    else if kind == 1 then note.MirrorState (piece_at ns 4)
    else if kind == 2 then note.Start (flag_at ns 8) (ask_at ns 4)
    else if kind == 3 then note.Deschedule (record { 0 = short_at ns 4 }) (tag_at ns 5)
    else if kind == 4 then
    note.Kill (record { 0 = short_at ns 4 }) (record { 0 = short_at ns 5 }) (long_at ns 6)
    else if kind == 5 then note.Placed (tenancy_at ns 4)
    else if kind == 6 then note.Heartbeat
    else if kind == 7 then note.ReadAsk (want_at ns 4)
    else if kind == 8 then note.ReadDone (want_at ns 4) (part_at ns 10)
    else if kind == 9 then note.Whole (want_at ns 4) (long_at ns 10) (span_at ns 11)
    else if kind == 10 then note.Piece (want_at ns 4) (long_at ns 10) (span_at ns 11)
    else note.Back (long_at ns 4)

-- what an entry with this word says
abbrev pub what_by : Word → List ℕ → What
what_by word.Got ns = what.Got (record { 0 = short_at ns 2 }) (note_in ns)
what_by word.Sent ns = what.Sent (record { 0 = short_at ns 2 }) (note_in ns)
what_by word.Took ns = what.Took (record_at ns 2)
what_by word.Dropped ns = what.Dropped (record_at ns 2)
what_by word.Queued ns =
    what.Queued (record { 0 = short_at ns 2 }) (record { 0 = short_at ns 3 })
what_by word.Unqueued ns = what.Unqueued (record { 0 = short_at ns 2 })
what_by word.Put ns = what.Put (tenancy_at ns 2)
what_by word.Gone ns = what.Gone (record { 0 = short_at ns 2 })
what_by word.ReadFailed ns = what.ReadFailed (want_at ns 2)
what_by word.Believed ns = what.Believed (record { 0 = short_at ns 2 })
what_by word.Returned ns = what.Returned
what_by w ns = what.Died

unfoldable pub entry_by : Word → List ℕ → Entry
entry_by w ns = record {
  stamp = record { beat = long_at ns 0; reading = long_at ns 1 };
  what = what_by w ns;
}

unfoldable pub params_by : List ℕ → Params
params_by ns = record {
  cubs = long_at ns 0;
  disks = long_at ns 1;
  slots = long_at ns 2;
  play = long_at ns 3;
  pieces = long_at ns 4;
  block = long_at ns 5;
  beat = long_at ns 6;
  delay = long_at ns 7;
  skew = long_at ns 8;
  window_a = long_at ns 9;
  window_b = long_at ns 10;
  read_lead = long_at ns 11;
  min_lead = long_at ns 12;
  max_lead = long_at ns 13;
  batch = long_at ns 14;
  heart = long_at ns 15;
  deadman = long_at ns 16;
  hold = long_at ns 17;
}

abbrev pub fault_by : List ℕ → ReadFault
fault_by ns =
    record { disk = record { 0 = short_at ns 0 }; from = long_at ns 1; until = long_at ns 2 }

abbrev pub file_by : List ℕ → FileInfo
file_by ns = record { len = long_at ns 0; disk = record { 0 = short_at ns 1 } }

abbrev pub begin_by : List ℕ → Order
begin_by ns = record { beat = long_at ns 0; what = Begin (ask_at ns 1) }

abbrev pub finish_by : List ℕ → Order
finish_by ns = record { beat = long_at ns 0; what = Finish (record { 0 = short_at ns 1 }) }

-- the digest whose digits stand behind the word and a space, and zeros if they are none
abbrev pub digest_or : Result (List ℕ) FromHexError → Digest32
digest_or (Ok bytes) = record { 0 = bytes }
digest_or (Err e) = record { 0 = replicate 32 0 }

unfoldable pub digest_in : List ℕ → Digest32
digest_in line = digest_or (decode_sized (drop 7 line) 32)

-- the item of this line, with this word and these numbers
unfoldable pub item_by : Word → List ℕ → List ℕ → Item
item_by word.Tiger line ns = item.Version
item_by word.Plan line ns = item.Plan (params_by ns)
item_by word.Beats line ns = item.Beats (long_at ns 0)
item_by word.Fixed line ns = item.Delay (delay.Fixed (long_at ns 0))
item_by word.Drawn line ns = item.Delay (delay.Drawn (long_at ns 0))
item_by word.Offsets line ns = item.Offsets ns
item_by word.Death line ns = item.Death (record { 0 = short_at ns 0 }) (long_at ns 1) (one_less_at ns 2) (some_at ns 3)
item_by word.Fault line ns = item.Fault (fault_by ns)
item_by word.File line ns = item.File (file_by ns)
item_by word.Begin line ns = item.Order (begin_by ns)
item_by word.Finish line ns = item.Order (finish_by ns)
item_by word.Node line ns = item.Node (record { 0 = short_at ns 0 })
item_by word.Digest line ns = item.Digest (digest_in line)
item_by word.End line ns = item.End
item_by w line ns = item.Entry (entry_by w ns)

abbrev pub item_in : List ℕ → List ℕ → Item
item_in line ns = item_by (word_in line) line ns
