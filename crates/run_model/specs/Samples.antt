-- Short words for the entries of worked logs, on the ring of the plan of worked examples.
use Rattle.std.specs.Prelude.{ℕ, ◌+◌, ◌*◌, Bool, List, [], ◌∷◌, Option, Some, None}
use Rattle.tiger_base.specs.declared.message.Note.{Note}
use Rattle.tiger_base.specs.declared.message.Note.TheVariants as note
use Rattle.tiger_base.specs.declared.part.Span.{Span}
use Rattle.tiger_base.specs.declared.tenancy.Ask.{Ask}
use Rattle.tiger_base.specs.declared.tenancy.Rec.{Rec}
use Rattle.tiger_base.specs.declared.tenancy.Tenancy.{Tenancy}
use Rattle.tiger_base.specs.declared.tenancy.Want.{Want}
use Rattle.slot_plan.specs.Conditions.{IsPlan}
use Rattle.slot_plan.specs.Samples.{small}
use Rattle.stripe_layout.specs.declared.catalogue.Catalogue.{Catalogue}
use Rattle.stripe_layout.specs.declared.catalogue.FileInfo.{FileInfo}
use Rattle.stripe_layout.specs.Layout.{IsCatalogue}
use Rattle.node_kit.specs.declared.course.Kept.{Kept}
use Rattle.node_kit.specs.declared.course.Order.{Order}
use Rattle.node_kit.specs.declared.course.OrderKind.TheVariants as kind
use Rattle.node_kit.specs.declared.journal.Entry.{Entry}
use Rattle.node_kit.specs.declared.journal.What.{What}
use Rattle.node_kit.specs.declared.journal.What.TheVariants as what
use Rattle.run_facts.specs.Order.{Noted, journals_of}
use Rattle.run_model.specs.Served.{IsDelivered}
use Rattle.run_model.specs.Excuses.{IsExcused}

-- In the ring of these logs node 16 is the controller and node 17 the viewers. Link 16 + c leads from cub c to the viewers,
-- link 24 + 2 * c from cub c to the next cub and link 25 + 2 * c to the one after that, and link 40 + d from cub d to disk d.

-- ---- entries

-- a node writes an entry at a reading, and at the true time of its beat
abbrev pub at_reading : ℕ → ℕ → ℕ → What → Noted
at_reading node beat reading w =
    record { node = node; entry = record { stamp = record { beat = beat; reading = reading }; what = w } }

abbrev pub at : ℕ → ℕ → What → Noted
at node beat w = at_reading node beat (beat * 10000) w

-- the controller stops an instance; a cub puts a tenancy
abbrev pub gone : ℕ → ℕ → Noted
gone beat v = at 16 beat (what.Gone (record { 0 = v }))

abbrev pub put : ℕ → ℕ → Tenancy → Noted
put cub beat t = at cub beat (what.Put t)

-- a cub takes a record, and drops it
abbrev pub took : ℕ → ℕ → Rec → Noted
took cub beat r = at cub beat (what.Took r)

abbrev pub dropped : ℕ → ℕ → Rec → Noted
dropped cub beat r = at cub beat (what.Dropped r)

-- a cub gets the viewer state of a visit on a link, and sends it on a link
abbrev pub told : ℕ → ℕ → ℕ → Tenancy → ℕ → Noted
told cub beat link t visit =
    at cub beat (what.Got (record { 0 = link }) (note.ViewerState (record { tenancy = t; visit = visit })))

abbrev pub tells : ℕ → ℕ → ℕ → Tenancy → ℕ → Noted
tells cub beat link t visit =
    at cub beat (what.Sent (record { 0 = link }) (note.ViewerState (record { tenancy = t; visit = visit })))

-- a cub gets the start of an ask, the plain one or the redundant one
abbrev pub starts : ℕ → ℕ → Ask → Bool → Noted
starts cub beat ask redundant = at cub beat (what.Got (record { 0 = cub }) (note.Start redundant ask))

-- a cub dies, one comes back, and one believes another dead
abbrev pub dies : ℕ → ℕ → Noted
dies cub beat = at cub beat what.Died

abbrev pub is_back : ℕ → ℕ → Noted
is_back cub beat = at cub beat what.Returned

abbrev pub believes : ℕ → ℕ → ℕ → Noted
believes cub beat other = at cub beat (what.Believed (record { 0 = other }))

-- a cub sends the viewers a note, and they get it from that cub
abbrev pub sends : ℕ → ℕ → Note → Noted
sends cub beat n = at cub beat (what.Sent (record { 0 = 16 + cub }) n)

abbrev pub gets : ℕ → ℕ → Note → Noted
gets cub beat n = at 17 beat (what.Got (record { 0 = 16 + cub }) n)

-- a cub asks the disk of its number, and the disk is asked; a cub reports that a read failed
abbrev pub asks : ℕ → ℕ → Want → Noted
asks cub beat w = at cub beat (what.Sent (record { 0 = 40 + cub }) (note.ReadAsk w))

abbrev pub asked : ℕ → ℕ → Want → Noted
asked disk beat w = at (8 + disk) beat (what.Got (record { 0 = 40 + disk }) (note.ReadAsk w))

abbrev pub fails : ℕ → ℕ → Want → Noted
fails cub beat w = at cub beat (what.ReadFailed w)

-- time passes up to a beat, in which cub 2 writes what changes nothing, at a reading and at the true time
abbrev pub later_at : ℕ → ℕ → Noted
later_at beat reading = at_reading 2 beat reading (what.Unqueued (record { 0 = 9 }))

abbrev pub later : ℕ → Noted
later beat = later_at beat (beat * 10000)

-- ---- what they speak of

-- a tenancy of file 0 in a slot, and in slot 1
abbrev pub seat_in : ℕ → ℕ → ℕ → ℕ → Tenancy
seat_in slot v first last = record {
  instance = record { 0 = v };
  file = record { 0 = 0 };
  slot = record { 0 = slot };
  first = first;
  last = last;
}

abbrev pub seat : ℕ → ℕ → ℕ → Tenancy
seat v first last = seat_in 1 v first last

-- instance 0 has slot 1 for visits 0, 1 and 2, which are due at 500000, 1500000 and 2500000 micros
abbrev pub three : Tenancy
three = seat 0 0 2

-- and for visits 0 to 20, of which visit 17 is cub 1's and due at 17500000
abbrev pub long : Tenancy
long = seat 0 0 20

-- what such a tenancy wants at a visit, if its first visit is 0
abbrev pub want : ℕ → ℕ → ℕ → Want
want v visit piece = record {
  instance = record { 0 = v };
  slot = record { 0 = 1 };
  visit = visit;
  file = record { 0 = 0 };
  block = visit;
  piece = piece;
}

-- bytes of file 0
abbrev pub bytes : ℕ → ℕ → Span
bytes from len = record { file = record { 0 = 0 }; from = from; len = len }

-- the whole block of a visit of an instance, and a piece of it by its number, that left in a beat with these bytes
abbrev pub block : ℕ → ℕ → ℕ → ℕ → ℕ → Note
block v visit sent from len = note.Whole (want v visit 0) sent (bytes from len)

abbrev pub piece : ℕ → ℕ → ℕ → ℕ → ℕ → ℕ → Note
piece v visit number sent from len = note.Piece (want v visit number) sent (bytes from len)

-- the block of visit 0 of instance 0, and its two pieces, each as it leaves in its beat
abbrev pub first_block : Note
first_block = block 0 0 50 0 4

abbrev pub first_half : Note
first_half = piece 0 0 1 50 0 2

abbrev pub second_half : Note
second_half = piece 0 0 2 100 2 2

-- a file of ten bytes: three blocks, the first of them on disk 0
abbrev pub only_file : List FileInfo
only_file = (record { len = 10; disk = record { 0 = 0 } }) ∷ []

abbrev pub IsOfTen : Type 0
IsOfTen = IsCatalogue only_file 4 8

abbrev pub ten : IsOfTen → Catalogue
ten sound = record { files = only_file; block = 4; disks = 8; sound = sound }

-- an instance is to play a file of so many blocks, whose first block is on a disk; and the order to begin it in beat 0
abbrev pub ask_for : ℕ → ℕ → ℕ → ℕ → Ask
ask_for v file count disk =
    record { instance = record { 0 = v }; file = record { 0 = file }; count = count; disk = record { 0 = disk } }

abbrev pub begins : Ask → List Order
begins a = (record { beat = 0; what = kind.Begin a }) ∷ []

-- instance 0 is to play the three blocks of the file
abbrev pub ask : Ask
ask = ask_for 0 0 3 0

abbrev pub ordered : List Order
ordered = begins ask

-- instance 0 is put for visit 0 alone, of which it wants the first block
abbrev pub seated : Noted
seated = put 0 1 (seat 0 0 0)

-- ---- runs

-- the journals of all eighteen nodes, from a log
abbrev pub all : List Noted → List (List Entry)
all log = journals_of 18 log

-- in a run with this log visit 0 of instance 0 is delivered, over that file
abbrev pub IsDeliveredBy : IsOfTen → List Noted → Type 0
IsDeliveredBy sound log = IsDelivered small (ten sound) (all log) 0 0

-- and a visit of instance 0 is excused
abbrev pub IsExcusedBy : ℕ → List Noted → Type 0
IsExcusedBy visit log = IsExcused small (all log) 0 visit

-- the deaths of cubs 0, 1 and 7, where the others live
abbrev pub dying : Option ℕ → Option ℕ → Option ℕ → List (Option ℕ)
dying a b z = a ∷ b ∷ None ∷ None ∷ None ∷ None ∷ None ∷ z ∷ []

-- of no cub, or of cub 7 alone
abbrev pub of_none : List (Option ℕ)
of_none = dying None None None

abbrev pub of_last : ℕ → List (Option ℕ)
of_last n = dying None None (Some n)

-- what is kept of a run of so many beats, with these deaths, which cut off and are followed by a return so, and with
-- these orders, in which all clocks show the true time; the rest is that of some other run
abbrev pub kept_of_lives : Kept → IsPlan small → ℕ → List (Option ℕ) → List (Option ℕ) → List (Option ℕ) → List Order
    → List Noted → Kept
kept_of_lives other plan beats deaths cuts backs orders log = record {
  course = record {
    plan = record { params = small; sound = plan };
    beats = beats;
    offsets = 0 ∷ 0 ∷ 0 ∷ 0 ∷ 0 ∷ 0 ∷ 0 ∷ 0 ∷ 0 ∷ [];
    deaths = deaths;
    cuts = cuts;
    backs = backs;
    faults = other.course.faults;
    delay = other.course.delay;
  };
  catalogue = other.catalogue;
  orders = orders;
  journals = all log;
  digests = other.digests;
}

-- and with whole lives
abbrev pub kept : Kept → IsPlan small → ℕ → List (Option ℕ) → List Order → List Noted → Kept
kept other plan beats deaths orders log = kept_of_lives other plan beats deaths of_none of_none orders log
