-- Where the messages that journals say were got are not those that were sent: a message at the wrong end of its link, one
-- that was got and is not the next one sent, and one that was sent and may not be lost.
use Rattle.std.specs.Prelude.{◌≡◌, ℕ, ◌+◌, ◌*◌, ◌<◌, ◌≤◌, ◌&&◌, ◌==◌, nat_le, List, [], ◌∷◌, ◌++◌, length, take, Option, Some, None, option_map, get_or, slice_get, ◌⊎◌, if◌then◌else◌}
use Rattle.std.specs.List.{AllByRecursion, flat_map}
use Rattle.std.specs.Map.{lookup}
use Rattle.std.specs.Ordering.{is_eq, nat_cmp, ordering_then}
use Rattle.tiger_base.specs.declared.message.Note.{Note}
use Rattle.tiger_base.specs.declared.number.LinkNo.{LinkNo}
use Rattle.slot_plan.specs.declared.params.Params.{Params}
use Rattle.node_kit.specs.declared.course.Course.{Course}
use Rattle.node_kit.specs.declared.course.Kept.{Kept}
use Rattle.node_kit.specs.declared.journal.Entry.{Entry}
use Rattle.node_kit.specs.declared.journal.What.{What}
use Rattle.node_kit.specs.declared.journal.What.TheVariants as what
use Rattle.node_kit.specs.Life.{back_of, lifetime_of}
use Rattle.node_kit.specs.Links.{links_of, ends_of}
use Rattle.run_facts.specs.Events.{Dated}
use Rattle.run_facts.specs.Carried.{MayBeLost, IsAtItsEnd}
use Rattle.run_model.specs.Runs.{IsCarriedRun}
use Rattle.audit_orders.specs.Earliest.{IsFirstEntry, IsAtNoEntry}
use Rattle.audit_orders.specs.declared.carrying.Uncarried.{Uncarried}
use Rattle.audit_orders.specs.declared.carrying.Uncarried.TheVariants as un
use Rattle.audit_orders.specs.declared.mail.Mail.{Mail}

-- ---- streams: of a link, what is of beats below its receiver's return, or all, and what is of the others

-- the return of the node to which a link leads
abbrev pub back_at_end : Course → Option (ℕ × ℕ) → Option ℕ
back_at_end c None = None
back_at_end c (Some ends) = back_of c ends.1

abbrev pub back_to : Course → ℕ → Option ℕ
back_to c l = back_at_end c (ends_of (links_of c.plan.params) l)

-- 1 from the return on, and else 0
abbrev pub half_of : Option ℕ → ℕ → ℕ
half_of None beat = 0
half_of (Some back) beat = if nat_le back beat then 1 else 0

-- the number of the stream of a link to which a beat belongs
abbrev pub stream_of : Course → ℕ → ℕ → ℕ
stream_of c l beat = 2 * l + half_of (back_to c l) beat

-- what an entry says was sent, or got, in a stream
abbrev pub sent_at : Course → ℕ → ℕ → What → List (Dated Note)
sent_at c s beat (what.Sent link note) =
    if stream_of c link.0 beat == s then (record { beat = beat; item = note }) ∷ [] else []
sent_at c s beat other = []

abbrev pub got_at : Course → ℕ → ℕ → What → List (Dated Note)
got_at c s beat (what.Got link note) =
    if stream_of c link.0 beat == s then (record { beat = beat; item = note }) ∷ [] else []
got_at c s beat other = []

abbrev pub all_sent_at : Course → ℕ → List Entry → List (Dated Note)
all_sent_at c s entries = flat_map (λ e. sent_at c s e.stamp.beat e.what) entries

abbrev pub all_got_at : Course → ℕ → List Entry → List (Dated Note)
all_got_at c s entries = flat_map (λ e. got_at c s e.stamp.beat e.what) entries

-- the entries of all journals, one behind another, and those before an entry of one of them
abbrev pub all_entries : List (List Entry) → List Entry
all_entries journals = flat_map (λ journal. journal) journals

abbrev pub entries_to : List (List Entry) → ℕ → List Entry → ℕ → List Entry
entries_to journals n journal i = all_entries (take n journals) ++ take i journal

-- messages got are the first of those sent, each from one beat to the greatest delay later
abbrev pub AreFirstSent : ℕ → List (Dated Note) → List (Dated Note) → Type 0
AreFirstSent most sent [] = Unit {0}
AreFirstSent most [] (g ∷ gs) = ⊥
AreFirstSent most (s ∷ ss) (g ∷ gs) =
    (g.item ≡ s.item) × (s.beat + 1 ≤ g.beat) × (g.beat ≤ s.beat + most) × AreFirstSent most ss gs

-- a message sent in a beat on the link with these ends may be lost
abbrev pub MayBeLostTo : Course → Option (ℕ × ℕ) → ℕ → Type 0
MayBeLostTo c None beat = Unit {0}
MayBeLostTo c (Some ends) beat = MayBeLost c.plan.params.delay c.beats (lifetime_of c ends.1) beat

abbrev pub MayBeLostOn : Course → ℕ → ℕ → Type 0
MayBeLostOn c l beat = MayBeLostTo c (ends_of (links_of c.plan.params) l) beat

-- ---- tables

abbrev pub KeptMail : Type 0
KeptMail = List ((ℕ × ℕ) × Mail)

-- the message at a place of a stream
abbrev pub mail_under : ℕ → ℕ → KeptMail → Option Mail
mail_under s n mail = lookup (λ k. is_eq (ordering_then (nat_cmp s k.0) (nat_cmp n k.1))) mail

-- the numbers of streams, each at the stream's place, and the number of one: 0 if it has no place
abbrev pub StreamCounts : Type 0
StreamCounts = List ℕ

abbrev pub count_under : ℕ → StreamCounts → ℕ
count_under s counts = get_or counts s 0

-- ---- flaws

-- an entry of a node does not stand at its end of its link
pub record IsStrayEntry (c : Course) (journals : List (List Entry)) (n i : ℕ) : Type 0 where
  pub journal : List Entry
  pub here : slice_get journals n ≡ Some journal
  pub entry : Entry
  pub at : slice_get journal i ≡ Some entry
  pub stray : IsAtItsEnd c.plan.params n entry.what → ⊥

-- in some stream what was got before an entry is the first of what was sent, and with the entry it is not
pub record IsWrongGot (c : Course) (journals : List (List Entry)) (n i : ℕ) : Type 0 where
  pub journal : List Entry
  pub here : slice_get journals n ≡ Some journal
  pub inside : i < length journal
  pub stream : ℕ
  pub before : AreFirstSent c.plan.params.delay (all_sent_at c stream (all_entries journals))
      (all_got_at c stream (entries_to journals n journal i))
  pub with_it : AreFirstSent c.plan.params.delay (all_sent_at c stream (all_entries journals))
      (all_got_at c stream (entries_to journals n journal (i + 1))) → ⊥

-- an entry sends a message that may not be lost, and as many as were got in its stream were sent before it
pub record IsLost (c : Course) (journals : List (List Entry)) (n i : ℕ) : Type 0 where
  pub journal : List Entry
  pub here : slice_get journals n ≡ Some journal
  pub entry : Entry
  pub at : slice_get journal i ≡ Some entry
  pub link : LinkNo
  pub note : Note
  pub sends : entry.what ≡ what.Sent link note
  pub behind : length (all_got_at c (stream_of c link.0 entry.stamp.beat) (all_entries journals))
      ≤ length (all_sent_at c (stream_of c link.0 entry.stamp.beat) (entries_to journals n journal i))
  pub needed : MayBeLostOn c link.0 entry.stamp.beat → ⊥

-- each entry of a node stands at its end of its link, and those of all nodes do
abbrev pub AreAtEnds : Params → ℕ → List Entry → Type 0
AreAtEnds p n journal = AllByRecursion (λ e. IsAtItsEnd p n e.what) journal

abbrev pub AllAtEnds : Params → List (List Entry) → Type 0
AllAtEnds p journals = (n : ℕ) (journal : List Entry) → slice_get journals n ≡ Some journal → AreAtEnds p n journal

-- behind so many messages each may be lost
abbrev pub MayBeLostBehind : Course → ℕ → ℕ → List (Dated Note) → Type 0
MayBeLostBehind c l got sent = (n : ℕ) (d : Dated Note) → slice_get sent n ≡ Some d → got ≤ n → MayBeLostOn c l d.beat

abbrev pub NoneIsLost : Course → StreamCounts → List Entry → Type 0
NoneIsLost c got entries =
    (l h : ℕ) → h ≤ 1 → MayBeLostBehind c l (count_under (2 * l + h) got) (all_sent_at c (2 * l + h) entries)

-- the same flaws of one journal, behind other entries, none of which has such a flaw
abbrev pub IsStrayIn : Params → ℕ → List Entry → ℕ → Type 0
IsStrayIn p n journal i =
    (e : Entry) × (slice_get journal i ≡ Some e) × (IsAtItsEnd p n e.what → ⊥) × AreAtEnds p n (take i journal)

pub record IsWrongIn (c : Course) (all front journal : List Entry) (i : ℕ) : Type 0 where
  pub inside : i < length journal
  pub stream : ℕ
  pub before : (s : ℕ) → AreFirstSent c.plan.params.delay (all_sent_at c s all) (all_got_at c s (front ++ take i journal))
  pub with_it : AreFirstSent c.plan.params.delay (all_sent_at c stream all) (all_got_at c stream (front ++ take (i + 1) journal)) → ⊥

pub record IsLostIn (c : Course) (got : StreamCounts) (front journal : List Entry) (i : ℕ) : Type 0 where
  pub entry : Entry
  pub at : slice_get journal i ≡ Some entry
  pub link : LinkNo
  pub note : Note
  pub sends : entry.what ≡ what.Sent link note
  pub behind : count_under (stream_of c link.0 entry.stamp.beat) got
      ≤ length (all_sent_at c (stream_of c link.0 entry.stamp.beat) (front ++ take i journal))
  pub needed : MayBeLostOn c link.0 entry.stamp.beat → ⊥
  pub none : NoneIsLost c got (front ++ take i journal)

-- A kept run is not carried first here: an entry is the first that does not stand at its end of its link; or all do, and it
-- is the first in which the wrong message was got; or none is, and it is the first whose message was lost and may not be.
abbrev pub IsUncarriedAt : Course → List (List Entry) → Uncarried → Type 0
IsUncarriedAt c journals (un.Stray node i) = IsFirstEntry (IsStrayEntry c journals) node.0 i
IsUncarriedAt c journals (un.Got node i) =
    IsAtNoEntry (IsStrayEntry c journals) × IsFirstEntry (IsWrongGot c journals) node.0 i
IsUncarriedAt c journals (un.Lost node i) =
    IsAtNoEntry (IsStrayEntry c journals) × IsAtNoEntry (IsWrongGot c journals)
    × IsFirstEntry (IsLost c journals) node.0 i

-- an answer decides whether a kept run is carried
abbrev pub DecidesCarried : Kept → Option Uncarried → Type 0
DecidesCarried k None = IsCarriedRun k
DecidesCarried k (Some place) = IsUncarriedAt k.course k.journals place

-- a message as it is kept
abbrev pub mailed : Dated Note → Mail
mailed d = record { beat = d.beat; note = d.item }

abbrev pub mail_at : List (Dated Note) → ℕ → Option Mail
mail_at ds n = option_map mailed (slice_get ds n)

-- a table has the messages of these entries, and counts them
abbrev pub TellsPost : Course → KeptMail → List Entry → Type 0
TellsPost c post entries = (s n : ℕ) → mail_under s n post ≡ mail_at (all_sent_at c s entries) n

abbrev pub TellsSent : Course → StreamCounts → List Entry → Type 0
TellsSent c counts entries = (s : ℕ) → count_under s counts ≡ length (all_sent_at c s entries)

-- what was got by these entries is counted, and is the first of what all sent
pub record IsGotOf (c : Course) (all : List Entry) (counts : StreamCounts) (entries : List Entry) (s : ℕ) : Type 0 where
  pub first : AreFirstSent c.plan.params.delay (all_sent_at c s all) (all_got_at c s entries)
  pub count : count_under s counts ≡ length (all_got_at c s entries)

abbrev pub TellsGot : Course → List Entry → StreamCounts → List Entry → Type 0
TellsGot c all counts entries = (s : ℕ) → IsGotOf c all counts entries s

-- ---- tests of an entry

-- the message of a table is one that was got in a beat, in time
abbrev pub FitsMail : ℕ → ℕ → Note → Option Mail → Type 0
FitsMail most beat note None = ⊥
FitsMail most beat note (Some m) = (note ≡ m.note) × (m.beat + 1 ≤ beat) × (beat ≤ m.beat + most)

abbrev pub FitsNext : Course → KeptMail → StreamCounts → ℕ → What → Type 0
FitsNext c post counts beat (what.Got link note) =
    FitsMail c.plan.params.delay beat note
    (mail_under (stream_of c link.0 beat) (count_under (stream_of c link.0 beat) counts) post)
FitsNext c post counts beat other = Unit {0}

-- a message that is sent was got, by the numbers of its stream, or it may be lost
abbrev pub IsGotOrLost : Course → StreamCounts → StreamCounts → ℕ → What → Type 0
IsGotOrLost c got counts beat (what.Sent link note) =
    (count_under (stream_of c link.0 beat) counts < count_under (stream_of c link.0 beat) got) ⊎ MayBeLostOn c link.0 beat
IsGotOrLost c got counts beat other = Unit {0}

-- the numbers after an entry
abbrev pub sent_count : Course → ℕ → What → ℕ → ℕ → ℕ
sent_count c beat (what.Sent link note) s n = if stream_of c link.0 beat == s then n + 1 else n
sent_count c beat other s n = n

abbrev pub got_count : Course → ℕ → What → ℕ → ℕ → ℕ
got_count c beat (what.Got link note) s n = if stream_of c link.0 beat == s then n + 1 else n
got_count c beat other s n = n

-- the table after an entry
abbrev pub mail_after : Course → StreamCounts → ℕ → What → ℕ → ℕ → Option Mail → Option Mail
mail_after c counts beat (what.Sent link note) s n mail =
    if (stream_of c link.0 beat == s) && (count_under (stream_of c link.0 beat) counts == n)
    then Some (record { beat = beat; note = note }) else mail
mail_after c counts beat other s n mail = mail
