-- How the journals of a run belong to its facts on mirror pieces and blocks.
use Rattle.std.specs.Prelude.{◌≡◌, ℕ, ◌+◌, ◌<◌, ◌≤◌, ◌==◌, List, ◌∷◌, ◌++◌, Some, None, slice_get, if◌then◌else◌, ◌⊎◌}
use Rattle.tiger_base.specs.declared.number.LinkNo.{LinkNo}
use Rattle.tiger_base.specs.declared.part.Span.{Span}
use Rattle.tiger_base.specs.declared.tenancy.Tenancy.{Tenancy}
use Rattle.tiger_base.specs.declared.tenancy.Want.{Want}
use Rattle.tiger_base.specs.declared.message.Note.{Note}
use Rattle.tiger_base.specs.declared.message.Note.TheVariants as note
use Rattle.slot_plan.specs.declared.params.Params.{Params}
use Rattle.slot_plan.specs.Times.{disk_count}
use Rattle.stripe_layout.specs.declared.catalogue.Catalogue.{Catalogue}
use Rattle.disk_image.specs.Image.{Image}
use Rattle.node_kit.specs.declared.course.ReadFault.{ReadFault}
use Rattle.node_kit.specs.declared.journal.What.TheVariants as what
use Rattle.node_kit.specs.declared.journal.Entry.{Entry}
use Rattle.node_kit.specs.Links.{links_of, ends_of, viewers_of}
use Rattle.run_model.specs.Fronts.{AnyByRecursion}
use Rattle.run_model.specs.Served.{want_of_visit}
use Rattle.run_claims.specs.Truths.{Lasts}
use Rattle.proof_pieces.specs.PieceFacts.{PieceFacts}
use Rattle.proof_service.specs.ServiceFacts.{ServiceFacts}
use Rattle.proof_service.specs.Disks.{disk_at, part_at, IsImageFor}
use Rattle.lists.specs.Elements.{In}
use Rattle.proof_moments.specs.Ties.{StandsIn, IsLogged}

-- The node of the viewers.
abbrev pub viewers : Params → ℕ
viewers p = viewers_of (links_of p)

-- The note by which a part goes to the viewers: a whole block is piece 0, and a piece has a number
-- from 1 on.
abbrev pub parcel : Want → ℕ → Span → Note
parcel want sent part =
    if want.piece == 0 then note.Whole want sent part else note.Piece want sent part

-- An entry sends the viewers what is wanted.
pub record SendsParcel (want : Want) (e : Entry) : Type 0 where
  pub link : LinkNo
  pub sent : ℕ
  pub part : Span
  pub is : e.what ≡ what.Sent link (parcel want sent part)

-- An entry asks a disk for what is wanted.
pub record AsksDisk (want : Want) (e : Entry) : Type 0 where
  pub link : LinkNo
  pub is : e.what ≡ what.Sent link (note.ReadAsk want)

-- ---- what entries tell

-- What a node sent on a link in beat b is a part that it served, as a cub, of a visit: the note
-- says what is wanted of that visit, and names the beat, and the link leads to the viewers.
pub record IsServing (p : Params) (q : PieceFacts) (w : ServiceFacts) (n : ℕ) (link : LinkNo)
    (want : Want) (sent : ℕ) (part : Span) (b : ℕ) : Type 0 where
  pub tenancy : Tenancy
  pub wanted : want ≡ want_of_visit tenancy want.visit want.piece
  pub serves : q.Serves n tenancy want.visit want.piece b
  pub sends : w.Sends n tenancy want.visit want.piece b part
  pub named : sent ≡ b
  pub way : ends_of (links_of p) link.0 ≡ Some (n, viewers p)

-- What a node asked a disk for in beat b is a piece of a visit, or its whole block, which the node
-- asked for then as a cub.
pub record IsAsking (q : PieceFacts) (n : ℕ) (want : Want) (b : ℕ) : Type 0 where
  pub tenancy : Tenancy
  pub wanted : want ≡ want_of_visit tenancy want.visit want.piece
  pub asks : q.Asks n tenancy want.visit want.piece b

-- A read that a node wrote down as failed in beat b is that of a piece of a visit, or of its whole
-- block, and a disk told the node then, as a cub, that it failed.
pub record IsFailure (w : ServiceFacts) (n : ℕ) (want : Want) (b : ℕ) : Type 0 where
  pub tenancy : Tenancy
  pub wanted : want ≡ want_of_visit tenancy want.visit want.piece
  pub failed : w.Failed n tenancy want.visit want.piece b

-- Each entry about blocks and pieces tells a fact of its node and beat.
pub record TellsParcels (p : Params) (q : PieceFacts) (w : ServiceFacts)
    (journals : List (List Entry)) : Type 0 where
  -- A whole block that is sent is served, as piece 0.
  pub whole : (n : ℕ) (e : Entry) (link : LinkNo) (want : Want) (sent : ℕ) (part : Span)
      → StandsIn journals n e → e.what ≡ what.Sent link (note.Whole want sent part)
      → (want.piece ≡ 0) × IsServing p q w n link want sent part e.stamp.beat
  -- So is a piece, by its number.
  pub piece : (n : ℕ) (e : Entry) (link : LinkNo) (want : Want) (sent : ℕ) (part : Span)
      → StandsIn journals n e → e.what ≡ what.Sent link (note.Piece want sent part)
      → (1 ≤ want.piece) × IsServing p q w n link want sent part e.stamp.beat
  -- A disk is asked only for what a cub asks for.
  pub asks : (n : ℕ) (e : Entry) (want : Want)
      → StandsIn journals n e → AsksDisk want e → IsAsking q n want e.stamp.beat
  -- A read is written down as failed only if a disk said that it failed.
  pub failed : (n : ℕ) (e : Entry) (want : Want)
      → StandsIn journals n e → e.what ≡ what.ReadFailed want → IsFailure w n want e.stamp.beat

-- ---- which facts have entries

-- Each fact of these kinds has its entry in the cub's journal.
pub record LogsParcels (q : PieceFacts) (w : ServiceFacts)
    (journals : List (List Entry)) : Type 0 where
  -- What is served is sent.
  pub served : (c n j b : ℕ) (t : Tenancy)
      → q.Serves c t n j b → IsLogged journals c b (SendsParcel (want_of_visit t n j))
  -- A read of which a disk said that it failed is written down.
  pub failed : (c n j b : ℕ) (t : Tenancy)
      → w.Failed c t n j b
      → IsLogged journals c b (λ e. e.what ≡ what.ReadFailed (want_of_visit t n j))

-- A second entry of one kind in one journal is of a later beat.
abbrev pub AreOfBeats : List (List Entry) → (Entry → Type 0) → Type 0
AreOfBeats journals Is = (n : ℕ) (xs ys : List Entry) (e f : Entry)
    → slice_get journals n ≡ Some (xs ++ e ∷ ys) → In f ys → Is e → Is f
    → e.stamp.beat < f.stamp.beat

-- In one beat a cub sends a parcel once, and asks a disk for one thing once.
pub record KeepsParcels (journals : List (List Entry)) : Type 0 where
  pub one_parcel : (want : Want) → AreOfBeats journals (SendsParcel want)
  pub one_ask : (want : Want) → AreOfBeats journals (AsksDisk want)

-- ---- what disks read

-- The read of piece j of which a cub knows by beat y that it failed was asked of the piece's disk
-- in a lower beat: in a read fault of the disk, or its image has no such part.
pub record IsRefusedAt (p : Params) (c : Catalogue) (w : ServiceFacts)
    (journals : List (List Entry)) (t : Tenancy) (n j y : ℕ) : Type 0 where
  pub few : j ≤ p.pieces
  pub entry : Entry
  pub stands : StandsIn journals (p.cubs + disk_at p n j) entry
  pub link : LinkNo
  pub got : entry.what ≡ what.Got link (note.ReadAsk (want_of_visit t n j))
  pub before : entry.stamp.beat < y
  pub why : w.Struck (disk_at p n j) entry.stamp.beat
      ⊎ ((m : Image) × IsImageFor p c m n j × (part_at m t n j ≡ None))

-- What the disks' journals tell of reads that failed, and which read faults there are.
pub record DisksTell (p : Params) (c : Catalogue) (faults : List ReadFault) (w : ServiceFacts)
    (journals : List (List Entry)) : Type 0 where
  pub refused : (k n j y : ℕ) (t : Tenancy)
      → w.Failed k t n j y → IsRefusedAt p c w journals t n j y
  pub struck : (disk b : ℕ)
      → disk < disk_count p → w.Struck disk b → AnyByRecursion (Lasts disk b) faults

-- ---- what links bring to the viewers

-- A note that was got in beat y was sent, on the same link, at least one beat before and at most
-- the greatest delay.
pub record WasSentOn (p : Params) (journals : List (List Entry)) (link : LinkNo) (m : Note)
    (y : ℕ) : Type 0 where
  pub node : ℕ
  pub entry : Entry
  pub stands : StandsIn journals node entry
  pub is : entry.what ≡ what.Sent link m
  pub later : entry.stamp.beat < y
  pub soon : y ≤ entry.stamp.beat + p.delay

-- A note was got by a node on a link.
pub record IsGotOn (journals : List (List Entry)) (n : ℕ) (link : LinkNo) (m : Note) : Type 0 where
  pub entry : Entry
  pub stands : StandsIn journals n entry
  pub is : entry.what ≡ what.Got link m

-- One journal tells twice that a note was sent on a link.
pub record IsSentTwice (journals : List (List Entry)) (link : LinkNo) (m : Note) : Type 0 where
  pub node : ℕ
  pub before : List Entry
  pub behind : List Entry
  pub first : Entry
  pub second : Entry
  pub at : slice_get journals node ≡ Some (before ++ first ∷ behind)
  pub there : In second behind
  pub first_is : first.what ≡ what.Sent link m
  pub second_is : second.what ≡ what.Sent link m

-- What the links bring to the viewers, whose journal goes up to beat end.
pub record ViewersGet (p : Params) (journals : List (List Entry)) (end : ℕ) : Type 0 where
  -- What they got was sent.
  pub came : (e : Entry) (link : LinkNo) (m : Note)
      → StandsIn journals (viewers p) e → e.what ≡ what.Got link m
      → WasSentOn p journals link m e.stamp.beat
  -- What was sent to them so early that it must have come was got.
  pub comes : (n : ℕ) (e : Entry) (link : LinkNo) (m : Note)
      → StandsIn journals n e → e.what ≡ what.Sent link m
      → ends_of (links_of p) link.0 ≡ Some (n, viewers p) → e.stamp.beat + p.delay < end
      → IsGotOn journals (viewers p) link m
  -- What they got twice was sent twice.
  pub twice : (xs ys : List Entry) (e f : Entry) (link : LinkNo) (m : Note)
      → slice_get journals (viewers p) ≡ Some (xs ++ e ∷ ys) → In f ys
      → e.what ≡ what.Got link m → f.what ≡ what.Got link m
      → IsSentTwice journals link m
