-- The facts about whole blocks and mirror pieces, by what each cub kept when it split, asked and served.
use Rattle.std.specs.Prelude.{◌≡◌, ℕ, ◌+◌, ◌<◌, ◌≤◌, ◌==◌, true, false, Some, ◌⊎◌, if◌then◌else◌}
use Rattle.tiger_base.specs.Span.{LibraryPart}
use Rattle.tiger_base.specs.Records.{own_of, backup_of, want_of_piece}
use Rattle.tiger_base.specs.declared.number.LinkNo.{LinkNo}
use Rattle.tiger_base.specs.declared.number.Stamp.{Stamp}
use Rattle.tiger_base.specs.declared.tenancy.PieceState.{PieceState}
use Rattle.tiger_base.specs.declared.tenancy.Tenancy.{Tenancy}
use Rattle.tiger_base.specs.declared.tenancy.Want.{Want}
use Rattle.tiger_base.specs.declared.message.Msg.{Msg}
use Rattle.tiger_base.specs.declared.message.Msg.TheVariants as msg
use Rattle.tiger_base.specs.Notes.{noted}
use Rattle.slot_plan.specs.declared.params.Params.{Params}
use Rattle.slot_plan.specs.Times.{cub_of}
use Rattle.slot_plan.specs.Keys.{due_of}
use Rattle.partial_view.specs.declared.line.Line.{Line}
use Rattle.partial_view.specs.Lines.{key_of}
use Rattle.deschedule.specs.Holds.{is_held}
use Rattle.mirror_schedule.specs.Pieces.{is_in, leaving_of}
use Rattle.node_kit.specs.Form.{is_in_form}
use Rattle.node_kit.specs.declared.outbox.Out.TheVariants as out
use Rattle.node_kit.specs.Steps.Input.{Take}
use Rattle.node_kit.specs.Ways.{way_ahead, way_to_viewers}
use Rattle.cub_rules.specs.declared.store.Store.{Store}
use Rattle.cub_rules.specs.Comebacks.{is_handed_back, lets_in, serves_at}
use Rattle.cub_rules.specs.Records.{stored_for}
use Rattle.cub_rules.specs.Ticks.{releasing, believing, inserting, splitting, forwarding, reading, must_split, must_read, leaves_by, is_served, sent_ahead}
use Rattle.proof_lives.specs.Lives.{Lives, GoesOut, store_at}
use Rattle.lists.specs.Elements.{In}
use Rattle.proof_lives.specs.Facts.{TickAt, DidAt}
pub use Rattle.proof_pieces.specs.PieceFacts.{PieceFacts}

-- What a cub keeps in a tick that began with h, before it splits visits.
abbrev pub before_splitting : Params → ℕ → Stamp → Store → Store
before_splitting p c stamp h =
    (inserting p c stamp (believing p c stamp (releasing p stamp h).state).state).state

-- What it keeps before it asks the disks.
abbrev pub before_reading : Params → ℕ → Stamp → Store → Store
before_reading p c stamp h =
    (forwarding p c stamp (splitting p c stamp (before_splitting p c stamp h)).state).state

-- What it keeps before it serves.
abbrev pub before_serving : Params → ℕ → Stamp → Store → Store
before_serving p c stamp h = (reading p stamp (before_reading p c stamp h)).state

-- The stamp of a tick, and what the cub kept when it began.
abbrev pub stamp_of : ℕ → ℕ → Stamp
stamp_of b l = record { beat = b; reading = l }

abbrev pub kept_at : {p : Params} {lives : Lives} {c b l : ℕ} → TickAt p lives c b l → Store
kept_at {p} {lives} {c} {b} {l} tick = store_at p c (lives.input c) tick.at

-- The piece record of piece j of visit n of t.
abbrev pub piece : Tenancy → ℕ → ℕ → PieceState
piece t n j = record { tenancy = t; visit = n; piece = j }

-- What is wanted of a disk for piece j of visit n of t; 0 is the whole block.
abbrev pub want : Tenancy → ℕ → ℕ → Want
want t n j = want_of_piece (piece t n j)

-- The message in which a part leaves for the viewers: the whole block, or a piece of it.
abbrev pub part_sent : Want → ℕ → LibraryPart → Msg
part_sent w sent part = if w.piece == 0 then msg.Whole w sent part else msg.Piece w sent part

-- A line of the view has the visit's own record, or its backup record.
abbrev pub HasOwn : Store → Tenancy → ℕ → Line → Type 0
HasOwn h t n x = In x h.view.lines × (x.rec ≡ own_of t n)

abbrev pub HasBackup : Store → Tenancy → ℕ → Line → Type 0
HasBackup h t n x = In x h.view.lines × (x.rec ≡ backup_of t n)

-- At its tick of beat b cub c split visit n of t, which was not left to its predecessor, and its death
-- did not cut that off: the tick was whole, or a mirror state of the visit went out.
pub record SplitAt (p : Params) (lives : Lives) (c : ℕ) (t : Tenancy) (n b : ℕ) : Type 0 where
  pub reading : ℕ
  pub tick : TickAt p lives c b reading
  pub believes : (before_splitting p c (stamp_of b reading) (kept_at tick)).believes ≡ true
  pub line : Line
  pub there : HasBackup (before_splitting p c (stamp_of b reading) (kept_at tick)) t n line
  pub must : must_split p (stamp_of b reading) line ≡ true
  pub left : is_handed_back p (before_splitting p c (stamp_of b reading) (kept_at tick)).handback line.rec ≡ false
  pub number : ℕ
  pub goes : GoesOut p lives c tick.at (sent_ahead p c (piece t n number))

-- In beat b cub a sent the mirror state of piece j to the k-th cub after it.
pub record MirrorSentAt (p : Params) (lives : Lives) (a k : ℕ) (t : Tenancy)
    (n j b : ℕ) : Type 0 where
  pub some : 1 ≤ k
  pub did : DidAt p lives a (out.Send (way_ahead p a k) (msg.MirrorState (piece t n j))) b

-- In beat b cub c took a mirror state, in form and for it, of an instance that it did not hold, and
-- of a piece that may enter and of which it had no record.
pub record MirroredAt (p : Params) (lives : Lives) (c : ℕ) (t : Tenancy) (n j b : ℕ) : Type 0 where
  pub small : c < p.cubs
  pub at : ℕ
  pub done : at < lives.count c
  pub reading : ℕ
  pub link : LinkNo
  pub is : lives.input c at ≡ Take (stamp_of b reading) link (msg.MirrorState (piece t n j))
  pub formed : is_in_form p (noted (msg.MirrorState (piece t n j))) ≡ true
  pub free : is_held (store_at p c (lives.input c) at).held t.instance ≡ false
  pub here : cub_of p (n + j) ≡ c
  pub lets : lets_in (store_at p c (lives.input c) at).comeback (leaving_of p (piece t n j)) ≡ true
  pub new : is_in (piece t n j) (store_at p c (lives.input c) at).pieces.items ≡ false

-- In beat b cub a told the k-th cub after it to drop the pieces of visit n of instance v in slot s.
pub record KillSentAt (p : Params) (lives : Lives) (a k v s n b : ℕ) : Type 0 where
  pub some : 1 ≤ k
  pub did : DidAt p lives a
      (out.Send (way_ahead p a k) (msg.Kill (record { 0 = v }) (record { 0 = s }) n)) b

-- Of what it keeps a cub asks for a block by the visit's own record, if it serves the visit, and for a
-- piece by the piece's record. A want does not name the tenancy's last visit, so the record tells what is asked for.
abbrev pub AsksFor : Params → Stamp → Store → Tenancy → ℕ → ℕ → Type 0
AsksFor p stamp h t n j =
    ((j ≡ 0) × (x : Line) × HasOwn h t n x × (must_read p stamp x ≡ true)
    × (serves_at h.comeback (due_of p (key_of x)) ≡ true))
    ⊎ ((1 ≤ j) × In (piece t n j) h.unasked.items
    × (leaves_by p (stamp.reading + p.read_lead) (piece t n j) ≡ true))

-- At its tick of beat b cub c was to ask a disk for piece j of visit n of t, whether or not its death
-- cut the tick off before it did.
pub record AsksAt (p : Params) (lives : Lives) (c : ℕ) (t : Tenancy) (n j b : ℕ) : Type 0 where
  pub reading : ℕ
  pub tick : TickAt p lives c b reading
  pub asks : AsksFor p (stamp_of b reading)
      (before_reading p c (stamp_of b reading) (kept_at tick)) t n j

-- Of what it keeps a cub serves a block by the visit's own record, if it serves the visit, and a piece
-- by the piece's record, if its part is stored.
abbrev pub IsToServe : Params → Stamp → Store → Tenancy → ℕ → ℕ → Type 0
IsToServe p stamp h t n j =
    ((j ≡ 0) × (x : Line) × HasOwn h t n x × (is_served p stamp x ≡ true)
    × (serves_at h.comeback (due_of p (key_of x)) ≡ true))
    ⊎ ((1 ≤ j) × In (piece t n j) h.pieces.items
    × (leaves_by p stamp.reading (piece t n j) ≡ true))

-- At its tick of beat b cub c sent the viewers a part as piece j of visit n of t, which its death did
-- not cut off.
pub record SendsPart (p : Params) (lives : Lives) (c : ℕ) (t : Tenancy) (n j b : ℕ)
    (part : LibraryPart) : Type 0 where
  pub reading : ℕ
  pub tick : TickAt p lives c b reading
  pub serves : IsToServe p (stamp_of b reading)
      (before_serving p c (stamp_of b reading) (kept_at tick)) t n j
  pub stored : stored_for (want t n j)
      (before_serving p c (stamp_of b reading) (kept_at tick)).parts ≡ Some part
  pub goes : GoesOut p lives c tick.at
      (out.Send (way_to_viewers p c) (part_sent (want t n j) b part))

-- At its tick of beat b cub c served piece j of visit n of t.
pub record ServesAt (p : Params) (lives : Lives) (c : ℕ) (t : Tenancy) (n j b : ℕ) : Type 0 where
  pub part : LibraryPart
  pub sends : SendsPart p lives c t n j b part

-- The facts about blocks and pieces of these lives.
abbrev pub pieces_by : Params → Lives → PieceFacts
pieces_by p lives = record {
  Split = SplitAt p lives;
  Spared = λ c t n b. ⊥;
  MirrorSent = MirrorSentAt p lives;
  Mirrored = MirroredAt p lives;
  KillSent = KillSentAt p lives;
  Asks = AsksAt p lives;
  Serves = ServesAt p lives;
}
