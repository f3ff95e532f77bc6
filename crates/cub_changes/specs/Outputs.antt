-- The forms of what a cub puts out, and of which change an output of each form comes.
use Rattle.std.specs.Prelude.{◌≡◌, ℕ, ◌+◌, ◌-◌, ◌<◌, ◌≤◌, ◌⊎◌, Bool, true, false, drop, Some}
use Rattle.tiger_base.specs.declared.number.Instance.{Instance}
use Rattle.tiger_base.specs.declared.number.Stamp.{Stamp}
use Rattle.tiger_base.specs.declared.tenancy.Ask.{Ask}
use Rattle.tiger_base.specs.declared.tenancy.PieceState.{PieceState}
use Rattle.tiger_base.specs.declared.tenancy.Rec.{Rec}
use Rattle.tiger_base.specs.declared.tenancy.State.{State}
use Rattle.tiger_base.specs.declared.tenancy.Tag.{Tag}
use Rattle.tiger_base.specs.declared.tenancy.Tenancy.{Tenancy}
use Rattle.tiger_base.specs.declared.tenancy.Want.{Want}
use Rattle.tiger_base.specs.Span.{LibraryPart}
use Rattle.tiger_base.specs.declared.message.Msg.{Msg}
use Rattle.tiger_base.specs.declared.message.Msg.TheVariants as msg
use Rattle.tiger_base.specs.Records.{want_of, want_of_piece}
use Rattle.slot_plan.specs.declared.params.Params.{Params}
use Rattle.slot_plan.specs.Times.{disk_of, disk_count}
use Rattle.slot_plan.specs.Keys.{Key, due_of}
use Rattle.mirror_pieces.specs.Pieces.{piece_disk}
use Rattle.node_kit.specs.declared.journal.What.TheVariants as what
use Rattle.node_kit.specs.declared.outbox.Out.{Out}
use Rattle.node_kit.specs.declared.outbox.Out.TheVariants as out
use Rattle.partial_view.specs.declared.line.Line.{Line}
use Rattle.partial_view.specs.Lines.{key_of}
use Rattle.mirror_schedule.specs.Pieces.{pieces_of}
use Rattle.mirror_schedule.specs.Splits.{Split}
use Rattle.node_kit.specs.Ways.{way_ahead, way_to_controller, way_to_viewers, way_to_disk, predecessor}
use Rattle.cub_rules.specs.declared.store.Store.{Store}
use Rattle.cub_rules.specs.Comebacks.{is_handed_back, serves_at}
use Rattle.cub_rules.specs.Records.{stored_for}
use Rattle.cub_rules.specs.Messages.{is_reached}
use Rattle.cub_rules.specs.Ticks.{number, must_split, is_to_forward, must_read, leaves_by, is_served, is_past}
use Rattle.cub_changes.specs.Changes.{Change}
use Rattle.cub_changes.specs.Changes.Change.{PassOn, DropLines, DropStart, KillSplits, TakeRecord, Queue, FailRead, Believe, PutStart, SendFirst, SendPlaced, SplitVisits, Forward, AskBlocks, AskPieces, ServeBlocks, DropBackups, ServePieces, Beat}
use Rattle.lists.specs.Elements.{In}

-- entries of the cub's journal, and messages that it sends
pub data Output : Type 0 where
  Took : (r : Rec) → Output
  Dropped : (x : Line) → Output
  Unqueued : (v : Instance) → Output
  Queued : (a : Ask) → Output
  Put : (t : Tenancy) → Output
  Believed : Output
  ReadFailed : (want : Want) → Output
  -- to the cub that is so many steps ahead
  DescheduleSent : (steps : ℕ) (v : Instance) (tag : Tag) → Output
  KillSent : (steps : ℕ) (x : Split) → Output
  StateSent : (steps : ℕ) (s : State) → Output
  MirrorStateSent : (x : PieceState) → Output
  HeartbeatSent : Output
  -- to the controller, to a disk, to the viewers
  PlacedSent : (t : Tenancy) → Output
  AskSent : (disk : ℕ) (want : Want) → Output
  BlockSent : (want : Want) (part : LibraryPart) → Output
  PieceSent : (want : Want) (part : LibraryPart) → Output

-- the output of a form
abbrev pub output : Params → ℕ → Stamp → Output → Out Msg
output p c stamp (Took r) = out.Act (what.Took r)
output p c stamp (Dropped x) = out.Act (what.Dropped x.rec)
output p c stamp (Unqueued v) = out.Act (what.Unqueued v)
output p c stamp (Queued a) = out.Act (what.Queued a.instance a.disk)
output p c stamp (Put t) = out.Act (what.Put t)
output p c stamp Believed = out.Act (what.Believed (number (predecessor p c)))
output p c stamp (ReadFailed want) = out.Act (what.ReadFailed want)
output p c stamp (DescheduleSent steps v tag) = out.Send (way_ahead p c steps) (msg.Deschedule v (Some tag))
output p c stamp (KillSent steps x) = out.Send (way_ahead p c steps) (msg.Kill x.0 x.1 x.2)
output p c stamp (StateSent steps s) = out.Send (way_ahead p c steps) (msg.ViewerState s)
output p c stamp (MirrorStateSent x) = out.Send (way_ahead p c (x.piece - 1)) (msg.MirrorState x)
output p c stamp (PlacedSent t) = out.Send (way_to_controller p c) (msg.Placed t)
output p c stamp (AskSent disk want) = out.Send (way_to_disk p disk) (msg.ReadAsk want)
output p c stamp (BlockSent want part) = out.Send (way_to_viewers p c) (msg.Whole want stamp.beat part)
output p c stamp (PieceSent want part) = out.Send (way_to_viewers p c) (msg.Piece want stamp.beat part)
output p c stamp HeartbeatSent = out.Send (way_ahead p c 1) msg.Heartbeat

-- to the next cub, or to the one behind that
abbrev pub IsNear : ℕ → Type 0
IsNear steps = (steps ≡ 1) ⊎ (steps ≡ 2)

-- the cub keeps this line, and it passes a test
abbrev pub HasLine : (Line → Bool) → Store → Line → Type 0
HasLine test h x = In x h.view.lines × (test x ≡ true)

-- of which change an output of a form comes, and what holds of it; h is what the cub keeps just before the change
abbrev pub ComesOf : Params → ℕ → Stamp → Change → Store → Output → Type 0
ComesOf p c stamp x h (Took r) = x ≡ TakeRecord r
ComesOf p c stamp x h (Dropped y) =
    ((x ≡ DropLines y.rec.tenancy.instance) × In y h.view.lines)
    ⊎ (((x ≡ ServeBlocks) × HasLine (is_served p stamp) h y) ⊎ ((x ≡ DropBackups) × HasLine (is_past p stamp) h y))
ComesOf p c stamp x h (Unqueued v) = x ≡ DropStart v
ComesOf p c stamp x h (Queued a) = (x ≡ Queue a) ⊎ ((x ≡ Believe) × In a h.starts.redundant)
ComesOf p c stamp x h (Put t) = x ≡ PutStart t
ComesOf p c stamp x h Believed = x ≡ Believe
ComesOf p c stamp x h (ReadFailed want) = x ≡ FailRead want
ComesOf p c stamp x h (DescheduleSent steps v tag) =
    (k : Key)
    × (x ≡ PassOn v k)
    × (tag ≡ record { slot = k.0; visit = k.1 + 1 })
    × (is_reached p stamp k.0 (k.1 + 1) ≡ true)
    × IsNear steps
ComesOf p c stamp x h (KillSent steps y) = (x ≡ KillSplits y.0) × In y h.splits × (1 ≤ steps) × (steps < p.pieces)
ComesOf p c stamp x h (StateSent steps s) =
    ((l : Line)
    × (x ≡ Forward)
    × HasLine (is_to_forward p stamp) h l
    × (s ≡ record { tenancy = l.rec.tenancy; visit = l.rec.visit + 1 })
    × IsNear steps)
    ⊎ ((t : Tenancy) × (x ≡ SendFirst t) × (s ≡ record { tenancy = t; visit = t.first }) × (steps ≡ 1))
ComesOf p c stamp x h (MirrorStateSent y) =
    (l : Line)
    × (x ≡ SplitVisits)
    × HasLine (must_split p stamp) h l
    × In y (drop 1 (pieces_of p l.rec))
    × (is_handed_back p h.handback l.rec ≡ false)
ComesOf p c stamp x h HeartbeatSent = x ≡ Beat
ComesOf p c stamp x h (PlacedSent t) = (x ≡ SendFirst t) ⊎ (x ≡ SendPlaced t)
ComesOf p c stamp x h (AskSent disk want) =
    ((l : Line)
    × (x ≡ AskBlocks)
    × HasLine (must_read p stamp) h l
    × (want ≡ want_of l.rec)
    × (disk ≡ disk_of p l.rec.visit)
    × (serves_at h.comeback (due_of p (key_of l)) ≡ true))
    ⊎ ((y : PieceState)
    × (x ≡ AskPieces)
    × In y h.unasked.items
    × (leaves_by p (stamp.reading + p.read_lead) y ≡ true)
    × (want ≡ want_of_piece y)
    × (disk ≡ piece_disk (disk_of p y.visit) y.piece (disk_count p)))
ComesOf p c stamp x h (BlockSent want part) =
    (l : Line)
    × (x ≡ ServeBlocks)
    × HasLine (is_served p stamp) h l
    × (want ≡ want_of l.rec)
    × (stored_for want h.parts ≡ Some part)
    × (serves_at h.comeback (due_of p (key_of l)) ≡ true)
ComesOf p c stamp x h (PieceSent want part) =
    (y : PieceState)
    × (x ≡ ServePieces)
    × In y h.pieces.items
    × (leaves_by p stamp.reading y ≡ true)
    × (want ≡ want_of_piece y)
    × (stored_for want h.parts ≡ Some part)
