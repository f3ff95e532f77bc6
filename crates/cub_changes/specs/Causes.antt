-- Why a cub makes a change: in which step of an event, and what holds just before it.
use Rattle.std.specs.Prelude.{◌≡◌, ℕ, ◌+◌, ◌++◌, ◌&&◌, ◌||◌, ◌==◌, ◌%◌, ◌⊎◌, Bool, true, false, not, nat_lt, is_some, Option, Some, None}
use Rattle.std.specs.List.{flat_map}
use Rattle.tiger_base.specs.declared.number.Instance.{Instance}
use Rattle.tiger_base.specs.declared.number.LinkNo.{LinkNo}
use Rattle.tiger_base.specs.declared.number.Stamp.{Stamp}
use Rattle.tiger_base.specs.declared.tenancy.Ask.{Ask}
use Rattle.tiger_base.specs.declared.tenancy.PieceState.{PieceState}
use Rattle.tiger_base.specs.declared.tenancy.Rec.{Rec}
use Rattle.tiger_base.specs.declared.tenancy.State.{State}
use Rattle.tiger_base.specs.declared.tenancy.Tenancy.{Tenancy}
use Rattle.tiger_base.specs.declared.tenancy.Want.{Want}
use Rattle.tiger_base.specs.Span.{LibraryPart}
use Rattle.tiger_base.specs.declared.message.Msg.{Msg}
use Rattle.tiger_base.specs.declared.message.Msg.TheVariants as msg
use Rattle.tiger_base.specs.Records.{own_of, backup_of}
use Rattle.slot_plan.specs.declared.params.Params.{Params}
use Rattle.slot_plan.specs.Times.{due, cub_of}
use Rattle.slot_plan.specs.Keys.{Key}
use Rattle.partial_view.specs.Lines as lines
use Rattle.partial_view.specs.Views.{line_at}
use Rattle.insert_queue.specs.Queues.{is_asked, IsOnce}
use Rattle.deschedule.specs.Holds.{is_held, must_pass}
use Rattle.deadman.specs.Silence.{is_silent}
use Rattle.mirror_schedule.specs.Pieces as pieces
use Rattle.mirror_schedule.specs.Pieces.{leaving_of}
use Rattle.viewer_state.specs.States.{is_visit_of}
use Rattle.node_kit.specs.Steps.{Input}
use Rattle.node_kit.specs.Steps.Input.{Take, Tick}
use Rattle.node_kit.specs.Ways.{way_ahead, predecessor}
use Rattle.cub_rules.specs.declared.store.Store.{Store}
use Rattle.cub_rules.specs.Comebacks.{due_of_record, lets_in}
use Rattle.cub_rules.specs.Messages.{position_at, position, holding, records_told, is_news, is_discarded, is_wanted}
use Rattle.cub_rules.specs.Ticks.{tenancy_from, free_on, is_for, disks_at, first_pieces}
use Rattle.cub_changes.specs.Changes.{Change}
use Rattle.cub_changes.specs.Changes.Change.{Hold, PassOn, DropLines, DropStart, DropPieces, KillSplits, TakeRecord, Queue, QueueApart, AddPiece, DropKilled, StorePart, FailRead, HearBeat, HearBack, Release, Believe, PutStart, SendFirst, SendPlaced, SplitVisits, Forward, AskBlocks, AskPieces, ServeBlocks, DropBackups, ServePieces, Beat}
use Rattle.lists.specs.Elements.{In}

-- In which step of an event a change is made: at a message, or in a tick at release, at the deadman step, at insertion, or
-- in one of the steps from splitting to the heartbeat.
pub data Stage : Type 0 where
  OnMessage : (link : LinkNo) (m : Msg) → Stage
  OnRelease : Stage
  OnDeadman : Stage
  OnInsertion : Stage
  OnService : Stage

-- The stage is one of an event with this input, at which the cub kept old; of a message there is one stage, which begins
-- with what the cub kept.
abbrev pub IsStageOf : Input Msg → Store → Stage → Store → Type 0
IsStageOf (Take stamp link m) old g from = (g ≡ OnMessage link m) × (from ≡ old)
IsStageOf (Tick stamp) old (OnMessage link m) from = ⊥
IsStageOf (Tick stamp) old other from = Unit {0}

-- ---- what is known of a stage

abbrev pub IsRelease : Stage → Type 0
IsRelease OnRelease = Unit {0}
IsRelease other = ⊥

abbrev pub IsDeadman : Stage → Type 0
IsDeadman OnDeadman = Unit {0}
IsDeadman other = ⊥

abbrev pub IsInsertion : Stage → Type 0
IsInsertion OnInsertion = Unit {0}
IsInsertion other = ⊥

abbrev pub IsService : Stage → Type 0
IsService OnService = Unit {0}
IsService other = ⊥

-- it is a message that stops this instance
abbrev pub IsDeschedule : Stage → Instance → Type 0
IsDeschedule (OnMessage link (msg.Deschedule w tag)) v = v ≡ w
IsDeschedule other v = ⊥

-- it is a message that kills the pieces of this visit of an instance
abbrev pub IsKill : Stage → Instance → ℕ → Type 0
IsKill (OnMessage link (msg.Kill w slot n)) v visit = (v ≡ w) × (visit ≡ n)
IsKill other v visit = ⊥

-- it is a disk's answer, with a part or none, to a want that is still there
abbrev pub IsAnswer : Stage → Want → Option LibraryPart → Store → Type 0
IsAnswer (OnMessage link (msg.ReadDone w found)) want part h = (want ≡ w) × (part ≡ found) × (is_wanted want h ≡ true)
IsAnswer other want part h = ⊥

-- the link is the one on which the predecessor sends to its next cub
abbrev pub IsOfPredecessor : Params → ℕ → LinkNo → Type 0
IsOfPredecessor p c link = link.0 ≡ (way_ahead p (predecessor p c) 1).0

-- it is a heartbeat of the predecessor
abbrev pub IsHeartbeat : Params → ℕ → Stage → Type 0
IsHeartbeat p c (OnMessage link msg.Heartbeat) = IsOfPredecessor p c link
IsHeartbeat p c other = ⊥

-- it is the message with which the predecessor, which came back, says from when on it serves
abbrev pub IsToldBack : Params → ℕ → Stage → ℕ → Type 0
IsToldBack p c (OnMessage link (msg.Back at)) from = (at ≡ from) × IsOfPredecessor p c link
IsToldBack p c other from = ⊥

-- ---- what lets a cub make a change

-- the state is of its tenancy, and this is the cub's position to it
abbrev pub IsPosition : Params → ℕ → State → Key → Type 0
IsPosition p c s k = (is_visit_of s.tenancy s.visit ≡ true) × (position_at p c s.tenancy.slot s.visit ≡ Some k)

-- A message lets a cub pass the deschedule of an instance on from a position: a state of the instance, which is held and was
-- not passed on; or the deschedule itself, if the instance was not passed on since it is held. h is what the cub kept when
-- the message came.
abbrev pub PassesOn : Params → ℕ → Stamp → Msg → Store → Instance → Key → Type 0
PassesOn p c stamp (msg.ViewerState s) h v k =
    (is_visit_of s.tenancy s.visit ≡ true)
    × (position_at p c s.tenancy.slot s.visit ≡ Some k)
    × (s.tenancy.instance ≡ v)
    × (is_held h.held v ≡ true)
    × (must_pass h.held v ≡ true)
PassesOn p c stamp (msg.Deschedule w tag) h v k =
    (w ≡ v)
    × (position p c v tag (holding p stamp v h).state.view.lines ≡ Some k)
    × (must_pass (holding p stamp v h).state.held v ≡ true)
PassesOn p c stamp other h v k = ⊥

abbrev pub MayPass : Params → ℕ → Stamp → Stage → Store → Instance → Key → Type 0
MayPass p c stamp (OnMessage link m) from v k = PassesOn p c stamp m from v k
MayPass p c stamp other from v k = ⊥

-- A start is dropped at a deschedule, and at a state of an instance that is not held.
abbrev pub MayDrop : Params → ℕ → Stage → Instance → Store → Type 0
MayDrop p c (OnMessage link (msg.Deschedule w tag)) v h = v ≡ w
MayDrop p c (OnMessage link (msg.ViewerState s)) v h =
    (v ≡ s.tenancy.instance) × (k : Key) × IsPosition p c s k × (is_held h.held v ≡ false)
MayDrop p c other v h = ⊥

-- A start fills a visit that is free on its disk just then: a disk of the cub, or of its predecessor if the cub believes
-- that one dead. from is what the cub kept when insertion began, and h what it keeps just before the Put.
pub record Fills (p : Params) (c : ℕ) (stamp : Stamp) (from : Store) (t : Tenancy) (h : Store) : Type 0 where
  pub ask : Ask
  pub key : Key
  pub disk : ℕ
  pub is : t ≡ tenancy_from ask key
  pub on : is_for disk ask ≡ true
  pub waits : In ask from.starts.waiting
  -- it still waits, if each instance had one start when insertion began
  pub still : IsOnce (from.starts.waiting ++ from.starts.redundant) → In ask h.starts.waiting
  pub free : free_on p stamp.reading disk h ≡ Some key
  -- a cub that came back puts nobody
  pub first_life : from.comeback ≡ None
  pub here : In disk (disks_at p c) ⊎ (In disk (disks_at p (predecessor p c)) × (from.believes ≡ true))

-- the tenancy was put earlier in this insertion
abbrev pub WasPut : Params → ℕ → Stamp → Store → Tenancy → Type 0
WasPut p c stamp from t = (q : Store) × Fills p c stamp from t q

-- it was put on a disk of the cub's own
pub record WasPutHere (p : Params) (c : ℕ) (stamp : Stamp) (from : Store) (t : Tenancy) : Type 0 where
  pub store : Store
  pub fills : Fills p c stamp from t store
  pub own : In fills.disk (disks_at p c)

-- A Put on a disk of its own lets a cub take the own record of the first visit; one on a disk of its predecessor, the backup
-- record of the first visit and the own record of the second one.
abbrev pub IsRecordOfPut : Params → ℕ → ℕ → Tenancy → Rec → Type 0
IsRecordOfPut p c disk t r =
    (In disk (disks_at p c) × (r ≡ own_of t t.first))
    ⊎ (In disk (disks_at p (predecessor p c))
    × ((r ≡ backup_of t t.first) ⊎ ((r ≡ own_of t (t.first + 1)) × (nat_lt t.first t.last ≡ true))))

-- A record is taken of a state whose instance was not held when the message came, if it may enter, or of a Put.
abbrev pub MayTake : Params → ℕ → Stamp → Stage → Store → Rec → Type 0
MayTake p c stamp (OnMessage link (msg.ViewerState s)) from r =
    (k : Key)
    × IsPosition p c s k
    × In r (records_told s k)
    × (is_held from.held s.tenancy.instance ≡ false)
    × (lets_in from.comeback (due_of_record p r) ≡ true)
MayTake p c stamp OnInsertion from r =
    (t : Tenancy) × (q : Store) × (o : Fills p c stamp from t q) × IsRecordOfPut p c o.disk t r
MayTake p c stamp other from r = ⊥

-- A place is told of a Put, and of a state that is news to the next cub, whose record may enter, and whose instance was not
-- held when the message came.
abbrev pub MayTellPlace : Params → ℕ → Stamp → Stage → Store → Tenancy → Type 0
MayTellPlace p c stamp (OnMessage link (msg.ViewerState s)) from t =
    (k : Key)
    × IsPosition p c s k
    × (t ≡ s.tenancy)
    × (is_news s k from.view.lines ≡ true)
    × (is_held from.held s.tenancy.instance ≡ false)
    × (lets_in from.comeback (due p s.tenancy.slot.0 s.visit) ≡ true)
MayTellPlace p c stamp OnInsertion from t = WasPut p c stamp from t
MayTellPlace p c stamp other from t = ⊥

-- A start that comes is queued, apart or not, unless it is discarded.
abbrev pub MayQueue : Stage → Ask → Bool → Store → Type 0
MayQueue (OnMessage link (msg.Start redundant b)) a apart h =
    (a ≡ b)
    × (is_discarded a h ≡ false)
    × ((redundant && not h.believes) ≡ apart)
MayQueue other a apart h = ⊥

-- A piece record is added of a mirror state for this cub, if it may enter, and of a split: then the cub believed its
-- predecessor dead, and it is the first piece of a visit that was split.
abbrev pub MayAdd : Params → ℕ → Stamp → Stage → PieceState → Store → Type 0
MayAdd p c stamp (OnMessage link (msg.MirrorState y)) x from =
    (x ≡ y)
    × ((is_held from.held x.tenancy.instance || not (cub_of p (x.visit + x.piece) == c)) ≡ false)
    × (lets_in from.comeback (leaving_of p x) ≡ true)
MayAdd p c stamp OnService x from =
    (from.believes ≡ true) × In x (flat_map (first_pieces p stamp from.handback) from.view.lines)
MayAdd p c stamp other x from = ⊥

-- why a change is made: from is what the cub kept when the stage began, and h what it keeps just before the change
abbrev pub Cause : Params → ℕ → Stamp → Stage → Store → Change → Store → Type 0
Cause p c stamp g from (Hold v) h = IsDeschedule g v
Cause p c stamp g from (PassOn v k) h = MayPass p c stamp g from v k
Cause p c stamp g from (DropLines v) h = IsDeschedule g v
Cause p c stamp g from (DropStart v) h = MayDrop p c g v h
Cause p c stamp g from (DropPieces v) h = IsDeschedule g v
Cause p c stamp g from (KillSplits v) h = IsDeschedule g v
Cause p c stamp g from (TakeRecord r) h = MayTake p c stamp g from r × (is_some (line_at (lines.visit_of r) h.view.lines) ≡ false)
Cause p c stamp g from (Queue a) h = MayQueue g a false h × (is_asked h.starts a.instance ≡ false)
Cause p c stamp g from (QueueApart a) h = MayQueue g a true h × (is_asked h.starts a.instance ≡ false)
Cause p c stamp g from (AddPiece x) h = MayAdd p c stamp g x from × (pieces.is_in x h.pieces.items ≡ false)
Cause p c stamp g from (DropKilled v visit) h = IsKill g v visit
Cause p c stamp g from (StorePart want part) h = IsAnswer g want (Some part) h
Cause p c stamp g from (FailRead want) h = IsAnswer g want None h
Cause p c stamp g from HearBeat h = IsHeartbeat p c g
Cause p c stamp g from (HearBack at) h = IsToldBack p c g at
Cause p c stamp g from Release h = IsRelease g
Cause p c stamp g from Believe h = IsDeadman g × ((not h.believes && is_silent h.watch stamp.reading) ≡ true)
Cause p c stamp g from (PutStart t) h = IsInsertion g × Fills p c stamp from t h
Cause p c stamp g from (SendFirst t) h = IsInsertion g × WasPutHere p c stamp from t
Cause p c stamp g from (SendPlaced t) h = MayTellPlace p c stamp g from t
Cause p c stamp g from SplitVisits h = IsService g × (h.believes ≡ true)
Cause p c stamp g from Forward h = IsService g
Cause p c stamp g from AskBlocks h = IsService g
Cause p c stamp g from AskPieces h = IsService g
Cause p c stamp g from ServeBlocks h = IsService g
Cause p c stamp g from DropBackups h = IsService g
Cause p c stamp g from ServePieces h = IsService g
Cause p c stamp g from Beat h = IsService g × ((stamp.beat % p.heart == 0) ≡ true) × (h.comeback ≡ None)
