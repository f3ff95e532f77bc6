-- The eight steps of a cub's tick: release, deadman, insertion, splitting, forwarding, reading, serving, heartbeat.
use Rattle.std.specs.Prelude.{ℕ, ◌+◌, ◌-◌, ◌*◌, ◌%◌, ◌==◌, List, [], ◌∷◌, ◌++◌, Bool, true, ◌&&◌, not, nat_lt, nat_le, is_some, filter, map, take, drop, Option, Some, None, if◌then◌else◌}
use Rattle.std.specs.List.{flat_map, range_with_len}
use Rattle.tiger_base.specs.declared.number.CubNo.{CubNo}
use Rattle.tiger_base.specs.declared.number.Stamp.{Stamp}
use Rattle.tiger_base.specs.declared.tenancy.Ask.{Ask}
use Rattle.tiger_base.specs.declared.tenancy.PieceState.{PieceState}
use Rattle.tiger_base.specs.declared.tenancy.Rec.{Rec}
use Rattle.tiger_base.specs.declared.tenancy.Tenancy.{Tenancy}
use Rattle.tiger_base.specs.declared.tenancy.Want.{Want}
use Rattle.tiger_base.specs.Span.{LibraryPart}
use Rattle.tiger_base.specs.declared.message.Msg.{Msg}
use Rattle.tiger_base.specs.declared.message.Msg.TheVariants as msg
use Rattle.tiger_base.specs.Kinds.{is_own}
use Rattle.tiger_base.specs.Records.{own_of, backup_of, want_of, want_of_piece}
use Rattle.slot_plan.specs.declared.params.Params.{Params}
use Rattle.slot_plan.specs.Times.{due, disk_of, disk_count}
use Rattle.slot_plan.specs.Keys.{Key, due_of}
use Rattle.slot_plan.specs.Windows.{least_visit}
use Rattle.mirror_pieces.specs.Pieces.{piece_disk}
use Rattle.node_kit.specs.declared.journal.What.TheVariants as what
use Rattle.node_kit.specs.declared.outbox.Out.{Out}
use Rattle.node_kit.specs.declared.outbox.Out.TheVariants as out
use Rattle.node_kit.specs.Steps.{Deed}
use Rattle.partial_view.specs.declared.line.Line.{Line}
use Rattle.partial_view.specs.declared.line.Flag.TheVariants as flag
use Rattle.partial_view.specs.Lines.{key_of, marked}
use Rattle.state_forward.specs.Forwards.{must_forward}
use Rattle.partial_view.specs.Free.{is_free}
use Rattle.insert_queue.specs.Queues.{without_start, after_take_over}
use Rattle.deschedule.specs.Holds.{holds_at}
use Rattle.deadman.specs.Silence.{is_silent}
use Rattle.mirror_schedule.specs.Pieces.{pieces_of, leaving_of}
use Rattle.mirror_schedule.specs.Splits.{Split, is_over, with_split}
use Rattle.node_kit.specs.Ways.{way_ahead, way_to_controller, way_to_viewers, way_to_disk, predecessor}
use Rattle.node_kit.specs.Deeds.{nothing, then_do, each_in_turn}
use Rattle.cub_rules.specs.declared.store.Store.{Store}
use Rattle.cub_rules.specs.declared.store.StoredPart.{StoredPart}
use Rattle.cub_rules.specs.declared.comeback.Comeback.{Comeback}
use Rattle.cub_rules.specs.Comebacks.{is_handed_back, serves_at}
use Rattle.cub_rules.specs.Records.{took, dropped, stored_for, pieces_but, with_piece_record}

-- whether the play time of a stored part's visit is over
abbrev pub is_stale : Params → ℕ → StoredPart → Bool
is_stale p reading x = nat_le (due p x.want.slot.0 x.want.visit + p.play) reading

-- Release: what is held long enough is released; split visits and stored parts whose play time is over are forgotten.
unfoldable pub releasing : Params → Stamp → Store → Deed Msg Store
releasing p stamp h = record {
  outs = [];
  state = record h {
    held = holds_at h.held stamp.reading;
    splits = filter (λ x. not (is_over p stamp.reading x)) h.splits;
    parts = filter (λ x. not (is_stale p stamp.reading x)) h.parts;
  };
}

abbrev pub queued : Ask → Out Msg
queued a = out.Act (what.Queued a.instance a.disk)

abbrev pub number : ℕ → CubNo
number n = record { 0 = n }

-- Deadman: if the predecessor was silent for too long it is believed dead from now on, and the redundant starts wait
-- behind the others.
unfoldable pub believing : Params → ℕ → Stamp → Store → Deed Msg Store
believing p cub stamp h =
    if not h.believes && is_silent h.watch stamp.reading then
    record {
      outs = out.Act (what.Believed (number (predecessor p cub))) ∷ map queued h.starts.redundant;
      state = record h { believes = true; starts = after_take_over h.starts };
    }
    else nothing h

-- the disks of a cub, in their order
abbrev pub disks_at : Params → ℕ → List ℕ
disks_at p cub = map (λ row. cub + row * p.cubs) (range_with_len 0 p.disks)

-- the tenancy of a start from a visit on
abbrev pub tenancy_from : Ask → Key → Tenancy
tenancy_from a k = record { instance = a.instance; file = a.file; slot = k.0; first = k.1; last = k.1 + (a.count - 1) }

-- messages that go out
abbrev pub sending : List (Out Msg) → Store → Deed Msg Store
sending outs h = record { outs = outs; state = h }

-- a tenancy is put: its start waits no more
abbrev pub putting : Tenancy → Store → Deed Msg Store
putting t h = record { outs = out.Act (what.Put t) ∷ []; state = record h { starts = without_start h.starts t.instance } }

abbrev pub told_placed : Params → ℕ → Tenancy → Out Msg
told_placed p cub t = out.Send (way_to_controller p cub) (msg.Placed t)

-- On a disk of its own a cub puts a start: it takes the own record of the first visit, and sends the visit's state to its
-- successor.
unfoldable pub putting_own : Params → ℕ → Tenancy → Store → Deed Msg Store
putting_own p cub t =
    then_do (putting t)
    (then_do (took (own_of t t.first))
    (sending (out.Send (way_ahead p cub 1) (msg.ViewerState (record { tenancy = t; visit = t.first })) ∷ told_placed p cub t ∷ [])))

-- On a disk of its predecessor it takes the backup record of the first visit and, if that is not the last, the own
-- record of the next one.
unfoldable pub putting_for_dead : Params → ℕ → Tenancy → Store → Deed Msg Store
putting_for_dead p cub t =
    then_do (putting t)
    (then_do (took (backup_of t t.first))
    (then_do (if nat_lt t.first t.last then took (own_of t (t.first + 1)) else nothing)
    (sending (told_placed p cub t ∷ []))))

-- if a visit is free the start is put there and the others follow; if none is, they all wait on
abbrev pub put_or_wait : (Tenancy → Store → Deed Msg Store) → (Store → Deed Msg Store) → Ask → Option Key → Store → Deed Msg Store
put_or_wait put rest a None h = nothing h
put_or_wait put rest a (Some k) h = then_do (put (tenancy_from a k)) rest h

-- the free visit of a disk at a reading
unfoldable pub free_on : Params → ℕ → ℕ → Store → Option Key
free_on p reading disk h = least_visit p reading disk (is_free h.view.lines)

-- the starts that wait for a disk, the oldest first, each from the first visit that is free when its turn comes
unfoldable pub putting_each : (Tenancy → Store → Deed Msg Store) → Params → ℕ → ℕ → List Ask → Store → Deed Msg Store
putting_each put p reading disk [] h = nothing h
putting_each put p reading disk (a ∷ rest) h =
    put_or_wait put (putting_each put p reading disk rest) a (free_on p reading disk h) h

abbrev pub is_for : ℕ → Ask → Bool
is_for disk a = a.disk.0 == disk

unfoldable pub putting_on : (Tenancy → Store → Deed Msg Store) → Params → ℕ → ℕ → Store → Deed Msg Store
putting_on put p reading disk h = putting_each put p reading disk (filter (is_for disk) h.starts.waiting) h

abbrev pub inserting_own : Params → ℕ → Stamp → Store → Deed Msg Store
inserting_own p cub stamp = each_in_turn (putting_on (putting_own p cub) p stamp.reading) (disks_at p cub)

abbrev pub inserting_for_dead : Params → ℕ → Stamp → Store → Deed Msg Store
inserting_for_dead p cub stamp h =
    if h.believes then each_in_turn (putting_on (putting_for_dead p cub) p stamp.reading) (disks_at p (predecessor p cub)) h
    else nothing h

-- starts are put on each disk of its own and then, if the predecessor is believed dead, on each of that one's disks
unfoldable pub inserting_all : Params → ℕ → Stamp → Store → Deed Msg Store
inserting_all p cub stamp = then_do (inserting_own p cub stamp) (inserting_for_dead p cub stamp)

-- Insertion: starts are put, but not by a cub that came back.
unfoldable pub inserting : Params → ℕ → Stamp → Store → Deed Msg Store
inserting p cub stamp h = if is_some h.comeback then nothing h else inserting_all p cub stamp h

-- whether it is a line's turn to be split: a backup record's, which has not had its turn, and which is due late enough
unfoldable pub must_split : Params → Stamp → Line → Bool
must_split p stamp x =
    not (is_own x.rec.kind) && not x.split && nat_le (stamp.reading + p.read_lead + p.skew + p.delay * p.beat + p.beat) (due_of p (key_of x))

-- the mirror state of a piece, which goes as many cubs ahead as its number is above the first piece's
abbrev pub sent_ahead : Params → ℕ → PieceState → Out Msg
sent_ahead p cub x = out.Send (way_ahead p cub (x.piece - 1)) (msg.MirrorState x)

-- Of a line whose turn it is, what is split off is split off if its visit is not left to the predecessor. Of a split visit
-- the first piece becomes the cub's own piece record, and the others are sent ahead.
abbrev pub split_off : {X : Type 0} → Params → Stamp → Option ℕ → Line → List X → List X
split_off p stamp back x these =
    if must_split p stamp x then (if is_handed_back p back x.rec then [] else these) else []

abbrev pub split_outs : Params → ℕ → Stamp → Option ℕ → Line → List (Out Msg)
split_outs p cub stamp back x = split_off p stamp back x (map (sent_ahead p cub) (drop 1 (pieces_of p x.rec)))

abbrev pub first_pieces : Params → Stamp → Option ℕ → Line → List PieceState
first_pieces p stamp back x = split_off p stamp back x (take 1 (pieces_of p x.rec))

abbrev pub split_visits : Params → Stamp → Option ℕ → Line → List Split
split_visits p stamp back x =
    split_off p stamp back x ((x.rec.tenancy.instance, x.rec.tenancy.slot, x.rec.visit) ∷ [])

-- a line that had its turn has no other one
abbrev pub split_line : Params → Stamp → Line → Line
split_line p stamp x = if must_split p stamp x then marked flag.Split x else x

-- some things are added one after another
abbrev pub with_each : {X S : Type 0} → (X → S → S) → List X → S → S
with_each add [] s = s
with_each add (x ∷ xs) s = with_each add xs (add x s)

abbrev pub with_split_lines : Params → Stamp → Store → Store
with_split_lines p stamp h = record h {
  view = record h.view { lines = map (split_line p stamp) h.view.lines };
  splits = with_each with_split (flat_map (split_visits p stamp h.handback) h.view.lines) h.splits;
}

-- Splitting: if the predecessor is believed dead, its visits are split into their pieces, but for those that are left to it
-- since it came back.
unfoldable pub splitting : Params → ℕ → Stamp → Store → Deed Msg Store
splitting p cub stamp h =
    if h.believes then
    record {
      outs = flat_map (split_outs p cub stamp h.handback) h.view.lines;
      state = with_each with_piece_record (flat_map (first_pieces p stamp h.handback) h.view.lines) (with_split_lines p stamp h);
    }
    else nothing h

-- whether a line's next state goes out
unfoldable pub is_to_forward : Params → Stamp → Line → Bool
is_to_forward p stamp x = not x.forwarded && must_forward p stamp x.rec

abbrev pub next_state : Rec → Msg
next_state r = msg.ViewerState (record { tenancy = r.tenancy; visit = r.visit + 1 })

abbrev pub forward_outs : Params → ℕ → Stamp → Line → List (Out Msg)
forward_outs p cub stamp x =
    if is_to_forward p stamp x then
    out.Send (way_ahead p cub 1) (next_state x.rec) ∷ out.Send (way_ahead p cub 2) (next_state x.rec) ∷ []
    else []

abbrev pub forward_line : Params → Stamp → Line → Line
forward_line p stamp x = if is_to_forward p stamp x then marked flag.Forwarded x else x

-- Forwarding: the state of the next visit goes to the next two cubs, once.
unfoldable pub forwarding : Params → ℕ → Stamp → Store → Deed Msg Store
forwarding p cub stamp h = record {
  outs = flat_map (forward_outs p cub stamp) h.view.lines;
  state = record h { view = record h.view { lines = map (forward_line p stamp) h.view.lines } };
}

-- whether it is a line's turn to have its block asked for
unfoldable pub must_read : Params → Stamp → Line → Bool
must_read p stamp x = is_own x.rec.kind && not x.asked && nat_le (due_of p (key_of x)) (stamp.reading + p.read_lead)

-- the block of a line is asked of its disk, if the cub serves the visit
abbrev pub asked_block : Params → Option Comeback → Line → List (Out Msg)
asked_block p back x =
    if serves_at back (due_of p (key_of x)) then out.Send (way_to_disk p (disk_of p x.rec.visit)) (msg.ReadAsk (want_of x.rec)) ∷ []
    else []

abbrev pub ask_outs : Params → Stamp → Option Comeback → Line → List (Out Msg)
ask_outs p stamp back x = if must_read p stamp x then asked_block p back x else []

abbrev pub ask_line : Params → Stamp → Line → Line
ask_line p stamp x = if must_read p stamp x then marked flag.Asked x else x

unfoldable pub reading_blocks : Params → Stamp → Store → Deed Msg Store
reading_blocks p stamp h = record {
  outs = flat_map (ask_outs p stamp h.comeback) h.view.lines;
  state = record h { view = record h.view { lines = map (ask_line p stamp) h.view.lines } };
}

-- whether a piece leaves by a time
unfoldable pub leaves_by : Params → ℕ → PieceState → Bool
leaves_by p time x = nat_le (leaving_of p x) time

-- the disk of a piece is asked for it
abbrev pub asked_of_disk : Params → PieceState → Out Msg
asked_of_disk p x =
    out.Send (way_to_disk p (piece_disk (disk_of p x.visit) x.piece (disk_count p))) (msg.ReadAsk (want_of_piece x))

unfoldable pub reading_pieces : Params → Stamp → Store → Deed Msg Store
reading_pieces p stamp h = record {
  outs = map (asked_of_disk p) (filter (leaves_by p (stamp.reading + p.read_lead)) h.unasked.items);
  state = record h { unasked = pieces_but (leaves_by p (stamp.reading + p.read_lead)) h.unasked };
}

-- Reading: the disks are asked for the blocks, and then the pieces, that leave soon, once.
unfoldable pub reading : Params → Stamp → Store → Deed Msg Store
reading p stamp = then_do (reading_blocks p stamp) (reading_pieces p stamp)

-- whether a line is an own record's that is due, and whether it is a backup record's
unfoldable pub is_served : Params → Stamp → Line → Bool
is_served p stamp x = is_own x.rec.kind && nat_le (due_of p (key_of x)) stamp.reading

unfoldable pub is_past : Params → Stamp → Line → Bool
is_past p stamp x = not (is_own x.rec.kind) && nat_le (due_of p (key_of x)) stamp.reading

-- a block goes to the viewers if its part is stored
abbrev pub sent_whole : Params → ℕ → Stamp → Want → Option LibraryPart → List (Out Msg)
sent_whole p cub stamp want None = []
sent_whole p cub stamp want (Some part) = out.Send (way_to_viewers p cub) (msg.Whole want stamp.beat part) ∷ []

-- the block of a line goes to the viewers, if the cub serves the visit
abbrev pub served_whole : Params → ℕ → Stamp → Option Comeback → List StoredPart → Line → List (Out Msg)
served_whole p cub stamp back parts x =
    if serves_at back (due_of p (key_of x)) then sent_whole p cub stamp (want_of x.rec) (stored_for (want_of x.rec) parts) else []

abbrev pub serve_outs : Params → ℕ → Stamp → Option Comeback → List StoredPart → Line → List (Out Msg)
serve_outs p cub stamp back parts x =
    if is_served p stamp x then served_whole p cub stamp back parts x ++ dropped x ∷ [] else []

unfoldable pub serving_blocks : Params → ℕ → Stamp → Store → Deed Msg Store
serving_blocks p cub stamp h = record {
  outs = flat_map (serve_outs p cub stamp h.comeback h.parts) h.view.lines;
  state = record h { view = record h.view { lines = filter (λ x. not (is_served p stamp x)) h.view.lines } };
}

unfoldable pub dropping_backups : Params → Stamp → Store → Deed Msg Store
dropping_backups p stamp h = record {
  outs = map dropped (filter (is_past p stamp) h.view.lines);
  state = record h { view = record h.view { lines = filter (λ x. not (is_past p stamp x)) h.view.lines } };
}

-- a piece goes to the viewers if its part is stored
abbrev pub sent_piece : Params → ℕ → Stamp → Want → Option LibraryPart → List (Out Msg)
sent_piece p cub stamp want None = []
sent_piece p cub stamp want (Some part) = out.Send (way_to_viewers p cub) (msg.Piece want stamp.beat part) ∷ []

abbrev pub piece_outs : Params → ℕ → Stamp → List StoredPart → PieceState → List (Out Msg)
piece_outs p cub stamp parts x = sent_piece p cub stamp (want_of_piece x) (stored_for (want_of_piece x) parts)

unfoldable pub serving_pieces : Params → ℕ → Stamp → Store → Deed Msg Store
serving_pieces p cub stamp h = record {
  outs = flat_map (piece_outs p cub stamp h.parts) (filter (leaves_by p stamp.reading) h.pieces.items);
  state = record h {
    pieces = pieces_but (leaves_by p stamp.reading) h.pieces;
    unasked = pieces_but (leaves_by p stamp.reading) h.unasked;
  };
}

-- Serving: own records that are due, then backup records that are due, then piece records that leave.
unfoldable pub serving : Params → ℕ → Stamp → Store → Deed Msg Store
serving p cub stamp = then_do (serving_blocks p cub stamp) (then_do (dropping_backups p stamp) (serving_pieces p cub stamp))

-- Heartbeat: in every beat that the plan's number divides, one goes to the successor, but of a cub that came back.
unfoldable pub beating : Params → ℕ → Stamp → Store → Deed Msg Store
beating p cub stamp h =
    if is_some h.comeback then nothing h
    else if stamp.beat % p.heart == 0 then record { outs = out.Send (way_ahead p cub 1) msg.Heartbeat ∷ []; state = h }
    else nothing h

-- the steps of a tick, in their order
unfoldable pub ticking : Params → ℕ → Stamp → Store → Deed Msg Store
ticking p cub stamp =
    then_do (releasing p stamp)
    (then_do (believing p cub stamp)
    (then_do (inserting p cub stamp)
    (then_do (splitting p cub stamp)
    (then_do (forwarding p cub stamp)
    (then_do (reading p stamp)
    (then_do (serving p cub stamp)
    (beating p cub stamp)))))))
