-- The rules of a cub on messages: viewer states, starts, deschedules and how they are passed on, and all others.
use Rattle.std.specs.Prelude.{ℕ, ◌+◌, ◌-◌, ◌*◌, ◌==◌, List, [], ◌∷◌, ◌++◌, Bool, false, ◌&&◌, ◌||◌, not, nat_lt, nat_le, is_some, filter, map, Option, Some, None, if◌then◌else◌}
use Rattle.std.specs.List.{list_any, flat_map, range_with_len}
use Rattle.tiger_base.specs.declared.number.Instance.{Instance}
use Rattle.tiger_base.specs.declared.number.LinkNo.{LinkNo}
use Rattle.tiger_base.specs.declared.number.SlotNo.{SlotNo}
use Rattle.tiger_base.specs.declared.number.Stamp.{Stamp}
use Rattle.tiger_base.specs.declared.tenancy.Ask.{Ask}
use Rattle.tiger_base.specs.declared.tenancy.Kind.TheVariants.{Own, Backup}
use Rattle.tiger_base.specs.declared.tenancy.PieceState.{PieceState}
use Rattle.tiger_base.specs.declared.tenancy.Rec.{Rec}
use Rattle.tiger_base.specs.declared.tenancy.State.{State}
use Rattle.tiger_base.specs.declared.tenancy.Tag.{Tag}
use Rattle.tiger_base.specs.declared.tenancy.Want.{Want}
use Rattle.tiger_base.specs.Span.{LibraryPart}
use Rattle.tiger_base.specs.declared.message.Msg.{Msg}
use Rattle.tiger_base.specs.declared.message.Msg.TheVariants as msg
use Rattle.tiger_base.specs.Notes.{noted}
use Rattle.tiger_base.specs.Kinds.{is_own}
use Rattle.tiger_base.specs.Records.{want_of, want_of_piece, same_want}
use Rattle.slot_plan.specs.declared.params.Params.{Params}
use Rattle.slot_plan.specs.Times.{due, cub_of}
use Rattle.slot_plan.specs.Keys.{Key}
use Rattle.node_kit.specs.declared.journal.What.TheVariants as what
use Rattle.node_kit.specs.declared.outbox.Out.{Out}
use Rattle.node_kit.specs.declared.outbox.Out.TheVariants as out
use Rattle.node_kit.specs.Form.{is_in_form}
use Rattle.node_kit.specs.Steps.{Deed}
use Rattle.viewer_state.specs.States.{is_visit_of}
use Rattle.partial_view.specs.declared.line.Line.{Line}
use Rattle.partial_view.specs.Views.{line_at, first_of}
use Rattle.insert_queue.specs.Queues.{is_asked, with_waiting, with_redundant}
use Rattle.deschedule.specs.Holds.{is_held, must_pass, with_hold, with_pass}
use Rattle.mirror_schedule.specs.Pieces.{is_of_visit, leaving_of}
use Rattle.mirror_schedule.specs.Splits as splits
use Rattle.node_kit.specs.Ways.{way_ahead, predecessor}
use Rattle.node_kit.specs.Deeds.{nothing, then_do, each_in_turn}
use Rattle.cub_rules.specs.declared.store.Store.{Store}
use Rattle.cub_rules.specs.declared.store.StoredPart.{StoredPart}
use Rattle.cub_rules.specs.Comebacks.{lets_in, records_let_in}
use Rattle.cub_rules.specs.State.{visit_here, is_ask}
use Rattle.cub_rules.specs.Records.{took, dropping_lines, dropping_start, dropping_pieces, pieces_but, with_piece_record}
use Rattle.cub_rules.specs.Ticks.{sending, told_placed}

-- Where a cub stands to a visit of a slot that a state or a tag names: at that visit if it is the visit's cub, at the
-- next one if it is the next one's cub, and else nowhere.
unfoldable pub position_at : Params → ℕ → SlotNo → ℕ → Option Key
position_at p cub slot visit =
    if cub_of p visit == cub then Some (slot, visit) else if cub_of p (visit + 1) == cub then Some (slot, visit + 1) else None

-- the deschedule goes to the next two cubs, with the tag of the visit behind the position
abbrev pub passed_on : Params → ℕ → Instance → Tag → List (Out Msg)
passed_on p cub v tag =
    out.Send (way_ahead p cub 1) (msg.Deschedule v (Some tag)) ∷ out.Send (way_ahead p cub 2) (msg.Deschedule v (Some tag)) ∷ []

-- whether the states of a visit may be on their way already
unfoldable pub is_reached : Params → Stamp → SlotNo → ℕ → Bool
is_reached p stamp slot visit = nat_le (due p slot.0 visit) (stamp.reading + p.max_lead + 2 * p.play + p.skew)

-- Passing on: from a position a deschedule follows the states that may have gone ahead. In either case it counts as
-- passed on.
unfoldable pub passing_on : Params → ℕ → Stamp → Instance → Key → Store → Deed Msg Store
passing_on p cub stamp v k h = record {
  outs = if is_reached p stamp k.0 (k.1 + 1) then passed_on p cub v (record { slot = k.0; visit = k.1 + 1 }) else [];
  state = record h { held = with_pass h.held v };
}

-- it is passed on if there is a position and it is held and was not passed on yet
abbrev pub passing_from : Params → ℕ → Stamp → Instance → Option Key → Store → Deed Msg Store
passing_from p cub stamp v None h = nothing h
passing_from p cub stamp v (Some k) h = if must_pass h.held v then passing_on p cub stamp v k h else nothing h

-- the records that a state lets a cub add from its position: the visit's own record; or, on the next cub, the backup
-- record and, if the visit is not the last, the next visit's own record
abbrev pub records_told : State → Key → List Rec
records_told s k =
    if k.1 == s.visit then record { tenancy = s.tenancy; visit = s.visit; kind = Own } ∷ []
    else
    record { tenancy = s.tenancy; visit = s.visit; kind = Backup }
    ∷ (if nat_lt s.visit s.tenancy.last then record { tenancy = s.tenancy; visit = s.visit + 1; kind = Own } ∷ [] else [])

-- whether a state is the first that the next cub hears of its tenancy: it is of the first visit, of which the view has no
-- record
abbrev pub is_news : State → Key → List Line → Bool
is_news s k lines =
    not (k.1 == s.visit) && (s.visit == s.tenancy.first && not (is_some (line_at (s.tenancy.slot, s.visit) lines)))

-- of news the controller is told, since the cub that put may have died before it did, if the record enters
abbrev pub place_told : Params → ℕ → State → Key → Store → List (Out Msg)
place_told p cub s k h =
    if lets_in h.comeback (due p s.tenancy.slot.0 s.visit) then
    (if is_news s k h.view.lines then told_placed p cub s.tenancy ∷ [] else [])
    else []

-- a state of an instance that is not held: a start of it that waits is dropped, the records that may enter are taken, and of
-- news the controller is told; h is what the cub kept when the state came
abbrev pub told : Params → ℕ → State → Key → Store → Deed Msg Store
told p cub s k h =
    then_do (dropping_start s.tenancy.instance)
    (then_do (each_in_turn took (records_let_in p h.comeback (records_told s k))) (sending (place_told p cub s k h))) h

abbrev pub met : Params → ℕ → Stamp → State → Option Key → Store → Deed Msg Store
met p cub stamp s None h = nothing h
met p cub stamp s (Some k) h =
    if is_held h.held s.tenancy.instance then passing_from p cub stamp s.tenancy.instance (Some k) h else told p cub s k h

-- Viewer state: a state of a visit of its tenancy, on the visit's cub or the next one, lets it take records. A state of
-- an instance that is held is discarded, and the deschedule passed on.
unfoldable pub meeting_state : Params → ℕ → Stamp → State → Store → Deed Msg Store
meeting_state p cub stamp s h =
    if is_visit_of s.tenancy s.visit then met p cub stamp s (position_at p cub s.tenancy.slot s.visit) h else nothing h

-- a start joins the waiting list, unless a start of its instance is there
abbrev pub queueing : Ask → Store → Deed Msg Store
queueing a h = record {
  outs = if is_asked h.starts a.instance then [] else out.Act (what.Queued a.instance a.disk) ∷ [];
  state = record h { starts = with_waiting h.starts a };
}

abbrev pub queueing_redundant : Ask → Store → Deed Msg Store
queueing_redundant a h = record { outs = []; state = record h { starts = with_redundant h.starts a } }

-- whether the view has a record of an instance
abbrev pub shows : List Line → Instance → Bool
shows lines v = is_some (first_of v lines)

-- whether a start is discarded: each is by a cub that came back, and one of a held instance, of one that the view shows,
-- of no block or of too many
abbrev pub is_discarded : Ask → Store → Bool
is_discarded a h = is_some h.comeback || (not (is_ask a) || is_held h.held a.instance || shows h.view.lines a.instance)

-- Start: it waits, unless it is discarded. A redundant one waits apart while the predecessor is not believed dead.
unfoldable pub meeting_start : Ask → Bool → Store → Deed Msg Store
meeting_start a redundant h =
    if is_discarded a h then nothing h
    else if redundant && not h.believes then queueing_redundant a h
    else queueing a h

-- the position that a record gives
abbrev pub position_of : Rec → Key
position_of r = (r.tenancy.slot, visit_here r.kind r.visit)

abbrev pub position_by : Option Line → Option Key
position_by None = None
position_by (Some x) = Some (position_of x.rec)

-- the position of a cub to a deschedule: by its tag, or by the instance's earliest record
abbrev pub position : Params → ℕ → Instance → Option Tag → List Line → Option Key
position p cub v (Some tag) lines = position_at p cub tag.slot tag.visit
position p cub v None lines = position_by (first_of v lines)

-- the instance is held, unless it is held already
abbrev pub holding : Params → Stamp → Instance → Store → Deed Msg Store
holding p stamp v h = record { outs = []; state = record h { held = with_hold h.held v (stamp.reading + p.hold) } }

abbrev pub passing : Params → ℕ → Stamp → Instance → Option Tag → Store → Deed Msg Store
passing p cub stamp v tag h = passing_from p cub stamp v (position p cub v tag h.view.lines) h

-- the cubs of the pieces of a split visit, but this one, are told to drop them
abbrev pub kills : Params → ℕ → splits.Split → List (Out Msg)
kills p cub x = map (λ steps. out.Send (way_ahead p cub steps) (msg.Kill x.0 x.1 x.2)) (range_with_len 1 (p.pieces - 1))

-- the split visits of an instance are killed and forgotten
unfoldable pub killing_splits : Params → ℕ → Instance → Store → Deed Msg Store
killing_splits p cub v h = record {
  outs = flat_map (kills p cub) (filter (splits.is_of v) h.splits);
  state = record h { splits = filter (λ x. not (splits.is_of v x)) h.splits };
}

-- all that the cub keeps of an instance is dropped: records, starts, piece records, split visits
abbrev pub dropping_all : Params → ℕ → Instance → Store → Deed Msg Store
dropping_all p cub v =
    then_do (dropping_lines v) (then_do (dropping_start v) (then_do (dropping_pieces v) (killing_splits p cub v)))

-- Deschedule: the instance is held; from a position the deschedule is passed on, unless it was before; all that the cub
-- keeps of the instance is dropped.
unfoldable pub descheduling : Params → ℕ → Stamp → Instance → Option Tag → Store → Deed Msg Store
descheduling p cub stamp v tag =
    then_do (holding p stamp v) (then_do (passing p cub stamp v tag) (dropping_all p cub v))

-- Mirror state: a piece record is added, unless its instance is held, it is for another cub, or it may not enter.
unfoldable pub meeting_piece : Params → ℕ → PieceState → Store → Deed Msg Store
meeting_piece p cub x h =
    if is_held h.held x.tenancy.instance || not (cub_of p (x.visit + x.piece) == cub) then nothing h
    else if not (lets_in h.comeback (leaving_of p x)) then nothing h
    else record { outs = []; state = with_piece_record x h }

-- whether a stored part is one of the pieces of a visit of an instance
abbrev pub is_piece_part : Instance → ℕ → StoredPart → Bool
is_piece_part v visit x = x.want.instance.0 == v.0 && x.want.visit == visit && nat_lt 0 x.want.piece

-- Kill: the piece records of a visit are dropped.
unfoldable pub meeting_kill : Instance → ℕ → Store → Deed Msg Store
meeting_kill v visit h = record {
  outs = [];
  state = record h {
    pieces = pieces_but (is_of_visit v visit) h.pieces;
    unasked = pieces_but (is_of_visit v visit) h.unasked;
    parts = filter (λ x. not (is_piece_part v visit x)) h.parts;
  };
}

abbrev pub is_block_of : Want → Option Line → Bool
is_block_of want None = false
is_block_of want (Some x) = is_own x.rec.kind && same_want want (want_of x.rec)

-- whether a want is of a record, or a piece record, that is still there
unfoldable pub is_wanted : Want → Store → Bool
is_wanted want h =
    is_block_of want (line_at (want.slot, want.visit) h.view.lines) || list_any (λ x. same_want want (want_of_piece x)) h.pieces.items

abbrev pub storing : Want → Option LibraryPart → Store → Deed Msg Store
storing want (Some part) h = record { outs = []; state = record h { parts = h.parts ++ record { want = want; part = part } ∷ [] } }
storing want None h = record { outs = out.Act (what.ReadFailed want) ∷ []; state = h }

-- A disk's answer: for a record that is still there its part is stored, or the failure written down.
unfoldable pub meeting_answer : Want → Option LibraryPart → Store → Deed Msg Store
meeting_answer want part h = if is_wanted want h then storing want part h else nothing h

-- A heartbeat of the predecessor is heard.
unfoldable pub hearing_beat : Params → ℕ → Stamp → LinkNo → Store → Deed Msg Store
hearing_beat p cub stamp link h =
    if link.0 == (way_ahead p (predecessor p cub) 1).0 then record { outs = []; state = record h { watch = record h.watch { heard = stamp.reading } } }
    else nothing h

-- What a predecessor that came back says of when it serves is kept.
unfoldable pub hearing_back : Params → ℕ → LinkNo → ℕ → Store → Deed Msg Store
hearing_back p cub link from h =
    if link.0 == (way_ahead p (predecessor p cub) 1).0 then record { outs = []; state = record h { handback = Some from } }
    else nothing h

-- the rules on messages in form
unfoldable pub hearing : Params → ℕ → Stamp → LinkNo → Msg → Store → Deed Msg Store
hearing p cub stamp link (msg.ViewerState s) h = meeting_state p cub stamp s h
hearing p cub stamp link (msg.Start redundant a) h = meeting_start a redundant h
hearing p cub stamp link (msg.Deschedule v tag) h = descheduling p cub stamp v tag h
hearing p cub stamp link (msg.MirrorState x) h = meeting_piece p cub x h
hearing p cub stamp link (msg.Kill v slot visit) h = meeting_kill v visit h
hearing p cub stamp link (msg.ReadDone want part) h = meeting_answer want part h
hearing p cub stamp link msg.Heartbeat h = hearing_beat p cub stamp link h
hearing p cub stamp link (msg.Back from) h = hearing_back p cub link from h
hearing p cub stamp link other h = nothing h

-- what a cub does with a message: one that is not in form is ignored
unfoldable pub taking : Params → ℕ → Stamp → LinkNo → Msg → Store → Deed Msg Store
taking p cub stamp link m h = if is_in_form p (noted m) then hearing p cub stamp link m h else nothing h
