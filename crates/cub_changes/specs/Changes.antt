-- The single changes that a cub's rules are made of: what each puts out, and what it makes of what the cub keeps.
use Rattle.std.specs.Prelude.{ℕ, ◌+◌, ◌++◌, [], ◌∷◌, not, filter, map, true, Some, if◌then◌else◌}
use Rattle.std.specs.List.{flat_map}
use Rattle.tiger_base.specs.declared.number.Instance.{Instance}
use Rattle.tiger_base.specs.declared.number.Stamp.{Stamp}
use Rattle.tiger_base.specs.declared.tenancy.Ask.{Ask}
use Rattle.tiger_base.specs.declared.tenancy.PieceState.{PieceState}
use Rattle.tiger_base.specs.declared.tenancy.Rec.{Rec}
use Rattle.tiger_base.specs.declared.tenancy.Tenancy.{Tenancy}
use Rattle.tiger_base.specs.declared.tenancy.Want.{Want}
use Rattle.tiger_base.specs.Span.{LibraryPart}
use Rattle.tiger_base.specs.declared.message.Msg.{Msg}
use Rattle.tiger_base.specs.declared.message.Msg.TheVariants as msg
use Rattle.slot_plan.specs.declared.params.Params.{Params}
use Rattle.slot_plan.specs.Keys.{Key}
use Rattle.node_kit.specs.declared.journal.What.TheVariants as what
use Rattle.node_kit.specs.declared.outbox.Out.TheVariants as out
use Rattle.node_kit.specs.Steps.{Deed}
use Rattle.partial_view.specs.Lines as lines
use Rattle.partial_view.specs.Views.{without_instance}
use Rattle.insert_queue.specs.Queues.{has_start, without_start, after_take_over}
use Rattle.deschedule.specs.Holds.{with_hold, with_pass, holds_at}
use Rattle.mirror_schedule.specs.Pieces as pieces
use Rattle.mirror_schedule.specs.Splits as splits
use Rattle.node_kit.specs.Ways.{way_ahead, predecessor}
use Rattle.cub_rules.specs.declared.store.Store.{Store}
use Rattle.cub_rules.specs.Records.{view_with, dropped, pieces_with, pieces_but, is_part_of}
use Rattle.cub_rules.specs.Messages.{passed_on, is_reached, kills, is_piece_part}
use Rattle.cub_rules.specs.Ticks.{is_stale, queued, number, told_placed, split_outs, with_split_lines, forward_outs, forward_line, ask_outs, ask_line, leaves_by, asked_of_disk, is_served, is_past, serve_outs, piece_outs}

-- A rule of a cub is a chain of these changes. Those of the first group are made at messages, those of the second in a
-- tick; a record is taken, and a place told, at either.
pub data Change : Type 0 where
  -- an instance is held; its deschedule is passed on from a position; its records, starts, pieces and split visits are dropped
  Hold : (v : Instance) → Change
  PassOn : (v : Instance) (k : Key) → Change
  DropLines : (v : Instance) → Change
  DropStart : (v : Instance) → Change
  DropPieces : (v : Instance) → Change
  KillSplits : (v : Instance) → Change
  -- a record enters the view
  TakeRecord : (r : Rec) → Change
  -- a start joins those that wait, or the redundant ones
  Queue : (a : Ask) → Change
  QueueApart : (a : Ask) → Change
  -- a piece record is added, which is made in a tick too; the pieces of a visit are dropped
  AddPiece : (x : PieceState) → Change
  DropKilled : (v : Instance) (visit : ℕ) → Change
  -- a part is stored, or a failed read is written down
  StorePart : (want : Want) (part : LibraryPart) → Change
  FailRead : (want : Want) → Change
  -- the predecessor is heard, or says from when on it serves since it came back
  HearBeat : Change
  HearBack : (from : ℕ) → Change
  -- what is over is released and forgotten
  Release : Change
  -- the predecessor is believed dead
  Believe : Change
  -- a tenancy is put; its first state and its place are sent, or its place alone
  PutStart : (t : Tenancy) → Change
  SendFirst : (t : Tenancy) → Change
  SendPlaced : (t : Tenancy) → Change
  -- visits of the predecessor are split, and the pieces behind the first sent
  SplitVisits : Change
  -- the states of next visits are forwarded
  Forward : Change
  -- blocks and pieces are asked of the disks
  AskBlocks : Change
  AskPieces : Change
  -- own records that are due are served, backup records that are due dropped, and pieces that leave served
  ServeBlocks : Change
  DropBackups : Change
  ServePieces : Change
  -- the successor is told that the cub lives
  Beat : Change

-- what a change puts out, and what it leaves of what the cub kept just before
abbrev pub did : Params → ℕ → Stamp → Change → Store → Deed Msg Store
did p c stamp (Hold v) h = record { outs = []; state = record h { held = with_hold h.held v (stamp.reading + p.hold) } }
did p c stamp (PassOn v k) h = record {
  outs = if is_reached p stamp k.0 (k.1 + 1) then passed_on p c v (record { slot = k.0; visit = k.1 + 1 }) else [];
  state = record h { held = with_pass h.held v };
}
did p c stamp (DropLines v) h = record {
  outs = map dropped (filter (lines.is_of v) h.view.lines);
  state = record h { view = record h.view { lines = without_instance v h.view.lines } };
}
did p c stamp (DropStart v) h = record {
  outs = if has_start h.starts.waiting v then out.Act (what.Unqueued v) ∷ [] else [];
  state = record h { starts = without_start h.starts v };
}
did p c stamp (DropPieces v) h = record {
  outs = [];
  state = record h {
    pieces = pieces_but (pieces.is_of v) h.pieces;
    unasked = pieces_but (pieces.is_of v) h.unasked;
    parts = filter (λ x. not (is_part_of v x)) h.parts;
  };
}
did p c stamp (KillSplits v) h = record {
  outs = flat_map (kills p c) (filter (splits.is_of v) h.splits);
  state = record h { splits = filter (λ x. not (splits.is_of v x)) h.splits };
}
did p c stamp (TakeRecord r) h = record { outs = out.Act (what.Took r) ∷ []; state = record h { view = view_with r h.view } }
did p c stamp (Queue a) h = record {
  outs = out.Act (what.Queued a.instance a.disk) ∷ [];
  state = record h { starts = record h.starts { waiting = h.starts.waiting ++ a ∷ [] } };
}
did p c stamp (QueueApart a) h = record { outs = []; state = record h { starts = record h.starts { redundant = h.starts.redundant ++ a ∷ [] } } }
did p c stamp (AddPiece x) h = record { outs = []; state = record h { pieces = pieces_with x h.pieces; unasked = pieces_with x h.unasked } }
did p c stamp (DropKilled v visit) h = record {
  outs = [];
  state = record h {
    pieces = pieces_but (pieces.is_of_visit v visit) h.pieces;
    unasked = pieces_but (pieces.is_of_visit v visit) h.unasked;
    parts = filter (λ x. not (is_piece_part v visit x)) h.parts;
  };
}
did p c stamp (StorePart want part) h = record { outs = []; state = record h { parts = h.parts ++ record { want = want; part = part } ∷ [] } }
did p c stamp (FailRead want) h = record { outs = out.Act (what.ReadFailed want) ∷ []; state = h }
did p c stamp HearBeat h = record { outs = []; state = record h { watch = record h.watch { heard = stamp.reading } } }
did p c stamp (HearBack from) h = record { outs = []; state = record h { handback = Some from } }
did p c stamp Release h = record {
  outs = [];
  state = record h {
    held = holds_at h.held stamp.reading;
    splits = filter (λ x. not (splits.is_over p stamp.reading x)) h.splits;
    parts = filter (λ x. not (is_stale p stamp.reading x)) h.parts;
  };
}
did p c stamp Believe h = record {
  outs = out.Act (what.Believed (number (predecessor p c))) ∷ map queued h.starts.redundant;
  state = record h { believes = true; starts = after_take_over h.starts };
}
did p c stamp (PutStart t) h = record { outs = out.Act (what.Put t) ∷ []; state = record h { starts = without_start h.starts t.instance } }
did p c stamp (SendFirst t) h = record {
  outs = out.Send (way_ahead p c 1) (msg.ViewerState (record { tenancy = t; visit = t.first })) ∷ told_placed p c t ∷ [];
  state = h;
}
did p c stamp (SendPlaced t) h = record { outs = told_placed p c t ∷ []; state = h }
did p c stamp SplitVisits h = record { outs = flat_map (split_outs p c stamp h.handback) h.view.lines; state = with_split_lines p stamp h }
did p c stamp Forward h = record {
  outs = flat_map (forward_outs p c stamp) h.view.lines;
  state = record h { view = record h.view { lines = map (forward_line p stamp) h.view.lines } };
}
did p c stamp AskBlocks h = record {
  outs = flat_map (ask_outs p stamp h.comeback) h.view.lines;
  state = record h { view = record h.view { lines = map (ask_line p stamp) h.view.lines } };
}
did p c stamp AskPieces h = record {
  outs = map (asked_of_disk p) (filter (leaves_by p (stamp.reading + p.read_lead)) h.unasked.items);
  state = record h { unasked = pieces_but (leaves_by p (stamp.reading + p.read_lead)) h.unasked };
}
did p c stamp ServeBlocks h = record {
  outs = flat_map (serve_outs p c stamp h.comeback h.parts) h.view.lines;
  state = record h { view = record h.view { lines = filter (λ x. not (is_served p stamp x)) h.view.lines } };
}
did p c stamp DropBackups h = record {
  outs = map dropped (filter (is_past p stamp) h.view.lines);
  state = record h { view = record h.view { lines = filter (λ x. not (is_past p stamp x)) h.view.lines } };
}
did p c stamp ServePieces h = record {
  outs = flat_map (piece_outs p c stamp h.parts) (filter (leaves_by p stamp.reading) h.pieces.items);
  state = record h { pieces = pieces_but (leaves_by p stamp.reading) h.pieces; unasked = pieces_but (leaves_by p stamp.reading) h.unasked };
}
did p c stamp Beat h = record { outs = out.Send (way_ahead p c 1) msg.Heartbeat ∷ []; state = h }
