-- What enters and leaves what a cub keeps: records, starts, piece records.
use Rattle.std.specs.Prelude.{◌==◌, List, [], ◌∷◌, Bool, not, is_some, filter, map, Option, find, option_map, if◌then◌else◌}
use Rattle.tiger_base.specs.declared.number.Instance.{Instance}
use Rattle.tiger_base.specs.declared.tenancy.PieceState.{PieceState}
use Rattle.tiger_base.specs.declared.tenancy.Rec.{Rec}
use Rattle.tiger_base.specs.declared.tenancy.Want.{Want}
use Rattle.tiger_base.specs.Records.{same_want}
use Rattle.tiger_base.specs.Span.{LibraryPart}
use Rattle.tiger_base.specs.declared.message.Msg.{Msg}
use Rattle.node_kit.specs.declared.journal.What.TheVariants as what
use Rattle.node_kit.specs.declared.outbox.Out.{Out}
use Rattle.node_kit.specs.declared.outbox.Out.TheVariants as out
use Rattle.node_kit.specs.Steps.{Deed}
use Rattle.partial_view.specs.declared.line.Line.{Line}
use Rattle.partial_view.specs.Lines as lines
use Rattle.partial_view.specs.Views.{Seen, line_at, with_record, without_instance}
use Rattle.insert_queue.specs.Queues.{has_start, without_start}
use Rattle.mirror_schedule.specs.Pieces as pieces
use Rattle.node_kit.specs.Deeds.{nothing}
use Rattle.cub_rules.specs.declared.store.Store.{Store}
use Rattle.cub_rules.specs.declared.store.StoredPart.{StoredPart}

-- a view with a record, which is a new one if its slot and visit have none
abbrev pub view_with : Rec → Seen → Seen
view_with r v = record v { lines = with_record v.params r v.lines }

-- A record is taken: if the view has one at its slot and visit, that one stays and nothing is added.
unfoldable pub took : Rec → Store → Deed Msg Store
took r h =
    if is_some (line_at (lines.visit_of r) h.view.lines) then nothing h
    else record { outs = out.Act (what.Took r) ∷ []; state = record h { view = view_with r h.view } }

abbrev pub dropped : Line → Out Msg
dropped x = out.Act (what.Dropped x.rec)

-- all records of an instance are dropped
unfoldable pub dropping_lines : Instance → Store → Deed Msg Store
dropping_lines v h = record {
  outs = map dropped (filter (lines.is_of v) h.view.lines);
  state = record h { view = record h.view { lines = without_instance v h.view.lines } };
}

-- a start of an instance is dropped; one that waited is written down
unfoldable pub dropping_start : Instance → Store → Deed Msg Store
dropping_start v h = record {
  outs = if has_start h.starts.waiting v then out.Act (what.Unqueued v) ∷ [] else [];
  state = record h { starts = without_start h.starts v };
}

-- the part that is stored for a want
unfoldable pub stored_for : Want → List StoredPart → Option LibraryPart
stored_for want parts = option_map (λ x. x.part) (find (λ x. same_want want x.want) parts)

-- a set of pieces with one more, and without those that pass a test
abbrev pub pieces_with : PieceState → pieces.Pieces → pieces.Pieces
pieces_with x ps = record ps { items = pieces.with_piece ps.params x ps.items }

abbrev pub pieces_but : (PieceState → Bool) → pieces.Pieces → pieces.Pieces
pieces_but test ps = record ps { items = filter (λ x. not (test x)) ps.items }

-- A piece record is added, and is still to be asked for; one that is there stays as it is.
unfoldable pub with_piece_record : PieceState → Store → Store
with_piece_record x h =
    if pieces.is_in x h.pieces.items then h
    else record h { pieces = pieces_with x h.pieces; unasked = pieces_with x h.unasked }

-- whether a stored part is of an instance
abbrev pub is_part_of : Instance → StoredPart → Bool
is_part_of v x = x.want.instance.0 == v.0

-- all piece records of an instance are dropped, and all parts that are stored for it
unfoldable pub dropping_pieces : Instance → Store → Deed Msg Store
dropping_pieces v h = record {
  outs = [];
  state = record h {
    pieces = pieces_but (pieces.is_of v) h.pieces;
    unasked = pieces_but (pieces.is_of v) h.unasked;
    parts = filter (λ x. not (is_part_of v x)) h.parts;
  };
}
