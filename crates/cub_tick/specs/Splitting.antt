-- What a cub keeps once the visits of some lines were split.
use Rattle.std.specs.Prelude.{◌≡◌, ℕ, List, [], ◌∷◌, map, drop, Option, if◌then◌else◌}
use Rattle.std.specs.List.{flat_map}
use Rattle.tiger_base.specs.declared.number.Stamp.{Stamp}
use Rattle.tiger_base.specs.declared.message.Msg.{Msg}
use Rattle.tiger_base.specs.declared.tenancy.PieceState.{PieceState}
use Rattle.tiger_base.specs.declared.tenancy.Rec.{Rec}
use Rattle.slot_plan.specs.declared.params.Params.{Params}
use Rattle.node_kit.specs.declared.outbox.Out.{Out}
use Rattle.partial_view.specs.declared.line.Line.{Line}
use Rattle.partial_view.specs.Views.{Seen}
use Rattle.mirror_schedule.specs.Pieces.{Pieces, pieces_of, is_in}
use Rattle.mirror_schedule.specs.Splits.{Split, with_split}
use Rattle.cub_rules.specs.declared.store.Store.{Store}
use Rattle.cub_rules.specs.Comebacks.{is_handed_back}
use Rattle.cub_rules.specs.State.{IsLineOf}
use Rattle.cub_rules.specs.Records.{with_piece_record, pieces_with}
use Rattle.cub_rules.specs.Ticks.{split_line, split_outs, split_visits, first_pieces, with_each, sent_ahead}
use Rattle.cub_tick.specs.Working.{WorkedOn}

-- the lines' visits were split, but for those that are left to the predecessor, and this is the view then
abbrev pub with_split_of : Params → Stamp → Option ℕ → List Line → Seen → Store → Store
with_split_of p stamp back lines view h =
    with_each with_piece_record (flat_map (first_pieces p stamp back) lines)
    (record h { view = view; splits = with_each with_split (flat_map (split_visits p stamp back) lines) h.splits })

-- the pieces of a visit that go to the next cubs
abbrev pub sent_pieces : Params → ℕ → Rec → List (Out Msg)
sent_pieces p cub r = map (sent_ahead p cub) (drop 1 (pieces_of p r))

-- a set of pieces with one that is in none of both, or is in the first one already
abbrev pub with_new : PieceState → Pieces → Pieces → Pieces
with_new x known items = if is_in x known.items then items else pieces_with x items

-- the first piece of a visit, and the visit as it is remembered
abbrev pub first_piece : Rec → PieceState
first_piece r = record { tenancy = r.tenancy; visit = r.visit; piece = 1 }

abbrev pub split_of : Rec → Split
split_of r = (r.tenancy.instance, r.tenancy.slot, r.visit)

-- a visit was split: its first piece is there, and that it was split is remembered
abbrev pub with_split_visit : Rec → Store → Store
with_split_visit r h = with_piece_record (first_piece r) (record h { splits = with_split (split_of r) h.splits })

-- a visit had its turn: it was split, unless it is left to the predecessor; and what goes out then
abbrev pub with_visit_settled : Params → Option ℕ → Rec → Store → Store
with_visit_settled p back r h = if is_handed_back p back r then h else with_split_visit r h

abbrev pub sent_settled : Params → ℕ → Option ℕ → Rec → List (Out Msg)
sent_settled p cub back r = if is_handed_back p back r then [] else sent_pieces p cub r

-- the splitting is under way: what is kept now becomes, by the splits that are left, what all of them make of what was kept before
pub record SplitOn (p : Params) (cub : ℕ) (stamp : Stamp) (before : Store) (outs_before : List (Out Msg)) (now : Store) (outs_now : List (Out Msg)) : Type 0 where
  pub work : WorkedOn (IsLineOf p cub) (split_outs p cub stamp before.handback) (λ x. split_line p stamp x ∷ []) before.view outs_before now.view outs_now
  pub store : (view : Seen) → with_split_of p stamp before.handback now.view.lines view now ≡ with_split_of p stamp before.handback before.view.lines view before
  pub back : now.handback ≡ before.handback
  pub pieces : now.pieces.params ≡ before.pieces.params
  pub unasked : now.unasked.params ≡ before.unasked.params
