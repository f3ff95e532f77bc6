-- What a cub may keep, with one thing more.
use Rattle.std.proofs.Common.{◌++◌, ℕ, List, [], ◌∷◌}
use Rattle.std.specs.List.{AllByRecursion}
use Rattle.tiger_base.specs.declared.number.Stamp.{Stamp}
use Rattle.tiger_base.specs.declared.tenancy.PieceState.{PieceState}
use Rattle.tiger_base.specs.declared.tenancy.Rec.{Rec}
use Rattle.slot_plan.specs.declared.params.Params.{Params}
use Rattle.mirror_schedule.specs.Pieces.{with_piece}
use Rattle.mirror_schedule.specs.Splits.{Split, split_before, with_split}
use Rattle.mirror_schedule.proofs.Orders.{all_with_one}
use Rattle.cub_rules.specs.declared.store.Store.{Store}
use Rattle.cub_rules.specs.declared.store.StoredPart.{StoredPart}
use Rattle.cub_rules.specs.State.{IsStoreOf, IsRecordOf, IsPieceAt, IsSplitHere, IsPartHere}
use Rattle.cub_rules.specs.Records.{view_with, pieces_with}
use Rattle.cub_changes.specs.Changes.Change.{TakeRecord, AddPiece, StorePart}
use Rattle.cub_changes.proofs.Keeping.{change_keeps}
use Rattle.cub_changes.proofs.Stores.{with_pieces, with_splits}

-- when it is taken or added does not matter
abbrev some_time : Stamp
some_time = record { beat = 0; reading = 0 }

split_kept : (P : Split → Type 0) (x : Split) (items : List Split) → P x → AllByRecursion P items → AllByRecursion P (with_split x items)
unfolding with_split
split_kept P x items here all = all_with_one split_before P x items all here

pub with_one_record : (p : Params) (cub : ℕ) (h : Store) (r : Rec) → IsStoreOf p cub h → IsRecordOf p cub r → IsStoreOf p cub (record h { view = view_with r h.view })
with_one_record p cub h r kept here =
    change_keeps p cub some_time (TakeRecord r) h here kept

pub with_one_piece : (p : Params) (cub : ℕ) (h : Store) (x : PieceState) → IsStoreOf p cub h → IsPieceAt p cub x → IsStoreOf p cub (record h { pieces = pieces_with x h.pieces })
with_one_piece p cub h x kept here =
    with_pieces p cub h (with_piece h.pieces.params x h.pieces.items) h.unasked.items kept (change_keeps p cub some_time (AddPiece x) h here kept).pieces kept.unasked

pub with_one_unasked : (p : Params) (cub : ℕ) (h : Store) (x : PieceState) → IsStoreOf p cub h → IsPieceAt p cub x → IsStoreOf p cub (record h { unasked = pieces_with x h.unasked })
with_one_unasked p cub h x kept here =
    with_pieces p cub h h.pieces.items (with_piece h.unasked.params x h.unasked.items) kept kept.pieces (change_keeps p cub some_time (AddPiece x) h here kept).unasked

pub with_one_split : (p : Params) (cub : ℕ) (h : Store) (x : Split) → IsStoreOf p cub h → IsSplitHere p x → IsStoreOf p cub (record h { splits = with_split x h.splits })
with_one_split p cub h x kept here = with_splits p cub h (with_split x h.splits) kept (split_kept (IsSplitHere p) x h.splits here kept.splits)

pub with_one_part : (p : Params) (cub : ℕ) (h : Store) (x : StoredPart) → IsStoreOf p cub h → IsPartHere p x → IsStoreOf p cub (record h { parts = h.parts ++ x ∷ [] })
with_one_part p cub h x kept here = change_keeps p cub some_time (StorePart x.want x.part) h here kept
