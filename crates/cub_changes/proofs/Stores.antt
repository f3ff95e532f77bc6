-- What a cub may keep, with one part of it in place of another; and the relation that a rule keeps it and puts out what it may.
use Rattle.std.proofs.Common.{ℕ, List, Bool, Option}
use Rattle.std.specs.List.{AllByRecursion}
use Rattle.tiger_base.specs.declared.tenancy.PieceState.{PieceState}
use Rattle.tiger_base.specs.declared.message.Msg.{Msg}
use Rattle.tiger_base.specs.Notes.{noted}
use Rattle.slot_plan.specs.declared.params.Params.{Params}
use Rattle.node_kit.specs.Steps.{Deed, IsAllowed}
use Rattle.node_kit.proofs.Places.{IsRightAt, nothing_right}
use Rattle.partial_view.specs.declared.line.Line.{Line}
use Rattle.insert_queue.specs.Queues.{Queues}
use Rattle.deschedule.specs.declared.held.Holding.{Holding}
use Rattle.deadman.specs.Silence.{Silence}
use Rattle.mirror_schedule.specs.Splits.{Split}
use Rattle.cub_rules.specs.declared.store.Store.{Store}
use Rattle.cub_rules.specs.declared.store.StoredPart.{StoredPart}
use Rattle.cub_rules.specs.State.{IsStoreOf, IsLineOf, IsAsk, IsPieceAt, IsSplitHere, IsPartHere}
use Rattle.cub_changes.proofs.Closed.{IsClosed}
use Rattle.lists.proofs.Each.{all_append}

-- the deed keeps what a cub may keep, and each of its outputs is allowed
abbrev pub IsRight : Params → ℕ → Deed Msg Store → Type 0
IsRight p c d = IsRightAt (IsStoreOf p c) p c d

-- a deed on what a cub may keep is right
abbrev pub Right : Params → ℕ → Store → Deed Msg Store → Type 0
Right p c h d = IsStoreOf p c h → IsRight p c d

-- a rule that is right on all that a cub may keep
abbrev pub IsRule : Params → ℕ → (Store → Deed Msg Store) → Type 0
IsRule p c rule = (h : Store) → Right p c h (rule h)

pub right_closed : (p : Params) (c : ℕ) → IsClosed (Right p c)
right_closed p c = record {
  none = λ h kept. nothing_right (IsStoreOf p c) p c h kept;
  both = λ h d e one two kept.
      let first = one kept in
      let second = two first.keeps in
      record { keeps = second.keeps; allowed = all_append (IsAllowed noted p c) d.outs e.outs first.allowed second.allowed };
}

-- all that it keeps in place of what it kept, of the same plan
pub with_all : (p : Params) (c : ℕ) (h : Store) (lines : List Line) (q : Queues) (held : List Holding) (watch : Silence) (believes : Bool)
    (some rest : List PieceState) (splits : List Split) (parts : List StoredPart) (back : Option ℕ) → IsStoreOf p c h
    → AllByRecursion (IsLineOf p c) lines
    → AllByRecursion IsAsk q.waiting → AllByRecursion IsAsk q.redundant
    → AllByRecursion (IsPieceAt p c) some → AllByRecursion (IsPieceAt p c) rest → AllByRecursion (IsSplitHere p) splits → AllByRecursion (IsPartHere p) parts
    → IsStoreOf p c (record {
      view = record h.view { lines = lines };
      starts = q;
      held = held;
      watch = watch;
      believes = believes;
      pieces = record h.pieces { items = some };
      unasked = record h.unasked { items = rest };
      splits = splits;
      parts = parts;
      comeback = h.comeback;
      handback = back;
    })
with_all p c h lines q held watch believes some rest splits parts back kept l w r i u s t = record {
  view_plan = kept.view_plan;
  pieces_plan = kept.pieces_plan;
  unasked_plan = kept.unasked_plan;
  lines = l;
  waiting = w;
  redundant = r;
  pieces = i;
  unasked = u;
  splits = s;
  parts = t;
}

module _ (p : Params) (c : ℕ) (h : Store) where
  pub with_lines : (own : List Line) → IsStoreOf p c h → AllByRecursion (IsLineOf p c) own
      → IsStoreOf p c (record h { view = record h.view { lines = own } })
  with_lines own kept all =
      with_all p c h own h.starts h.held h.watch h.believes h.pieces.items h.unasked.items h.splits h.parts h.handback kept
      all kept.waiting kept.redundant kept.pieces kept.unasked kept.splits kept.parts

  pub with_starts : (q : Queues) → IsStoreOf p c h → AllByRecursion IsAsk q.waiting → AllByRecursion IsAsk q.redundant
      → IsStoreOf p c (record h { starts = q })
  with_starts q kept first second =
      with_all p c h h.view.lines q h.held h.watch h.believes h.pieces.items h.unasked.items h.splits h.parts h.handback kept
      kept.lines first second kept.pieces kept.unasked kept.splits kept.parts

  -- what is held and heard, believed and handed back may be anything
  pub with_others : (held : List Holding) (watch : Silence) (believes : Bool) (back : Option ℕ) → IsStoreOf p c h
      → IsStoreOf p c (record h { held = held; watch = watch; believes = believes; handback = back })
  with_others held watch believes back kept =
      with_all p c h h.view.lines h.starts held watch believes h.pieces.items h.unasked.items h.splits h.parts back kept
      kept.lines kept.waiting kept.redundant kept.pieces kept.unasked kept.splits kept.parts

  pub with_pieces : (some rest : List PieceState) → IsStoreOf p c h → AllByRecursion (IsPieceAt p c) some
      → AllByRecursion (IsPieceAt p c) rest
      → IsStoreOf p c (record h { pieces = record h.pieces { items = some }; unasked = record h.unasked { items = rest } })
  with_pieces some rest kept first second =
      with_all p c h h.view.lines h.starts h.held h.watch h.believes some rest h.splits h.parts h.handback kept
      kept.lines kept.waiting kept.redundant first second kept.splits kept.parts

  pub with_splits : (some : List Split) → IsStoreOf p c h → AllByRecursion (IsSplitHere p) some
      → IsStoreOf p c (record h { splits = some })
  with_splits some kept all =
      with_all p c h h.view.lines h.starts h.held h.watch h.believes h.pieces.items h.unasked.items some h.parts h.handback kept
      kept.lines kept.waiting kept.redundant kept.pieces kept.unasked all kept.parts

  pub with_parts : (some : List StoredPart) → IsStoreOf p c h → AllByRecursion (IsPartHere p) some
      → IsStoreOf p c (record h { parts = some })
  with_parts some kept all =
      with_all p c h h.view.lines h.starts h.held h.watch h.believes h.pieces.items h.unasked.items h.splits some h.handback kept
      kept.lines kept.waiting kept.redundant kept.pieces kept.unasked kept.splits all
