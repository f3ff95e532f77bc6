-- A change keeps what the cub may keep, if what it takes in is the cub's.
use Rattle.std.proofs.Common.{ℕ, ◌≤◌, ◌+◌, Bool, true, cond, not, List, Option, [], ◌∷◌, map, filter, IsTrue}
use Rattle.std.specs.List.{AllByRecursion, flat_map}
use Rattle.std.proofs.lemmas.Bool.{cond_both}
use Rattle.tiger_base.specs.declared.number.Instance.{Instance}
use Rattle.tiger_base.specs.declared.number.Stamp.{Stamp}
use Rattle.tiger_base.specs.declared.tenancy.PieceState.{PieceState}
use Rattle.tiger_base.specs.declared.tenancy.Rec.{Rec}
use Rattle.tiger_base.specs.Limits.{most_reading}
use Rattle.slot_plan.specs.declared.params.Params.{Params}
use Rattle.node_kit.specs.Form.{is_tenancy, is_place}
use Rattle.partial_view.specs.declared.line.Line.{Line}
use Rattle.partial_view.specs.declared.line.Flag.{Flag}
use Rattle.partial_view.specs.declared.line.Flag.TheVariants as flag
use Rattle.partial_view.specs.Lines as lines
use Rattle.partial_view.specs.Views.{with_line, with_record, without_instance}
use Rattle.partial_view.proofs.Order.{all_filter}
use Rattle.insert_queue.specs.Queues as queues
use Rattle.deschedule.specs.Holds.{holds_at}
use Rattle.mirror_schedule.specs.Pieces as pieces
use Rattle.mirror_schedule.specs.Splits as splits
use Rattle.mirror_schedule.proofs.Orders.{all_with_one}
use Rattle.cub_rules.specs.declared.store.Store.{Store}
use Rattle.cub_rules.specs.State.{IsStoreOf, IsRecordOf, IsLineOf, IsAsk, IsPieceAt, IsSplitHere, IsPartHere}
use Rattle.cub_rules.specs.Records.{is_part_of}
use Rattle.cub_rules.specs.Messages.{is_piece_part}
use Rattle.cub_rules.specs.Ticks.{is_stale, must_split, split_visits, with_each, is_to_forward, must_read, leaves_by, is_served, is_past}
use Rattle.cub_changes.specs.Changes.{Change, did}
use Rattle.cub_changes.specs.Changes.Change.{Hold, PassOn, DropLines, DropStart, DropPieces, KillSplits, TakeRecord, Queue, QueueApart, AddPiece, DropKilled, StorePart, HearBeat, HearBack, Release, Believe, PutStart, SendFirst, SendPlaced, SplitVisits, Forward, AskBlocks, AskPieces, ServeBlocks, DropBackups, ServePieces}
use Rattle.lists.proofs.Each.{all_append, all_map, all_flat_map, all_in}
use Rattle.cub_changes.proofs.Numbers.{visit_in_form}
use Rattle.cub_changes.proofs.Positions.{IsInPlan}
use Rattle.cub_changes.proofs.Splitting.{all_off}
use Rattle.cub_changes.proofs.Stores.{with_lines, with_starts, with_others, with_pieces, with_splits, with_parts}

-- what a change takes in is the cub's, and what it sends of a key or a tenancy is in form
abbrev pub IsSound : Params → ℕ → Stamp → Change → Type 0
IsSound p c stamp (PassOn v k) = IsInPlan p k × (stamp.reading ≤ most_reading)
IsSound p c stamp (TakeRecord r) = IsRecordOf p c r
IsSound p c stamp (Queue a) = IsAsk a
IsSound p c stamp (QueueApart a) = IsAsk a
IsSound p c stamp (AddPiece x) = IsPieceAt p c x
IsSound p c stamp (StorePart want part) = IsTrue (is_place p want.slot.0 want.visit)
IsSound p c stamp (SendFirst t) = IsTrue (is_tenancy p t)
IsSound p c stamp (SendPlaced t) = IsTrue (is_tenancy p t)
IsSound p c stamp other = Unit {0}

-- ---- lists with an element more, and with marks
with_line_kept : (P : Line → Type 0) (p : Params) (x : Line) (xs : List Line) → AllByRecursion P xs → P x → AllByRecursion P (with_line p x xs)
unfolding with_line
with_line_kept P p x [] h own = (own, tt)
with_line_kept P p x (y ∷ ys) h own =
    cond_both _ (x ∷ y ∷ ys) (y ∷ with_line p x ys) (AllByRecursion P) (λ _. (own, h)) (λ _. (h.0, with_line_kept P p x ys h.1 own))

with_record_kept : (P : Line → Type 0) (p : Params) (r : Rec) (xs : List Line) → AllByRecursion P xs → P (lines.unmarked r)
    → AllByRecursion P (with_record p r xs)
unfolding with_record
with_record_kept P p r xs h own =
    cond_both _ xs (with_line p (lines.unmarked r) xs) (AllByRecursion P) (λ _. h) (λ _. with_line_kept P p (lines.unmarked r) xs h own)

with_piece_kept : (P : PieceState → Type 0) (p : Params) (x : PieceState) (xs : List PieceState) → AllByRecursion P xs → P x
    → AllByRecursion P (pieces.with_piece p x xs)
unfolding pieces.with_piece
with_piece_kept P p x xs h own = all_with_one (pieces.comes_before p) P x xs h own

with_splits_kept : (p : Params) (xs : List splits.Split) → AllByRecursion (IsSplitHere p) xs → (some : List splits.Split)
    → AllByRecursion (IsSplitHere p) some → AllByRecursion (IsSplitHere p) (with_each splits.with_split xs some)
unfolding splits.with_split
with_splits_kept p [] own some kept = kept
with_splits_kept p (x ∷ xs) own some kept =
    with_splits_kept p xs own.1 (splits.with_split x some) (all_with_one splits.split_before (IsSplitHere p) x some kept own.0)

module _ (p : Params) (c : ℕ) where
  -- a marked line is one of the same record
  marked_own : (f : Flag) (x : Line) → IsLineOf p c x → IsLineOf p c (lines.marked f x)
  marked_own flag.Forwarded x own = own
  marked_own flag.Asked x own = own
  marked_own flag.Split x own = own

  marked_kept : (test : Line → Bool) (f : Flag) (xs : List Line) → AllByRecursion (IsLineOf p c) xs
      → AllByRecursion (IsLineOf p c) (map (λ x. cond (test x) (lines.marked f x) x) xs)
  marked_kept test f xs kept =
      all_map (IsLineOf p c) (λ x. cond (test x) (lines.marked f x) x) xs
      (λ x i.
      let own = all_in (IsLineOf p c) x xs kept i in
      cond_both (test x) (lines.marked f x) x (IsLineOf p c) (λ _. marked_own f x own) (λ _. own))

  split_visits_own : (stamp : Stamp) (back : Option ℕ) (xs : List Line) → AllByRecursion (IsLineOf p c) xs
      → AllByRecursion (IsSplitHere p) (flat_map (split_visits p stamp back) xs)
  split_visits_own stamp back xs kept =
      all_flat_map (IsSplitHere p) (split_visits p stamp back) xs
      (λ x i.
      let own = all_in (IsLineOf p c) x xs kept i in
      all_off (IsSplitHere p) p stamp back x ((x.rec.tenancy.instance, x.rec.tenancy.slot, x.rec.visit) ∷ [])
      (λ _ _. (visit_in_form p x.rec.tenancy x.rec.visit own.in_form own.not_over, tt)))

  -- ---- what a change leaves out
  starts_but : (v : Instance) (h : Store) → IsStoreOf p c h → IsStoreOf p c (record h { starts = queues.without_start h.starts v })
  starts_but v h kept =
      with_starts p c h _ kept (all_filter IsAsk (λ a. not (queues.is_of v a)) h.starts.waiting kept.waiting)
      (all_filter IsAsk (λ a. not (queues.is_of v a)) h.starts.redundant kept.redundant)

  lines_but : (test : Line → Bool) (h : Store) → IsStoreOf p c h
      → IsStoreOf p c (record h { view = record h.view { lines = filter (λ x. not (test x)) h.view.lines } })
  lines_but test h kept = with_lines p c h _ kept (all_filter (IsLineOf p c) (λ x. not (test x)) h.view.lines kept.lines)

  pieces_but : (test : PieceState → Bool) (h : Store) → IsStoreOf p c h
      → IsStoreOf p c (record h {
        pieces = record h.pieces { items = filter (λ x. not (test x)) h.pieces.items };
        unasked = record h.unasked { items = filter (λ x. not (test x)) h.unasked.items };
      })
  pieces_but test h kept =
      with_pieces p c h _ _ kept (all_filter (IsPieceAt p c) (λ x. not (test x)) h.pieces.items kept.pieces)
      (all_filter (IsPieceAt p c) (λ x. not (test x)) h.unasked.items kept.unasked)

  pub change_keeps : (stamp : Stamp) (x : Change) (h : Store) → IsSound p c stamp x → IsStoreOf p c h
      → IsStoreOf p c (did p c stamp x h).state
  unfolding without_instance
  change_keeps stamp (Hold v) h sound kept = with_others p c h _ _ _ _ kept
  change_keeps stamp (PassOn v k) h sound kept = with_others p c h _ _ _ _ kept
  change_keeps stamp HearBeat h sound kept = with_others p c h _ _ _ _ kept
  change_keeps stamp (HearBack from) h sound kept = with_others p c h _ _ _ _ kept
  change_keeps stamp (DropLines v) h sound kept = lines_but (lines.is_of v) h kept
  change_keeps stamp ServeBlocks h sound kept = lines_but (is_served p stamp) h kept
  change_keeps stamp DropBackups h sound kept = lines_but (is_past p stamp) h kept
  change_keeps stamp (DropStart v) h sound kept = starts_but v h kept
  change_keeps stamp (PutStart t) h sound kept = starts_but t.instance h kept
  change_keeps stamp (DropPieces v) h sound kept =
      with_parts p c _ _ (pieces_but (pieces.is_of v) h kept) (all_filter (IsPartHere p) (λ x. not (is_part_of v x)) h.parts kept.parts)
  change_keeps stamp (DropKilled v visit) h sound kept =
      with_parts p c _ _ (pieces_but (pieces.is_of_visit v visit) h kept)
      (all_filter (IsPartHere p) (λ x. not (is_piece_part v visit x)) h.parts kept.parts)
  change_keeps stamp ServePieces h sound kept = pieces_but (leaves_by p stamp.reading) h kept
  change_keeps stamp (KillSplits v) h sound kept =
      with_splits p c h _ kept (all_filter (IsSplitHere p) (λ x. not (splits.is_of v x)) h.splits kept.splits)
  change_keeps stamp (TakeRecord r) h own kept =
      with_lines p c h _ kept (with_record_kept (IsLineOf p c) h.view.params r h.view.lines kept.lines own)
  change_keeps stamp (Queue a) h ask kept =
      with_starts p c h _ kept (all_append IsAsk h.starts.waiting (a ∷ []) kept.waiting (ask, tt)) kept.redundant
  change_keeps stamp (QueueApart a) h ask kept =
      with_starts p c h _ kept kept.waiting (all_append IsAsk h.starts.redundant (a ∷ []) kept.redundant (ask, tt))
  change_keeps stamp (AddPiece x) h own kept =
      with_pieces p c h _ _ kept (with_piece_kept (IsPieceAt p c) h.pieces.params x h.pieces.items kept.pieces own)
      (with_piece_kept (IsPieceAt p c) h.unasked.params x h.unasked.items kept.unasked own)
  change_keeps stamp (StorePart want part) h form kept =
      with_parts p c h _ kept (all_append (IsPartHere p) h.parts (record { want = want; part = part } ∷ []) kept.parts (form, tt))
  change_keeps stamp Release h sound kept =
      with_parts p c _ _
      (with_splits p c _ _ (with_others p c h (holds_at h.held stamp.reading) h.watch h.believes h.handback kept)
      (all_filter (IsSplitHere p) (λ x. not (splits.is_over p stamp.reading x)) h.splits kept.splits))
      (all_filter (IsPartHere p) (λ x. not (is_stale p stamp.reading x)) h.parts kept.parts)
  change_keeps stamp Believe h sound kept =
      with_starts p c _ _ (with_others p c h h.held h.watch true h.handback kept)
      (all_append IsAsk h.starts.waiting h.starts.redundant kept.waiting kept.redundant) tt
  change_keeps stamp SplitVisits h sound kept =
      with_splits p c _ _ (with_lines p c h _ kept (marked_kept (must_split p stamp) flag.Split h.view.lines kept.lines))
      (with_splits_kept p (flat_map (split_visits p stamp h.handback) h.view.lines) (split_visits_own stamp h.handback h.view.lines kept.lines) h.splits kept.splits)
  change_keeps stamp Forward h sound kept =
      with_lines p c h _ kept (marked_kept (is_to_forward p stamp) flag.Forwarded h.view.lines kept.lines)
  change_keeps stamp AskBlocks h sound kept = with_lines p c h _ kept (marked_kept (must_read p stamp) flag.Asked h.view.lines kept.lines)
  change_keeps stamp AskPieces h sound kept =
      with_pieces p c h h.pieces.items _ kept kept.pieces
      (all_filter (IsPieceAt p c) (λ x. not (leaves_by p (stamp.reading + p.read_lead) x)) h.unasked.items kept.unasked)
  change_keeps stamp other h sound kept = kept
