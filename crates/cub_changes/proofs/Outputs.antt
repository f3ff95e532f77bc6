-- Each output of a change is of a form, and comes of the change as the form says.
use Rattle.std.proofs.Common.{◌≡◌, ℕ, ◌+◌, ◌-◌, List, [], ◌∷◌, ◌++◌, map, filter, drop, true, Option, Some, None, refl, sym, ap, arith, ⊎_elim, inl, inr}
use Rattle.std.specs.Prelude.{◌⊎◌}
use Rattle.std.specs.List.{AllByRecursion, range_with_len}
use Rattle.std.proofs.lemmas.Bool.{eqb-true}
use Rattle.tiger_base.specs.declared.number.Instance.{Instance}
use Rattle.tiger_base.specs.declared.number.LinkNo.{LinkNo}
use Rattle.tiger_base.specs.declared.number.Stamp.{Stamp}
use Rattle.tiger_base.specs.declared.tenancy.PieceState.{PieceState}
use Rattle.tiger_base.specs.declared.tenancy.State.{State}
use Rattle.tiger_base.specs.declared.tenancy.Tag.{Tag}
use Rattle.tiger_base.specs.declared.tenancy.Tenancy.{Tenancy}
use Rattle.tiger_base.specs.Span.{LibraryPart}
use Rattle.tiger_base.specs.declared.message.Msg.{Msg}
use Rattle.tiger_base.specs.declared.message.Msg.TheVariants as msg
use Rattle.tiger_base.specs.Records.{want_of, want_of_piece}
use Rattle.slot_plan.specs.declared.params.Params.{Params}
use Rattle.slot_plan.specs.Times.{disk_of, disk_count}
use Rattle.slot_plan.specs.Keys.{Key, due_of}
use Rattle.mirror_pieces.specs.Pieces.{piece_disk}
use Rattle.node_kit.specs.declared.journal.What.TheVariants as what
use Rattle.node_kit.specs.declared.outbox.Out.{Out}
use Rattle.node_kit.specs.declared.outbox.Out.TheVariants as out
use Rattle.node_kit.specs.Ways.{way_ahead}
use Rattle.node_kit.specs.Steps.{Deed}
use Rattle.partial_view.specs.declared.line.Line.{Line}
use Rattle.partial_view.specs.Lines as lines
use Rattle.partial_view.specs.Lines.{key_of}
use Rattle.insert_queue.specs.Queues.{has_start}
use Rattle.mirror_schedule.specs.Splits as splits
use Rattle.mirror_schedule.specs.Pieces.{pieces_of}
use Rattle.cub_rules.specs.declared.store.Store.{Store}
use Rattle.cub_rules.specs.Comebacks.{serves_at}
use Rattle.cub_rules.specs.Records.{dropped, stored_for}
use Rattle.cub_rules.specs.Messages.{is_reached, passed_on, kills}
use Rattle.cub_rules.specs.Ticks.{queued, sent_ahead, split_outs, is_to_forward, forward_outs, must_read, asked_block, ask_outs, asked_of_disk, leaves_by, is_served, is_past, sent_whole, served_whole, serve_outs, sent_piece, piece_outs}
use Rattle.cub_changes.specs.Changes.{Change, did}
use Rattle.cub_changes.specs.Changes.Change.{PassOn, DropLines, DropStart, KillSplits, TakeRecord, Queue, FailRead, Believe, PutStart, SendFirst, SendPlaced, SplitVisits, Forward, AskBlocks, AskPieces, ServeBlocks, DropBackups, ServePieces, Beat}
use Rattle.lists.specs.Elements.{In}
use Rattle.cub_changes.specs.Outputs.{Output, output, IsNear, HasLine, ComesOf}
use Rattle.cub_changes.specs.Outputs.Output.{Took, Dropped, Unqueued, Queued, Put, Believed, ReadFailed, DescheduleSent, KillSent, StateSent, MirrorStateSent, PlacedSent, AskSent, BlockSent, PieceSent, HeartbeatSent}
use Rattle.cub_changes.proofs.Closed.{IsClosed}
use Rattle.cub_changes.proofs.Numbers.{in_range}
use Rattle.cub_changes.proofs.Splitting.{all_off}
use Rattle.lists.proofs.Each.{all_append, all_map, all_flat_map, all_if, all_in, all_wider}
use Rattle.lists.proofs.Elements.{from_filter}

abbrev instance : ℕ → Instance
instance n = record { 0 = n }

instance_same : (v w : Instance) → v.0 ≡ w.0 → v ≡ w
instance_same v w e = ap instance e

of_instance : (v : Instance) (x : Line) → lines.is_of v x ≡ true → v ≡ x.rec.tenancy.instance
of_instance v x e = instance_same v x.rec.tenancy.instance (sym (eqb-true _ _ e))

split_of : (v : Instance) (x : splits.Split) → splits.is_of v x ≡ true → v ≡ x.0
split_of v x e = instance_same v x.0 (sym (eqb-true _ _ e))

-- A property holds of all outputs of a change if it holds of each form that comes of the change.
module _ (p : Params) (c : ℕ) (stamp : Stamp) (Q : Out Msg → Type 0) where
  abbrev Forms : Change → Store → Type 0
  Forms x h = (o : Output) → ComesOf p c stamp x h o → Q (output p c stamp o)

  whole : (h : Store) (y : Line) → Forms ServeBlocks h → In y h.view.lines → is_served p stamp y ≡ true
      → serves_at h.comeback (due_of p (key_of y)) ≡ true → (o : Option LibraryPart) → stored_for (want_of y.rec) h.parts ≡ o
      → AllByRecursion Q (sent_whole p c stamp (want_of y.rec) o)
  whole h y each i t serves None e = tt
  whole h y each i t serves (Some part) e = (each (BlockSent (want_of y.rec) part) (y, refl, (i, t), refl, e, serves), tt)

  piece : (h : Store) (y : PieceState) → Forms ServePieces h → In y h.pieces.items → leaves_by p stamp.reading y ≡ true
      → (o : Option LibraryPart) → stored_for (want_of_piece y) h.parts ≡ o
      → AllByRecursion Q (sent_piece p c stamp (want_of_piece y) o)
  piece h y each i t None e = tt
  piece h y each i t (Some part) e = (each (PieceSent (want_of_piece y) part) (y, refl, i, t, refl, e), tt)

  pub forms_of : (x : Change) (h : Store) → Forms x h → AllByRecursion Q (did p c stamp x h).outs
  forms_of (PassOn v k) h each =
      let tag : Tag = record { slot = k.0; visit = k.1 + 1 } in
      all_if Q (is_reached p stamp k.0 (k.1 + 1)) (passed_on p c v tag)
      (λ e. (each (DescheduleSent 1 v tag) (k, refl, refl, e, inl refl), (each (DescheduleSent 2 v tag) (k, refl, refl, e, inr refl), tt)))
  forms_of (DropLines v) h each =
      all_map Q dropped (filter (lines.is_of v) h.view.lines)
      (λ y i. let f = from_filter (lines.is_of v) y h.view.lines i in each (Dropped y) (inl (ap DropLines (of_instance v y f.1), f.0)))
  forms_of (DropStart v) h each =
      all_if Q (has_start h.starts.waiting v) (output p c stamp (Unqueued v) ∷ []) (λ e. (each (Unqueued v) refl, tt))
  forms_of (KillSplits v) h each =
      all_flat_map Q (kills p c) (filter (splits.is_of v) h.splits)
      (λ y i.
      let f = from_filter (splits.is_of v) y h.splits i in
      all_map Q (λ steps. output p c stamp (KillSent steps y)) (range_with_len 1 (p.pieces - 1))
      (λ steps k.
      let r = in_range steps 1 (p.pieces - 1) k in
      each (KillSent steps y) (ap KillSplits (split_of v y f.1), f.0, r.0, omega (arith, r.0, r.1))))
  forms_of (TakeRecord r) h each = (each (Took r) refl, tt)
  forms_of (Queue a) h each = (each (Queued a) (inl refl), tt)
  forms_of (FailRead want) h each = (each (ReadFailed want) refl, tt)
  forms_of Believe h each = (each Believed refl, all_map Q queued h.starts.redundant (λ a i. each (Queued a) (inr (refl, i))))
  forms_of (PutStart t) h each = (each (Put t) refl, tt)
  forms_of (SendFirst t) h each =
      (each (StateSent 1 (record { tenancy = t; visit = t.first })) (inr (t, refl, refl, refl)), (each (PlacedSent t) (inl refl), tt))
  forms_of (SendPlaced t) h each = (each (PlacedSent t) (inr refl), tt)
  forms_of SplitVisits h each =
      all_flat_map Q (split_outs p c stamp h.handback) h.view.lines
      (λ y i.
      let others : List PieceState = drop 1 (pieces_of p y.rec) in
      all_off Q p stamp h.handback y (map (sent_ahead p c) others)
      (λ left e. all_map Q (sent_ahead p c) others (λ z k. each (MirrorStateSent z) (y, refl, (i, e), k, left))))
  forms_of Forward h each =
      all_flat_map Q (forward_outs p c stamp) h.view.lines
      (λ y i.
      let s : State = record { tenancy = y.rec.tenancy; visit = y.rec.visit + 1 } in
      all_if Q (is_to_forward p stamp y) (output p c stamp (StateSent 1 s) ∷ output p c stamp (StateSent 2 s) ∷ [])
      (λ e. (each (StateSent 1 s) (inl (y, refl, (i, e), refl, inl refl)), (each (StateSent 2 s) (inl (y, refl, (i, e), refl, inr refl)), tt))))
  forms_of AskBlocks h each =
      all_flat_map Q (ask_outs p stamp h.comeback) h.view.lines
      (λ y i.
      let o : Output = AskSent (disk_of p y.rec.visit) (want_of y.rec) in
      all_if Q (must_read p stamp y) (asked_block p h.comeback y)
      (λ e.
      all_if Q (serves_at h.comeback (due_of p (key_of y))) (output p c stamp o ∷ [])
      (λ serves. (each o (inl (y, refl, (i, e), refl, refl, serves)), tt))))
  forms_of AskPieces h each =
      all_map Q (asked_of_disk p) (filter (leaves_by p (stamp.reading + p.read_lead)) h.unasked.items)
      (λ y i.
      let f = from_filter (leaves_by p (stamp.reading + p.read_lead)) y h.unasked.items i in
      each (AskSent (piece_disk (disk_of p y.visit) y.piece (disk_count p)) (want_of_piece y)) (inr (y, refl, f.0, f.1, refl, refl)))
  forms_of ServeBlocks h each =
      all_flat_map Q (serve_outs p c stamp h.comeback h.parts) h.view.lines
      (λ y i.
      let sent : List (Out Msg) = served_whole p c stamp h.comeback h.parts y in
      all_if Q (is_served p stamp y) (sent ++ dropped y ∷ [])
      (λ e.
      all_append Q sent (dropped y ∷ [])
      (all_if Q (serves_at h.comeback (due_of p (key_of y))) (sent_whole p c stamp (want_of y.rec) (stored_for (want_of y.rec) h.parts))
      (λ serves. whole h y each i e serves (stored_for (want_of y.rec) h.parts) refl))
      (each (Dropped y) (inr (inl (refl, (i, e)))), tt)))
  forms_of DropBackups h each =
      all_map Q dropped (filter (is_past p stamp) h.view.lines)
      (λ y i. let f = from_filter (is_past p stamp) y h.view.lines i in each (Dropped y) (inr (inr (refl, f))))
  forms_of ServePieces h each =
      all_flat_map Q (piece_outs p c stamp h.parts) (filter (leaves_by p stamp.reading) h.pieces.items)
      (λ y i.
      let f = from_filter (leaves_by p stamp.reading) y h.pieces.items i in
      piece h y each f.0 f.1 (stored_for (want_of_piece y) h.parts) refl)
  forms_of Beat h each = (each HeartbeatSent refl, tt)
  forms_of other h each = tt

  -- all outputs of a deed have the property
  abbrev pub Puts : Store → Deed Msg Store → Type 0
  Puts h d = AllByRecursion Q d.outs

  pub puts_closed : IsClosed Puts
  puts_closed = record { none = λ h. tt; both = λ h d e one two. all_append Q d.outs e.outs one two }

-- ---- what an output tells of its change

-- a link to one of the next two cubs
abbrev pub IsNextWay : Params → ℕ → LinkNo → Type 0
IsNextWay p c link = (link ≡ way_ahead p c 1) ⊎ (link ≡ way_ahead p c 2)

-- of which change an output comes that tells of records, Puts, states, deschedules or places; none sends a start
abbrev pub Tells : Params → ℕ → Stamp → Change → Store → Out Msg → Type 0
Tells p c stamp x h (out.Act (what.Took r)) = x ≡ TakeRecord r
Tells p c stamp x h (out.Act (what.Put t)) = x ≡ PutStart t
Tells p c stamp x h (out.Send link (msg.ViewerState s)) =
    ((l : Line)
    × (x ≡ Forward)
    × HasLine (is_to_forward p stamp) h l
    × (s ≡ record { tenancy = l.rec.tenancy; visit = l.rec.visit + 1 })
    × IsNextWay p c link)
    ⊎ ((t : Tenancy) × (x ≡ SendFirst t) × (s ≡ record { tenancy = t; visit = t.first }) × (link ≡ way_ahead p c 1))
Tells p c stamp x h (out.Send link (msg.Deschedule v tag)) =
    (k : Key)
    × (x ≡ PassOn v k)
    × (tag ≡ Some (record { slot = k.0; visit = k.1 + 1 }))
    × (is_reached p stamp k.0 (k.1 + 1) ≡ true)
    × IsNextWay p c link
Tells p c stamp x h (out.Send link (msg.Placed t)) = (x ≡ SendFirst t) ⊎ (x ≡ SendPlaced t)
Tells p c stamp x h (out.Send link (msg.Start redundant a)) = ⊥
Tells p c stamp x h other = Unit {0}

module _ (p : Params) (c : ℕ) (stamp : Stamp) (x : Change) (h : Store) where
  near_way : (steps : ℕ) → IsNear steps → IsNextWay p c (way_ahead p c steps)
  near_way steps near = ⊎_elim (λ e. inl (ap (way_ahead p c) e)) (λ e. inr (ap (way_ahead p c) e)) near

  form_tells : (o : Output) → ComesOf p c stamp x h o → Tells p c stamp x h (output p c stamp o)
  form_tells (Took r) comes = comes
  form_tells (Put t) comes = comes
  form_tells (StateSent steps s) comes = ⊎_elim
      (λ f. inl (f.0, f.1, f.2, f.3, near_way steps f.4))
      (λ f. inr (f.0, f.1, f.2, ap (way_ahead p c) f.3))
      comes
  form_tells (DescheduleSent steps v tag) comes = (comes.0, comes.1, ap Some comes.2, comes.3, near_way steps comes.4)
  form_tells (PlacedSent t) comes = comes
  form_tells other comes = tt

  -- what tells of each output so holds of all outputs of the change
  pub outs_of : (Q : Out Msg → Type 0) → ((o : Out Msg) → Tells p c stamp x h o → Q o) → AllByRecursion Q (did p c stamp x h).outs
  outs_of Q wide =
      all_wider (Tells p c stamp x h) Q wide (did p c stamp x h).outs
      (forms_of p c stamp (Tells p c stamp x h) x h form_tells)

  pub tells_of : (o : Out Msg) → In o (did p c stamp x h).outs → Tells p c stamp x h o
  tells_of o i =
      all_in (Tells p c stamp x h) o (did p c stamp x h).outs (outs_of (Tells p c stamp x h) (λ o t. t)) i
