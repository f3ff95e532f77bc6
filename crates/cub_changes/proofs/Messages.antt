-- A closed relation that holds of each change at a message holds of what the cub does with the message.
use Rattle.std.proofs.Common.{◌≡◌, ℕ, ◌+◌, ◌&&◌, ◌||◌, ◌==◌, List, [], ◌∷◌, ◌++◌, Bool, true, false, not, nat_le, cond, is_some, Option, Some, None, refl}
use Rattle.std.proofs.lemmas.Bool.{eqb-true, cond_both}
use Rattle.tiger_base.specs.declared.number.Instance.{Instance}
use Rattle.tiger_base.specs.declared.number.LinkNo.{LinkNo}
use Rattle.tiger_base.specs.declared.number.SlotNo.{SlotNo}
use Rattle.tiger_base.specs.declared.number.Stamp.{Stamp}
use Rattle.tiger_base.specs.declared.tenancy.Ask.{Ask}
use Rattle.tiger_base.specs.declared.tenancy.PieceState.{PieceState}
use Rattle.tiger_base.specs.declared.tenancy.Rec.{Rec}
use Rattle.tiger_base.specs.declared.tenancy.State.{State}
use Rattle.tiger_base.specs.declared.tenancy.Tag.{Tag}
use Rattle.tiger_base.specs.declared.tenancy.Want.{Want}
use Rattle.tiger_base.specs.Span.{LibraryPart}
use Rattle.tiger_base.specs.declared.message.Msg.{Msg}
use Rattle.tiger_base.specs.declared.message.Msg.TheVariants as msg
use Rattle.tiger_base.specs.Notes.{noted}
use Rattle.slot_plan.specs.declared.params.Params.{Params}
use Rattle.slot_plan.specs.Times.{due, cub_of}
use Rattle.slot_plan.specs.Keys.{Key}
use Rattle.node_kit.specs.declared.journal.What.TheVariants as what
use Rattle.node_kit.specs.declared.outbox.Out.{Out}
use Rattle.node_kit.specs.declared.outbox.Out.TheVariants as out
use Rattle.node_kit.specs.Form.{is_in_form, IsInForm}
use Rattle.node_kit.specs.Steps.{Deed}
use Rattle.partial_view.specs.Lines as lines
use Rattle.partial_view.specs.Views.{line_at}
use Rattle.insert_queue.specs.Queues.{is_asked}
use Rattle.deschedule.specs.Holds.{is_held, must_pass}
use Rattle.mirror_schedule.specs.Pieces as pieces
use Rattle.mirror_schedule.specs.Pieces.{leaving_of}
use Rattle.viewer_state.specs.States.{is_visit_of}
use Rattle.node_kit.specs.Deeds.{nothing, then_do, each_in_turn}
use Rattle.node_kit.specs.Ways.{way_ahead, predecessor}
use Rattle.cub_rules.specs.declared.store.Store.{Store}
use Rattle.cub_rules.specs.declared.comeback.Comeback.{Comeback}
use Rattle.cub_rules.specs.Comebacks.{due_of_record, lets_in, records_let_in}
use Rattle.cub_rules.specs.Records.{took, view_with, dropping_lines, dropping_start, dropping_pieces, pieces_with, with_piece_record}
use Rattle.cub_rules.specs.Messages.{position_at, position, records_told, is_news, place_told, is_discarded, is_wanted, passing_on, passing_from, told, met, meeting_state, queueing, queueing_redundant, meeting_start, holding, passing, killing_splits, dropping_all, descheduling, meeting_piece, meeting_kill, storing, meeting_answer, hearing_beat, hearing_back, hearing, taking}
use Rattle.cub_rules.specs.Ticks.{sending, told_placed}
use Rattle.cub_changes.specs.Changes.{did}
use Rattle.cub_changes.specs.Changes.Change.{Hold, PassOn, DropLines, DropStart, DropPieces, KillSplits, TakeRecord, Queue, QueueApart, AddPiece, DropKilled, StorePart, FailRead, HearBeat, HearBack, SendPlaced}
use Rattle.cub_changes.specs.Causes.{Stage, IsPosition, MayPass, MayTake, MayQueue, MayAdd}
use Rattle.lists.specs.Elements.{In}
use Rattle.lists.proofs.Elements.{from_filter, in_filter}
use Rattle.cub_changes.specs.Causes.Stage.{OnMessage}
use Rattle.cub_changes.proofs.Closed.{IsClosed, OfEach, then_by, each_by, if_by}

-- of the records that may enter each is one of those that come, and may enter
pub of_let_in : (p : Params) (back : Option Comeback) (r : Rec) (rs : List Rec) → In r (records_let_in p back rs)
    → In r rs × (lets_in back (due_of_record p r) ≡ true)
of_let_in p None r rs i = (i, refl)
of_let_in p (Some b) r rs i = from_filter (λ x. nat_le b.enters (due_of_record p x)) r rs i

-- and each of those that come and may enter is there
pub in_let_in : (p : Params) (back : Option Comeback) (r : Rec) (rs : List Rec) → In r rs
    → lets_in back (due_of_record p r) ≡ true → In r (records_let_in p back rs)
in_let_in p None r rs i e = i
in_let_in p (Some b) r rs i e = in_filter (λ x. nat_le b.enters (due_of_record p x)) r rs i e

passes : (b : Bool) → not b ≡ false → b ≡ true
passes true e = refl
passes false e = absurd (cc)

-- a record is taken if no line stands at its place, and nothing happens if one does
abbrev pub taken_in : Rec → Store → Deed Msg Store
taken_in r h = record { outs = out.Act (what.Took r) ∷ []; state = record h { view = view_with r h.view } }

pub took_of : (P : Deed Msg Store → Type 0) (r : Rec) (h : Store)
    → (is_some (line_at (lines.visit_of r) h.view.lines) ≡ true → P (nothing h))
    → (is_some (line_at (lines.visit_of r) h.view.lines) ≡ false → P (taken_in r h)) → P (took r h)
unfolding took
took_of P r h there new = cond_both (is_some (line_at (lines.visit_of r) h.view.lines)) (nothing h) (taken_in r h) P there new

-- a piece record is added if it is not there
pub with_piece_of : (P : Store → Type 0) (x : PieceState) (h : Store) → (pieces.is_in x h.pieces.items ≡ true → P h)
    → (pieces.is_in x h.pieces.items ≡ false → P (record h { pieces = pieces_with x h.pieces; unasked = pieces_with x h.unasked }))
    → P (with_piece_record x h)
unfolding with_piece_record
with_piece_of P x h there new = cond_both (pieces.is_in x h.pieces.items) h _ P there new

module _ (P : Store → Deed Msg Store → Type 0) (closed : IsClosed P) (p : Params) (c : ℕ) (stamp : Stamp) where
  pub took_by : (g : Stage) (from : Store) → OfEach P p c stamp g from → (r : Rec) → MayTake p c stamp g from r → (h : Store)
      → P h (took r h)
  took_by g from each r may h = took_of (P h) r h (λ _. closed.none h) (λ e. each (TakeRecord r) h (may, e))

  pub passing_each : (v : Instance) (o : Option Key) (h : Store)
      → ((k : Key) → o ≡ Some k → must_pass h.held v ≡ true → P h (did p c stamp (PassOn v k) h)) → P h (passing_from p c stamp v o h)
  unfolding passing_on
  passing_each v None h one = closed.none h
  passing_each v (Some k) h one =
      if_by P closed (must_pass h.held v) h (passing_on p c stamp v k h) (nothing h) (one k refl) (λ _. closed.none h)

  passing_by : (g : Stage) (from : Store) → OfEach P p c stamp g from → (v : Instance) (o : Option Key) (h : Store)
      → ((k : Key) → o ≡ Some k → must_pass h.held v ≡ true → MayPass p c stamp g from v k) → P h (passing_from p c stamp v o h)
  passing_by g from each v o h may = passing_each v o h (λ k is must. each (PassOn v k) h (may k is must))

  pub told_by : (s : State) (k : Key) (h : Store) → P h (did p c stamp (DropStart s.tenancy.instance) h)
      → ((r : Rec) → In r (records_told s k) → lets_in h.comeback (due_of_record p r) ≡ true
      → (q : Store) → is_some (line_at (lines.visit_of r) q.view.lines) ≡ false → P q (did p c stamp (TakeRecord r) q))
      → ((q : Store) → is_news s k h.view.lines ≡ true → lets_in h.comeback (due p s.tenancy.slot.0 s.visit) ≡ true
      → P q (did p c stamp (SendPlaced s.tenancy) q))
      → P h (told p c s k h)
  unfolding dropping_start took
  told_by s k h drop take place =
      let telling : Store → Deed Msg Store = sending (place_told p c s k h) in
      let those : List Rec = records_let_in p h.comeback (records_told s k) in
      let taking_all : Store → Deed Msg Store = each_in_turn took those in
      let g : Store = (dropping_start s.tenancy.instance h).state in
      let g1 : Store = (taking_all g).state in
      then_by P closed (dropping_start s.tenancy.instance) (then_do taking_all telling) h drop
      (then_by P closed taking_all telling g
      (each_by P closed took those
      (λ r i q.
      let m = of_let_in p h.comeback r (records_told s k) i in
      if_by P closed (is_some (line_at (lines.visit_of r) q.view.lines)) q (nothing q) _ (λ _. closed.none q) (λ e. take r m.0 m.1 q e))
      g)
      (cond_both (lets_in h.comeback (due p s.tenancy.slot.0 s.visit)) (place_if s k h) [] (Sends g1)
      (λ o. cond_both (is_news s k h.view.lines) (told_placed p c s.tenancy ∷ []) [] (Sends g1) (λ e. place g1 e o) (λ _. closed.none g1))
      (λ _. closed.none g1)))
    where
      Sends : Store → List (Out Msg) → Type 0
      Sends q outs = P q (record { outs = outs; state = q })

      place_if : State → Key → Store → List (Out Msg)
      place_if s k h = cond (is_news s k h.view.lines) (told_placed p c s.tenancy ∷ []) []

  pub state_by : (link : LinkNo) (s : State) (h : Store) → OfEach P p c stamp (OnMessage link (msg.ViewerState s)) h
      → P h (meeting_state p c stamp s h)
  unfolding meeting_state
  state_by link s h each =
      if_by P closed (is_visit_of s.tenancy s.visit) h (met p c stamp s (position_at p c s.tenancy.slot s.visit) h) (nothing h)
      (λ (v : is_visit_of s.tenancy s.visit ≡ true). at (position_at p c s.tenancy.slot s.visit) (λ k e. (v, e))) (λ _. closed.none h)
    where
      g : Stage
      g = OnMessage link (msg.ViewerState s)

      at : (o : Option Key) → ((k : Key) → o ≡ Some k → IsPosition p c s k) → P h (met p c stamp s o h)
      at None m = closed.none h
      at (Some k) m =
          if_by P closed (is_held h.held s.tenancy.instance) h (passing_from p c stamp s.tenancy.instance (Some k) h) (told p c s k h)
          (λ held. passing_by g h each s.tenancy.instance (Some k) h (λ q e must. ((m q e).0, (m q e).1, refl, held, must)))
          (λ free.
          told_by s k h (each (DropStart s.tenancy.instance) h (refl, k, m k refl, free))
          (λ r i o q e. each (TakeRecord r) q ((k, m k refl, i, free, o), e))
          (λ q e o. each (SendPlaced s.tenancy) q (k, m k refl, refl, e, free, o)))

  queue_by : (g : Stage) (from : Store) → OfEach P p c stamp g from → (a : Ask) (h : Store) → MayQueue g a false h → (b : Bool)
      → is_asked h.starts a.instance ≡ b
      → P h (record {
        outs = cond b [] (out.Act (what.Queued a.instance a.disk) ∷ []);
        state = record h { starts = cond b h.starts (record h.starts { waiting = h.starts.waiting ++ a ∷ [] }) };
      })
  queue_by g from each a h may true e = closed.none h
  queue_by g from each a h may false e = each (Queue a) h (may, e)

  apart_by : (g : Stage) (from : Store) → OfEach P p c stamp g from → (a : Ask) (h : Store) → MayQueue g a true h → (b : Bool)
      → is_asked h.starts a.instance ≡ b
      → P h (record { outs = []; state = record h { starts = cond b h.starts (record h.starts { redundant = h.starts.redundant ++ a ∷ [] }) } })
  apart_by g from each a h may true e = closed.none h
  apart_by g from each a h may false e = each (QueueApart a) h (may, e)

  pub start_by : (link : LinkNo) (a : Ask) (redundant : Bool) (h : Store)
      → OfEach P p c stamp (OnMessage link (msg.Start redundant a)) h → P h (meeting_start a redundant h)
  unfolding meeting_start
  start_by link a redundant h each =
      if_by P closed (is_discarded a h) h (nothing h)
      (cond (redundant && not h.believes) (queueing_redundant a h) (queueing a h)) (λ _. closed.none h)
      (λ e.
      if_by P closed (redundant && not h.believes) h (queueing_redundant a h) (queueing a h)
      (λ f. apart_by (OnMessage link (msg.Start redundant a)) h each a h (refl, e, f) (is_asked h.starts a.instance) refl)
      (λ f. queue_by (OnMessage link (msg.Start redundant a)) h each a h (refl, e, f) (is_asked h.starts a.instance) refl))

  pub dropping_by : (v : Instance) (h : Store) → ((q : Store) → P q (did p c stamp (DropLines v) q))
      → ((q : Store) → P q (did p c stamp (DropStart v) q))
      → ((q : Store) → P q (did p c stamp (DropPieces v) q)) → ((q : Store) → P q (did p c stamp (KillSplits v) q))
      → P h (dropping_all p c v h)
  unfolding dropping_lines dropping_start dropping_pieces killing_splits
  dropping_by v h one two three four =
      let h1 : Store = (dropping_lines v h).state in
      let h2 : Store = (dropping_start v h1).state in
      then_by P closed (dropping_lines v) (then_do (dropping_start v) (then_do (dropping_pieces v) (killing_splits p c v))) h
      (one h)
      (then_by P closed (dropping_start v) (then_do (dropping_pieces v) (killing_splits p c v)) h1 (two h1)
      (then_by P closed (dropping_pieces v) (killing_splits p c v) h2 (three h2) (four (dropping_pieces v h2).state)))

  -- what follows on the hold: the deschedule is passed on, and all is dropped
  pub stop_rest_by : (link : LinkNo) (v : Instance) (tag : Option Tag) (h : Store)
      → OfEach P p c stamp (OnMessage link (msg.Deschedule v tag)) h
      → P (holding p stamp v h).state (then_do (passing p c stamp v tag) (dropping_all p c v) (holding p stamp v h).state)
  stop_rest_by link v tag h each =
      let h1 : Store = (holding p stamp v h).state in
      let h2 : Store = (passing p c stamp v tag h1).state in
      then_by P closed (passing p c stamp v tag) (dropping_all p c v) h1
      (passing_by (OnMessage link (msg.Deschedule v tag)) h each v (position p c v tag h1.view.lines) h1 (λ k e must. (refl, e, must)))
      (dropping_by v h2 (λ q. each (DropLines v) q refl) (λ q. each (DropStart v) q refl) (λ q. each (DropPieces v) q refl) (λ q. each (KillSplits v) q refl))

  pub stop_by : (link : LinkNo) (v : Instance) (tag : Option Tag) (h : Store)
      → OfEach P p c stamp (OnMessage link (msg.Deschedule v tag)) h → P h (descheduling p c stamp v tag h)
  unfolding descheduling
  stop_by link v tag h each =
      then_by P closed (holding p stamp v) (then_do (passing p c stamp v tag) (dropping_all p c v)) h (each (Hold v) h refl)
      (stop_rest_by link v tag h each)

  pub add_by : (g : Stage) (from : Store) → OfEach P p c stamp g from → (x : PieceState) (h : Store) → MayAdd p c stamp g x from
      → P h (record { outs = []; state = with_piece_record x h })
  add_by g from each x h may =
      with_piece_of (λ (s : Store). P h (record { outs = []; state = s })) x h (λ _. closed.none h)
      (λ e. each (AddPiece x) h (may, e))

  pub piece_by : (link : LinkNo) (x : PieceState) (h : Store) → OfEach P p c stamp (OnMessage link (msg.MirrorState x)) h
      → P h (meeting_piece p c x h)
  unfolding meeting_piece
  piece_by link x h each =
      if_by P closed (is_held h.held x.tenancy.instance || not (cub_of p (x.visit + x.piece) == c)) h (nothing h) _
      (λ _. closed.none h)
      (λ e.
      if_by P closed (not (lets_in h.comeback (leaving_of p x))) h (nothing h) _ (λ _. closed.none h)
      (λ f. add_by (OnMessage link (msg.MirrorState x)) h each x h (refl, e, passes (lets_in h.comeback (leaving_of p x)) f)))

  pub kill_by : (link : LinkNo) (v : Instance) (slot : SlotNo) (visit : ℕ) (h : Store)
      → OfEach P p c stamp (OnMessage link (msg.Kill v slot visit)) h → P h (meeting_kill v visit h)
  unfolding meeting_kill
  kill_by link v slot visit h each = each (DropKilled v visit) h (refl, refl)

  store_by : (link : LinkNo) (want : Want) (part : Option LibraryPart) (h : Store)
      → OfEach P p c stamp (OnMessage link (msg.ReadDone want part)) h → is_wanted want h ≡ true → P h (storing want part h)
  store_by link want (Some part) h each e = each (StorePart want part) h (refl, refl, e)
  store_by link want None h each e = each (FailRead want) h (refl, refl, e)

  pub answer_by : (link : LinkNo) (want : Want) (part : Option LibraryPart) (h : Store)
      → OfEach P p c stamp (OnMessage link (msg.ReadDone want part)) h → P h (meeting_answer want part h)
  unfolding meeting_answer
  answer_by link want part h each =
      if_by P closed (is_wanted want h) h (storing want part h) (nothing h) (store_by link want part h each) (λ _. closed.none h)

  pub beat_by : (link : LinkNo) (h : Store) → OfEach P p c stamp (OnMessage link msg.Heartbeat) h
      → P h (hearing_beat p c stamp link h)
  unfolding hearing_beat
  beat_by link h each =
      if_by P closed (link.0 == (way_ahead p (predecessor p c) 1).0) h _ (nothing h) (λ e. each HearBeat h (eqb-true _ _ e))
      (λ _. closed.none h)

  pub back_by : (link : LinkNo) (at : ℕ) (h : Store) → OfEach P p c stamp (OnMessage link (msg.Back at)) h
      → P h (hearing_back p c link at h)
  unfolding hearing_back
  back_by link at h each =
      if_by P closed (link.0 == (way_ahead p (predecessor p c) 1).0) h _ (nothing h)
      (λ e. each (HearBack at) h (refl, eqb-true _ _ e)) (λ _. closed.none h)

  pub hearing_by : (link : LinkNo) (m : Msg) (h : Store) → OfEach P p c stamp (OnMessage link m) h
      → P h (hearing p c stamp link m h)
  unfolding hearing
  hearing_by link (msg.ViewerState s) h each = state_by link s h each
  hearing_by link (msg.Start redundant a) h each = start_by link a redundant h each
  hearing_by link (msg.Deschedule v tag) h each = stop_by link v tag h each
  hearing_by link (msg.MirrorState x) h each = piece_by link x h each
  hearing_by link (msg.Kill v slot visit) h each = kill_by link v slot visit h each
  hearing_by link (msg.ReadDone want part) h each = answer_by link want part h each
  hearing_by link msg.Heartbeat h each = beat_by link h each
  hearing_by link (msg.Back at) h each = back_by link at h each
  hearing_by link other h each = closed.none h

  -- what holds of each change that a message in form causes holds of what the cub does with the message
  pub taking_in_form : (link : LinkNo) (m : Msg) (h : Store) → (IsInForm p (noted m) → OfEach P p c stamp (OnMessage link m) h)
      → P h (taking p c stamp link m h)
  unfolding taking
  taking_in_form link m h each =
      if_by P closed (is_in_form p (noted m)) h (hearing p c stamp link m h) (nothing h) (λ form. hearing_by link m h (each form))
      (λ _. closed.none h)

  pub taking_by : (link : LinkNo) (m : Msg) (h : Store) → OfEach P p c stamp (OnMessage link m) h
      → P h (taking p c stamp link m h)
  taking_by link m h each = taking_in_form link m h (λ _. each)
