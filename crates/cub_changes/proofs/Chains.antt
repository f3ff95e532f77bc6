-- The rules of a cub as chains of changes: equations for the rules, for what a tick is made of, for events of a cub, and for messages.
use Rattle.std.proofs.Common.{◌≡◌, ℕ, ◌+◌, ◌&&◌, ◌==◌, ◌%◌, List, [], ◌∷◌, ◌++◌, true, false, not, nat_lt, cond, filter, if◌then◌else◌, Option, None, refl, subst, ◌∙◌, Bool, Some, ap}
use Rattle.std.specs.List.{flat_map}
use Rattle.std.proofs.lemmas.Bool.{cond_both, not-true, eq-eqb}
use Rattle.tiger_base.specs.declared.number.Instance.{Instance}
use Rattle.tiger_base.specs.declared.number.SlotNo.{SlotNo}
use Rattle.tiger_base.specs.declared.number.Stamp.{Stamp}
use Rattle.tiger_base.specs.declared.tenancy.PieceState.{PieceState}
use Rattle.tiger_base.specs.declared.tenancy.Tag.{Tag}
use Rattle.tiger_base.specs.declared.tenancy.Tenancy.{Tenancy}
use Rattle.tiger_base.specs.declared.tenancy.Want.{Want}
use Rattle.tiger_base.specs.Span.{LibraryPart}
use Rattle.tiger_base.specs.declared.message.Msg.{Msg}
use Rattle.tiger_base.specs.declared.message.Msg.TheVariants as msg
use Rattle.node_kit.specs.declared.journal.What.TheVariants as what
use Rattle.node_kit.specs.declared.outbox.Out.TheVariants as out
use Rattle.node_kit.specs.Ways.{way_ahead}
use Rattle.insert_queue.specs.Queues.{has_start, without_start}
use Rattle.partial_view.specs.declared.line.Line.{Line}
use Rattle.tiger_base.specs.Records.{own_of, backup_of}
use Rattle.slot_plan.specs.declared.params.Params.{Params}
use Rattle.slot_plan.specs.Keys.{Key}
use Rattle.slot_plan.specs.Times.{cub_of}
use Rattle.deschedule.specs.Holds.{is_held}
use Rattle.mirror_schedule.specs.Pieces.{leaving_of}
use Rattle.node_kit.specs.declared.outbox.Out.{Out}
use Rattle.node_kit.specs.Steps.{Deed}
use Rattle.node_kit.specs.Deeds.{nothing, then_do}
use Rattle.deadman.specs.Silence.{is_silent}
use Rattle.cub_rules.specs.declared.store.Store.{Store}
use Rattle.cub_rules.specs.Comebacks.{lets_in}
use Rattle.cub_rules.specs.Cubs.{was_away, coming_back, ending}
use Rattle.cub_rules.specs.Messages.{passing_on, passing, holding, killing_splits, dropping_all, descheduling, position_at, met, meeting_state, is_discarded, queueing, queueing_redundant, meeting_start, meeting_piece, meeting_kill, is_wanted, storing, meeting_answer, hearing_beat, hearing_back, hearing, taking}
use Rattle.cub_rules.specs.Records.{took, dropping_lines, dropping_start, dropping_pieces, with_piece_record}
use Rattle.cub_rules.specs.Ticks.{putting, told_placed, is_served, is_past, putting_own, putting_for_dead, releasing, believing, inserting, first_pieces, with_each, with_split_lines, splitting, forwarding, reading_blocks, reading_pieces, reading, serving_blocks, dropping_backups, serving_pieces, serving, beating, ticking}
use Rattle.cub_changes.specs.Changes.{did}
use Rattle.cub_changes.specs.Changes.Change.{PassOn, DropLines, DropStart, DropPieces, KillSplits, DropKilled, PutStart, SendFirst, Release, Believe, SplitVisits, Forward, AskBlocks, AskPieces, ServeBlocks, DropBackups, ServePieces, Beat, HearBeat, HearBack}
use Rattle.lists.specs.Elements.{In}
use Rattle.lists.proofs.Elements.{in_left, in_right, from_filter}
use Rattle.cub_changes.proofs.Order.{from_reading}
use Rattle.cub_changes.proofs.Ticks.{service_steps, late_steps, before_inserting, before_splitting, beating_same}
use Rattle.tiger_base.specs.declared.number.LinkNo.{LinkNo}
use Rattle.tiger_base.specs.declared.tenancy.Ask.{Ask}
use Rattle.tiger_base.specs.declared.tenancy.State.{State}
use Rattle.tiger_base.specs.Notes.{noted}
use Rattle.node_kit.specs.Form.{is_in_form}
use Rattle.viewer_state.specs.States.{is_visit_of}
use Rattle.cub_changes.specs.Causes.{IsOfPredecessor}

-- the own record of the second visit of a Put for the predecessor, if there is one
abbrev pub second : Tenancy → Store → Deed Msg Store
second t = cond (nat_lt t.first t.last) (took (own_of t (t.first + 1))) nothing

-- what a Put puts out
pub own_puts : (p : Params) (c : ℕ) (t : Tenancy) (h : Store) → out.Act (what.Put t) ∷ (took (own_of t t.first) (putting t h).state).outs
    ++ out.Send (way_ahead p c 1) (msg.ViewerState (record { tenancy = t; visit = t.first })) ∷ told_placed p c t ∷ []
    ≡ (putting_own p c t h).outs
unfolding putting_own
own_puts p c t h = refl

pub dead_puts : (p : Params) (c : ℕ) (t : Tenancy) (h : Store) → let g : Store = (putting t h).state in
    out.Act (what.Put t) ∷ (took (backup_of t t.first) g).outs
    ++ ((second t (took (backup_of t t.first) g).state).outs ++ told_placed p c t ∷ [])
    ≡ (putting_for_dead p c t h).outs
unfolding putting_for_dead
dead_puts p c t h = refl

-- what the drop of a start leaves
pub start_dropped : (v : Instance) (h : Store) → dropping_start v h ≡ record {
  outs = if has_start h.starts.waiting v then out.Act (what.Unqueued v) ∷ [] else [];
  state = record h { starts = without_start h.starts v };
}
unfolding dropping_start
start_dropped v h = refl

module _ (p : Params) (c : ℕ) (stamp : Stamp) where
  -- ---- rules that are one change

  pub pass_is : (v : Instance) (k : Key) (h : Store) → passing_on p c stamp v k h ≡ did p c stamp (PassOn v k) h
  unfolding passing_on
  pass_is v k h = refl

  pub release_is : (h : Store) → releasing p stamp h ≡ did p c stamp Release h
  unfolding releasing
  release_is h = refl

  pub forward_is : (h : Store) → forwarding p c stamp h ≡ did p c stamp Forward h
  unfolding forwarding
  forward_is h = refl

  pub beats : (h : Store) → h.comeback ≡ None → (stamp.beat % p.heart == 0) ≡ true → beating p c stamp h ≡ did p c stamp Beat h
  unfolding beating
  beats h first e = rw (first, e) refl

  -- ---- the deadman step behind release, in both cases

  pub deadman_of : (Q : Deed Msg Store → Type 0) (h : Store) → let g : Store = (did p c stamp Release h).state in
      ((not h.believes && is_silent h.watch stamp.reading) ≡ true → Q (did p c stamp Believe g))
      → ((not h.believes && is_silent h.watch stamp.reading) ≡ false → Q (nothing g))
      → Q (believing p c stamp (releasing p stamp h).state)
  unfolding releasing believing
  deadman_of Q h one two =
      let g : Store = (did p c stamp Release h).state in
      cond_both (not h.believes && is_silent h.watch stamp.reading) (did p c stamp Believe g) (nothing g) Q one two

  -- ---- rules that are several

  abbrev pub drops : Instance → Store → Deed Msg Store
  drops v =
      then_do (did p c stamp (DropLines v))
      (then_do (did p c stamp (DropStart v)) (then_do (did p c stamp (DropPieces v)) (did p c stamp (KillSplits v))))

  -- what follows on the hold of a deschedule
  abbrev pub stop_rest : Instance → Option Tag → Store → Deed Msg Store
  stop_rest v tag = then_do (passing p c stamp v tag) (dropping_all p c v)

  pub drop_is : (v : Instance) (h : Store) → dropping_all p c v h ≡ drops v h
  unfolding dropping_lines dropping_start dropping_pieces killing_splits
  drop_is v h = refl

  pub stop_is : (v : Instance) (tag : Option Tag) (h : Store)
      → descheduling p c stamp v tag h ≡ then_do (holding p stamp v) (stop_rest v tag) h
  unfolding descheduling
  stop_is v tag h = refl

  pub own_is : (t : Tenancy) (h : Store) → putting_own p c t h
      ≡ then_do (did p c stamp (PutStart t)) (then_do (took (own_of t t.first)) (did p c stamp (SendFirst t))) h
  unfolding putting_own
  own_is t h = refl

  pub read_is : (h : Store) → reading p stamp h ≡ then_do (did p c stamp AskBlocks) (did p c stamp AskPieces) h
  unfolding reading reading_blocks reading_pieces
  read_is h = refl

  pub serve_is : (h : Store) → serving p c stamp h
      ≡ then_do (did p c stamp ServeBlocks) (then_do (did p c stamp DropBackups) (did p c stamp ServePieces)) h
  unfolding serving serving_blocks dropping_backups serving_pieces
  serve_is h = refl

  -- what splitting does if the predecessor is believed dead, and if it is not
  abbrev pub splits : Store → Deed Msg Store
  splits h = record {
    outs = (did p c stamp SplitVisits h).outs;
    state = with_each with_piece_record (flat_map (first_pieces p stamp h.handback) h.view.lines) (with_split_lines p stamp h);
  }

  pub split_is : (h : Store) → h.believes ≡ true → splitting p c stamp h ≡ splits h
  unfolding splitting
  split_is h e = rw e refl

  pub split_none : (h : Store) → h.believes ≡ false → splitting p c stamp h ≡ nothing h
  unfolding splitting
  split_none h e = rw e refl

  -- ---- a tick

  -- what it puts out, step by step, and what it leaves: what its last steps leave
  pub tick_outs : (h : Store) → (releasing p stamp h).outs ++ ((believing p c stamp (releasing p stamp h).state).outs
      ++ ((inserting p c stamp (before_inserting p c stamp h)).outs ++ (service_steps p c stamp (before_splitting p c stamp h)).outs))
      ≡ (ticking p c stamp h).outs
  unfolding ticking
  tick_outs h = refl

  pub tick_late : (h : Store) → (ticking p c stamp h).state ≡ (late_steps p c stamp (before_inserting p c stamp h)).state
  unfolding ticking
  tick_late h = refl

  pub tick_served : (h : Store) → (ticking p c stamp h).state ≡ (serving p c stamp (reading p stamp (from_reading p c stamp h)).state).state
  tick_served h = tick_late h ∙ beating_same p c stamp (serving p c stamp (reading p stamp (from_reading p c stamp h)).state).state

  -- a line that is left is neither served nor past
  pub serving_left : (h : Store) (x : Line) → In x (serving p c stamp h).state.view.lines
      → In x h.view.lines × (is_served p stamp x ≡ false) × (is_past p stamp x ≡ false)
  unfolding serving serving_blocks dropping_backups serving_pieces
  serving_left h x i =
      let past = from_filter (λ y. not (is_past p stamp y)) x (filter (λ y. not (is_served p stamp y)) h.view.lines) i in
      let served = from_filter (λ y. not (is_served p stamp y)) x h.view.lines past.0 in
      (served.0, not-true _ served.1, not-true _ past.1)

  pub ticking_left : (h : Store) (x : Line) → In x (ticking p c stamp h).state.view.lines
      → In x (reading p stamp (from_reading p c stamp h)).state.view.lines × (is_served p stamp x ≡ false) × (is_past p stamp x ≡ false)
  ticking_left h x i =
      serving_left (reading p stamp (from_reading p c stamp h)).state x
      (subst (λ (s : Store). In x s.view.lines) (tick_served h) i)

  -- what a step puts out the tick puts out
  pub inserted_out : (h : Store) (o : Out Msg) → In o (inserting p c stamp (before_inserting p c stamp h)).outs
      → In o (ticking p c stamp h).outs
  inserted_out h o i =
      subst (λ (os : List (Out Msg)). In o os) (tick_outs h)
      (in_right o (releasing p stamp h).outs _ (in_right o (believing p c stamp (releasing p stamp h).state).outs _
      (in_left o (inserting p c stamp (before_inserting p c stamp h)).outs _ i)))

  pub service_out : (h : Store) (o : Out Msg) → In o (service_steps p c stamp (before_splitting p c stamp h)).outs
      → In o (ticking p c stamp h).outs
  service_out h o i =
      subst (λ (os : List (Out Msg)). In o os) (tick_outs h)
      (in_right o (releasing p stamp h).outs _ (in_right o (believing p c stamp (releasing p stamp h).state).outs _
      (in_right o (inserting p c stamp (before_inserting p c stamp h)).outs _ i)))

  -- ---- a cub that comes back by a tick, and one that does not

  pub ending_on : (last : Option ℕ) (h : Store) → was_away last stamp.beat ≡ false
      → ending p c last stamp h ≡ ticking p c stamp h
  unfolding ending
  ending_on last h on = rw on refl

  pub ending_back : (last : Option ℕ) (h : Store) → was_away last stamp.beat ≡ true
      → ending p c last stamp h ≡ then_do (coming_back p c stamp) (ticking p c stamp) h
  unfolding ending
  ending_back last h away = rw away refl

-- ---- what a cub does with a message of each kind

module _ (p : Params) (c : ℕ) (stamp : Stamp) (link : LinkNo) where
  -- a message that is not in form is ignored
  pub ignores : (m : Msg) (h : Store) → is_in_form p (noted m) ≡ false → taking p c stamp link m h ≡ nothing h
  unfolding taking
  ignores m h e = rw e refl

  takes : (m : Msg) (h : Store) → is_in_form p (noted m) ≡ true → taking p c stamp link m h ≡ hearing p c stamp link m h
  unfolding taking
  takes m h form = rw form refl

  -- a state of a visit to which the cub stands at a position
  pub takes_state : (s : State) (k : Key) (h : Store) → is_in_form p (noted (msg.ViewerState s)) ≡ true
      → is_visit_of s.tenancy s.visit ≡ true → position_at p c s.tenancy.slot s.visit ≡ Some k
      → taking p c stamp link (msg.ViewerState s) h ≡ met p c stamp s (Some k) h
  unfolding hearing meeting_state
  takes_state s k h form visit at = takes (msg.ViewerState s) h form ∙ rw (visit, at) refl

  -- a deschedule: it is held, and what follows on that is done
  pub takes_stop : (v : Instance) (tag : Option Tag) (h : Store) → is_in_form p (noted (msg.Deschedule v tag)) ≡ true
      → taking p c stamp link (msg.Deschedule v tag) h ≡ then_do (holding p stamp v) (stop_rest p c stamp v tag) h
  unfolding hearing
  takes_stop v tag h form = takes (msg.Deschedule v tag) h form ∙ stop_is p c stamp v tag h

  pub stopped : (v : Instance) (tag : Option Tag) (h : Store) → is_in_form p (noted (msg.Deschedule v tag)) ≡ true
      → (taking p c stamp link (msg.Deschedule v tag) h).state
      ≡ (drops p c stamp v (passing p c stamp v tag (holding p stamp v h).state).state).state
  stopped v tag h form =
      ap (λ (d : Deed Msg Store). d.state) (takes_stop v tag h form)
      ∙ ap (λ (d : Deed Msg Store). d.state) (drop_is p c stamp v (passing p c stamp v tag (holding p stamp v h).state).state)

  -- a mirror state that may enter, and a kill
  pub takes_piece : (x : PieceState) (h : Store) → is_in_form p (noted (msg.MirrorState x)) ≡ true
      → is_held h.held x.tenancy.instance ≡ false → cub_of p (x.visit + x.piece) ≡ c → lets_in h.comeback (leaving_of p x) ≡ true
      → taking p c stamp link (msg.MirrorState x) h ≡ record { outs = []; state = with_piece_record x h }
  unfolding hearing meeting_piece
  takes_piece x h form free here lets =
      takes (msg.MirrorState x) h form ∙ rw (free, eq-eqb (cub_of p (x.visit + x.piece)) c here, lets) refl

  pub takes_kill : (v : Instance) (slot : SlotNo) (visit : ℕ) (h : Store) → is_in_form p (noted (msg.Kill v slot visit)) ≡ true
      → taking p c stamp link (msg.Kill v slot visit) h ≡ did p c stamp (DropKilled v visit) h
  unfolding hearing meeting_kill
  takes_kill v slot visit h form = takes (msg.Kill v slot visit) h form

  -- a disk's answer
  pub takes_answer : (want : Want) (part : Option LibraryPart) (h : Store) → is_in_form p (noted (msg.ReadDone want part)) ≡ true
      → taking p c stamp link (msg.ReadDone want part) h ≡ cond (is_wanted want h) (storing want part h) (nothing h)
  unfolding hearing meeting_answer
  takes_answer want part h form = takes (msg.ReadDone want part) h form

  -- that the predecessor is back
  pub hears_back : (from : ℕ) (h : Store) → is_in_form p (noted (msg.Back from)) ≡ true → IsOfPredecessor p c link
      → taking p c stamp link (msg.Back from) h ≡ did p c stamp (HearBack from) h
  unfolding hearing hearing_back
  hears_back from h form e = takes (msg.Back from) h form ∙ rw (eq-eqb _ _ e) refl

  -- starts and heartbeats are always in form
  pub refuses_start : (a : Ask) (redundant : Bool) (h : Store) → is_discarded a h ≡ true
      → taking p c stamp link (msg.Start redundant a) h ≡ nothing h
  unfolding hearing meeting_start
  refuses_start a redundant h e = takes (msg.Start redundant a) h refl ∙ rw e refl

  pub lets_start : (a : Ask) (redundant : Bool) (h : Store) → is_discarded a h ≡ false
      → taking p c stamp link (msg.Start redundant a) h
      ≡ cond (redundant && not h.believes) (queueing_redundant a h) (queueing a h)
  unfolding hearing meeting_start
  lets_start a redundant h e = takes (msg.Start redundant a) h refl ∙ rw e refl

  pub hears_beat : (h : Store) → IsOfPredecessor p c link
      → taking p c stamp link msg.Heartbeat h ≡ did p c stamp HearBeat h
  unfolding hearing hearing_beat
  hears_beat h e = takes msg.Heartbeat h refl ∙ rw (eq-eqb _ _ e) refl
