-- By its cause a change is sound: what it takes in is the cub's, and what it sends is in form.
use Rattle.std.proofs.Common.{◌≡◌, ℕ, ◌+◌, ◌<◌, ◌≤◌, ◌%◌, ◌==◌, ◌||◌, nat_le, not, is_some, Bool, true, false, Option, Some, IfSome, IsTrue, refl, subst, arith, ⊎_elim}
use Rattle.std.specs.List.{flat_map}
use Rattle.std.proofs.lemmas.Bool.{and_parts, ltb-true, leb-true, eqb-true}
use Rattle.tiger_base.specs.declared.number.Instance.{Instance}
use Rattle.tiger_base.specs.declared.number.Stamp.{Stamp}
use Rattle.tiger_base.specs.declared.tenancy.Ask.{Ask}
use Rattle.tiger_base.specs.declared.tenancy.PieceState.{PieceState}
use Rattle.tiger_base.specs.declared.tenancy.Rec.{Rec}
use Rattle.tiger_base.specs.declared.tenancy.Tenancy.{Tenancy}
use Rattle.tiger_base.specs.declared.tenancy.Want.{Want}
use Rattle.tiger_base.specs.Span.{LibraryPart}
use Rattle.tiger_base.specs.declared.message.Msg.TheVariants as msg
use Rattle.tiger_base.specs.Limits.{most_blocks, most_reading, most_visit}
use Rattle.tiger_base.specs.Notes.{noted}
use Rattle.slot_plan.specs.declared.params.Params.{Params}
use Rattle.slot_plan.specs.Conditions.{IsPlan}
use Rattle.slot_plan.specs.Times.{due, cub_of}
use Rattle.slot_plan.specs.Keys.{Key}
use Rattle.slot_plan.proofs.Times.{window_parts}
use Rattle.slot_plan.proofs.Windows.{least_visit_found}
use Rattle.insert_queue.proofs.Once.{none_of}
use Rattle.node_kit.specs.Form.{is_tenancy, is_place, IsInForm}
use Rattle.node_kit.specs.Ways.{predecessor}
use Rattle.partial_view.specs.Free.{is_free}
use Rattle.cub_rules.specs.declared.store.Store.{Store}
use Rattle.cub_rules.specs.State.{IsStoreOf, is_ask, IsAsk, IsRecordOf, IsPieceAt}
use Rattle.cub_rules.specs.Messages.{position_at, position, records_told}
use Rattle.cub_rules.specs.Ticks.{tenancy_from, free_on, disks_at, first_pieces}
use Rattle.cub_changes.specs.Changes.{Change}
use Rattle.cub_changes.specs.Changes.Change.{PassOn, TakeRecord, Queue, QueueApart, AddPiece, StorePart, SendFirst, SendPlaced}
use Rattle.cub_changes.specs.Causes.{Stage, IsInsertion, IsAnswer, MayPass, Fills, WasPut, IsRecordOfPut, MayTake, MayTellPlace, MayQueue, MayAdd, Cause}
use Rattle.lists.specs.Elements.{In}
use Rattle.cub_changes.specs.Causes.Stage.{OnMessage, OnInsertion, OnService}
use Rattle.cub_changes.proofs.Allowing.{first_pieces_own}
use Rattle.cub_changes.proofs.Keeping.{IsSound}
use Rattle.lists.proofs.Each.{all_in}
use Rattle.cub_changes.proofs.Numbers.{tenancy_parts, tenancy_from_parts, visit_small, visit_own, disks_own, predecessor_below, next_own}
use Rattle.cub_changes.proofs.Positions.{StandsAt, stands_at, told_records, IsInPlan, in_plan, position_in_plan}

-- what is there has what every answer has
there : {X : Type 0} (P : X → Type 0) (o : Option X) (x : X) → IfSome o P → o ≡ Some x → P x
there P o x all e = subst (λ q. IfSome q P) e all

-- what a test lets through
ask_passed : (ask held shown : Bool) → (not ask || held || shown) ≡ false → ask ≡ true
ask_passed true held shown e = refl
ask_passed false held shown e = absurd (cc)

here_passed : (held here : Bool) → (held || not here) ≡ false → here ≡ true
here_passed held true e = refl
here_passed true false e = absurd (cc)
here_passed false false e = absurd (cc)

-- a tenancy in form, whose first visit is a cub's
record IsStartAt (p : Params) (c : ℕ) (t : Tenancy) : Type 0 where
  in_form : IsTrue (is_tenancy p t)
  here : cub_of p t.first ≡ c

-- what is known at a stage: that a message is in form; and there, and at insertion, that the time is one of a run
abbrev pub IsKnown : Params → Stamp → Stage → Type 0
IsKnown p stamp (OnMessage link m) = (stamp.reading ≤ most_reading) × IsInForm p (noted m)
IsKnown p stamp OnInsertion = stamp.reading ≤ most_reading
IsKnown p stamp other = Unit {0}

module _ (p : Params) (c : ℕ) (stamp : Stamp) (plan : IsPlan p) (from : Store) (began : IsStoreOf p c from) where
  -- ---- Puts
  start_at : (t : Tenancy) (h : Store) (o : Fills p c stamp from t h) (owner : ℕ) → owner < p.cubs → In o.disk (disks_at p owner)
      → stamp.reading ≤ most_reading → IsStartAt p owner t
  unfolding free_on
  start_at t h o owner below on short =
      let k = o.key in
      let free = (least_visit_found p stamp.reading o.disk (is_free h.view.lines) k plan o.free).here in
      let early : due p k.0.0 k.1 ≤ stamp.reading + p.window_a = (window_parts p stamp.reading k.0.0 k.1 free.window).0 in
      let small = visit_small p k.0.0 k.1 (stamp.reading + p.window_a) plan.ranges early (omega (arith, plan.ranges.window_a)) in
      let ask = and_parts (nat_le 1 o.ask.count) (nat_le o.ask.count most_blocks) (all_in IsAsk o.ask from.starts.waiting began.waiting o.waits) in
      let high : o.ask.count ≤ most_blocks = leb-true _ _ ask.1 in
      let of_owner = all_in (λ d. d % p.cubs ≡ owner) o.disk (disks_at p owner) (disks_own p owner below) on in
      rw o.is (record {
        in_form = tenancy_from_parts p (tenancy_from o.ask k) free.in_plan (omega arith) (omega (arith, small));
        here = visit_own p owner o.disk k.1 free.on_disk of_owner;
      })

  module _ (here : c < p.cubs) where
    put_form : (t : Tenancy) (h : Store) (o : Fills p c stamp from t h) → stamp.reading ≤ most_reading → IsTrue (is_tenancy p t)
    put_form t h o short = ⊎_elim
        (λ i. (start_at t h o c here i short).in_form)
        (λ i. (start_at t h o (predecessor p c) (predecessor_below p c plan) i.0 short).in_form)
        o.here

    put_record : (t : Tenancy) (h : Store) (o : Fills p c stamp from t h) (r : Rec) → IsRecordOfPut p c o.disk t r → stamp.reading ≤ most_reading
        → IsRecordOf p c r
    put_record t h o r is short = ⊎_elim
        (λ own.
        let start = start_at t h o c here own.0 short in
        rw own.1 (record { in_form = start.in_form; begun = omega arith; not_over = (tenancy_parts p t start.in_form).1; here = start.here }))
        (λ dead.
        let start = start_at t h o (predecessor p c) (predecessor_below p c plan) dead.0 short in
        let next : cub_of p (t.first + 1) ≡ c = next_own p c t.first plan here start.here in ⊎_elim
        (λ e. rw e (record { in_form = start.in_form; begun = omega arith; not_over = (tenancy_parts p t start.in_form).1; here = next }))
        (λ e.
        let more = ltb-true _ _ e.1 in
        rw e.0 (record { in_form = start.in_form; begun = omega arith; not_over = omega (arith, more); here = next }))
        dead.1)
        is

    -- ---- each change by its cause
    passed : (g : Stage) (v : Instance) (k : Key) → MayPass p c stamp g from v k → IsKnown p stamp g
        → IsInPlan p k × (stamp.reading ≤ most_reading)
    passed (OnMessage link (msg.Deschedule w tag)) v k may known =
        (there (IsInPlan p) (position p c v tag from.view.lines) k (position_in_plan p c v tag from.view.lines known.1 began.lines) may.1, known.0)
    passed (OnMessage link (msg.ViewerState s)) v k may known =
        let form = (and_parts (is_tenancy p s.tenancy) (nat_le s.visit most_visit) known.1).0 in
        let all = in_plan p c s.tenancy.slot s.visit (tenancy_parts p s.tenancy form).0 in
        (there (IsInPlan p) (position_at p c s.tenancy.slot s.visit) k all may.1, known.0)
    passed (OnMessage link other) v k may known = absurd may
    passed other v k may known = absurd may

    taken : (g : Stage) (r : Rec) → MayTake p c stamp g from r → IsKnown p stamp g → IsRecordOf p c r
    taken (OnMessage link (msg.ViewerState s)) r may known =
        let form = (and_parts (is_tenancy p s.tenancy) (nat_le s.visit most_visit) known.1).0 in
        let of_visit = and_parts (nat_le s.tenancy.first s.visit) (nat_le s.visit s.tenancy.last) may.1.0 in
        let at = there (StandsAt p c s.tenancy.slot s.visit) (position_at p c s.tenancy.slot s.visit) may.0 (stands_at p c s.tenancy.slot s.visit) may.1.1 in
        all_in (IsRecordOf p c) r (records_told s may.0) (told_records p c s may.0 form (leb-true _ _ of_visit.0) (leb-true _ _ of_visit.1) at) may.2
    taken OnInsertion r may known = put_record may.0 may.1 may.2 r may.3 known
    taken other r may known = absurd may

    queued : (g : Stage) (a : Ask) (apart : Bool) (h : Store) → MayQueue g a apart h → IsAsk a
    queued (OnMessage link (msg.Start redundant b)) a apart h may = ask_passed (is_ask a) _ _ (none_of (is_some h.comeback) _ may.1).1
    queued other a apart h may = absurd may

    added : (g : Stage) (x : PieceState) → MayAdd p c stamp g x from → IsKnown p stamp g → IsPieceAt p c x
    added (OnMessage link (msg.MirrorState y)) x may known = record {
      in_form = rw may.0 known.1;
      here = eqb-true _ _ (here_passed _ (cub_of p (x.visit + x.piece) == c) may.1);
    }
    added OnService x may known =
        all_in (IsPieceAt p c) x (flat_map (first_pieces p stamp from.handback) from.view.lines)
        (first_pieces_own p c plan stamp from.handback from.view.lines began.lines) may.1
    added other x may known = absurd may

    stored : (g : Stage) (want : Want) (part : Option LibraryPart) (h : Store) → IsAnswer g want part h → IsKnown p stamp g
        → IsTrue (is_place p want.slot.0 want.visit)
    stored (OnMessage link (msg.ReadDone w found)) want part h may known = rw may.0 known.1
    stored other want part h may known = absurd may

    put : (g : Stage) (t : Tenancy) → IsInsertion g → IsKnown p stamp g → WasPut p c stamp from t → IsTrue (is_tenancy p t)
    put OnInsertion t is known was = put_form t was.0 was.1 known
    put other t is known was = absurd is

    placed : (g : Stage) (t : Tenancy) → MayTellPlace p c stamp g from t → IsKnown p stamp g → IsTrue (is_tenancy p t)
    placed (OnMessage link (msg.ViewerState s)) t may known =
        rw may.2 ((and_parts (is_tenancy p s.tenancy) (nat_le s.visit most_visit) known.1).0)
    placed OnInsertion t may known = put_form t may.0 may.1 known
    placed other t may known = absurd may

    pub sound : (g : Stage) → IsKnown p stamp g → (x : Change) (h : Store) → Cause p c stamp g from x h → IsStoreOf p c h
        → IsSound p c stamp x
    sound g known (PassOn v k) h cause kept = passed g v k cause known
    sound g known (TakeRecord r) h cause kept = taken g r cause.0 known
    sound g known (Queue a) h cause kept = queued g a false h cause.0
    sound g known (QueueApart a) h cause kept = queued g a true h cause.0
    sound g known (AddPiece x) h cause kept = added g x cause.0 known
    sound g known (StorePart want part) h cause kept = stored g want (Some part) h cause known
    sound g known (SendFirst t) h cause kept = put g t cause.0 known (cause.1.store, cause.1.fills)
    sound g known (SendPlaced t) h cause kept = placed g t cause known
    sound g known other h cause kept = tt
