-- What a cub does to its view its outputs tell: of one deed after another, and of each change.
use Rattle.std.proofs.Common.{◌≡◌, ℕ, ◌+◌, List, [], ◌∷◌, ◌++◌, map, filter, Bool, true, false, not, is_some, refl, sym, ap, subst, ◌∙◌, ⊎_elim, inl, inr}
use Rattle.std.specs.List.{AllByRecursion}
use Rattle.std.proofs.lemmas.Bool.{cases_Bool, eq-eqb, and_parts, not-true}
use Rattle.tiger_base.specs.declared.number.Stamp.{Stamp}
use Rattle.tiger_base.specs.declared.tenancy.Kind.{Kind}
use Rattle.tiger_base.specs.declared.tenancy.Kind.TheVariants.{Own, Backup}
use Rattle.tiger_base.specs.declared.tenancy.Rec.{Rec}
use Rattle.tiger_base.specs.declared.tenancy.State.{State}
use Rattle.tiger_base.specs.declared.tenancy.Tenancy.{Tenancy}
use Rattle.tiger_base.specs.declared.message.Msg.{Msg}
use Rattle.tiger_base.specs.declared.message.Msg.TheVariants as msg
use Rattle.tiger_base.specs.Kinds.{is_own}
use Rattle.slot_plan.specs.declared.params.Params.{Params}
use Rattle.node_kit.specs.declared.journal.What.TheVariants as what
use Rattle.node_kit.specs.declared.outbox.Out.{Out}
use Rattle.node_kit.specs.declared.outbox.Out.TheVariants as out
use Rattle.node_kit.specs.Steps.{Deed}
use Rattle.partial_view.specs.declared.line.Line.{Line}
use Rattle.partial_view.specs.Lines.{is_of, unmarked, visit_of}
use Rattle.partial_view.specs.Views.{line_at, without_instance}
use Rattle.state_forward.specs.Forwards.{must_forward}
use Rattle.cub_rules.specs.declared.store.Store.{Store}
use Rattle.cub_rules.specs.Records.{dropped}
use Rattle.cub_rules.specs.Ticks.{split_line, is_to_forward, forward_line, ask_line, is_served, is_past, serve_outs, served_whole}
use Rattle.cub_changes.specs.Changes.{Change, did}
use Rattle.cub_changes.specs.Changes.Change.{DropLines, TakeRecord, SendFirst, SplitVisits, Forward, AskBlocks, ServeBlocks, DropBackups}
use Rattle.lists.specs.Elements.{In}
use Rattle.cub_changes.specs.Outputs.{Output, output, ComesOf}
use Rattle.cub_changes.specs.Outputs.Output.{Took, Dropped, StateSent}
use Rattle.cub_changes.proofs.Closed.{IsClosed}
use Rattle.cub_changes.proofs.Outputs.{forms_of}
use Rattle.run_model.specs.Parts.{IsOwnRecordFor}
use Rattle.run_model.specs.Fronts.{AnyByRecursion}
use Rattle.run_model.specs.Views.{same_record}
use Rattle.lists.proofs.Elements.{in_left, in_right, in_cases, in_map, from_map, in_filter, from_filter, in_flat_map}
use Rattle.lists.proofs.Each.{all_in}
use Rattle.proof_lives.proofs.Moves.{from_with_line, in_with_line, stays_with_line, with_record_new, ask_same, forward_same, split_same}
use Rattle.proof_lives.specs.Records.{recorded_by, AreRecordsOf, AreFromRecords}
use Rattle.proof_lives.proofs.Told.{record_is, record_same, recorded_append, from_append, any_in, IsQuiet, quiet_recorded, quiet_from, IsDrop, AreDrops, drops_from, IsOther, stays_told, was_told}
use Rattle.proof_lives.proofs.Holds.{no_both}

-- What a deed makes of the view its outputs tell, and the states that it sends follow from records that are told of then.
pub record Tells (h : Store) (d : Deed Msg Store) : Type 0 where
  pub records : (rs : List Rec) → AreRecordsOf h.view.lines rs → AreRecordsOf d.state.view.lines (recorded_by d.outs rs)
  pub states : (rs : List Rec) → AreRecordsOf h.view.lines rs → AreFromRecords d.outs rs

pub tells_closed : IsClosed Tells
tells_closed = record {
  none = λ h. record { records = λ rs a. a; states = λ rs a. tt };
  both = λ h d e one two. record {
    records = λ rs a.
        subst (λ (qs : List Rec). AreRecordsOf e.state.view.lines qs) (sym (recorded_append d.outs e.outs rs))
        (two.records (recorded_by d.outs rs) (one.records rs a));
    states = λ rs a. from_append d.outs e.outs rs (one.states rs a) (two.states (recorded_by d.outs rs) (one.records rs a));
  };
}

-- ---- the records stay

-- outputs that are quiet, and lines that have the same records
pub tells_quiet : (h : Store) (d : Deed Msg Store)
    → ((rs : List Rec) → AreRecordsOf h.view.lines rs → AreRecordsOf d.state.view.lines rs × AllByRecursion (IsQuiet rs) d.outs)
    → Tells h d
tells_quiet h d quiet = record {
  records = λ rs a.
      let q = quiet rs a in
      subst (λ (qs : List Rec). AreRecordsOf d.state.view.lines qs) (sym (quiet_recorded d.outs rs q.1)) q.0;
  states = λ rs a. quiet_from d.outs rs (quiet rs a).1;
}

-- lines of which some are marked
same_records : (f : Line → Line) (lines : List Line) (rs : List Rec) → ((x : Line) → (f x).rec ≡ x.rec) → AreRecordsOf lines rs
    → AreRecordsOf (map f lines) rs
same_records f lines rs same a = record {
  seen = λ r i. let s = a.seen r i in (f s.0, in_map f s.0 lines s.1, same s.0 ∙ s.2);
  told = λ y i.
      let k = from_map f y lines i in
      subst (λ (r : Rec). In r rs) (sym (ap (λ (z : Line). z.rec) k.2 ∙ same k.0)) (a.told k.0 k.1);
}

-- ---- records leave

-- those that pass a test, each of which is dropped, and no other
record Drops (test : Line → Bool) (h : Store) (d : Deed Msg Store) : Type 0 where
  stay : d.state.view.lines ≡ filter (λ x. not (test x)) h.view.lines
  by_record : (x y : Line) → x.rec ≡ y.rec → test x ≡ test y
  each : (x : Line) → In x h.view.lines → test x ≡ true → In (dropped x) d.outs
  only : AreDrops (λ r. (x : Line) × In x h.view.lines × (test x ≡ true) × (x.rec ≡ r)) d.outs

weaker_drops : (P Q : Rec → Type 0) → ((r : Rec) → P r → Q r) → (outs : List (Out Msg)) → AreDrops P outs → AreDrops Q outs
weaker_drops P Q less [] h = tt
weaker_drops P Q less (o ∷ os) h = (one o h.0, weaker_drops P Q less os h.1)
  where
    one : (o : Out Msg) → IsDrop P o → IsDrop Q o
    one (out.Act (what.Took r)) k = k
    one (out.Act (what.Dropped r)) k = less r k
    one (out.Act what.Died) k = k
    one (out.Act what.Returned) k = k
    one (out.Act other) k = tt
    one (out.Send link (msg.ViewerState s)) k = k
    one (out.Send link other) k = tt

module _ (test : Line → Bool) (h : Store) (d : Deed Msg Store) (all : Drops test h d) where
  -- no record that is dropped is one of a line that stays
  apart : (y : Line) → test y ≡ false → (r : Rec) → (x : Line) × In x h.view.lines × (test x ≡ true) × (x.rec ≡ r) → IsOther y.rec r
  apart y stays r was = ⊎_elim
      (λ (e : same_record r y.rec ≡ true).
      absurd (no_both was.2 (all.by_record was.0 y (was.3 ∙ record_is r y.rec e) ∙ stays)))
      (λ (e : same_record r y.rec ≡ false). e)
      (cases_Bool (same_record r y.rec))

  tells_drops : Tells h d
  tells_drops = record {
    records = λ rs a. subst (λ (ls : List Line). AreRecordsOf ls (recorded_by d.outs rs)) (sym all.stay) (record {
      seen = λ q i.
          let was = was_told _ q d.outs rs i all.only in
          let s = a.seen q was.0 in
          ⊎_elim
          (λ (e : test s.0 ≡ true).
          let f = all_in (IsDrop (IsOther q)) (dropped s.0) d.outs was.1 (all.each s.0 s.1 e) in
          absurd (no_both (record_same q) (subst (λ (r : Rec). same_record r q ≡ false) s.2 f)))
          (λ (e : test s.0 ≡ false). (s.0, in_filter (λ x. not (test x)) s.0 h.view.lines s.1 (ap not e), s.2))
          (cases_Bool (test s.0));
      told = λ y i.
          let f = from_filter (λ x. not (test x)) y h.view.lines i in
          stays_told y.rec d.outs rs (a.told y f.0)
          (weaker_drops _ (IsOther y.rec) (apart y (not-true (test y) f.1)) d.outs all.only);
    });
    states = λ rs a. drops_from _ d.outs rs all.only;
  }

-- ---- each change

module _ (p : Params) (c : ℕ) (stamp : Stamp) where
  -- which changes neither take nor drop a record
  abbrev KeepsRecords : Change → Type 0
  KeepsRecords (TakeRecord r) = ⊥
  KeepsRecords (DropLines v) = ⊥
  KeepsRecords ServeBlocks = ⊥
  KeepsRecords DropBackups = ⊥
  KeepsRecords other = Unit {0}

  -- the own record of which the state of the next visit is forwarded
  own_record : (x : Line) → is_to_forward p stamp x ≡ true → x.rec.kind ≡ Own
  unfolding is_to_forward must_forward
  own_record x e = kind_own x.rec.kind (and_parts _ _ (and_parts _ _ (and_parts _ _ e).1).0).0
    where
      kind_own : (k : Kind) → is_own k ≡ true → k ≡ Own
      kind_own Own e = refl
      kind_own Backup e = absurd (cc)

  state_from : (x : Line) (s : State) (rs : List Rec) → s ≡ record { tenancy = x.rec.tenancy; visit = x.rec.visit + 1 }
      → is_to_forward p stamp x ≡ true → In x.rec rs → AnyByRecursion (IsOwnRecordFor s) rs
  state_from x s rs is forwards i =
      any_in (IsOwnRecordFor s) x.rec rs i
      (ap (λ (z : State). z.tenancy) (sym is), own_record x forwards, inr (ap (λ (z : State). z.visit) (sym is)))

  -- they are quiet, if a first state that goes out follows from a record
  pub quiet_change : (x : Change) (h : Store) → KeepsRecords x → (rs : List Rec) → AreRecordsOf h.view.lines rs
      → ((t : Tenancy) → x ≡ SendFirst t → AnyByRecursion (IsOwnRecordFor (record { tenancy = t; visit = t.first })) rs)
      → AllByRecursion (IsQuiet rs) (did p c stamp x h).outs
  quiet_change x h keeps rs a first = forms_of p c stamp (IsQuiet rs) x h form
    where
      form : (o : Output) → ComesOf p c stamp x h o → IsQuiet rs (output p c stamp o)
      form (Took r) comes = subst KeepsRecords comes keeps
      form (Dropped y) comes = ⊎_elim
          (λ a. subst KeepsRecords a.0 keeps)
          (λ k. ⊎_elim (λ a. subst KeepsRecords a.0 keeps) (λ a. subst KeepsRecords a.0 keeps) k)
          comes
      form (StateSent steps s) comes = ⊎_elim
          (λ l. state_from l.0 s rs l.3 l.2.1 (a.told l.0 l.2.0))
          (λ t. subst (λ (z : State). AnyByRecursion (IsOwnRecordFor z) rs) (sym t.2) (first t.0 t.1))
          comes
      form other comes = tt

  pub keeps_quiet : (x : Change) (h : Store) → KeepsRecords x → ((t : Tenancy) → x ≡ SendFirst t → ⊥)
      → ((rs : List Rec) → AreRecordsOf h.view.lines rs → AreRecordsOf (did p c stamp x h).state.view.lines rs)
      → Tells h (did p c stamp x h)
  keeps_quiet x h keeps later same =
      tells_quiet h (did p c stamp x h) (λ rs a. (same rs a, quiet_change x h keeps rs a (λ t e. absurd (later t e))))

  -- which lines a change drops
  abbrev drops_of : Change → Line → Bool
  drops_of (DropLines v) x = is_of v x
  drops_of ServeBlocks x = is_served p stamp x
  drops_of DropBackups x = is_past p stamp x
  drops_of other x = false

  -- what comes of it are drops of those
  only_drops : (x : Change) (h : Store) → ((r : Rec) → x ≡ TakeRecord r → ⊥) → ((t : Tenancy) → x ≡ SendFirst t → ⊥)
      → (x ≡ Forward → ⊥)
      → AreDrops (λ r. (y : Line) × In y h.view.lines × (drops_of x y ≡ true) × (y.rec ≡ r)) (did p c stamp x h).outs
  only_drops x h none first none_forward = forms_of p c stamp _ x h form
    where
      form : (o : Output) → ComesOf p c stamp x h o
          → IsDrop (λ r. (y : Line) × In y h.view.lines × (drops_of x y ≡ true) × (y.rec ≡ r)) (output p c stamp o)
      form (Took r) comes = none r comes
      form (Dropped y) comes =
          let w : In y h.view.lines × (drops_of x y ≡ true) =
          ⊎_elim
          (λ a. (a.1, subst (λ (z : Change). drops_of z y ≡ true) (sym a.0) (eq-eqb _ _ refl)))
          (λ k. ⊎_elim
          (λ a. (a.1.0, subst (λ (z : Change). drops_of z y ≡ true) (sym a.0) a.1.1))
          (λ a. (a.1.0, subst (λ (z : Change). drops_of z y ≡ true) (sym a.0) a.1.1))
          k)
          comes
          in (y, w.0, w.1, refl)
      form (StateSent steps s) comes = ⊎_elim (λ l. none_forward l.1) (λ t. first t.0 t.1) comes
      form other comes = tt

  served_by_record : (x y : Line) → x.rec ≡ y.rec → is_served p stamp x ≡ is_served p stamp y
  unfolding is_served
  served_by_record x y e = ap (λ (r : Rec). is_served p stamp (unmarked r)) e

  past_by_record : (x y : Line) → x.rec ≡ y.rec → is_past p stamp x ≡ is_past p stamp y
  unfolding is_past
  past_by_record x y e = ap (λ (r : Rec). is_past p stamp (unmarked r)) e

  served_out : (h : Store) (x : Line) → In x h.view.lines → is_served p stamp x ≡ true → In (dropped x) (did p c stamp ServeBlocks h).outs
  served_out h x i e =
      let sent : List (Out Msg) = served_whole p c stamp h.comeback h.parts x in
      let there : In (dropped x) (serve_outs p c stamp h.comeback h.parts x) = rw e (in_right (dropped x) sent (dropped x ∷ []) (inl refl)) in
      in_flat_map (serve_outs p c stamp h.comeback h.parts) (dropped x) x h.view.lines i there

  past_out : (test : Line → Bool) (h : Store) (x : Line) → In x h.view.lines → test x ≡ true → In (dropped x) (map dropped (filter test h.view.lines))
  past_out test h x i e = in_map dropped x (filter test h.view.lines) (in_filter test x h.view.lines i e)

  -- a record is taken of which there is no line
  pub takes : (r : Rec) (h : Store) → is_some (line_at (visit_of r) h.view.lines) ≡ false → Tells h (did p c stamp (TakeRecord r) h)
  takes r h new = record {
    records = λ rs a.
        subst (λ (ls : List Line). AreRecordsOf ls (rs ++ r ∷ [])) (sym (with_record_new h.view.params r h.view.lines new)) (record {
          seen = λ q i. ⊎_elim
              (λ k. let s = a.seen q k in (s.0, stays_with_line h.view.params (unmarked r) s.0 h.view.lines s.1, s.2))
              (λ k. ⊎_elim (λ e. (unmarked r, in_with_line h.view.params (unmarked r) h.view.lines, sym e)) (λ e. absurd e) k)
              (in_cases q rs (r ∷ []) i);
          told = λ y i. ⊎_elim
              (λ e. in_right y.rec rs (r ∷ []) (inl (ap (λ (z : Line). z.rec) e)))
              (λ k. in_left y.rec rs (r ∷ []) (a.told y k))
              (from_with_line h.view.params (unmarked r) y h.view.lines i);
        });
    states = λ rs a. tt;
  }

  -- each change tells what it does, but for a first state, which follows from a record that was taken before
  pub each : (x : Change) (h : Store) → ((r : Rec) → x ≡ TakeRecord r → is_some (line_at (visit_of r) h.view.lines) ≡ false)
      → ((t : Tenancy) → x ≡ SendFirst t → ⊥) → Tells h (did p c stamp x h)
  unfolding without_instance
  each (TakeRecord r) h new later = takes r h (new r refl)
  each (DropLines v) h new later = tells_drops (is_of v) h (did p c stamp (DropLines v) h) (record {
    stay = refl;
    by_record = λ x y e. ap (λ (r : Rec). is_of v (unmarked r)) e;
    each = past_out (is_of v) h;
    only = only_drops (DropLines v) h (λ r e. absurd (cc)) later (λ e. absurd (cc));
  })
  each ServeBlocks h new later = tells_drops (is_served p stamp) h (did p c stamp ServeBlocks h) (record {
    stay = refl;
    by_record = served_by_record;
    each = served_out h;
    only = only_drops ServeBlocks h (λ r e. absurd (cc)) later (λ e. absurd (cc));
  })
  each DropBackups h new later = tells_drops (is_past p stamp) h (did p c stamp DropBackups h) (record {
    stay = refl;
    by_record = past_by_record;
    each = past_out (is_past p stamp) h;
    only = only_drops DropBackups h (λ r e. absurd (cc)) later (λ e. absurd (cc));
  })
  each SplitVisits h new later = keeps_quiet SplitVisits h tt later (λ rs a. same_records (split_line p stamp) h.view.lines rs (λ x. (split_same p stamp x).0) a)
  each Forward h new later = keeps_quiet Forward h tt later (λ rs a. same_records (forward_line p stamp) h.view.lines rs (forward_same p stamp) a)
  each AskBlocks h new later = keeps_quiet AskBlocks h tt later (λ rs a. same_records (ask_line p stamp) h.view.lines rs (λ x. (ask_same p stamp x).0) a)
  each other h new later = keeps_quiet other h tt later (λ rs a. a)
