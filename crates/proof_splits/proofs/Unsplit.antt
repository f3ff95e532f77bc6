-- A backup record that is not yet split: it stands unsplit from its entry on until it is split, cut off, or due.
use Rattle.std.proofs.Common.{◌≡◌, ℕ, suc, ◌+◌, ◌*◌, ◌<◌, ◌≤◌, List, map, filter, Bool, true, false, not, is_some, None, refl, sym, ap, subst, ◌∙◌, arith, ⊎_elim, inl, inr, eq-or-lt_of_le}
use Rattle.std.specs.Prelude.{◌⊎◌}
use Rattle.std.specs.List.{flat_map}
use Rattle.std.proofs.lemmas.Bool.{cases_Bool, and_parts, and_from, leb-true, le-leb, eqb-true}
use Rattle.tiger_base.specs.declared.number.Instance.{Instance}
use Rattle.tiger_base.specs.declared.number.LinkNo.{LinkNo}
use Rattle.tiger_base.specs.declared.number.Stamp.{Stamp}
use Rattle.tiger_base.specs.declared.tenancy.Kind.{Kind}
use Rattle.tiger_base.specs.declared.tenancy.Kind.TheVariants.{Own, Backup}
use Rattle.tiger_base.specs.declared.tenancy.PieceState.{PieceState}
use Rattle.tiger_base.specs.declared.tenancy.Rec.{Rec}
use Rattle.tiger_base.specs.declared.tenancy.Tenancy.{Tenancy}
use Rattle.tiger_base.specs.declared.message.Msg.{Msg}
use Rattle.tiger_base.specs.declared.message.Msg.TheVariants as msg
use Rattle.tiger_base.specs.Kinds.{is_own}
use Rattle.tiger_base.specs.Records.{backup_of}
use Rattle.slot_plan.specs.declared.params.Params.{Params}
use Rattle.slot_plan.specs.Conditions.{IsPlan}
use Rattle.slot_plan.specs.Times.{time_of, due, cub_of}
use Rattle.slot_plan.proofs.Times.{cub_apart, seven_cubs}
use Rattle.partial_view.specs.declared.line.Line.{Line}
use Rattle.partial_view.specs.declared.line.Flag.TheVariants as flag
use Rattle.partial_view.specs.Lines as lines
use Rattle.partial_view.specs.Lines.{marked, unmarked}
use Rattle.partial_view.specs.Views.{line_at, with_line, with_record, without_instance}
use Rattle.node_kit.specs.declared.outbox.Out.{Out}
use Rattle.node_kit.specs.Deeds.{then_do}
use Rattle.node_kit.specs.Steps.{Deed, Input, stamp_of}
use Rattle.node_kit.specs.Steps.Input.{Take, Tick}
use Rattle.cub_rules.specs.declared.store.Store.{Store}
use Rattle.cub_rules.specs.State.{visit_here}
use Rattle.cub_rules.specs.Messages.{taking}
use Rattle.cub_rules.specs.Ticks.{releasing, believing, inserting, must_split, split_line, first_pieces, with_split_lines, splitting, is_to_forward, forward_line, forwarding, must_read, ask_line, is_served, is_past, ticking}
use Rattle.cub_changes.specs.Changes.{Change, did}
use Rattle.cub_changes.specs.Changes.Change.{DropLines, TakeRecord, SplitVisits, Forward, AskBlocks, ServeBlocks, DropBackups}
use Rattle.cub_changes.specs.Causes.{Cause}
use Rattle.cub_changes.specs.Causes.Stage.{OnMessage, OnDeadman, OnInsertion}
use Rattle.cub_changes.specs.Outputs.{Output, output, ComesOf}
use Rattle.cub_changes.specs.Outputs.Output.{Took}
use Rattle.cub_changes.proofs.Chains.{release_is, split_is, split_none, tick_late}
use Rattle.cub_changes.proofs.Closed.{IsClosed, then_by}
use Rattle.cub_changes.proofs.Fits.{IsOfInsertion, IsOfDeadman, fits}
use Rattle.cub_changes.proofs.Messages.{taking_by}
use Rattle.cub_changes.proofs.Outputs.{forms_of}
use Rattle.cub_changes.proofs.Puts.{inserting_by}
use Rattle.cub_changes.proofs.Ticks.{IsOfEnd, end_steps, believing_by, forwarding_from, end_from}
use Rattle.proof_lives.specs.Lives.{Lives, AreLives, cut_in, store_at, deed_of, outs_at, beat_at}
use Rattle.run_facts.specs.Events.{is_tick_input}
use Rattle.lists.specs.Elements.{In}
use Rattle.proof_lives.specs.Facts.{TickedAt, DidAt}
use Rattle.lists.proofs.Elements.{chosen, in_cases, in_map, in_filter}
use Rattle.lists.proofs.Each.{all_in}
use Rattle.proof_lives.proofs.Moves.{taken_out, in_with_line, stays_with_line}
use Rattle.proof_lives.proofs.Cuts.{was_put_out, whole_before}
use Rattle.proof_lives.proofs.Order.{beats_rise, not_behind}
use Rattle.proof_lives.proofs.States.{took_inserted}
use Rattle.proof_lives.proofs.Steps.{same_with_pieces}
use Rattle.proof_lives.proofs.Trails.{Within, held_until}
use Rattle.proof_lives.proofs.HoldLaws.{reached_at}
use Rattle.proof_lives.specs.HoldsHere.{AreAllFormed}
use Rattle.proof_schedule.specs.Facts.{BelievedBy, EnteredBy, ReachedBy}
use Rattle.proof_service.specs.ServiceFacts.{SplitBy}
use Rattle.proof_lives.specs.FactsBy.{Beyond, facts_by}
use Rattle.proof_facts.specs.Pieces.{before_splitting, stamp_of as made_stamp, SplitAt, pieces_by}
use Rattle.proof_splits.proofs.PieceMoves.{backup_line}
use Rattle.proof_splits.proofs.Beliefs.{believes_then}
use Rattle.proof_splits.proofs.Backups.{line_here}
use Rattle.cub_rules.specs.Comebacks.{is_handed_back}
use Rattle.proof_splits.proofs.Handing.{IsLeftHere, left_here}

-- ---- single changes

-- A line has the record, and it is not marked as split.
record HasUnsplit (r : Rec) (h : Store) : Type 0 where
  line : Line
  there : In line h.view.lines
  is : line.rec ≡ r
  unsplit : line.split ≡ false

-- A function of lines changes neither the record nor the mark that it is split.
abbrev Keeps : (Line → Line) → Type 0
Keeps f = (x : Line) → ((f x).rec ≡ x.rec) × ((f x).split ≡ x.split)

forward_keeps : (p : Params) (stamp : Stamp) → Keeps (forward_line p stamp)
forward_keeps p stamp x =
    chosen (λ (y : Line). (y.rec ≡ x.rec) × (y.split ≡ x.split)) (is_to_forward p stamp x) (marked flag.Forwarded x) x
    (λ _. (refl, refl)) (λ _. (refl, refl))

ask_keeps : (p : Params) (stamp : Stamp) → Keeps (ask_line p stamp)
ask_keeps p stamp x =
    chosen (λ (y : Line). (y.rec ≡ x.rec) × (y.split ≡ x.split)) (must_read p stamp x) (marked flag.Asked x) x
    (λ _. (refl, refl)) (λ _. (refl, refl))

served_due : (p : Params) (stamp : Stamp) (x : Line) → is_served p stamp x ≡ true
    → due p x.rec.tenancy.slot.0 x.rec.visit ≤ stamp.reading
unfolding is_served
served_due p stamp x e = leb-true _ _ (and_parts (is_own x.rec.kind) _ e).1

past_due : (p : Params) (stamp : Stamp) (x : Line) → is_past p stamp x ≡ true
    → due p x.rec.tenancy.slot.0 x.rec.visit ≤ stamp.reading
unfolding is_past
past_due p stamp x e = leb-true _ _ (and_parts (not (is_own x.rec.kind)) _ e).1

with_record_stays : (p : Params) (q : Rec) (x : Line) (ls : List Line) → In x ls → In x (with_record p q ls)
unfolding with_record
with_record_stays p q x ls i =
    chosen (λ (ys : List Line). In x ys) (is_some (line_at (lines.visit_of q) ls)) ls (with_line p (unmarked q) ls)
    (λ _. i)
    (λ _. stays_with_line p (unmarked q) x ls i)

with_record_there : (p : Params) (q : Rec) (ls : List Line) → is_some (line_at (lines.visit_of q) ls) ≡ false
    → In (unmarked q) (with_record p q ls)
unfolding with_record
with_record_there p q ls e = rw e (in_with_line p (unmarked q) ls)

module _ (r : Rec) where
  mapped : (f : Line → Line) (h k : Store) → k.view.lines ≡ map f h.view.lines → Keeps f → HasUnsplit r h
      → HasUnsplit r k
  mapped f h k e keeps u =
      let same = keeps u.line in
      record {
        line = f u.line;
        there = subst (λ (ls : List Line). In (f u.line) ls) (sym e) (in_map f u.line h.view.lines u.there);
        is = same.0 ∙ u.is;
        unsplit = same.1 ∙ u.unsplit;
      }

  fewer : (test : Line → Bool) (h k : Store) → k.view.lines ≡ filter (λ x. not (test x)) h.view.lines
      → (u : HasUnsplit r h)
      → HasUnsplit r k ⊎ (test u.line ≡ true)
  fewer test h k e u = ⊎_elim
      (λ (t : test u.line ≡ true). inr t)
      (λ (f : test u.line ≡ false). inl (record {
        line = u.line;
        there = subst (λ (ls : List Line). In u.line ls) (sym e)
            (in_filter (λ x. not (test x)) u.line h.view.lines u.there (ap not f));
        is = u.is;
        unsplit = u.unsplit;
      }))
      (cases_Bool (test u.line))

  module _ (p : Params) (c : ℕ) (stamp : Stamp) (Leaves : Type 0) where
    -- it stands unsplit, or is taken, and so stands unsplit afterwards, unless it leaves
    abbrev Stays : Store → Deed Msg Store → Type 0
    Stays h d = HasUnsplit r h ⊎ In (taken_out r) d.outs → HasUnsplit r d.state ⊎ Leaves

    stays_closed : IsClosed Stays
    stays_closed = record {
      none = λ h k. ⊎_elim (λ u. inl u) (λ i. absurd i) k;
      both = λ h d e one two k. ⊎_elim
          (λ u. ⊎_elim (λ w. two (inl w)) (λ w. inr w) (one (inl u)))
          (λ i. ⊎_elim
          (λ q. ⊎_elim (λ w. two (inl w)) (λ w. inr w) (one (inr q)))
          (λ q. two (inr q))
          (in_cases (taken_out r) d.outs e.outs i))
          k;
    }

    -- a record is taken by one change
    taken_form : (x : Change) (h : Store) (o : Output) → ComesOf p c stamp x h o → taken_out r ≡ output p c stamp o
        → x ≡ TakeRecord r
    taken_form x h (Took q) comes e = let same : r ≡ q = cc in comes ∙ ap (λ (z : Rec). TakeRecord z) (sym same)
    taken_form x h other comes e = absurd (cc)

    taken_by : (x : Change) (h : Store) → In (taken_out r) (did p c stamp x h).outs → x ≡ TakeRecord r
    taken_by x h i =
        let Q : Out Msg → Type 0 = λ o. taken_out r ≡ o → x ≡ TakeRecord r in
        all_in Q (taken_out r) (did p c stamp x h).outs
        (forms_of p c stamp Q x h (λ o comes e. taken_form x h o comes e)) i refl

    -- a change leaves it unsplit, but for a split, unless it drops lines of the instance or those that are due
    stands_by : (x : Change) (h : Store) → (x ≡ SplitVisits → ⊥)
        → ((v : Instance) → x ≡ DropLines v → r.tenancy.instance.0 ≡ v.0 → Leaves)
        → (due p r.tenancy.slot.0 r.visit ≤ stamp.reading → (x ≡ ServeBlocks) ⊎ (x ≡ DropBackups) → Leaves)
        → HasUnsplit r h → HasUnsplit r (did p c stamp x h).state ⊎ Leaves
    unfolding without_instance
    stands_by SplitVisits h apart drop past u = absurd (apart refl)
    stands_by (DropLines v) h apart drop past u = ⊎_elim
        (λ w. inl w)
        (λ t. inr (drop v refl (ap (λ (z : Rec). z.tenancy.instance.0) (sym u.is) ∙ eqb-true _ _ t)))
        (fewer (lines.is_of v) h (did p c stamp (DropLines v) h).state refl u)
    stands_by (TakeRecord q) h apart drop past u = inl
        (record {
          line = u.line;
          there = with_record_stays h.view.params q u.line h.view.lines u.there;
          is = u.is;
          unsplit = u.unsplit;
        })
    stands_by Forward h apart drop past u = inl
        (mapped (forward_line p stamp) h (did p c stamp Forward h).state refl (forward_keeps p stamp) u)
    stands_by AskBlocks h apart drop past u = inl
        (mapped (ask_line p stamp) h (did p c stamp AskBlocks h).state refl (ask_keeps p stamp) u)
    stands_by ServeBlocks h apart drop past u = ⊎_elim
        (λ w. inl w)
        (λ t. inr (past (subst (λ (z : Rec). due p z.tenancy.slot.0 z.visit ≤ stamp.reading) u.is
        (served_due p stamp u.line t)) (inl refl)))
        (fewer (is_served p stamp) h (did p c stamp ServeBlocks h).state refl u)
    stands_by DropBackups h apart drop past u = ⊎_elim
        (λ w. inl w)
        (λ t. inr (past (subst (λ (z : Rec). due p z.tenancy.slot.0 z.visit ≤ stamp.reading) u.is
        (past_due p stamp u.line t)) (inr refl)))
        (fewer (is_past p stamp) h (did p c stamp DropBackups h).state refl u)
    stands_by other h apart drop past u = inl
        (record { line = u.line; there = u.there; is = u.is; unsplit = u.unsplit })

    -- a record that is taken has an unmarked line
    taken_there : (x : Change) (h : Store) → x ≡ TakeRecord r
        → is_some (line_at (lines.visit_of r) h.view.lines) ≡ false → HasUnsplit r (did p c stamp x h).state
    taken_there x h e new =
        subst (λ (y : Change). HasUnsplit r (did p c stamp y h).state) (sym e)
        (record {
          line = unmarked r;
          there = with_record_there h.view.params r h.view.lines new;
          is = refl;
          unsplit =
              refl;
        })

-- ---- a message and a tick

-- a message is a deschedule of the record's instance
abbrev IsCutBy : Msg → Rec → Type 0
IsCutBy (msg.Deschedule v tag) r = v.0 ≡ r.tenancy.instance.0
IsCutBy other r = ⊥

-- At a tick that begins with h the cub splits the record's visit.
record HasItsTurn (p : Params) (c : ℕ) (stamp : Stamp) (h : Store) (r : Rec) : Type 0 where
  believes : (before_splitting p c stamp h).believes ≡ true
  line : Line
  there : In line (before_splitting p c stamp h).view.lines
  is : line.rec ≡ r
  must : must_split p stamp line ≡ true

module _ (r : Rec) (p : Params) (c : ℕ) (stamp : Stamp) where
  cut_by : (link : LinkNo) (m : Msg) (from q : Store) (v : Instance)
      → Cause p c stamp (OnMessage link m) from (DropLines v) q → r.tenancy.instance.0 ≡ v.0 → IsCutBy m r
  cut_by link (msg.Deschedule w tag) from q v cause e = sym (ap (λ (x : Instance). x.0) cause) ∙ sym e
  cut_by link other from q v cause e = absurd cause

  at_message : (link : LinkNo) (m : Msg) (h : Store) → Stays r p c stamp (IsCutBy m r) h (taking p c stamp link m h)
  at_message link m h =
      taking_by (Stays r p c stamp (IsCutBy m r)) (stays_closed r p c stamp (IsCutBy m r)) p c stamp link m h
      (λ x q cause k.
      let is : (y : Change) → x ≡ y → Cause p c stamp (OnMessage link m) h y q = λ y e. subst
      (λ (z : Change). Cause p c stamp (OnMessage link m) h z q) e cause in
      ⊎_elim
      (λ u. stands_by r p c stamp (IsCutBy m r) x q (λ e. (is SplitVisits e).0)
      (λ v e s. cut_by link m h q v (is (DropLines v) e) s)
      (λ _ w. ⊎_elim (λ e. absurd (is ServeBlocks e)) (λ e. absurd (is DropBackups e)) w) u)
      (λ i. let e = taken_by r p c stamp (IsCutBy m r) x q i in inl
      (taken_there r p c stamp (IsCutBy m r) x q e (is (TakeRecord r) e).1))
      k)

  -- up to where the cub splits the line stays
  at_release : (h : Store) → HasUnsplit r h → HasUnsplit r (releasing p stamp h).state
  at_release h u =
      subst (λ (d : Deed Msg Store). HasUnsplit r d.state) (sym (release_is p c stamp h))
      (record { line = u.line; there = u.there; is = u.is; unsplit = u.unsplit })

  none_left : {X : Type 0} → X ⊎ ⊥ → X
  none_left k = ⊎_elim (λ x. x) (λ x. absurd x) k

  at_belief : (h : Store) → HasUnsplit r h → HasUnsplit r (believing p c stamp h).state
  at_belief h u =
      none_left (believing_by (λ q d. HasUnsplit r q → HasUnsplit r d.state ⊎ ⊥)
      (record { none = λ q k. inl k; both = λ q d e one two k. ⊎_elim (λ w. two w) (λ w. inr w) (one k) }) p c stamp h
      (λ x q cause k.
      let is : (y : Change) → x ≡ y → IsOfDeadman y = λ y e. subst IsOfDeadman e
      (fits p c stamp h OnDeadman x q cause) in
      stands_by r p c stamp ⊥ x q (λ e. is SplitVisits e) (λ v e s. is (DropLines v) e)
      (λ _ w. ⊎_elim (λ e. is ServeBlocks e) (λ e. is DropBackups e) w) k)
      u)

  at_insertion : (h : Store) → HasUnsplit r h ⊎ In (taken_out r) (inserting p c stamp h).outs
      → HasUnsplit r (inserting p c stamp h).state
  at_insertion h k =
      none_left (inserting_by (Stays r p c stamp ⊥) (stays_closed r p c stamp ⊥) p c stamp h
      (λ x q cause w.
      let is : (y : Change) → x ≡ y → IsOfInsertion y = λ y e. subst IsOfInsertion e
      (fits p c stamp h OnInsertion x q cause) in
      ⊎_elim
      (λ u. stands_by r p c stamp ⊥ x q (λ e. is SplitVisits e) (λ v e s. is (DropLines v) e)
      (λ _ w. ⊎_elim (λ e. is ServeBlocks e) (λ e. is DropBackups e) w) u)
      (λ i. let e = taken_by r p c stamp ⊥ x q i in inl
      (taken_there r p c stamp ⊥ x q e (subst (λ (z : Change). Cause p c stamp OnInsertion h z q) e cause).1))
      w)
      k)

  to_splitting : (h : Store) → HasUnsplit r h
      ⊎ In (taken_out r) (inserting p c stamp (believing p c stamp (releasing p stamp h).state).state).outs
      → HasUnsplit r (before_splitting p c stamp h)
  to_splitting h k =
      let h1 : Store = (releasing p stamp h).state in
      at_insertion (believing p c stamp h1).state (⊎_elim (λ u. inl (at_belief h1 (at_release h u))) (λ i. inr i) k)

  -- there it is split, or stays
  at_splitting : (h : Store) → (u : HasUnsplit r h) → ((h.believes ≡ true) × (must_split p stamp u.line ≡ true))
      ⊎ HasUnsplit r (splitting p c stamp h).state
  at_splitting h u =
      let xs : List PieceState = flat_map (first_pieces p stamp h.handback) h.view.lines in
      let Unsplit : Deed Msg Store → Type 0 = λ d. HasUnsplit r d.state in
      ⊎_elim
      (λ (b : h.believes ≡ true). ⊎_elim
      (λ (t : must_split p stamp u.line ≡ true). inl (b, t))
      (λ (f : must_split p stamp u.line ≡ false).
      let same : split_line p stamp u.line ≡ u.line = rw f refl in
      inr (subst Unsplit (sym (split_is p c stamp h b)) (record {
        line = u.line;
        there = subst (λ (ls : List Line). In u.line ls) (sym (same_with_pieces xs (with_split_lines p stamp h)))
            (subst (λ (y : Line). In y (map (split_line p stamp) h.view.lines)) same
            (in_map (split_line p stamp) u.line h.view.lines u.there));
        is = u.is;
        unsplit = u.unsplit;
      })))
      (cases_Bool (must_split p stamp u.line)))
      (λ (f : h.believes ≡ false). inr (subst Unsplit (sym (split_none p c stamp h f)) u))
      (cases_Bool h.believes)

  -- and from there on, until it is due
  abbrev IsDueBy : Type 0
  IsDueBy = due p r.tenancy.slot.0 r.visit ≤ stamp.reading

  goes_on : (x : Change) (h : Store) → (x ≡ SplitVisits → ⊥) → ((v : Instance) → x ≡ DropLines v → ⊥) → HasUnsplit r h
      ⊎ IsDueBy
      → HasUnsplit r (did p c stamp x h).state ⊎ IsDueBy
  goes_on x h apart keeps k =
      ⊎_elim (λ u. stands_by r p c stamp IsDueBy x h apart (λ v e s. absurd (keeps v e)) (λ d w. d) u) (λ d. inr d) k

  abbrev GoesOn : Store → Deed Msg Store → Type 0
  GoesOn h d = HasUnsplit r h ⊎ IsDueBy → HasUnsplit r d.state ⊎ IsDueBy

  goes_closed : IsClosed GoesOn
  goes_closed = record { none = λ h k. k; both = λ h d e one two k. two (one k) }

  after_splitting : (h : Store) → GoesOn h (then_do (forwarding p c stamp) (end_steps p c stamp) h)
  after_splitting h =
      then_by GoesOn goes_closed (forwarding p c stamp) (end_steps p c stamp) h
      (forwarding_from GoesOn goes_closed p c stamp h (goes_on Forward h (λ e. absurd (cc)) (λ v e. absurd (cc))))
      (end_from GoesOn goes_closed p c stamp (forwarding p c stamp h).state
      (λ x of q. goes_on x q (λ e. subst IsOfEnd e of) (λ v e. subst IsOfEnd e of)))

  at_tick : (h : Store) → HasUnsplit r h
      ⊎ In (taken_out r) (inserting p c stamp (believing p c stamp (releasing p stamp h).state).state).outs
      → HasItsTurn p c stamp h r ⊎ (HasUnsplit r (ticking p c stamp h).state ⊎ IsDueBy)
  at_tick h k =
      let h3 : Store = before_splitting p c stamp h in
      let u = to_splitting h k in
      ⊎_elim
      (λ s. inl (record { believes = s.0; line = u.line; there = u.there; is = u.is; must = s.1 }))
      (λ w. inr (subst (λ (q : Store). HasUnsplit r q ⊎ IsDueBy) (sym (tick_late p c stamp h))
      (after_splitting (splitting p c stamp h3).state (inl w))))
      (at_splitting h3 u)

-- ---- a life

module _ (p : Params) (plan : IsPlan p) (lives : Lives) (are : AreLives p lives) (formed : AreAllFormed p lives) (c : ℕ)
    (small : c < p.cubs) (r : Rec) where
  abbrev inputs : ℕ → Input Msg
  inputs = lives.input c

  -- why a record stands unsplit no more after an input: it was split, cut off, or due
  abbrev Ends : Input Msg → ℕ → Type 0
  Ends (Take stamp link m) i = IsCutBy m r
  Ends (Tick stamp) i = HasItsTurn p c stamp (store_at p c inputs i) r
      ⊎ (due p r.tenancy.slot.0 r.visit ≤ stamp.reading)

  one_input : (i : ℕ) (k : Input Msg) → HasUnsplit r (store_at p c inputs i)
      ⊎ In (taken_out r) (deed_of p c k (store_at p c inputs i)).outs
      → HasUnsplit r (deed_of p c k (store_at p c inputs i)).state ⊎ Ends k i
  one_input i (Take stamp link m) w = at_message r p c stamp link m (store_at p c inputs i) w
  one_input i (Tick stamp) w =
      let h : Store = store_at p c inputs i in
      ⊎_elim
      (λ s. inr (inl s))
      (λ s. ⊎_elim (λ u. inl u) (λ d. inr (inr d)) s)
      (at_tick r p c stamp h (⊎_elim (λ u. inl u) (λ t. inr (took_inserted p c plan small stamp h r t)) w))

  -- from its entry on it stands unsplit, until one of them
  unsplit_since : (e i : ℕ) → e < i → In (taken_out r) (outs_at p c inputs e)
      → HasUnsplit r (store_at p c inputs i) ⊎ Within (λ k. Ends (inputs k) k) e i
  unsplit_since e i l t = ⊎_elim
      (λ u. ⊎_elim
      (λ k. inl k)
      (λ w. let from = w.from in inr (record { at = w.at; from = omega arith; before = w.before; is = w.may }))
      (held_until (λ k. HasUnsplit r (store_at p c inputs k)) (λ k. Ends (inputs k) k) i (suc e) l
      (λ k _ _ h. one_input k (inputs k) (inl h)) u))
      (λ q. inr (record { at = e; from = omega arith; before = l; is = q }))
      (one_input e (inputs e) (inr t))

  of_split : (i b : ℕ) (stamp : Stamp) → i < lives.count c → cut_in lives c i ≡ None → inputs i ≡ Tick stamp
      → beat_at inputs i ≤ b → IsLeftHere p lives c r b → HasItsTurn p c stamp (store_at p c inputs i) r
      → SplitAt p lives c r.tenancy r.visit (beat_at inputs i)
  of_split i b stamp low whole e by left s =
      let eb : beat_at inputs i ≡ stamp.beat = ap (λ (k : Input Msg). (stamp_of k).beat) e in
      let split : SplitAt p lives c r.tenancy r.visit stamp.beat = record {
        reading = stamp.reading;
        tick = record { small = small; at = i; done = low; is = e };
        believes = s.believes;
        line = s.line;
        there = (s.there, backup_line p stamp s.line s.must ∙ ap (λ (z : Rec). backup_of z.tenancy z.visit) s.is);
        must = s.must;
        left = subst (λ (z : Rec). is_handed_back p (before_splitting p c stamp (store_at p c inputs i)).handback z ≡ false) (sym s.is)
            (left_here p lives are c i b stamp r small low by left);
        number = 0;
        goes = inl whole;
      } in
      subst (λ (n : ℕ). SplitAt p lives c r.tenancy r.visit n) (sym eb) split

  module _ (beyond : Beyond) (b : ℕ) (left : IsLeftHere p lives c r b) where
    abbrev Wanted : Type 0
    Wanted = SplitBy (pieces_by p lives) c r.tenancy r.visit b
        ⊎ ReachedBy (facts_by p lives beyond) c r.tenancy.instance.0 b

    of_cut : (i : ℕ) (stamp : Stamp) (link : LinkNo) (m : Msg) → i < lives.count c → inputs i ≡ Take stamp link m
        → beat_at inputs i ≤ b → IsCutBy m r → Wanted
    of_cut i stamp link (msg.Deschedule v tag) low e le cut = inr (record {
      beat = beat_at inputs i;
      reached = reached_at p lives c i r.tenancy.instance.0 small low
          (record { stamp = stamp; link = link; instance = v; tag = tag; is = e; same = cut });
      by = le;
    })
    of_cut i stamp link other low e le cut = absurd cut

    of_end : (i : ℕ) (k : Input Msg) → i < lives.count c → cut_in lives c i ≡ None → inputs i ≡ k → beat_at inputs i ≤ b
        → (stamp_of k).reading < due p r.tenancy.slot.0 r.visit → Ends k i → Wanted
    of_end i (Take stamp link m) low whole e le early ends = of_cut i stamp link m low e le ends
    of_end i (Tick stamp) low whole e le early ends = ⊎_elim
        (λ s. inl (record { beat = beat_at inputs i; split = of_split i b stamp low whole e le left s; by = le }))
        (λ d. absurd (omega arith))
        ends

    -- a backup record that stands unsplit when a cub that believes splits is split, if it is due late enough
    of_standing : (i : ℕ) (stamp : Stamp) → i < lives.count c → cut_in lives c i ≡ None → inputs i ≡ Tick stamp
        → beat_at inputs i ≡ b
        → c ≡ cub_of p (r.visit + 1)
        → (before_splitting p c stamp (store_at p c inputs i)).believes ≡ true
        → stamp.reading + p.read_lead + p.skew + p.delay * p.beat + p.beat ≤ due p r.tenancy.slot.0 r.visit
        → HasUnsplit r (before_splitting p c stamp (store_at p c inputs i)) → Wanted
    unfolding must_split
    of_standing i stamp low whole e eb next believes time u =
        let line = line_here p plan lives are formed c i stamp u.line small low e u.there in
        let kind : is_own u.line.rec.kind ≡ false = backup_kind u.line.rec line.here
        (next ∙ ap (λ (z : Rec). cub_of p (z.visit + 1)) (sym u.is)) in
        let late = subst (λ (z : Rec). stamp.reading + p.read_lead + p.skew + p.delay * p.beat + p.beat ≤ due p
        z.tenancy.slot.0 z.visit) (sym u.is) time in
        inl (record {
          beat = beat_at inputs i;
          split = of_split i b stamp low whole e (omega arith) left (record {
            believes = believes;
            line = u.line;
            there = u.there;
            is = u.is;
            must = and_from _ _ (and_from _ _ (ap not kind) (ap not u.unsplit)) (le-leb _ _ late);
          });
          by = omega arith;
        })
      where
        backup_kind : (z : Rec) → cub_of p (visit_here z.kind z.visit) ≡ c → c ≡ cub_of p (z.visit + 1)
            → is_own z.kind ≡ false
        backup_kind z here to = of_kind z.kind refl
          where
            of_kind : (k : Kind) → z.kind ≡ k → is_own k ≡ false
            of_kind Own q =
                let own : cub_of p z.visit ≡ c = subst (λ (k : Kind). cub_of p (visit_here k z.visit) ≡ c) q here in
                let seven = seven_cubs p plan in
                absurd (cub_apart p z.visit 1 (omega arith) (omega arith) (own ∙ to))
            of_kind Backup q = refl

-- what is due late enough is split by a cub that believes
pub split_due : (p : Params) → IsPlan p → (lives : Lives) → AreLives p lives → AreAllFormed p lives → (beyond : Beyond)
    → {c : ℕ} {t : Tenancy} {n b l : ℕ}
    → BelievedBy (facts_by p lives beyond) c b → EnteredBy (facts_by p lives beyond) c t n b → c ≡ cub_of p (n + 1)
    → TickedAt p lives c b l → IsLeftHere p lives c (backup_of t n) b
    → l + p.read_lead + p.skew + time_of p p.delay + p.beat ≤ due p t.slot.0 n
    → SplitBy (pieces_by p lives) c t n b ⊎ ReachedBy (facts_by p lives beyond) c t.instance.0 b
unfolding time_of
split_due p plan lives are formed beyond {c} {t} {n} {b} {l} believed entry next tick left time =
    ⊎_elim (λ w. of_taken w.kind w.done) (λ w. of_taken w.kind w.done) entry.entered
  where
    of_taken : (kind : Kind) → DidAt p lives c (taken_out (record { tenancy = t; visit = n; kind = kind })) entry.beat
        → SplitBy (pieces_by p lives) c t n b ⊎ ReachedBy (facts_by p lives beyond) c t.instance.0 b
    of_taken kind d =
        let r : Rec = record { tenancy = t; visit = n; kind = kind } in
        let small : c < p.cubs = d.small in
        let ins : ℕ → Input Msg = lives.input c in
        let i : ℕ = tick.at in
        let stamp : Stamp = made_stamp b l in
        let eb : beat_at ins i ≡ b = ap (λ (k : Input Msg). (stamp_of k).beat) tick.is in
        let er : (stamp_of (ins i)).reading ≡ l = ap (λ (k : Input Msg). (stamp_of k).reading) tick.is in
        let in_beat = d.in_beat in
        let was = was_put_out p lives c d.at (taken_out r) d.did in
        let by = entry.by in
        let first = not_behind p (lives.count c) ins (are c small) d.at i tick.done d.done (ap is_tick_input tick.is)
        (omega arith) in
        let believes = believes_then p lives are beyond c i b stamp tick.done tick.is eb believed in
        let stands = of_standing p plan lives are formed c small r beyond b left i stamp tick.done tick.whole tick.is eb next believes
        time in
        ⊎_elim
        (λ (same : d.at ≡ i).
        let now = subst (λ (k : Input Msg). In (taken_out r) (deed_of p c k (store_at p c ins i)).outs) tick.is
        (subst (λ (m : ℕ). In (taken_out r) (outs_at p c ins m)) same was) in
        stands (to_splitting r p c stamp (store_at p c ins i)
        (inr (took_inserted p c plan small stamp (store_at p c ins i) r now))))
        (λ (before : d.at < i). ⊎_elim
        (λ u. stands (to_splitting r p c stamp (store_at p c ins i) (inl u)))
        (λ z.
        let zb = z.before in
        let low = tick.done in
        let rise = beats_rise p (lives.count c) ins (are c small) z.at i (omega arith) low in
        let rising = (are c small).rising z.at i (omega arith) low in
        let beat = plan.ranges.beat.0 in
        of_end p plan lives are formed c small r beyond b left z.at (ins z.at) (omega arith) (whole_before lives c z.at i zb low)
        refl (omega arith)
        (omega arith) z.is)
        (unsplit_since p plan lives are formed c small r d.at i before was))
        (eq-or-lt_of_le first)
