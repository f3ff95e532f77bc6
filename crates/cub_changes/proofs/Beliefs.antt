-- What the changes make of belief: it comes of one change, which writes it down, and nothing ends it.
use Rattle.std.proofs.Common.{◌≡◌, ℕ, List, [], ◌++◌, Bool, true, false, not, refl, sym, ap, subst, ◌∙◌, ⊎_elim, inl, inr}
use Rattle.std.specs.Prelude.{◌⊎◌}
use Rattle.std.proofs.lemmas.Bool.{cases_Bool, and_parts}
use Rattle.tiger_base.specs.declared.number.CubNo.{CubNo}
use Rattle.tiger_base.specs.declared.number.LinkNo.{LinkNo}
use Rattle.tiger_base.specs.declared.number.Stamp.{Stamp}
use Rattle.tiger_base.specs.declared.tenancy.Ask.{Ask}
use Rattle.tiger_base.specs.declared.message.Msg.{Msg}
use Rattle.tiger_base.specs.declared.message.Msg.TheVariants as msg
use Rattle.slot_plan.specs.declared.params.Params.{Params}
use Rattle.node_kit.specs.declared.journal.What.TheVariants as what
use Rattle.node_kit.specs.declared.outbox.Out.{Out}
use Rattle.node_kit.specs.declared.outbox.Out.TheVariants as out
use Rattle.node_kit.specs.Steps.{Deed}
use Rattle.node_kit.specs.Steps.Input.{Take, Tick}
use Rattle.node_kit.specs.Ways.{predecessor}
use Rattle.insert_queue.specs.Queues.{without}
use Rattle.deadman.specs.Silence.{Silence, is_silent}
use Rattle.cub_rules.specs.declared.store.Store.{Store}
use Rattle.cub_rules.specs.Messages.{taking}
use Rattle.cub_rules.specs.Ticks.{number, ticking}
use Rattle.cub_changes.specs.Changes.{Change, did}
use Rattle.cub_changes.specs.Changes.Change.{DropStart, QueueApart, HearBeat, Believe, PutStart}
use Rattle.cub_changes.specs.Causes.{Stage, Cause, IsDeadman}
use Rattle.lists.specs.Elements.{In}
use Rattle.cub_changes.specs.Causes.Stage.{OnMessage, OnRelease, OnDeadman, OnInsertion, OnService}
use Rattle.cub_changes.specs.Outputs.{Output, output, ComesOf}
use Rattle.cub_changes.specs.Outputs.Output.{Believed}
use Rattle.cub_changes.specs.Laws.{believed_out, CubsKeepBelief}
use Rattle.cub_changes.proofs.Closed.{IsClosed, OfEach}
use Rattle.lists.proofs.Each.{all_in}
use Rattle.lists.proofs.Elements.{in_left, in_right, in_cases}
use Rattle.cub_changes.proofs.Messages.{taking_by}
use Rattle.cub_changes.proofs.Ticks.{IsOfTick, ticking_by, late_by, before_inserting}
use Rattle.cub_changes.proofs.Outputs.{forms_of}
use Rattle.cub_changes.proofs.Chains.{tick_late}

pub not_true : (b : Bool) → not b ≡ true → b ≡ false
not_true true e = absurd (cc)
not_true false e = refl

not_both : {b : Bool} → b ≡ true → b ≡ false → ⊥
not_both t f = let e : true ≡ false = sym t ∙ f in absurd (cc)

module _ (p : Params) (c : ℕ) (stamp : Stamp) where
  -- the entry comes of one change, and is of the predecessor
  abbrev IsEntryOf : Change → CubNo → Type 0
  IsEntryOf x who = (x ≡ Believe) × (who ≡ number (predecessor p c))

  entry_form : (x : Change) (h : Store) (who : CubNo) (o : Output) → ComesOf p c stamp x h o
      → out.Act (what.Believed who) ≡ output p c stamp o → IsEntryOf x who
  entry_form x h who Believed comes e = (comes, cc)
  entry_form x h who other comes e = absurd (cc)

  entry_at : (x : Change) (h : Store) (who : CubNo) → In (out.Act (what.Believed who)) (did p c stamp x h).outs → IsEntryOf x who
  entry_at x h who i =
      let Q : Out Msg → Type 0 = λ o. out.Act (what.Believed who) ≡ o → IsEntryOf x who in
      all_in Q (out.Act (what.Believed who)) (did p c stamp x h).outs
      (forms_of p c stamp Q x h (λ o comes e. entry_form x h who o comes e)) i refl

  belief_same : (x : Change) (h : Store) → ((did p c stamp x h).state.believes ≡ h.believes) ⊎ (x ≡ Believe)
  belief_same Believe h = inr refl
  belief_same other h = inl refl

  watch_same : (x : Change) (h : Store) → ((did p c stamp x h).state.watch ≡ h.watch) ⊎ (x ≡ HearBeat)
  watch_same HearBeat h = inr refl
  watch_same other h = inl refl

  -- ---- at a message
  record IsUnmoved (h : Store) (d : Deed Msg Store) : Type 0 where
    believes : d.state.believes ≡ h.believes
    none : (who : CubNo) → In (out.Act (what.Believed who)) d.outs → ⊥

  unmoved_closed : IsClosed IsUnmoved
  unmoved_closed = record {
    none = λ h. record { believes = refl; none = λ who i. i };
    both = λ h d e one two. record {
      believes = two.believes ∙ one.believes;
      none = λ who i. ⊎_elim (λ k. one.none who k) (λ k. two.none who k) (in_cases (out.Act (what.Believed who)) d.outs e.outs i);
    };
  }

  no_belief : (link : LinkNo) (m : Msg) (from h : Store) (x : Change) → Cause p c stamp (OnMessage link m) from x h → x ≡ Believe
      → ⊥
  no_belief link m from h x cause e = (subst (λ y. Cause p c stamp (OnMessage link m) from y h) e cause).0

  taking_unmoved : (link : LinkNo) (m : Msg) (h : Store) → IsUnmoved h (taking p c stamp link m h)
  taking_unmoved link m h =
      taking_by IsUnmoved unmoved_closed p c stamp link m h
      (λ x q cause. record {
        believes = ⊎_elim (λ e. e) (λ e. absurd (no_belief link m h q x cause e)) (belief_same x q);
        none = λ who i. no_belief link m h q x cause (entry_at x q who i).0;
      })

  -- ---- at a tick
  pub record Minds (h : Store) (d : Deed Msg Store) : Type 0 where
    pub stays : h.believes ≡ true → d.state.believes ≡ true
    pub watch : d.state.watch ≡ h.watch
    pub written : d.state.believes ≡ true → (h.believes ≡ true) ⊎ In (believed_out p c) d.outs
    pub entry : (who : CubNo) → In (out.Act (what.Believed who)) d.outs
        → (who ≡ number (predecessor p c)) × (h.believes ≡ false) × (is_silent h.watch stamp.reading ≡ true) × (d.state.believes ≡ true)

  minds_both : (h : Store) (d e : Deed Msg Store) → Minds h d → Minds d.state e
      → Minds h (record { outs = d.outs ++ e.outs; state = e.state })
  minds_both h d e one two = record {
    stays = λ b. two.stays (one.stays b);
    watch = two.watch ∙ one.watch;
    written = λ b. ⊎_elim
        (λ k. ⊎_elim (λ q. inl q) (λ i. inr (in_left (believed_out p c) d.outs e.outs i)) (one.written k))
        (λ i. inr (in_right (believed_out p c) d.outs e.outs i))
        (two.written b);
    entry = λ who i. ⊎_elim
        (λ k. let w = one.entry who k in (w.0, w.1, w.2, two.stays w.3))
        (λ k.
        let w = two.entry who k in (
          w.0,
          ⊎_elim (λ (t : h.believes ≡ true). absurd (not_both (one.stays t) w.1)) (λ f. f) (cases_Bool h.believes),
          subst (λ (q : Silence). is_silent q stamp.reading ≡ true) one.watch w.2,
          w.3,
        ))
        (in_cases (out.Act (what.Believed who)) d.outs e.outs i);
  }

  pub minds_closed : IsClosed Minds
  minds_closed = record {
    none = λ h. record { stays = λ e. e; watch = refl; written = λ e. inl e; entry = λ who i. absurd i };
    both = minds_both;
  }

  no_heartbeat : (g : Stage) (from h : Store) (x : Change) → IsOfTick g → Cause p c stamp g from x h → x ≡ HearBeat → ⊥
  no_heartbeat (OnMessage link m) from h x t cause e = t
  no_heartbeat OnRelease from h x t cause e = subst (λ y. Cause p c stamp OnRelease from y h) e cause
  no_heartbeat OnDeadman from h x t cause e = subst (λ y. Cause p c stamp OnDeadman from y h) e cause
  no_heartbeat OnInsertion from h x t cause e = subst (λ y. Cause p c stamp OnInsertion from y h) e cause
  no_heartbeat OnService from h x t cause e = subst (λ y. Cause p c stamp OnService from y h) e cause

  written_at : (x : Change) (h : Store) → (did p c stamp x h).state.believes ≡ true
      → (h.believes ≡ true) ⊎ In (believed_out p c) (did p c stamp x h).outs
  written_at Believe h e = inr (inl refl)
  written_at other h e = inl e

  pub minds_each : (g : Stage) (from : Store) → IsOfTick g → (x : Change) (h : Store) → Cause p c stamp g from x h
      → Minds h (did p c stamp x h)
  minds_each g from t x h cause = record {
    stays = λ b. ⊎_elim (λ e. e ∙ b) (λ e. subst (λ y. (did p c stamp y h).state.believes ≡ true) (sym e) refl) (belief_same x h);
    watch = ⊎_elim (λ e. e) (λ e. absurd (no_heartbeat g from h x t cause e)) (watch_same x h);
    written = written_at x h;
    entry = λ who i.
        let e = entry_at x h who i in
        let both = and_parts (not h.believes) (is_silent h.watch stamp.reading) (subst (λ y. Cause p c stamp g from y h) e.0 cause).1 in
        (e.1, not_true h.believes both.0, both.1, subst (λ y. (did p c stamp y h).state.believes ≡ true) (sym e.0) refl);
  }

  ticking_minds : (h : Store) → Minds h (ticking p c stamp h)
  ticking_minds h = ticking_by Minds minds_closed p c stamp h (λ g from t x q cause. minds_each g from t x q cause)

  -- once insertion begins a tick changes no belief
  none_later : (g : Stage) → (IsDeadman g → ⊥) → (from : Store) → OfEach (λ q d. d.state.believes ≡ q.believes) p c stamp g from
  none_later g late from Believe h cause = absurd (late cause.0)
  none_later g late from other h cause = refl

  pub belief_lasts : (h : Store) → (ticking p c stamp h).state.believes ≡ (before_inserting p c stamp h).believes
  belief_lasts h =
      ap (λ (s : Store). s.believes) (tick_late p c stamp h)
      ∙ late_by (λ q d. d.state.believes ≡ q.believes) (record { none = λ q. refl; both = λ q d e one two. two ∙ one }) p c stamp
      (before_inserting p c stamp h) (none_later OnInsertion (λ k. k)) (none_later OnService (λ k. k))

  -- ---- a cub that believes has no redundant starts
  abbrev IsApart : Store → Type 0
  IsApart h = h.believes ≡ true → h.starts.redundant ≡ []

  abbrev Parts : Store → Deed Msg Store → Type 0
  Parts h d = IsApart h → IsApart d.state

  parts_closed : IsClosed Parts
  parts_closed = record { none = λ h k. k; both = λ h d e one two k. two (one k) }

  none_apart : (g : Stage) (from h : Store) (a : Ask) → Cause p c stamp g from (QueueApart a) h → h.believes ≡ true → ⊥
  none_apart (OnMessage link (msg.Start redundant b)) from h a cause e =
      not_both e (not_true h.believes (and_parts redundant (not h.believes) cause.0.2).1)
  none_apart other from h a cause e = absurd (cause.0)

  parts_each : (g : Stage) (from : Store) (x : Change) (h : Store) → Cause p c stamp g from x h → Parts h (did p c stamp x h)
  parts_each g from Believe h cause k = λ e. refl
  parts_each g from (DropStart v) h cause k = λ e. ap (λ (xs : List Ask). without xs v) (k e)
  parts_each g from (PutStart t) h cause k = λ e. ap (λ (xs : List Ask). without xs t.instance) (k e)
  parts_each g from (QueueApart a) h cause k = λ e. absurd (none_apart g from h a cause e)
  parts_each g from other h cause k = k

  taking_parts : (link : LinkNo) (m : Msg) (h : Store) → Parts h (taking p c stamp link m h)
  taking_parts link m h = taking_by Parts parts_closed p c stamp link m h (λ x q cause. parts_each (OnMessage link m) h x q cause)

  ticking_parts : (h : Store) → Parts h (ticking p c stamp h)
  ticking_parts h = ticking_by Parts parts_closed p c stamp h (λ g from t x q cause. parts_each g from x q cause)

pub keep_belief : CubsKeepBelief
keep_belief p c (Take stamp link m) h =
    let u = taking_unmoved p c stamp link m h in record {
      stays = λ b. u.believes ∙ b;
      written = λ b. inl (sym u.believes ∙ b);
      entry = λ who i. absurd (u.none who i);
      none_apart = λ k. taking_parts p c stamp link m h k;
    }
keep_belief p c (Tick stamp) h =
    let t = ticking_minds p c stamp h in record {
      stays = t.stays;
      written = t.written;
      entry = λ who i. let w = t.entry who i in (tt, w.0, w.1, w.2, w.3);
      none_apart = λ k. ticking_parts p c stamp h k;
    }
