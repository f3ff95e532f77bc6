-- States that go out: at a Put at a visit of the cub's own to the next cub, or from an own record that came behind each
-- deschedule of its instance.
use Rattle.std.proofs.Common.{◌≡◌, ℕ, suc, ◌+◌, ◌-◌, ◌<◌, ◌≤◌, List, true, false, Option, Some, refl, sym, ap, subst, ◌∙◌, arith, ⊎_elim, inl, inr, eq-or-lt_of_le}
use Rattle.std.specs.Prelude.{◌⊎◌}
use Rattle.std.proofs.lemmas.Bool.{cases_Bool}
use Rattle.tiger_base.specs.declared.number.LinkNo.{LinkNo}
use Rattle.tiger_base.specs.declared.number.Stamp.{Stamp}
use Rattle.tiger_base.specs.declared.tenancy.Rec.{Rec}
use Rattle.tiger_base.specs.declared.tenancy.State.{State}
use Rattle.tiger_base.specs.declared.tenancy.Tenancy.{Tenancy}
use Rattle.tiger_base.specs.declared.message.Msg.{Msg}
use Rattle.tiger_base.specs.declared.message.Msg.TheVariants as msg
use Rattle.tiger_base.specs.Kinds.{is_own}
use Rattle.tiger_base.specs.Limits.{most_reading}
use Rattle.slot_plan.specs.declared.params.Params.{Params}
use Rattle.slot_plan.specs.Conditions.{IsPlan}
use Rattle.slot_plan.specs.Times.{due, cub_of}
use Rattle.slot_plan.proofs.Times.{cub_apart, seven_cubs}
use Rattle.node_kit.specs.declared.outbox.Out.{Out}
use Rattle.node_kit.specs.declared.outbox.Out.TheVariants as out
use Rattle.node_kit.specs.Links.{links_of, ends_of}
use Rattle.node_kit.specs.Steps.{Input, stamp_of}
use Rattle.node_kit.specs.Steps.Input.{Tick}
use Rattle.node_kit.specs.Ways.{way_ahead}
use Rattle.partial_view.specs.declared.line.Line.{Line}
use Rattle.state_forward.specs.Forwards.{must_forward}
use Rattle.cub_rules.specs.declared.store.Store.{Store}
use Rattle.cub_rules.specs.State.{IsRecordOf, IsLineOf}
use Rattle.cub_rules.specs.Ticks.{inserting}
use Rattle.cub_changes.specs.Changes.{Change}
use Rattle.cub_changes.specs.Causes.{IsInsertion, WasPutHere, Cause}
use Rattle.cub_changes.specs.Causes.Stage.{OnInsertion}
use Rattle.cub_changes.specs.Outputs.{Output, output, ComesOf}
use Rattle.cub_changes.specs.Outputs.Output.{StateSent}
use Rattle.cub_changes.proofs.Outputs.{Puts, forms_of, puts_closed}
use Rattle.cub_changes.proofs.Puts.{inserting_by}
use Rattle.proof_schedule.specs.Facts.{Facts, ReachedBy, Entered}
use Rattle.proof_schedule.specs.StateLaws.{SendsFirst, WasEarly, Forwards, Sends}
use Rattle.proof_lives.specs.Lives.{Lives, cut_in, store_at, outs_at, outs_in, beat_at, reading_at}
use Rattle.lists.specs.Elements.{In}
use Rattle.proof_lives.specs.Facts.{TickedAt, SentAt}
use Rattle.proof_lives.proofs.Carrying.{way_ends, same_ends}
use Rattle.proof_lives.proofs.Beside.{tick_outs, whole_to}
use Rattle.proof_lives.proofs.Cuts.{was_put_out, whole_before, goes_whole}
use Rattle.proof_lives.proofs.Inputs.{entered_at, entered_did, tick_there, ticked_there}
use Rattle.proof_lives.proofs.Leaving.{stays_or_stopped}
use Rattle.lists.proofs.Each.{all_in}
use Rattle.proof_lives.proofs.Moves.{NextSent, taken_out}
use Rattle.proof_lives.proofs.Inserting.{put_out}
use Rattle.proof_lives.proofs.TakingOver.{inserting_puts}
use Rattle.proof_lives.proofs.Ticking.{before_inserting, forwarded}
use Rattle.proof_lives.proofs.Lines.{marked_sent, settled, kept_at}
use Rattle.proof_lives.proofs.Order.{tick_of, tick_before, beats_rise, not_behind}
use Rattle.proof_lives.proofs.States.{state_at_tick, took_inserted, at_tick, tick_true, forward_parts, forward_must, forward_early, own_kind, own_visit}
use Rattle.proof_lives.proofs.Begun.{IsStop}
use Rattle.proof_lives.proofs.HoldLaws.{no_both}
use Rattle.proof_lives.proofs.Reaching.{stop_by_tick, let_go}
use Rattle.proof_lives.proofs.Standing.{standing}
use Rattle.proof_lives.specs.FactsBy.{Beyond, facts_by}
use Rattle.proof_lives.proofs.SameLife.{same_life}
use Rattle.proof_cubs.proofs.Setting.{Setting}
use Rattle.proof_cubs.proofs.Standing.{is_tick}
use Rattle.proof_cubs.proofs.Together.{first_own, state_goes_behind}

-- ---- at insertion a state goes out at a visit of the cub's own
module _ (p : Params) (c : ℕ) (stamp : Stamp) (plan : IsPlan p) (here : c < p.cubs) (from : Store) where
  -- if an output is a state, its visit is the cub's own
  abbrev OfOwn : Out Msg → Type 0
  OfOwn o = (link : LinkNo) (s : State) → out.Send link (msg.ViewerState s) ≡ o → c ≡ cub_of p s.visit

  state_own : (x : Change) (h : Store) → Cause p c stamp OnInsertion from x h → (o : Output) → ComesOf p c stamp x h o
      → OfOwn (output p c stamp o)
  state_own x h cause (StateSent steps s) comes link u e = ⊎_elim
      (λ f. absurd (subst (λ y. Cause p c stamp OnInsertion from y h) f.1 cause))
      (λ f.
      let put : IsInsertion OnInsertion × WasPutHere p c stamp from f.0 =
      subst (λ y. Cause p c stamp OnInsertion from y h) f.1 cause in
      let w = put.1 in
      let message : msg.ViewerState u ≡ msg.ViewerState s = cc in
      let same : u ≡ s = cc in
      first_own p c stamp plan here from f.0 w.store w.fills w.own
      ∙ sym (ap (λ (z : State). cub_of p z.visit) (same ∙ f.2)))
      comes
  state_own x h cause other comes link u e = absurd (cc)

  pub inserting_owns : (link : LinkNo) (s : State)
      → In (out.Send link (msg.ViewerState s)) (inserting p c stamp from).outs → c ≡ cub_of p s.visit
  inserting_owns link s i =
      all_in OfOwn (out.Send link (msg.ViewerState s)) (inserting p c stamp from).outs
      (inserting_by (Puts p c stamp OfOwn) (puts_closed p c stamp OfOwn) p c stamp from
      (λ x h cause. forms_of p c stamp OfOwn x h (λ o comes. state_own x h cause o comes)))
      i link s refl

-- the links to the next two cubs are two
one_way : (p : Params) (a k : ℕ) → IsPlan p → a < p.cubs → (k ≡ 1) ⊎ (k ≡ 2) → way_ahead p a k ≡ way_ahead p a 1 → k ≡ 1
one_way p a k plan small ahead same = ⊎_elim
    (λ e. e)
    (λ e.
    let two : way_ahead p a 2 ≡ way_ahead p a 1 = ap (λ n. way_ahead p a n) (sym e) ∙ same in
    let ends : ◌≡◌ {A = Option (ℕ × ℕ)} (Some (a, cub_of p (a + 2))) (Some (a, cub_of p (a + 1))) =
    sym (way_ends p a 2 plan small (omega arith) (omega arith))
    ∙ ap (λ (l : LinkNo). ends_of (links_of p) l.0) two
    ∙ way_ends p a 1 plan small (omega arith) (omega arith) in
    let seven = seven_cubs p plan in
    let next : a + 1 + 1 ≡ a + 2 = omega arith in
    let cubs : cub_of p (a + 1 + 1) ≡ cub_of p (a + 1) =
    ap (λ n. cub_of p n) next ∙ (same_ends a (cub_of p (a + 2)) a (cub_of p (a + 1)) ends).1 in
    absurd (cub_apart p (a + 1) 1 (omega arith) (omega arith) (sym cubs)))
    ahead

module _ (p : Params) (lives : Lives) (beyond : Beyond) (set : Setting p lives beyond) where
  abbrev R : Facts
  R = facts_by p lives beyond

  -- A record that goes out in a tick was taken, behind each deschedule of its instance; and till now it was too early
  -- for it, or it came now.
  record Came (c i : ℕ) (z : Rec) : Type 0 where
    at : ℕ
    by : at ≤ i
    taken : In (taken_out z) (outs_in p lives c at)
    since : (j : ℕ) → j < i → IsStop p c (lives.input c) j z.tenancy.instance.0 → j < at
    fresh : (beat_at (lives.input c) at ≡ beat_at (lives.input c) i)
        ⊎ WasEarly p R c z.tenancy (z.visit + 1) (beat_at (lives.input c) i)

  -- at no tick since was it to be forwarded
  abbrev IsIdle : ℕ → ℕ → ℕ → Rec → Type 0
  IsIdle c at i z = (k : ℕ) (stamp : Stamp) → at ≤ k → k < i → lives.input c k ≡ Tick stamp → must_forward p stamp z ≡ false

  early : (c i at : ℕ) (z : Rec) → c < p.cubs → i < lives.count c → at < i → is_own z.kind ≡ true
      → z.visit < z.tenancy.last → IsIdle c at i z → beat_at (lives.input c) at < beat_at (lives.input c) i
      → WasEarly p R c z.tenancy (z.visit + 1) (beat_at (lives.input c) i)
  early c i at z small low before own more idle less =
      let inputs : ℕ → Input Msg = lives.input c in
      let life = set.lived c small in
      let b : ℕ = beat_at inputs i - 1 in
      let last : beat_at inputs i ≡ b + 1 = omega arith in
      let rise = beats_rise p (lives.count c) inputs life 0 at (omega arith) (omega arith) in
      let t = tick_before p (lives.count c) inputs life i b low (omega arith) (omega arith) in
      let tb = t.before in
      let done : t.at < lives.count c = omega arith in
      let s = tick_of (inputs t.at) t.tick in
      let eb : beat_at inputs t.at ≡ b = t.beat in
      let from = not_behind p (lives.count c) inputs life at t.at done (omega arith) t.tick (omega arith) in
      record {
        beat = b;
        reading = s.0.reading;
        ticked = subst (λ n. TickedAt p lives c n s.0.reading) eb
            (ticked_there p lives c t.at s.0 small done s.1 (whole_before lives c t.at i tb low));
        next = last;
        early = forward_early p s.0 z own more (idle t.at s.0 from tb s.1);
      }

  -- It is there when the tick begins and has not gone out, or the tick takes it, and that goes out.
  abbrev IsHere : ℕ → ℕ → Rec → Type 0
  IsHere c i z =
      ((x : Line) × In x (store_at p c (lives.input c) i).view.lines × (x.rec ≡ z) × (x.forwarded ≡ false))
      ⊎ In (taken_out z) (outs_in p lives c i)

  came : (c i : ℕ) (z : Rec) → c < p.cubs → i < lives.count c → is_own z.kind ≡ true → z.visit < z.tenancy.last
      → IsHere c i z → Came c i z
  came c i z small low own more how =
      let inputs : ℕ → Input Msg = lives.input c in
      ⊎_elim
      (λ w.
      let d = standing p c set.plan small (lives.count c) inputs (set.formed c small) i (omega arith) w.0 w.1 in
      let before = d.before in
      let rise = beats_rise p (lives.count c) inputs (set.lived c small) d.at i (omega arith) low in
      let idle : IsIdle c d.at i z = subst (λ (q : Rec). IsIdle c d.at i q) w.2 (d.early w.3) in
      record {
        at = d.at;
        by = omega arith;
        taken = goes_whole p lives c d.at (taken_out z) (whole_before lives c d.at i before low)
            (subst (λ (q : Rec). In (taken_out q) (outs_at p c inputs d.at)) w.2 d.taken);
        since = λ j l s. d.since j l (subst (λ (q : Rec). IsStop p c inputs j q.tenancy.instance.0) (sym w.2) s);
        fresh = ⊎_elim
            (λ e. inl e)
            (λ l. inr (early c i d.at z small low before own more idle l))
            (eq-or-lt_of_le rise);
      })
      (λ k. record {
        at = i;
        by = omega arith;
        taken = k;
        since = λ j l s. l;
        fresh = inl refl;
      })
      how

  -- The state of a record's next visit is forwarded, as the law has it.
  goes_on : (a i : ℕ) (z : Rec) (stamp : Stamp) → a < p.cubs → i < lives.count a → lives.input a i ≡ Tick stamp
      → must_forward p stamp z ≡ true → a ≡ cub_of p z.visit → IsHere a i z
      → Forwards p R a z.tenancy (z.visit + 1) (beat_at (lives.input a) i)
  goes_on a i z stamp small low tick must own how =
      let inputs : ℕ → Input Msg = lives.input a in
      let parts = forward_parts p stamp z set.plan must in
      let c = came a i z small low parts.0 parts.1 how in
      let by = c.by in
      let done : c.at < lives.count a = omega arith in
      record {
        visit = z.visit;
        next = refl;
        more = parts.1;
        own = own;
        beat = beat_at inputs c.at;
        entered = entered_at p lives a c.at z small done c.taken;
        by = beats_rise p (lives.count a) inputs (set.lived a small) c.at i by low;
        reading = stamp.reading;
        tick = is_tick p lives beyond set (tick_there p lives a i stamp small low tick);
        soon = parts.2;
        fresh = c.fresh;
        since = λ y g le life.
            let is = tick_true inputs i stamp tick in
            let w = stop_by_tick p lives set.lived a i z.tenancy.instance.0 y low is g le in
            let_go p set.plan lives set.lived set.formed beyond a c.at w.at z small done (c.since w.at w.before w.stop)
            (was_put_out p lives a c.at (taken_out z) c.taken) w.stop;
        life = same_life p lives beyond set.lived set.fits a c.at i small done low;
      }

  pub sends : {a k m x : ℕ} {t : Tenancy} → SentAt p lives a k t m x → SendsFirst p R a k t m x ⊎ Forwards p R a t m x
  sends {a} {k} {m} {x} {t} sent =
      let d = sent.did in
      let inputs : ℕ → Input Msg = lives.input a in
      let h : Store = store_at p a inputs d.at in
      let s : State = record { tenancy = t; visit = m } in
      let link : LinkNo = way_ahead p a k in
      let o : Out Msg = out.Send link (msg.ViewerState s) in
      let was = was_put_out p lives a d.at o d.did in
      let tick = state_at_tick p a set.plan d.small (inputs d.at) h link s was in
      let w = at_tick p a inputs d.at o tick was in
      let ready : Store = before_inserting p a w.stamp h in
      let all = tick_outs p lives a d.at w.stamp w.is in
      ⊎_elim
      (λ g.
      let i = g.0 in
      let z = (inserting_puts p a w.stamp set.plan d.small ready).sent link s i in
      let put = subst (λ (os : List (Out Msg)). In (put_out t) os) (sym all) g.1 in
      inl (record {
        put = record { small = d.small; at = d.at; done = d.done; in_beat = d.in_beat; did = put };
        first = z.1;
        near = one_way p a k set.plan d.small sent.ahead z.2;
        own = inserting_owns p a w.stamp set.plan d.small ready link s i ∙ ap (λ n. cub_of p n) z.1;
      }))
      (λ g.
      let f = (forwarded p a w.stamp set.plan d.small h link s g.forwarded).0 in
      let here : IsHere a d.at f.rec = ⊎_elim
      (λ x. inl x)
      (λ i. inr (subst (λ (os : List (Out Msg)). In (taken_out f.rec) os) (sym all)
      (g.all (taken_out f.rec) (took_inserted p a set.plan d.small w.stamp h f.rec i))))
      f.how in
      let life = set.lived a d.small in
      let low = d.done in
      let short : w.stamp.reading ≤ most_reading =
      let e = life.short d.at d.done in let q = ap (λ (j : Input Msg). (stamp_of j).reading) w.is in omega arith in
      let kept = kept_at p a set.plan d.small inputs d.at (λ j l. life.short j (omega arith)) in
      let parts = forward_parts p w.stamp f.rec set.plan f.must in
      let own = own_visit p a f.rec (f.own kept short) parts.0 in
      let next = goes_on a d.at f.rec w.stamp d.small d.done w.is f.must own here in
      let x : ℕ = beat_at inputs d.at in
      let one = subst (λ (u : Tenancy). Forwards p R a u (f.rec.visit + 1) x) f.tenancy next in
      let two = subst (λ (n : ℕ). Forwards p R a t n x) (sym f.next) one in
      inr (subst (λ (n : ℕ). Forwards p R a t m n) d.in_beat two))
      (state_goes_behind p a w.stamp set.plan d.small h (cut_in lives a d.at) link s
      (subst (λ (os : List (Out Msg)). In o os) all d.did))

  -- What is there, and whose next visit is soon, has gone out, or was descheduled.
  pub forwards : {a n y b l : ℕ} {t : Tenancy} → Entered R a t n y → y ≤ b → TickedAt p lives a b l → a ≡ cub_of p n
      → n < t.last → l < due p t.slot.0 n → due p t.slot.0 (n + 1) ≤ l + p.min_lead
      → Sends R a t (n + 1) b ⊎ ReachedBy R a t.instance.0 b
  forwards {a} {n} {y} {b} {l} {t} entered le w here more late soon =
      let inputs : ℕ → Input Msg = lives.input a in
      let e = (entered_did p lives entered).1 in
      let q : Rec = record { tenancy = t; visit = n; kind = (entered_did p lives entered).0 } in
      let stamp : Stamp = record { beat = b; reading = l } in
      let wb : beat_at inputs w.at ≡ b = ap (λ (i : Input Msg). (stamp_of i).beat) w.is in
      let wr : reading_at inputs w.at ≡ l = ap (λ (i : Input Msg). (stamp_of i).reading) w.is in
      let eb = e.in_beat in
      let wd = w.done in
      let life = set.lived a w.small in
      let tick = tick_true inputs w.at stamp w.is in
      let low = not_behind p (lives.count a) inputs life e.at w.at w.done e.done tick (omega arith) in
      let kept = kept_at p a set.plan w.small inputs (suc w.at) (λ j k. life.short j (omega arith)) in
      ⊎_elim
      (λ s.
      let of : IsRecordOf p a q = subst (λ (z : Rec). IsRecordOf p a z) s.same
      (all_in (IsLineOf p a) s.line (store_at p a inputs (suc w.at)).view.lines kept.lines s.there) in
      ⊎_elim
      (λ (f : s.line.forwarded ≡ true).
      let k = marked_sent p a set.plan w.small inputs (suc w.at) s.line s.there f in
      let kb = k.before in
      let sent : NextSent p a q (outs_at p a inputs k.at) =
      subst (λ (z : Rec). NextSent p a z (outs_at p a inputs k.at)) s.same k.sent in
      let rise = beats_rise p (lives.count a) inputs life k.at w.at (omega arith) w.done in
      let whole = whole_to lives a k.at w.at (omega arith) w.done w.whole in
      inl (record {
        beat = beat_at inputs k.at;
        near = record {
          ahead = inl refl;
          did = record {
            small = w.small;
            at = k.at;
            done = omega arith;
            in_beat = refl;
            did = goes_whole p lives a k.at _ whole sent.0;
          };
        };
        far = record {
          ahead = inr refl;
          did = record {
            small = w.small;
            at = k.at;
            done = omega arith;
            in_beat = refl;
            did = goes_whole p lives a k.at _ whole sent.1;
          };
        };
        by = omega arith;
      }))
      (λ (f : s.line.forwarded ≡ false).
      let must = forward_must p stamp q (own_kind p a q set.plan of here) more soon in
      ⊎_elim
      (λ g. absurd (no_both g f))
      (λ g. absurd (no_both must (subst (λ (z : Rec). must_forward p stamp z ≡ false) s.same g)))
      (settled p a set.plan w.small inputs w.at stamp s.line w.is s.there))
      (cases_Bool s.line.forwarded))
      (λ m. let by = m.2 in inr (record { beat = m.0; reached = m.1; by = omega arith }))
      (stays_or_stopped p set.plan lives set.lived a e.at (suc w.at) w.at q w.small (omega arith) (omega arith) w.done
      (omega arith) (was_put_out p lives a e.at (taken_out q) e.did))
