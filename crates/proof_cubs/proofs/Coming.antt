-- The start of a Put, as it came to the cub: its instance was neither held nor shown then.
use Rattle.std.proofs.Common.{◌≡◌, ℕ, suc, ◌<◌, ◌≤◌, nat_le, List, [], ◌∷◌, find, is_some, true, false, Bool, Option, Some, refl, sym, ap, subst, ◌∙◌, arith, ⊎_elim, inl, inr, eq-or-lt_of_le}
use Rattle.std.specs.Prelude.{◌⊎◌}
use Rattle.std.proofs.lemmas.Bool.{cases_lt, and_parts, leb-true, eq-eqb}
use Rattle.tiger_base.specs.declared.number.Instance.{Instance}
use Rattle.tiger_base.specs.declared.tenancy.Ask.{Ask}
use Rattle.tiger_base.specs.declared.tenancy.Rec.{Rec}
use Rattle.tiger_base.specs.declared.tenancy.Tenancy.{Tenancy}
use Rattle.tiger_base.specs.declared.message.Msg.{Msg}
use Rattle.tiger_base.specs.declared.message.Msg.TheVariants as msg
use Rattle.tiger_base.specs.Limits.{most_blocks}
use Rattle.slot_plan.specs.declared.params.Params.{Params}
use Rattle.slot_plan.specs.Conditions.{IsPlan}
use Rattle.node_kit.specs.Steps.{Input, stamp_of}
use Rattle.node_kit.specs.Steps.Input.{Take, Tick}
use Rattle.partial_view.specs.declared.line.Line.{Line}
use Rattle.partial_view.specs.Lines as lines
use Rattle.partial_view.specs.Views.{first_of}
use Rattle.insert_queue.specs.Queues.{Queues}
use Rattle.cub_rules.specs.declared.store.Store.{Store}
use Rattle.cub_rules.specs.Messages.{shows}
use Rattle.proof_schedule.specs.Facts.{Facts, IsReleasedBy, IsUnheld}
use Rattle.proof_schedule.specs.StartLaws.{Comes, HadLeft}
use Rattle.proof_lives.specs.Facts.{DidAt, TookAt, TookMessage}
use Rattle.proof_lives.specs.Lives.{Lives, store_at, outs_at, beat_at}
use Rattle.run_facts.specs.Events.{is_tick_input}
use Rattle.lists.specs.Elements.{In}
use Rattle.lists.proofs.Elements.{chosen}
use Rattle.proof_lives.proofs.Moves.{taken_out}
use Rattle.proof_lives.proofs.Cuts.{was_put_out, whole_before}
use Rattle.proof_lives.proofs.Inputs.{stop_of, got_message, ticked_there, message_before}
use Rattle.proof_lives.proofs.Inserting.{put_out}
use Rattle.proof_lives.proofs.TakingOver.{inserting_puts}
use Rattle.proof_lives.proofs.Lines.{MayAt, MightLeave, stays}
use Rattle.proof_lives.proofs.Order.{beats_rise, behind}
use Rattle.proof_lives.proofs.States.{put_at_tick, put_inserted, at_tick}
use Rattle.proof_lives.proofs.Ticking.{before_inserting}
use Rattle.proof_lives.proofs.Waiting.{IsQueued, before_back}
use Rattle.proof_lives.specs.HoldsHere.{IsFormed}
use Rattle.proof_lives.proofs.Begun.{IsStop, stop_as}
use Rattle.proof_lives.proofs.HoldLaws.{no_both, stop_in, released_by}
use Rattle.proof_lives.proofs.Persist.{IsReleased, unheld_released}
use Rattle.proof_lives.specs.FactsBy.{Beyond, facts_by}
use Rattle.proof_cubs.specs.Grounds.{IsLetIn}
use Rattle.proof_cubs.proofs.Setting.{Setting}
use Rattle.proof_lives.proofs.Starts.{without_none, stop_drops}
use Rattle.proof_cubs.proofs.Letting.{let_in, took_drops}

-- A view shows an instance of which it has a line.
line_shown : (v : Instance) (x : Line) (ls : List Line) → In x ls → x.rec.tenancy.instance.0 ≡ v.0 → shows ls v ≡ true
unfolding first_of
line_shown v x [] i e = absurd i
line_shown v x (z ∷ zs) i e =
    chosen (λ (o : Option Line). is_some o ≡ true) (lines.is_of v z) (Some z) (find (lines.is_of v) zs) (λ _. refl)
    (λ f. ⊎_elim
    (λ q. absurd (no_both (eq-eqb x.rec.tenancy.instance.0 v.0 e) (ap (lines.is_of v) q ∙ f)))
    (λ q. line_shown v x zs q e)
    i)

module _ (p : Params) (c count : ℕ) (plan : IsPlan p) (here : c < p.cubs) (inputs : ℕ → Input Msg)
    (formed : IsFormed p count inputs) where
  -- The hold of a deschedule that came before a start's Put was over when the start was let in.
  pub over_before : (i j : ℕ) (a : Ask) (s : IsLetIn p c inputs a i) → i ≤ count → j < i
      → IsStop p c inputs j a.instance.0 → IsReleased p c inputs j s.at a.instance.0
  over_before i j a s low before stop =
      let sb = s.before in
      ⊎_elim
      (λ (l : j < s.at).
      unheld_released p c inputs count formed s.at j a.instance.0 l (omega arith) stop a.instance refl s.free)
      (λ (g : s.at ≤ j). ⊎_elim
      (λ (e : s.at ≡ j).
      let m : Msg = msg.Deschedule stop.instance stop.tag in
      let z : Take s.stamp s.link (msg.Start s.redundant a) ≡ Take stop.stamp stop.link m =
      sym s.is ∙ (ap inputs e ∙ stop.is) in
      absurd (cc))
      (λ (l : s.at < j).
      let in_form = formed j stop.stamp stop.link (msg.Deschedule stop.instance stop.tag) (omega arith) stop.is in
      absurd (stop_drops p c inputs j a stop in_form (s.waits (suc j) (omega arith) before)))
      (eq-or-lt_of_le g))
      (cases_lt j s.at)

  -- A record of its instance that was taken before the Put had a reason to leave before the start was let in.
  pub left_before : (i j : ℕ) (a : Ask) (r : Rec) (s : IsLetIn p c inputs a i) → j < i
      → is_tick_input (inputs j) ≡ false → In (taken_out r) (outs_at p c inputs j)
      → r.tenancy.instance.0 ≡ a.instance.0 → MightLeave p inputs r j s.at
  left_before i j a r s before message k same = ⊎_elim
      (λ (l : j < s.at). ⊎_elim
      (λ y.
      let mine = ap (λ (q : Rec). q.tenancy.instance.0) y.same ∙ same in
      let shown = line_shown a.instance y.line (store_at p c inputs s.at).view.lines y.there mine in
      absurd (no_both shown s.unshown))
      (λ m. m)
      (stays p c plan here inputs s.at j r l k))
      (λ (g : s.at ≤ j).
      let h : Store = store_at p c inputs j in
      let gone = took_drops p c (inputs j) r h message k in
      let waits = subst (λ (w : Queues). IsQueued a w) gone (s.waits (suc j) (omega arith) before) in
      absurd (without_none h.starts r.tenancy.instance a (sym same) waits))
      (cases_lt j s.at)

module _ (p : Params) (lives : Lives) (beyond : Beyond) (set : Setting p lives beyond) where
  abbrev R : Facts
  R = facts_by p lives beyond

  -- Such a reason is a tick at which the record was due, or a deschedule, whose hold was over.
  left_how : (c i j n : ℕ) (a : Ask) (r : Rec) (s : IsLetIn p c (lives.input c) a i) (k : Input Msg) → c < p.cubs
      → i < lives.count c → n < s.at → lives.input c n ≡ k → MayAt p k r
      → r.tenancy.instance.0 ≡ a.instance.0
      → HadLeft p R c r.tenancy.slot.0 r.visit (beat_at (lives.input c) s.at)
      ⊎ IsReleasedBy p R c a.instance.0 (beat_at (lives.input c) s.at)
  left_how c i j n a r s (Take stamp link m) small low before is may same =
      let inputs : ℕ → Input Msg = lives.input c in
      let sb = s.before in
      let o = stop_of m r may in
      let stop : IsStop p c inputs n a.instance.0 = record {
        stamp = stamp;
        link = link;
        instance = o.0;
        tag = o.1;
        is = is ∙ ap (λ (x : Msg). Take stamp link x) o.2;
        same = sym o.3 ∙ same;
      } in
      let over = over_before p c (lives.count c) set.plan small inputs (set.formed c small) i n a s (omega arith)
      (omega arith) stop in
      inr (released_by p set.plan lives set.lived set.formed beyond c s.at n a.instance.0 (beat_at inputs s.at) small (omega arith) (omega arith)
      over)
  left_how c i j n a r s (Tick stamp) small low before is may same =
      let inputs : ℕ → Input Msg = lives.input c in
      let sb = s.before in
      let e = behind p (lives.count c) inputs (set.lived c small) n s.at before (omega arith) (ap is_tick_input is) in
      inl (record {
        beat = beat_at inputs n;
        reading = stamp.reading;
        ticked = ticked_there p lives c n stamp small (omega arith) is (whole_before lives c n s.at before (omega arith));
        before = e;
        due = may;
      })

  -- A start of instance v was let in, and is put at the tick of beat x.
  record IsPutLater (c i x v : ℕ) (a : Ask) : Type 0 where
    start : IsLetIn p c (lives.input c) a i
    small : c < p.cubs
    low : i < lives.count c
    tick : is_tick_input (lives.input c i) ≡ true
    in_beat : beat_at (lives.input c) i ≡ x
    same : a.instance.0 ≡ v

  -- Each hold of the instance was over when the start came.
  unheld : {c i x v : ℕ} {a : Ask} (w : IsPutLater c i x v a)
      → IsUnheld p R c v x (beat_at (lives.input c) w.start.at)
  unheld {c} {i} {x} {v} {a} w y g le life =
      let inputs : ℕ → Input Msg = lives.input c in
      let s = w.start in
      let sb = s.before in
      let low = w.low in
      let eb = w.in_beat in
      let r = g.took in
      let rb : beat_at inputs r.at ≡ y = ap (λ (k : Input Msg). (stamp_of k).beat) r.is in
      let before = message_before p lives set.lived c i r.at w.small w.low r.done w.tick (ap is_tick_input r.is)
      (omega arith) in
      let stop = stop_as p c inputs r.at v a.instance.0 (sym w.same) (stop_in p lives g) in
      let over = over_before p c (lives.count c) set.plan w.small inputs (set.formed c w.small) i r.at a s (omega arith)
      before stop in
      subst (λ n. IsReleasedBy p R c n (beat_at inputs s.at)) w.same
      (released_by p set.plan lives set.lived set.formed beyond c s.at r.at a.instance.0 (beat_at inputs s.at) w.small (omega arith) (omega arith)
      over)

  -- Each record of it that a state gave had left then.
  unshown : {c i x v : ℕ} {a : Ask} (w : IsPutLater c i x v a) (u : Tenancy) (n y : ℕ) → TookAt p lives c u n y
      → u.instance.0 ≡ v → y ≤ x
      → HadLeft p R c u.slot.0 n (beat_at (lives.input c) w.start.at)
      ⊎ IsReleasedBy p R c v (beat_at (lives.input c) w.start.at)
  unshown {c} {i} {x} {v} {a} w u n y g same le =
      let inputs : ℕ → Input Msg = lives.input c in
      let s = w.start in
      let eb = w.in_beat in
      let f = g.done in
      let fb = f.in_beat in
      let before = message_before p lives set.lived c i f.at w.small w.low f.done w.tick g.message (omega arith) in
      let q : Rec = record { tenancy = u; visit = n; kind = g.kind } in
      let mine = same ∙ sym w.same in
      let b = left_before p c (lives.count c) set.plan w.small inputs (set.formed c w.small) i f.at a q s before
      g.message (was_put_out p lives c f.at (taken_out q) f.did) mine in
      ⊎_elim
      (λ z. inl z)
      (λ z. inr (subst (λ m. IsReleasedBy p R c m (beat_at inputs s.at)) w.same z))
      (left_how c i f.at b.at a q s (inputs b.at) w.small w.low b.before (refl {a = inputs b.at}) b.may mine)

  -- A start came as the plain one, or as the redundant one.
  came_as : (c b : ℕ) (ask : Ask) (redundant : Bool) → TookMessage p lives c (msg.Start redundant ask) b
      → R.Asked c ask b ⊎ R.AskedApart c ask b
  came_as c b ask true m = inr m
  came_as c b ask false m = inl m

  -- A Put is of a start that came.
  pub comes : {c : ℕ} {t : Tenancy} {x : ℕ} → DidAt p lives c (put_out t) x → Comes p R c t x
  comes {c} {t} {x} d =
      let inputs : ℕ → Input Msg = lives.input c in
      let h : Store = store_at p c inputs d.at in
      let was = was_put_out p lives c d.at (put_out t) d.did in
      let tick = put_at_tick p c set.plan d.small (inputs d.at) h t was in
      let a = at_tick p c inputs d.at (put_out t) tick was in
      let k = put_inserted p c set.plan d.small a.stamp h t a.did in
      let w = (inserting_puts p c a.stamp set.plan d.small (before_inserting p c a.stamp h)).put t k in
      let s = let_in p c inputs d.at w.ask (before_back p c a.stamp h w.ask (inl w.waits)) in
      let sb = s.before in
      let low = d.done in
      let eb = d.in_beat in
      let last = w.last in
      let one = leb-true _ _ (and_parts (nat_le 1 w.ask.count) (nat_le w.ask.count most_blocks) s.counted).0 in
      let rise = beats_rise p (lives.count c) inputs (set.lived c d.small) s.at d.at (omega arith) d.done in
      let m = got_message p lives c s.at s.stamp s.link (msg.Start s.redundant w.ask) d.small (omega arith)
      s.is in
      let put : IsPutLater c d.at x t.instance.0 w.ask = record {
        start = s;
        small = d.small;
        low = d.done;
        tick = tick;
        in_beat = eb;
        same = ap (λ (v : Instance). v.0) w.instance;
      } in
      record {
        ask = w.ask;
        asked = record { instance = w.instance; file = w.file; count = omega arith; disk = w.disk };
        start = beat_at inputs s.at;
        came = came_as c (beat_at inputs s.at) w.ask s.redundant m;
        before = omega arith;
        since = unheld put;
        unshown = unshown put;
      }
