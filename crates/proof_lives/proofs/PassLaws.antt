-- Passing on, as laws: from where a cub passes a deschedule on, what it then sends, and that it sends no other.
use Rattle.std.proofs.Common.{◌≡◌, ℕ, ◌+◌, ◌*◌, ◌<◌, ◌≤◌, List, [], ◌∷◌, ◌++◌, find, true, Option, Some, None, refl, sym, ap, subst, ◌∙◌, arith, inl, inr, suc, false, ⊎_elim}
use Rattle.std.proofs.lemmas.Bool.{eqb-true, leb-true, le-leb, cases_Bool}
use Rattle.std.specs.Prelude.{◌⊎◌, ◌==◌}
use Rattle.tiger_base.specs.declared.message.Msg.{Msg}
use Rattle.tiger_base.specs.declared.message.Msg.TheVariants as msg
use Rattle.tiger_base.specs.declared.number.Instance.{Instance}
use Rattle.tiger_base.specs.declared.number.LinkNo.{LinkNo}
use Rattle.tiger_base.specs.declared.number.SlotNo.{SlotNo}
use Rattle.tiger_base.specs.declared.number.Stamp.{Stamp}
use Rattle.tiger_base.specs.declared.tenancy.Kind.{Kind}
use Rattle.tiger_base.specs.declared.tenancy.Kind.TheVariants.{Own, Backup}
use Rattle.tiger_base.specs.declared.tenancy.Rec.{Rec}
use Rattle.tiger_base.specs.declared.tenancy.State.{State}
use Rattle.tiger_base.specs.declared.tenancy.Tag.{Tag}
use Rattle.slot_plan.specs.Conditions.{IsPlan}
use Rattle.slot_plan.specs.Keys.{Key}
use Rattle.slot_plan.specs.Times.{time_of, due, cub_of}
use Rattle.slot_plan.specs.declared.params.Params.{Params}
use Rattle.node_kit.specs.Steps.{Input, stamp_of}
use Rattle.node_kit.specs.Steps.Input.{Take, Tick}
use Rattle.node_kit.specs.Ways.{way_ahead}
use Rattle.node_kit.specs.declared.outbox.Out.{Out}
use Rattle.node_kit.specs.declared.outbox.Out.TheVariants as out
use Rattle.partial_view.specs.Lines as lines
use Rattle.partial_view.specs.Views.{first_of}
use Rattle.partial_view.specs.declared.line.Line.{Line}
use Rattle.deschedule.specs.Holds.{is_held, must_pass}
use Rattle.deschedule.specs.declared.held.Holding.{Holding}
use Rattle.cub_rules.specs.Messages.{position_at, position_by, position_of, is_reached}
use Rattle.cub_rules.specs.State.{visit_here, IsRecordOf, IsLineOf}
use Rattle.cub_rules.specs.declared.store.Store.{Store}
use Rattle.cub_changes.specs.Causes.{PassesOn}
use Rattle.proof_lives.specs.Facts.{TickAt, TookMessage}
use Rattle.proof_lives.specs.Lives.{Lives, AreLives, cut_in, cut_outs, store_at, deed_of, outs_in, beat_at, reading_at}
use Rattle.run_facts.specs.Events.{is_tick_input}
use Rattle.lists.specs.Elements.{In}
use Rattle.proof_lives.proofs.Cuts.{from_cut_outs, was_put_out, whole_before, whole_by_tick, goes_whole}
use Rattle.proof_lives.proofs.Going.{first_goes}
use Rattle.proof_lives.proofs.Inputs.{entered_among}
use Rattle.proof_lives.proofs.Lines.{line_taken, kept_at}
use Rattle.lists.proofs.Elements.{chosen}
use Rattle.lists.proofs.Each.{all_in}
use Rattle.proof_lives.proofs.Moves.{taken_out}
use Rattle.proof_lives.proofs.Order.{beats_rise}
use Rattle.proof_lives.proofs.States.{stamp_made, tick_meek}
use Rattle.proof_lives.specs.HoldsHere.{IsFormed}
use Rattle.proof_schedule.specs.Facts.{Facts, ReachedBy, EnteredAmong, IsSameLife}
use Rattle.proof_schedule.specs.HoldLaws.{horizon, IsTold, ForTag, ForRecord, ForState, GotBareInLife, IsStray, IsPass}
use Rattle.proof_lives.specs.FactsBy.{Beyond, facts_by}
use Rattle.proof_lives.specs.StopFactsOf.{PassedAt, ToldAt}
use Rattle.proof_lives.proofs.Begun.{stop_as, IsPassing, unpassed_since, passing_marks}
use Rattle.proof_lives.proofs.HoldLaws.{stop_of_passing, reached_at, passing_at, beat_of, beside_position, got_stop}
use Rattle.proof_lives.proofs.Holds.{no_both, must_in}
use Rattle.proof_lives.proofs.Ledger.{same_instance, hold_must}
use Rattle.proof_lives.proofs.Fitting.{Fits}
use Rattle.proof_lives.proofs.SameLife.{same_life}
use Rattle.proof_lives.proofs.Passing.{taking_passes}
use Rattle.proof_lives.proofs.Tags.{tag_behind, pass_sends, pass_first, sent_passes}
use Rattle.cub_changes.specs.Changes.{did}
use Rattle.cub_changes.specs.Changes.Change.{PassOn}
use Rattle.cub_changes.proofs.Positions.{stands}

pub reached_true : (p : Params) (stamp : Stamp) (s : SlotNo) (n : ℕ) → due p s.0 n ≤ stamp.reading + p.max_lead + 2 * p.play + p.skew → is_reached p stamp s n ≡ true
unfolding is_reached
reached_true p stamp s n h = le-leb _ _ h

pub reached_due : (p : Params) (stamp : Stamp) (s : SlotNo) (n : ℕ) → is_reached p stamp s n ≡ true → due p s.0 n ≤ stamp.reading + p.max_lead + 2 * p.play + p.skew
unfolding is_reached
reached_due p stamp s n e = leb-true _ _ e

-- which position a slot and visit give
pub position_parts : (p : Params) (c : ℕ) (s : SlotNo) (m : ℕ) (k : Key) → position_at p c s m ≡ Some k → (k.0 ≡ s) × ((k.1 ≡ m) ⊎ (k.1 ≡ m + 1)) × (c ≡ cub_of p k.1)
position_parts p c s m k e =
    let at = stands p c s m k e in
    (at.slot_same, ⊎_elim (λ (t : (k.1 == m) ≡ true). inl (eqb-true _ _ t)) (λ (f : (k.1 == m) ≡ false). inr (at.other f)) (cases_Bool (k.1 == m)), sym at.here)

some_is : {X : Type 0} (a b : X) → Some a ≡ Some b → a ≡ b
some_is a b e = cc

-- the first line of an instance is one of its lines
pub first_in : (v : Instance) (ls : List Line) (x : Line) → first_of v ls ≡ Some x → In x ls × (x.rec.tenancy.instance.0 ≡ v.0)
unfolding first_of
first_in v [] x e = absurd (cc)
first_in v (z ∷ zs) x e =
    chosen (λ (o : Option Line). o ≡ Some x → In x (z ∷ zs) × (x.rec.tenancy.instance.0 ≡ v.0)) (lines.is_of v z) (Some z) (find (lines.is_of v) zs)
    (λ t e. let q : z ≡ x = some_is z x e in (inl (sym q), ap (λ (y : Line). y.rec.tenancy.instance.0) (sym q) ∙ eqb-true _ _ t))
    (λ _ e. let r = first_in v zs x e in (inr r.0, r.1))
    e

-- the record that gives a position
pub record FirstLine (v : Instance) (ls : List Line) (k : Key) : Type 0 where
  pub line : Line
  pub there : In line ls
  pub same : line.rec.tenancy.instance.0 ≡ v.0
  pub at : position_of line.rec ≡ k

pub first_line : (v : Instance) (ls : List Line) (k : Key) (o : Option Line) → first_of v ls ≡ o → position_by o ≡ Some k → FirstLine v ls k
first_line v ls k None e at = absurd (cc)
first_line v ls k (Some x) e at = let f = first_in v ls x e in record { line = x; there = f.0; same = f.1; at = some_is (position_of x.rec) k at }

pub here_visit : (kind : Kind) (n : ℕ) → (visit_here kind n ≡ n) ⊎ (visit_here kind n ≡ n + 1)
here_visit Own n = inl refl
here_visit Backup n = inr refl

module _ (p : Params) (plan : IsPlan p) (lives : Lives) (are : AreLives p lives) (formed : (c : ℕ) → c < p.cubs → IsFormed p (lives.count c) (lives.input c)) (beyond : Beyond)
    (fits : Fits p lives beyond) where
  abbrev pub R : Facts
  R = facts_by p lives beyond

  -- a pass tells the next two cubs, where the states of the next visit may be on their way
  pub told_one : {c v s q y : ℕ} (k : ℕ) → (k ≡ 1) ⊎ (k ≡ 2) → (a : PassedAt p lives c v s q y) → In (out.Send (way_ahead p c k) (msg.Deschedule a.instance (Some (tag_behind a.key)))) (outs_in p lives c a.at)
      → ToldAt p lives c k v s (q + 1) y
  told_one {c} {v} {s} {q} {y} k which a i = record {
    ahead = which;
    instance = a.instance;
    same = a.same;
    tag = tag_behind a.key;
    slot = a.slot;
    visit = ap (λ n. n + 1) a.visit;
    did = record { small = a.small; at = a.at; done = a.done; in_beat = ap (λ (x : Input Msg). (stamp_of x).beat) a.is; did = i };
  }

  pub passes : {c v s q y b l : ℕ} → PassedAt p lives c v s q y → TickAt p lives c b l → y ≤ b → due p s (q + 1) ≤ horizon p (time_of p y)
      → ToldAt p lives c 1 v s (q + 1) y × ToldAt p lives c 2 v s (q + 1) y
  passes {c} {v} {s} {q} {y} {b} {l} a tick le h =
      let inputs : ℕ → Input Msg = lives.input c in
      let stamp : Stamp = record { beat = y; reading = a.reading } in
      let beats : beat_at inputs a.at ≡ y = ap (λ (x : Input Msg). (stamp_of x).beat) a.is in
      let reads : reading_at inputs a.at ≡ a.reading = ap (λ (x : Input Msg). (stamp_of x).reading) a.is in
      let low = ((are c a.small).reads a.at a.done).0 in
      let tm : time_of p (beat_at inputs a.at) ≡ time_of p y = ap (λ b. time_of p b) beats in
      let d : due p a.key.0.0 (a.key.1 + 1) ≡ due p s (q + 1) = ap (λ n. due p n (a.key.1 + 1)) a.slot ∙ ap (λ n. due p s (n + 1)) a.visit in
      let g = taking_passes p c stamp a.link a.message (store_at p c inputs a.at) a.instance a.key a.formed a.passes in
      let both = pass_sends p c stamp a.instance a.key g.before (reached_true p stamp a.key.0 (a.key.1 + 1) (omega arith)) in
      let ends : beat_at inputs tick.at ≡ b = ap (λ (x : Input Msg). (stamp_of x).beat) tick.is in
      let whole = whole_by_tick p lives are c a.at tick.at a.small a.done tick.done (ap is_tick_input a.is) (ap is_tick_input tick.is) (omega arith) in
      let done : (o : Out Msg) → In o (did p c stamp (PassOn a.instance a.key) g.before).outs → In o (outs_in p lives c a.at) = λ o i.
      goes_whole p lives c a.at o whole (subst (λ (x : Input Msg). In o (deed_of p c x (store_at p c inputs a.at)).outs) (sym a.is) (g.outs o i)) in
      (told_one 1 (inl refl) a (done _ both.0), told_one 2 (inr refl) a (done _ both.1))

  -- and a cub tells of a stop only so
  pub told_by : (c i k v s q x : ℕ) (small : c < p.cubs) (low : i < lives.count c) → (k ≡ 1) ⊎ (k ≡ 2) → (w : Instance) → w.0 ≡ v → (tag : Tag) → tag.slot.0 ≡ s → tag.visit ≡ q → (link : LinkNo) (input : Input Msg)
      → lives.input c i ≡ input → beat_at (lives.input c) i ≡ x → In (out.Send link (msg.Deschedule w (Some tag))) (deed_of p c input (store_at p c (lives.input c) i)).outs → IsTold p R c k v s q x
  told_by c i k v s q x small low which w same tag slot visit link (Take stamp way m) is eb d =
      let inputs : ℕ → Input Msg = lives.input c in
      let g = sent_passes p c stamp way link m (store_at p c inputs i) w (Some tag) d in
      let tags : tag ≡ tag_behind g.key = some_is tag (tag_behind g.key) g.tag_is in
      let made : stamp ≡ record { beat = x; reading = stamp.reading } = stamp_made stamp x (sym (ap (λ (y : Input Msg). (stamp_of y).beat) is) ∙ eb) in
      let slots : g.key.0.0 ≡ s = ap (λ (y : Tag). y.slot.0) (sym tags) ∙ slot in
      let next : q ≡ g.key.1 + 1 = sym visit ∙ ap (λ (y : Tag). y.visit) tags in
      let reads : reading_at inputs i ≡ stamp.reading = ap (λ (y : Input Msg). (stamp_of y).reading) is in
      let high = ((are c small).reads i low).1 in
      let tm : time_of p (beat_at inputs i) ≡ time_of p x = ap (λ b. time_of p b) eb in
      let soon = reached_due p stamp g.key.0 (g.key.1 + 1) g.reached in
      let dq : due p s q ≡ due p g.key.0.0 (g.key.1 + 1) = ap (λ n. due p n q) (sym slots) ∙ ap (λ n. due p g.key.0.0 n) next in
      record {
        visit = g.key.1;
        next = next;
        passed = record {
          small = small;
          at = i;
          done = low;
          reading = stamp.reading;
          link = way;
          message = m;
          is = is ∙ ap (λ (y : Stamp). Take y way m) made;
          formed = formed c small i stamp way m low is;
          instance = w;
          same = same;
          key = g.key;
          slot = slots;
          visit = refl;
          passes = subst (λ (y : Stamp). PassesOn p c y m (store_at p c inputs i) w g.key) made g.passes;
        };
        ahead = which;
        soon = omega arith;
      }
  told_by c i k v s q x small low which w same tag slot visit link (Tick stamp) is eb d =
      absurd (tick_meek p c plan small stamp (store_at p c (lives.input c) i) link (msg.Deschedule w (Some tag)) (λ n. n) (λ n. n) (λ n e. absurd (cc)) d)

  pub told : {a k v s q x : ℕ} → ToldAt p lives a k v s q x → IsTold p R a k v s q x
  told {a} {k} {v} {s} {q} {x} h =
      let d = h.did in
      told_by a d.at k v s q x d.small d.done h.ahead h.instance h.same h.tag h.slot h.visit (way_ahead p a k) (lives.input a d.at) refl d.in_beat
      (was_put_out p lives a d.at (out.Send (way_ahead p a k) (msg.Deschedule h.instance (Some h.tag))) d.did)

  -- It sends a deschedule to both in one event, to the next one first. So a cub that tells one of the next two cubs tells
  -- the next one, even if its death cuts that event off.
  next_out : (cut : Option ℕ) (c i : ℕ) → c < p.cubs → i < lives.count c → (w : Instance) (tag : Tag) (link : LinkNo) (k : Input Msg)
      → lives.input c i ≡ k → In (out.Send link (msg.Deschedule w (Some tag))) (cut_outs cut (deed_of p c k (store_at p c (lives.input c) i)).outs)
      → In (out.Send (way_ahead p c 1) (msg.Deschedule w (Some tag))) (cut_outs cut (deed_of p c k (store_at p c (lives.input c) i)).outs)
  next_out cut c i small low w tag link (Take stamp way m) is goes =
      let h : Store = store_at p c (lives.input c) i in
      let outs : List (Out Msg) = (deed_of p c (Take stamp way m) h).outs in
      let o : Out Msg = out.Send link (msg.Deschedule w (Some tag)) in
      let g = sent_passes p c stamp way link m h w (Some tag) (from_cut_outs cut o outs goes) in
      let tags : tag ≡ tag_behind g.key = some_is tag (tag_behind g.key) g.tag_is in
      let pass = taking_passes p c stamp way m h w g.key (formed c small i stamp way m low is) g.passes in
      let near : Out Msg = out.Send (way_ahead p c 1) (msg.Deschedule w (Some (tag_behind g.key))) in
      let sends = pass_first p c stamp w g.key pass.before g.reached in
      let rest : List (Out Msg) = sends.0 ++ pass.first.0 in
      let is_front : near ∷ rest ≡ outs = ap (λ (os : List (Out Msg)). os ++ pass.first.0) (sym sends.1) ∙ pass.first.1 in
      let there : In near (cut_outs cut outs) =
      subst (λ (os : List (Out Msg)). In near (cut_outs cut os)) is_front
      (first_goes cut o near rest (subst (λ (os : List (Out Msg)). In o (cut_outs cut os)) (sym is_front) goes)) in
      subst (λ (t : Tag). In (out.Send (way_ahead p c 1) (msg.Deschedule w (Some t))) (cut_outs cut outs)) (sym tags) there
  next_out cut c i small low w tag link (Tick stamp) is goes =
      let h : Store = store_at p c (lives.input c) i in
      let d = from_cut_outs cut (out.Send link (msg.Deschedule w (Some tag))) (deed_of p c (Tick stamp) h).outs goes in
      absurd (tick_meek p c plan small stamp h link (msg.Deschedule w (Some tag)) (λ n. n) (λ n. n) (λ n e. absurd (cc)) d)

  pub told_next : {a k v s q x : ℕ} → ToldAt p lives a k v s q x → ToldAt p lives a 1 v s q x
  told_next {a} {k} h =
      let d = h.did in
      let here : Input Msg = lives.input a d.at in
      let next = next_out (cut_in lives a d.at) a d.at d.small d.done h.instance h.tag (way_ahead p a k) here (refl {a = here}) d.did in
      record {
        ahead = inl refl;
        instance = h.instance;
        same = h.same;
        tag = h.tag;
        slot = h.slot;
        visit = h.visit;
        did = record { small = d.small; at = d.at; done = d.done; in_beat = d.in_beat; did = next };
      }

  -- who passes on was reached
  pub pass_reached : {c v s q y : ℕ} → PassedAt p lives c v s q y → ReachedBy R c v y
  pass_reached {c} {v} {s} {q} {y} a =
      let k = stop_of_passing p c (lives.count c) (lives.input c) (formed c a.small) a.at v (passing_at p plan lives are formed beyond a) in
      let by = k.by in
      let low = a.done in
      let rise = beats_rise p (lives.count c) (lives.input c) (are c a.small) k.at a.at by a.done in
      let beats = beat_of p plan lives are formed beyond a in
      record { beat = beat_at (lives.input c) k.at; reached = reached_at p lives c k.at v a.small (omega arith) k.stop; by = omega arith }

  abbrev pub How : ℕ → ℕ → ℕ → ℕ → ℕ → Type 0
  How c v s q y = (c ≡ cub_of p q) × (ForTag R c v s q y ⊎ (ForRecord R c v s q y ⊎ ForState p R c v s q y))

  -- from a tag
  by_tag : {c y : ℕ} (w : Instance) (tag : Tag) (k : Key) → TookMessage p lives c (msg.Deschedule w (Some tag)) y
      → position_at p c tag.slot tag.visit ≡ Some k → How c w.0 k.0.0 k.1 y
  by_tag {c} w tag k took at =
      let parts = position_parts p c tag.slot tag.visit k at in (
        parts.2,
        inl (record {
          visit = tag.visit;
          got = record { instance = w; same = refl; tag = tag; slot = sym (ap (λ x. x.0) parts.0); visit = refl; took = took };
          which = parts.1;
        }),
      )

  -- from the earliest record
  by_record : {c y : ℕ} (w : Instance) (k : Key) (took : TookMessage p lives c (msg.Deschedule w None) y)
      → FirstLine w (store_at p c (lives.input c) took.at).view.lines k → How c w.0 k.0.0 k.1 y
  by_record {c} {y} w k took f =
      let inputs : ℕ → Input Msg = lives.input c in
      let small : c < p.cubs = took.small in
      let i : ℕ = took.at in
      let low = took.done in
      let rec : Rec = f.line.rec in
      let t = line_taken p c plan small inputs i f.line f.there in
      let before = t.before in
      let kept = kept_at p c plan small inputs i (λ j m. (are c small).short j (omega arith)) in
      let of : IsRecordOf p c rec = all_in (IsLineOf p c) f.line (store_at p c inputs i).view.lines kept.lines f.there in
      let beats : beat_at inputs i ≡ y = ap (λ (x : Input Msg). (stamp_of x).beat) took.is in
      let qs : k.1 ≡ visit_here rec.kind rec.visit = ap (λ (x : Key). x.1) (sym f.at) in (
        sym of.here ∙ ap (λ n. cub_of p n) (sym qs),
        inr (inl (record {
          got = record { instance = w; same = refl; took = took };
          tenancy = rec.tenancy;
          same = f.same;
          slot = ap (λ (x : Key). x.0.0) f.at;
          visit = rec.visit;
          beat = beat_at inputs t.at;
          entered = subst (λ b. EnteredAmong R c rec.tenancy rec.visit (beat_at inputs t.at) b) beats
              (entered_among p lives are c t.at i rec small low (ap is_tick_input took.is) (omega arith)
              (goes_whole p lives c t.at (taken_out rec) (whole_before lives c t.at i t.before low) t.taken));
          life = subst (λ b. IsSameLife R c (beat_at inputs t.at) b) beats
              (same_life p lives beyond are fits c t.at i small (omega arith) low);
          which = ⊎_elim (λ e. inl (qs ∙ e)) (λ e. inr (qs ∙ e)) (here_visit rec.kind rec.visit);
        })),
      )

  -- the hold of a state that is passed on began with a deschedule that gave no position
  pub no_position : (c i v y : ℕ) → c < p.cubs → i < lives.count c → beat_at (lives.input c) i ≡ y → (x : Holding)
      → x.instance.0 ≡ v → x.passed ≡ false → In x (store_at p c (lives.input c) i).held → GotBareInLife R c v y ⊎ IsStray p R c v y
  no_position c i v y small low eb x same unpassed here =
      let inputs : ℕ → Input Msg = lives.input c in
      let b = unpassed_since p c inputs i x unpassed here in
      let before = b.before in
      let held : List Holding = (store_at p c inputs b.at).held in
      let s = b.came.begins.stop in
      let rise = beats_rise p (lives.count c) inputs (are c small) b.at i (omega arith) low in
      ⊎_elim
      (λ g. inl (record {
        beat = beat_at inputs b.at;
        got = g.1;
        by = omega arith;
        life = subst (λ n. IsSameLife R c (beat_at inputs b.at) n) eb (same_life p lives beyond are fits c b.at i small (omega arith) low);
      }))
      (λ g. inr (record {
        slot = g.0.slot.0;
        visit = g.0.visit;
        got = record { beat = beat_at inputs b.at; got = g.2; by = omega arith };
        away = λ to.
            let k = beside_position p c g.0.slot g.0.visit to in
            let one = same_instance x.instance s.instance (sym s.same) in
            let unheld = subst (λ (w : Instance). is_held held w ≡ false) one b.came.unheld in
            let now : IsPassing p c inputs b.at x.instance.0 = record {
              stamp = s.stamp;
              link = s.link;
              message = msg.Deschedule s.instance (Some g.0);
              is = s.is ∙ ap (λ (n : Option Tag). Take s.stamp s.link (msg.Deschedule s.instance n)) g.1;
              instance = s.instance;
              same = s.same;
              key = k.0;
              passes = (refl, k.1, hold_must p s.stamp s.instance (store_at p c inputs b.at) unheld);
            } in
            let marked = passing_marks p c inputs (lives.count c) (formed c small) b.at x.instance.0 (omega arith) now x
            (b.since (suc b.at) (omega arith) (omega arith)) refl in
            no_both marked unpassed;
      }))
      (got_stop p lives c b.at v small (omega arith) (stop_as p c inputs b.at x.instance.0 v same s))

  -- from a state that comes later
  by_state : {c y : ℕ} (s : State) (k : Key) (took : TookMessage p lives c (msg.ViewerState s) y)
      → position_at p c s.tenancy.slot s.visit ≡ Some k
      → must_pass (store_at p c (lives.input c) took.at).held s.tenancy.instance ≡ true → How c s.tenancy.instance.0 k.0.0 k.1 y
  by_state {c} {y} s k took at must =
      let inputs : ℕ → Input Msg = lives.input c in
      let parts = position_parts p c s.tenancy.slot s.visit k at in
      let beats : beat_at inputs took.at ≡ y = ap (λ (x : Input Msg). (stamp_of x).beat) took.is in
      let x = must_in s.tenancy.instance (store_at p c inputs took.at).held must in (
        parts.2,
        inr (inr (record {
          tenancy = s.tenancy;
          same = refl;
          slot = sym (ap (λ x. x.0) parts.0);
          visit = s.visit;
          got = took;
          which = parts.1;
          unplaced = no_position c took.at s.tenancy.instance.0 y took.small took.done beats x.0 x.2 x.3 x.1;
        })),
      )

  how_of : {c y : ℕ} (m : Msg) (w : Instance) (k : Key) (took : TookMessage p lives c m y)
      → PassesOn p c (record { beat = y; reading = took.reading }) m (store_at p c (lives.input c) took.at) w k
      → How c w.0 k.0.0 k.1 y
  how_of {c} {y} (msg.ViewerState s) w k took a =
      let h : Store = store_at p c (lives.input c) took.at in
      subst (λ (u : Instance). How c u.0 k.0.0 k.1 y) a.2
      (by_state s k took a.1 (subst (λ (u : Instance). must_pass h.held u ≡ true) (sym a.2) a.4))
  how_of {c} {y} (msg.Deschedule u (Some tag)) w k took a =
      subst (λ (v : Instance). How c v.0 k.0.0 k.1 y) a.0 (by_tag u tag k took a.1)
  how_of {c} {y} (msg.Deschedule u None) w k took a =
      let t = subst (λ (v : Instance). (z : TookMessage p lives c (msg.Deschedule v None) y) × (z.at ≡ took.at)) a.0 (took, refl) in
      let lines : ℕ → List Line = λ i. (store_at p c (lives.input c) i).view.lines in
      by_record w k t.0 (subst (λ (i : ℕ). FirstLine w (lines i) k) (sym t.1) (first_line w (lines took.at) k _ refl a.1))
  how_of other w k took a = absurd a

  pub pass : {c v s q y : ℕ} → PassedAt p lives c v s q y → IsPass p R c v s q y
  pass {c} {v} {s} {q} {y} a =
      let took : TookMessage p lives c a.message y =
      record { small = a.small; at = a.at; done = a.done; reading = a.reading; link = a.link; is = a.is } in
      let h = subst (λ (n : ℕ). How c n s q y) a.same
      (subst (λ (n : ℕ). How c a.instance.0 n q y) a.slot
      (subst (λ (n : ℕ). How c a.instance.0 a.key.0.0 n y) a.visit (how_of a.message a.instance a.key took a.passes))) in
      record { at = h.0; reached = pass_reached a; how = h.1 }
