-- Who has a record of an instance when a deschedule without a tag comes passes it on, or got one with a tag before.
use Rattle.std.proofs.Common.{◌≡◌, ℕ, ◌+◌, ◌<◌, ◌≤◌, List, [], ◌∷◌, find, Option, Some, None, refl, sym, ap, subst, ◌∙◌, arith, ⊎_elim, inl, inr, eq-or-lt_of_le}
use Rattle.std.specs.Prelude.{◌⊎◌}
use Rattle.std.proofs.lemmas.Bool.{cases_lt, eq-eqb}
use Rattle.tiger_base.specs.declared.number.Instance.{Instance}
use Rattle.tiger_base.specs.declared.tenancy.Kind.{Kind}
use Rattle.tiger_base.specs.declared.tenancy.Rec.{Rec}
use Rattle.tiger_base.specs.declared.tenancy.Tag.{Tag}
use Rattle.tiger_base.specs.declared.tenancy.Tenancy.{Tenancy}
use Rattle.tiger_base.specs.declared.message.Msg.{Msg}
use Rattle.tiger_base.specs.declared.message.Msg.TheVariants as msg
use Rattle.slot_plan.specs.declared.params.Params.{Params}
use Rattle.slot_plan.specs.Conditions.{IsPlan}
use Rattle.slot_plan.specs.Times.{time_of, due}
use Rattle.node_kit.specs.Steps.{Input, stamp_of}
use Rattle.node_kit.specs.Steps.Input.{Take, Tick}
use Rattle.partial_view.specs.declared.line.Line.{Line}
use Rattle.partial_view.specs.Lines as lines
use Rattle.partial_view.specs.Views.{first_of}
use Rattle.cub_rules.specs.declared.store.Store.{Store}
use Rattle.cub_rules.specs.Messages.{position_by, position_of}
use Rattle.proof_lives.specs.Lives.{Lives, AreLives, store_at, deed_of, outs_at, outs_in, beat_at, reading_at}
use Rattle.run_facts.specs.Events.{is_tick_input}
use Rattle.lists.specs.Elements.{In}
use Rattle.proof_lives.specs.Facts.{TookAt, InsertedAt}
use Rattle.proof_lives.proofs.Cuts.{was_put_out}
use Rattle.proof_lives.proofs.Inputs.{stop_of}
use Rattle.proof_lives.proofs.Lines.{MayAt, stands}
use Rattle.lists.proofs.Elements.{chosen}
use Rattle.proof_lives.proofs.Moves.{Stays, taken_out}
use Rattle.proof_lives.proofs.Order.{beats_rise, behind}
use Rattle.proof_schedule.specs.Facts.{Facts, PassedBy, GotTagBy}
use Rattle.proof_lives.specs.FactsBy.{Beyond, facts_by}
use Rattle.proof_lives.specs.StopFactsOf.{GotBareAt}
use Rattle.proof_lives.specs.HoldsHere.{IsFormed}
use Rattle.proof_lives.proofs.Begun.{IsStop}
use Rattle.proof_lives.proofs.Holds.{no_both}
use Rattle.proof_lives.proofs.HoldLaws.{taken_free, input_free, stop_passing, passed_by, got_stop}
use Rattle.proof_lives.proofs.Persist.{unheld_released}

-- an instance that has a line has a first one
pub first_some : (v : Instance) (ls : List Line) (x : Line) → In x ls → x.rec.tenancy.instance.0 ≡ v.0 → (z : Line) × (first_of v ls ≡ Some z)
unfolding first_of
first_some v [] x i e = absurd i
first_some v (z ∷ zs) x i e =
    chosen (λ (o : Option Line). (y : Line) × (o ≡ Some y)) (lines.is_of v z) (Some z) (find (lines.is_of v) zs)
    (λ _. (z, refl))
    (λ f. ⊎_elim
    (λ q. absurd (no_both (eq-eqb z.rec.tenancy.instance.0 v.0 (ap (λ (y : Line). y.rec.tenancy.instance.0) (sym q) ∙ e)) f))
    (λ q. first_some v zs x q e)
    i)

module _ (p : Params) (plan : IsPlan p) (lives : Lives) (are : AreLives p lives) (formed : (c : ℕ) → c < p.cubs → IsFormed p (lives.count c) (lives.input c)) (beyond : Beyond) where
  abbrev pub R : Facts
  R = facts_by p lives beyond

  -- passed on, or got with a tag
  abbrev pub Told : ℕ → ℕ → ℕ → Type 0
  Told c v y = PassedBy R c v y ⊎ ((s q : ℕ) × GotTagBy R c v s q y)

  told_later : {c v : ℕ} (y z : ℕ) → y ≤ z → Told c v y → Told c v z
  told_later y z le k = ⊎_elim
      (λ a. let by = a.by in inl (record { slot = a.slot; visit = a.visit; beat = a.beat; passed = a.passed; by = omega arith }))
      (λ a. let by = a.2.by in inr (a.0, a.1, record { beat = a.2.beat; got = a.2.got; by = omega arith }))
      k

  module _ (c : ℕ) (small : c < p.cubs) where
    abbrev inputs : ℕ → Input Msg
    inputs = lives.input c

    -- at a deschedule, with a tag or with a record in the view
    at_stop : (i : ℕ) (r : Rec) → i < lives.count c → (s : IsStop p c inputs i r.tenancy.instance.0)
        → Stays r (store_at p c inputs i).view.lines → Told c r.tenancy.instance.0 (beat_at inputs i)
    at_stop i r low s stays = ⊎_elim
        (λ g.
        let v : Instance = s.instance in
        let mine = ap (λ (q : Rec). q.tenancy.instance.0) stays.same ∙ sym s.same in
        let f = first_some v (store_at p c inputs i).view.lines stays.line stays.there mine in
        let bare = s.is ∙ ap (λ (o : Option Tag). Take s.stamp s.link (msg.Deschedule v o)) g.0 in
        inl (subst (λ (w : ℕ). PassedBy R c w (beat_at inputs i)) s.same
        (passed_by p plan lives are formed beyond small low refl
        (stop_passing p c (lives.count c) inputs (formed c small) i s.stamp s.link v None (position_of f.0.rec) bare (ap position_by f.1)))))
        (λ g. inr (g.0.slot.0, g.0.visit, record { beat = beat_at inputs i; got = g.2; by = omega arith }))
        (got_stop p lives c i r.tenancy.instance.0 small low s)

    -- before it is due a record leaves at a deschedule alone
    leaves_at_stop : (i : ℕ) (r : Rec) (k : Input Msg) → inputs i ≡ k → MayAt p k r
        → reading_at inputs i < due p r.tenancy.slot.0 r.visit → IsStop p c inputs i r.tenancy.instance.0
    leaves_at_stop i r (Tick stamp) is may early =
        let reads : reading_at inputs i ≡ stamp.reading = ap (λ (x : Input Msg). (stamp_of x).reading) is in
        absurd (omega arith)
    leaves_at_stop i r (Take stamp link m) is may early =
        let s = stop_of m r may in
        record { stamp = stamp; link = link; instance = s.0; tag = s.1; is = is ∙ ap (λ (n : Msg). Take stamp link n) s.2; same = sym s.3 }

    -- a record that was taken before a deschedule of its instance, and is not due
    by_stop : (i j : ℕ) (r : Rec) → j < i → i < lives.count c → IsStop p c inputs i r.tenancy.instance.0
        → In (taken_out r) (outs_at p c inputs j) → reading_at inputs i < due p r.tenancy.slot.0 r.visit
        → Told c r.tenancy.instance.0 (beat_at inputs i)
    by_stop i j r before low s taken early = ⊎_elim
        (λ k. at_stop i r low s k)
        (λ w. ⊎_elim
        (λ m.
        let rise = (are c small).rising j i (omega arith) low in
        let d = leaves_at_stop j r (inputs j) refl m (omega arith) in
        let stop : Msg = msg.Deschedule d.instance d.tag in
        let h : Store = store_at p c inputs j in
        let t = taken_free p c d.stamp d.link stop h r (subst (λ (x : Input Msg). In (taken_out r) (deed_of p c x h).outs) d.is taken) in
        let z : stop ≡ msg.ViewerState t.state = t.is in
        absurd (cc))
        (λ u.
        let b = u.before in
        let rise = (are c small).rising u.at i (omega arith) low in
        let beats = beats_rise p (lives.count c) inputs (are c small) u.at i (omega arith) low in
        told_later (beat_at inputs u.at) (beat_at inputs i) beats
        (at_stop u.at r (omega arith) (leaves_at_stop u.at r (inputs u.at) refl u.may (omega arith)) u.has))
        w)
        (stands p c plan small inputs i j r before taken)

  bare_stop : {c v y : ℕ} (g : GotBareAt p lives c v y) → IsStop p c (lives.input c) g.took.at v
  bare_stop g = record { stamp = _; link = g.took.link; instance = g.instance; tag = None; is = g.took.is; same = g.same }

  -- a record of the same beat was taken before the deschedule
  took_before : {c n x y : ℕ} {t : Tenancy} (g : GotBareAt p lives c t.instance.0 y) (w : TookAt p lives c t n x) → x ≤ y
      → w.done.at < g.took.at
  took_before {c} {n} {x} {y} {t} g w le =
      let d = w.done in
      let k = g.took in
      let inputs : ℕ → Input Msg = lives.input c in
      let h : ℕ → Store = store_at p c inputs in
      let r : Rec = record { tenancy = t; visit = n; kind = w.kind } in
      let life = are c k.small in
      let done = d.done in
      let high = k.done in
      let xb = d.in_beat in
      let yb : beat_at inputs k.at ≡ y = ap (λ (i : Input Msg). (stamp_of i).beat) k.is in
      ⊎_elim
      (λ (q : d.at < k.at). q)
      (λ (q : k.at ≤ d.at). absurd (⊎_elim
      (λ (e : k.at ≡ d.at).
      let stop : Msg = msg.Deschedule g.instance None in
      let did = subst (λ (i : ℕ). In (taken_out r) (outs_at p c inputs i)) (sym e) (was_put_out p lives c d.at (taken_out r) d.did) in
      let here = subst (λ (i : Input Msg). In (taken_out r) (deed_of p c i (h k.at)).outs) k.is did in
      let t = taken_free p c (record { beat = y; reading = k.reading }) k.link stop (h k.at) r here in
      let z : stop ≡ msg.ViewerState t.state = t.is in
      absurd (cc))
      (λ (l : k.at < d.at).
      let free = input_free p c (inputs d.at) (h d.at) r w.message (was_put_out p lives c d.at (taken_out r) d.did) in
      let u = unheld_released p c inputs (lives.count c) (formed c k.small) d.at k.at t.instance.0 l (omega arith) (bare_stop g) t.instance refl free in
      let before = u.before in
      let from = u.from in
      let later = behind p (lives.count c) inputs life u.at d.at before done (ap is_tick_input u.is.is) in
      let rise = beats_rise p (lives.count c) inputs life k.at u.at (omega arith) (omega arith) in
      let z : ⊥ = omega arith in z)
      (eq-or-lt_of_le q)))
      (cases_lt d.at k.at)

  -- who has a record when a deschedule without a tag comes
  pub record_passes : {c n x y : ℕ} {t : Tenancy} → GotBareAt p lives c t.instance.0 y → (TookAt p lives c t n x × (x ≤ y)) ⊎ (InsertedAt p lives c t n x × (x < y))
      → time_of p y + p.skew < due p t.slot.0 n → Told c t.instance.0 y
  record_passes {c} {n} {x} {y} {t} g entered undue =
      let k = g.took in
      let inputs : ℕ → Input Msg = lives.input c in
      let low = k.done in
      let life = are c k.small in
      let beats : beat_at inputs k.at ≡ y = ap (λ (i : Input Msg). (stamp_of i).beat) k.is in
      let high = (life.reads k.at k.done).1 in
      let tm : time_of p (beat_at inputs k.at) ≡ time_of p y = ap (λ b. time_of p b) beats in
      let told = λ (kind : Kind) (j : ℕ) (before : j < k.at) (goes : In (taken_out (record { tenancy = t; visit = n; kind = kind })) (outs_in p lives c j)).
      let did = was_put_out p lives c j (taken_out (record { tenancy = t; visit = n; kind = kind })) goes in
      subst (λ b. Told c t.instance.0 b) beats
      (by_stop c k.small k.at j (record { tenancy = t; visit = n; kind = kind }) before k.done (bare_stop g) did (omega arith)) in
      ⊎_elim
      (λ w. told w.0.kind w.0.done.at (took_before g w.0 w.1) w.0.done.did)
      (λ w.
      let d = w.0.done in
      let lt = w.1 in
      let eb = d.in_beat in
      told w.0.kind d.at (⊎_elim
      (λ (q : d.at < k.at). q)
      (λ (q : k.at ≤ d.at). let rise = beats_rise p (lives.count c) inputs life k.at d.at q d.done in absurd (omega arith))
      (cases_lt d.at k.at)) d.did)
      entered
