-- A state that is got: each record that it gives finds its place taken, or takes it; or its instance is held, and was passed on.
use Rattle.std.proofs.Common.{◌≡◌, ℕ, ◌<◌, ◌≤◌, true, false, List, Some, refl, sym, ap, subst, ◌∙◌, arith, ⊎_elim, inl, inr}
use Rattle.std.proofs.lemmas.Bool.{cases_Bool, and_from, le-leb}
use Rattle.tiger_base.specs.declared.number.Instance.{Instance}
use Rattle.tiger_base.specs.declared.number.LinkNo.{LinkNo}
use Rattle.tiger_base.specs.declared.number.Stamp.{Stamp}
use Rattle.tiger_base.specs.declared.tenancy.Rec.{Rec}
use Rattle.tiger_base.specs.declared.tenancy.State.{State}
use Rattle.tiger_base.specs.declared.tenancy.Tenancy.{Tenancy}
use Rattle.tiger_base.specs.declared.message.Msg.{Msg}
use Rattle.tiger_base.specs.declared.message.Msg.TheVariants as msg
use Rattle.slot_plan.specs.declared.params.Params.{Params}
use Rattle.slot_plan.specs.Conditions.{IsPlan}
use Rattle.slot_plan.specs.Times.{cub_of, due, time_of}
use Rattle.slot_plan.specs.Keys.{Key}
use Rattle.node_kit.specs.declared.course.Order.{Order}
use Rattle.node_kit.specs.Steps.{Input, stamp_of}
use Rattle.node_kit.specs.Steps.Input.{Take}
use Rattle.viewer_state.specs.States.{is_visit_of}
use Rattle.deschedule.specs.Holds.{is_held, must_pass}
use Rattle.cub_rules.specs.declared.store.Store.{Store}
use Rattle.cub_rules.specs.Messages.{position_at, taking}
use Rattle.cub_rules.specs.Comebacks.{lets_in, due_of_record}
use Rattle.cub_changes.specs.Causes.{MayTake}
use Rattle.cub_changes.specs.Causes.Stage.{OnMessage}
use Rattle.proof_schedule.specs.Facts.{Facts, EnteredAmong, IsReleasedBy, PassedBy, IsBeside, IsGiven, IsSameLife, IsOpenTo, enters_from}
use Rattle.proof_schedule.specs.StateLaws.{Found, Meeting, Taken}
use Rattle.proof_lives.specs.Lives.{Lives, AreLives, store_at, outs_at, outs_in, deed_of, beat_at}
use Rattle.run_facts.specs.Events.{is_tick_input}
use Rattle.lists.specs.Elements.{In}
use Rattle.proof_lives.specs.Facts.{TookAt, TookMessage}
use Rattle.proof_lives.proofs.Cuts.{was_put_out, whole_before, goes_whole}
use Rattle.proof_lives.proofs.Going.{message_goes}
use Rattle.proof_lives.proofs.Moves.{taken_out}
use Rattle.proof_lives.proofs.Inputs.{take_of, got_message, entered_among}
use Rattle.proof_lives.proofs.Order.{beats_rise}
use Rattle.proof_lives.proofs.Taking.{message_took, taking_hears}
use Rattle.proof_lives.proofs.Telling.{taking_told, taking_places}
use Rattle.proof_lives.specs.FactsBy.{Beyond, facts_by, facts_among}
use Rattle.proof_lives.proofs.Begun.{IsStop, IsPassing, passed_since}
use Rattle.proof_lives.proofs.Holds.{held_in, all_passed}
use Rattle.proof_lives.proofs.HoldLaws.{beside_position, PassingBy, passed_by}
use Rattle.proof_lives.proofs.SameLife.{same_life, lets_in_open, let_in_late}
use Rattle.proof_lives.specs.InOrder.{CameInOrder, AreInOrder}
use Rattle.proof_lives.proofs.Standing.{standing}
use Rattle.proof_lives.proofs.Reaching.{stop_below, let_go}
use Rattle.proof_lives.proofs.Fitting.{Fits}

-- who is given a record stands beside the state's visit
pub given_beside : (p : Params) (c : ℕ) (t : Tenancy) (m n : ℕ) → IsGiven p c t m n → IsBeside p c m
given_beside p c t m n given = ⊎_elim (λ g. g.1) (λ g. inr (g.2 ∙ ap (λ k. cub_of p k) g.0)) given

module _ (p : Params) (plan : IsPlan p) (lives : Lives) (beyond : Beyond) (orders : List Order)
    (order : AreInOrder p lives beyond orders) (fits : Fits p lives beyond) where
  -- the facts of one life of each cub, and the same with what is sent in any of their lives
  abbrev Here : Facts
  Here = facts_by p lives beyond

  abbrev R : Facts
  R = facts_among p lives beyond

  -- what is said of a cub's own deeds is the same of both
  among_released : {c v b : ℕ} → IsReleasedBy p Here c v b → IsReleasedBy p R c v b
  among_released r = record { beat = r.beat; reached = r.reached; over = r.over }

  among_passed : {c v b : ℕ} → PassedBy Here c v b → PassedBy R c v b
  among_passed r = record { slot = r.slot; visit = r.visit; beat = r.beat; passed = r.passed; by = r.by }

  -- who has a place where a record of a state goes: one that was taken, behind each deschedule of its instance that came before
  found_at : (c i at y s n : ℕ) (t : Tenancy) (m : ℕ) (q : Rec) → (came : CameInOrder p lives beyond c i t m y) → c < p.cubs → i < lives.count c → is_tick_input (lives.input c i) ≡ false
      → beat_at (lives.input c) i ≡ y → at ≤ i → In (taken_out q) (outs_in p lives c at) → q.tenancy.slot.0 ≡ s → q.visit ≡ n
      → ((j : ℕ) → j < i → IsStop p c (lives.input c) j q.tenancy.instance.0 → j < at)
      → Found p R c s n y came.from came.ahead came.beat
  found_at c i at y s n t m q came small low message eb by taken slot visit since =
      let inputs : ℕ → Input Msg = lives.input c in
      let v : ℕ = q.tenancy.instance.0 in
      let entered = entered_among p lives order.lived c at i q small low message by taken in
      let gone : (j : ℕ) → j < i → IsStop p c inputs j v → IsReleasedBy p R c v (beat_at inputs at) = λ j l stop.
      among_released (let_go p plan lives order.lived order.formed beyond c at j q small (omega arith) (since j l stop) (was_put_out p lives c at (taken_out q) taken) stop) in
      record {
        holder = q.tenancy;
        slot = slot;
        beat = beat_at inputs at;
        entered = subst (λ k. EnteredAmong R c q.tenancy k (beat_at inputs at) y) visit
            (subst (λ b. EnteredAmong R c q.tenancy q.visit (beat_at inputs at) b) eb entered);
        behind = λ u w x told le life.
            let b = came.behind v u w x told le life in
            gone b.at b.before (record { stamp = b.stamp; link = b.link; instance = b.instance; tag = Some b.tag; is = b.is; same = b.same });
        since = λ b g less life. let w = stop_below p lives order.lived c i v b low g (omega arith) in gone w.at w.before w.stop;
        life = subst (λ b. IsSameLife R c (beat_at inputs at) b) eb
            (same_life p lives beyond order.lived fits c at i small (omega arith) low);
      }

  -- a state of an instance that is held passes it on, or it was passed on in this hold
  held_passing : (c i : ℕ) (stamp : Stamp) (link : LinkNo) (s : State) (k : Key) → (small : c < p.cubs) → i < lives.count c → lives.input c i ≡ Take stamp link (msg.ViewerState s)
      → is_visit_of s.tenancy s.visit ≡ true → position_at p c s.tenancy.slot s.visit ≡ Some k → is_held (store_at p c (lives.input c) i).held s.tenancy.instance ≡ true
      → PassingBy p c (lives.count c) (lives.input c) (order.formed c small) i s.tenancy.instance.0
  held_passing c i stamp link s k small low is visit at held =
      let inputs : ℕ → Input Msg = lives.input c in
      let h : Store = store_at p c inputs i in
      let v : Instance = s.tenancy.instance in
      ⊎_elim
      (λ (must : must_pass h.held v ≡ true).
      record { at = i; by = omega arith; passing = record { stamp = stamp; link = link; message = msg.ViewerState s; is = is; instance = v; same = refl; key = k; passes = (visit, at, refl, held, must) } })
      (λ (none : must_pass h.held v ≡ false).
      let x = held_in v h.held held in
      let d = passed_since p c inputs i x.0 (all_passed v x.0 h.held x.1 x.2 none) x.1 in
      let before = d.before in
      record { at = d.at; by = omega arith; passing = subst (λ (w : ℕ). IsPassing p c inputs d.at w) x.2 d.came })
      (cases_Bool (must_pass h.held v))

  -- viewer state
  pub meets : {c m y : ℕ} {t : Tenancy} → TookMessage p lives c (msg.ViewerState (record { tenancy = t; visit = m })) y → t.first ≤ m → m ≤ t.last
      → Meeting p R c t m y
  meets {c} {m} {y} {t} g low high =
      let inputs : ℕ → Input Msg = lives.input c in
      let h : Store = store_at p c inputs g.at in
      let s : State = record { tenancy = t; visit = m } in
      let stamp : Stamp = record { beat = y; reading = g.reading } in
      let eb : beat_at inputs g.at ≡ y = ap (λ (i : Input Msg). (stamp_of i).beat) g.is in
      let message : is_tick_input (inputs g.at) ≡ false = ap is_tick_input g.is in
      let visit : is_visit_of t m ≡ true = and_from _ _ (le-leb t.first m low) (le-leb m t.last high) in
      let form = order.formed c g.small g.at stamp g.link (msg.ViewerState s) g.done g.is in
      let came : CameInOrder p lives beyond c g.at t m y = order.states c g.at stamp g.link t m g.small g.done g.is in
      record {
        from = came.from;
        ahead = came.ahead;
        beat = came.beat;
        sent = came.sent;
        to = came.to;
        later = came.later;
        soon = came.soon;
        tags = λ v u q x told le life.
            let b = came.behind v u q x told le life in
            let before = b.before in
            let gd = g.done in
            let rise = beats_rise p (lives.count c) inputs (order.lived c g.small) b.at g.at (omega arith) g.done in
            record {
              beat = beat_at inputs b.at;
              got = record {
                instance = b.instance;
                same = b.same;
                tag = b.tag;
                slot = b.slot;
                visit = b.visit;
                took = got_message p lives c b.at b.stamp b.link (msg.Deschedule b.instance (Some b.tag)) g.small (omega arith) b.is;
              };
              by = omega arith;
            };
        places = λ n given open_here. ⊎_elim
            (λ (e : is_held h.held t.instance ≡ true).
            let k = beside_position p c t.slot m (given_beside p c t m n given) in
            inr (among_passed (passed_by p plan lives order.lived order.formed beyond g.small g.done eb (held_passing c g.at stamp g.link s k.0 g.small g.done g.is visit k.1 e))))
            (λ (e : is_held h.held t.instance ≡ false).
            inl (⊎_elim
            (λ w.
            let d = standing p c plan g.small (lives.count c) inputs (order.formed c g.small) g.at (let gd = g.done in omega arith) w.0 w.1 in
            let before = d.before in
            let whole = whole_before lives c d.at g.at d.before g.done in
            found_at c g.at d.at y t.slot.0 n t m w.0.rec came g.small g.done message eb (omega arith)
            (goes_whole p lives c d.at (taken_out w.0.rec) whole d.taken) w.2.0 w.2.1 d.since)
            (λ w.
            let taken : In (taken_out w.0) (outs_at p c inputs g.at) = subst (λ (i : Input Msg). In (taken_out w.0) (deed_of p c i h).outs) (sym g.is) w.1 in
            found_at c g.at g.at y t.slot.0 n t m w.0 came g.small g.done message eb (omega arith)
            (message_goes p lives c g.at w.0 message taken) (ap (λ (u : Tenancy). u.slot.0) w.2) w.3 (λ j l stop. l))
            (taking_places p c stamp g.link s n h plan form visit e given (lets_in_open p lives beyond order.lived fits c g.at g.at (due p t.slot.0 n) g.small g.done
            (subst (λ b. IsOpenTo p R c (due p t.slot.0 n) b) (sym eb) open_here))).how))
            (cases_Bool (is_held h.held t.instance));
      }

-- what is taken at a message is let in
taken_let_in : (p : Params) (c : ℕ) (stamp : Stamp) (link : LinkNo) (m : Msg) (h : Store) (r : Rec)
    → In (taken_out r) (taking p c stamp link m h).outs → lets_in h.comeback (due_of_record p r) ≡ true
taken_let_in p c stamp link m h r i = may_take m (message_took p c stamp link m h r i)
  where
    may_take : (n : Msg) → MayTake p c stamp (OnMessage link n) h r → lets_in h.comeback (due_of_record p r) ≡ true
    may_take (msg.ViewerState s) may = may.4
    may_take other may = absurd may

-- a record that is taken is one that a state gives, which came in this beat
pub taken : (p : Params) (lives : Lives) (beyond : Beyond) {c n y : ℕ} {t : Tenancy} → TookAt p lives c t n y
    → Taken p (facts_by p lives beyond) c t n y
taken p lives beyond {c} {n} {y} {t} w =
    let d = w.done in
    let inputs : ℕ → Input Msg = lives.input c in
    let h : Store = store_at p c inputs d.at in
    let q : Rec = record { tenancy = t; visit = n; kind = w.kind } in
    let k = take_of (inputs d.at) w.message in
    let did = subst (λ (i : Input Msg). In (taken_out q) (deed_of p c i h).outs) k.3 (was_put_out p lives c d.at (taken_out q) d.did) in
    let s = (taking_hears p c k.0 k.1 k.2 h).only_states q did in
    let told = taking_told p c k.0 k.1 s.0 q h (subst (λ (m : Msg). In (taken_out q) (taking p c k.0 k.1 m h).outs) s.1 did) in
    let state : State = record { tenancy = t; visit = s.0.visit } in
    let same : s.0 ≡ state = ap (λ (u : Tenancy). record { tenancy = u; visit = s.0.visit }) (sym told.tenancy) in
    let is = k.3 ∙ ap (λ (m : Msg). Take k.0 k.1 m) (s.1 ∙ ap (λ (z : State). msg.ViewerState z) same) in
    record {
      visit = s.0.visit;
      got = subst (λ b. TookMessage p lives c (msg.ViewerState state) b) d.in_beat
          (got_message p lives c d.at k.0 k.1 (msg.ViewerState state) d.small d.done is);
      given = subst (λ (u : Tenancy). IsGiven p c u s.0.visit n) (sym told.tenancy) told.given;
    }

-- a record that is taken is let in, so it is due late enough after a return
pub late : (p : Params) (lives : Lives) (beyond : Beyond) → AreLives p lives → Fits p lives beyond → {c n y w : ℕ} {t : Tenancy}
    → TookAt p lives c t n y → beyond.Returned c w → w ≤ y → enters_from p (time_of p w) ≤ due p t.slot.0 n
late p lives beyond are fits {c} {n} {y} {w} {t} took back le =
    let d = took.done in
    let eb = d.in_beat in
    let inputs : ℕ → Input Msg = lives.input c in
    let q : Rec = record { tenancy = t; visit = n; kind = took.kind } in
    let k = take_of (inputs d.at) took.message in
    let h : Store = store_at p c inputs d.at in
    let did = subst (λ (i : Input Msg). In (taken_out q) (deed_of p c i h).outs) k.3 (was_put_out p lives c d.at (taken_out q) d.did) in
    let lets = taken_let_in p c k.0 k.1 k.2 h q did in
    let_in_late p lives beyond are fits c d.at d.at (due p t.slot.0 n) w d.small d.done lets back (omega arith)
