-- What cubs hold, as laws: a deschedule is passed on once while its instance is held, and who gets a tag has passed it on.
use Rattle.std.proofs.Common.{◌≡◌, ℕ, suc, ◌+◌, ◌<◌, ◌≤◌, List, true, false, Option, Some, None, refl, sym, ap, subst, ◌∙◌, arith, ⊎_elim, inl, inr, eq-or-lt_of_le}
use Rattle.std.specs.Prelude.{◌⊎◌}
use Rattle.std.proofs.lemmas.Bool.{cases_Bool, cases_lt, cases_eq}
use Rattle.tiger_base.specs.declared.number.Instance.{Instance}
use Rattle.tiger_base.specs.declared.number.LinkNo.{LinkNo}
use Rattle.tiger_base.specs.declared.number.SlotNo.{SlotNo}
use Rattle.tiger_base.specs.declared.number.Stamp.{Stamp}
use Rattle.tiger_base.specs.declared.tenancy.Rec.{Rec}
use Rattle.tiger_base.specs.declared.tenancy.State.{State}
use Rattle.tiger_base.specs.declared.tenancy.Tag.{Tag}
use Rattle.tiger_base.specs.declared.tenancy.Tenancy.{Tenancy}
use Rattle.tiger_base.specs.declared.message.Msg.{Msg}
use Rattle.tiger_base.specs.declared.message.Msg.TheVariants as msg
use Rattle.slot_plan.specs.declared.params.Params.{Params}
use Rattle.slot_plan.specs.Conditions.{IsPlan}
use Rattle.slot_plan.specs.Times.{cub_of}
use Rattle.slot_plan.specs.Keys.{Key}
use Rattle.slot_plan.proofs.Times.{time_mono}
use Rattle.node_kit.specs.Steps.{Input, stamp_of}
use Rattle.node_kit.specs.Steps.Input.{Take, Tick}
use Rattle.deschedule.specs.declared.held.Holding.{Holding}
use Rattle.deschedule.specs.Holds.{is_held, must_pass}
use Rattle.cub_rules.specs.declared.store.Store.{Store}
use Rattle.cub_rules.specs.Messages.{position_at, position, holding, taking}
use Rattle.cub_changes.specs.Causes.{PassesOn, MayTake}
use Rattle.cub_changes.specs.Causes.Stage.{OnMessage}
use Rattle.proof_lives.specs.Lives.{Lives, AreLives, store_at, deed_of, beat_at, reading_at}
use Rattle.run_facts.specs.Events.{is_tick_input}
use Rattle.lists.specs.Elements.{In}
use Rattle.proof_lives.specs.Facts.{TookAt, TookMessage, ReachedAt}
use Rattle.proof_lives.proofs.Cuts.{was_put_out}
use Rattle.proof_lives.proofs.Moves.{taken_out}
use Rattle.proof_lives.proofs.Inputs.{got_message}
use Rattle.proof_lives.proofs.Order.{beats_rise}
use Rattle.proof_lives.proofs.States.{stamp_made}
use Rattle.proof_lives.proofs.Taking.{message_took}
use Rattle.proof_lives.proofs.Telling.{position_told, position_here, position_next}
use Rattle.proof_lives.proofs.Trails.{within_wider}
use Rattle.proof_schedule.specs.Facts.{PassedBy, IsReleasedBy, IsBeside}
use Rattle.proof_lives.specs.FactsBy.{Beyond, facts_by}
use Rattle.proof_lives.specs.StopFactsOf.{PassedAt, GotTagAt, GotBareAt}
use Rattle.proof_lives.specs.HoldsHere.{IsFormed}
use Rattle.proof_lives.proofs.Begun.{IsStop, stop_as, IsPassing, begun, unpassed_since, passed_since, passing_marks, passing_unpassed}
pub use Rattle.proof_lives.proofs.Holds.{no_both}
use Rattle.proof_lives.proofs.Holds.{all_passed}
use Rattle.proof_lives.proofs.Ledger.{same_instance, hold_there, hold_back}
use Rattle.proof_lives.proofs.Persist.{IsOver, IsReleased, unheld_released}

-- from one position
same_key : (o : Option Key) (j k : Key) → o ≡ Some j → o ≡ Some k → j ≡ k
same_key o j k a b = let z : Some j ≡ Some k = sym a ∙ b in cc

one_key : (p : Params) (c : ℕ) (stamp : Stamp) (m : Msg) (h : Store) (v : Instance) (j k : Key) → PassesOn p c stamp m h v j
    → PassesOn p c stamp m h v k → j ≡ k
one_key p c stamp (msg.ViewerState s) h v j k a b = same_key _ j k a.1 b.1
one_key p c stamp (msg.Deschedule u tag) h v j k a b = same_key _ j k a.1 b.1
one_key p c stamp other h v j k a b = absurd a

-- where a cub stands beside a visit it has a position
pub beside_position : (p : Params) (c : ℕ) (s : SlotNo) (m : ℕ) → IsBeside p c m → (k : Key) × (position_at p c s m ≡ Some k)
beside_position p c s m to = ⊎_elim
    (λ (e : cub_of p m ≡ c). ((s, m), position_here p c s m (sym e)))
    (λ (f : cub_of p m ≡ c → ⊥). ((s, m + 1), position_next p c s m f (⊎_elim (λ e. absurd (f (sym e))) (λ e. e) to)))
    (cases_eq (cub_of p m) c)

-- at a message a record is taken of a state, whose instance is not held
pub record IsOfState (m : Msg) (h : Store) (r : Rec) : Type 0 where
  pub state : State
  pub is : m ≡ msg.ViewerState state
  pub free : is_held h.held r.tenancy.instance ≡ false

pub taken_free : (p : Params) (c : ℕ) (stamp : Stamp) (link : LinkNo) (m : Msg) (h : Store) (r : Rec)
    → In (taken_out r) (taking p c stamp link m h).outs → IsOfState m h r
taken_free p c stamp link m h r i = may_take m (message_took p c stamp link m h r i)
  where
    may_take : (n : Msg) → MayTake p c stamp (OnMessage link n) h r → IsOfState n h r
    may_take (msg.ViewerState s) may =
        let same = (position_told p c s may.0 r may.1.1 may.2).tenancy in
        record { state = s; is = refl; free = ap (λ (t : Tenancy). is_held h.held t.instance) same ∙ may.3 }
    may_take other may = absurd may

pub input_free : (p : Params) (c : ℕ) (k : Input Msg) (h : Store) (r : Rec) → is_tick_input k ≡ false
    → In (taken_out r) (deed_of p c k h).outs → is_held h.held r.tenancy.instance ≡ false
input_free p c (Take stamp link m) h r e i = (taken_free p c stamp link m h r i).free
input_free p c (Tick stamp) h r e i = absurd (cc)

-- one input passes on from one position
keys_same : (p : Params) (c : ℕ) (inputs : ℕ → Input Msg) (i j v : ℕ) → i ≡ j → (a : IsPassing p c inputs i v)
    (b : IsPassing p c inputs j v) → a.key ≡ b.key
keys_same p c inputs i j v e a b =
    subst (λ (n : ℕ). (b : IsPassing p c inputs n v) → a.key ≡ b.key) e (λ b. same_input a b) b
  where
    same_input : (a b : IsPassing p c inputs i v) → a.key ≡ b.key
    same_input a b =
        let e : Take a.stamp a.link a.message ≡ Take b.stamp b.link b.message = sym a.is ∙ b.is in
        let stamps : b.stamp ≡ a.stamp = cc in
        let messages : b.message ≡ a.message = cc in
        let one : b.instance ≡ a.instance = same_instance b.instance a.instance (b.same ∙ sym a.same) in
        let h : Store = store_at p c inputs i in
        one_key p c a.stamp a.message h a.instance a.key b.key a.passes
        (subst (λ (s : Stamp). PassesOn p c s a.message h a.instance b.key) stamps
        (subst (λ (m : Msg). PassesOn p c b.stamp m h a.instance b.key) messages
        (subst (λ (w : Instance). PassesOn p c b.stamp b.message h w b.key) one b.passes)))

-- of one cub
module _ (p : Params) (c count : ℕ) (inputs : ℕ → Input Msg) (formed : IsFormed p count inputs) where
  -- who passes an instance on was told of its stop by then
  pub record StopBy (i v : ℕ) : Type 0 where
    pub at : ℕ
    pub by : at ≤ i
    pub stop : IsStop p c inputs at v

  pub stop_of_passing : (i v : ℕ) → IsPassing p c inputs i v → StopBy i v
  stop_of_passing i v q =
      let u = passing_unpassed p c inputs i v q in
      ⊎_elim
      (λ k.
      let b = begun p c inputs i u.holding k in
      let before = b.before in
      record { at = b.at; by = omega arith; stop = stop_as p c inputs b.at u.holding.instance.0 v u.same b.came.stop })
      (λ k. record { at = i; by = omega arith; stop = stop_as p c inputs i u.holding.instance.0 v u.same k.begins.stop })
      u.from

  -- between two passes the hold was released
  pub twice_released : (i j v : ℕ) → j < i → i < count → IsPassing p c inputs j v → IsPassing p c inputs i v
      → (k : ℕ) × IsReleased p c inputs k i v
  twice_released i j v low high a q =
      let s = stop_of_passing j v a in
      let by = s.by in
      let u = passing_unpassed p c inputs i v q in
      let x : Holding = u.holding in
      let released = λ (n : ℕ) (to : n ≤ i) (l : s.at < n) (free : is_held (store_at p c inputs n).held x.instance ≡ false).
      let r = unheld_released p c inputs count formed n s.at v l (omega arith) s.stop x.instance u.same free in
      within_wider (IsOver p c inputs s.at v) (suc s.at) (suc s.at) n i (omega arith) to r in (
        s.at,
        ⊎_elim
            (λ k.
            let b = unpassed_since p c inputs i x u.unpassed k in
            let before = b.before in
            ⊎_elim
            (λ (l : j < b.at). released b.at (omega arith) (omega arith) b.came.unheld)
            (λ (l : b.at ≤ j).
            let passed = passing_marks p c inputs count formed j v (omega arith) a x (b.since (suc j) (omega arith) (omega arith)) u.same in
            absurd (no_both passed u.unpassed))
            (cases_lt j b.at))
            (λ k. released i (omega arith) (omega arith) k.unheld)
            u.from,
      )

  -- a deschedule that finds a position is passed on, or was
  pub record PassingBy (i v : ℕ) : Type 0 where
    pub at : ℕ
    pub by : at ≤ i
    pub passing : IsPassing p c inputs at v

  pub stop_passing : (i : ℕ) (stamp : Stamp) (link : LinkNo) (v : Instance) (tag : Option Tag) (k : Key)
      → inputs i ≡ Take stamp link (msg.Deschedule v tag) → position p c v tag (store_at p c inputs i).view.lines ≡ Some k
      → PassingBy i v.0
  stop_passing i stamp link v tag k is at =
      let h : Store = store_at p c inputs i in
      let held : List Holding = (holding p stamp v h).state.held in
      ⊎_elim
      (λ (must : must_pass held v ≡ true). record {
        at = i;
        by = omega arith;
        passing = record { stamp = stamp; link = link; message = msg.Deschedule v tag; is = is; instance = v; same = refl; key = k; passes = (refl, at, must) };
      })
      (λ (no : must_pass held v ≡ false).
      let x = hold_there p stamp v h in
      let marked = all_passed v x.0 held x.1 x.2 no in
      ⊎_elim
      (λ q.
      let d = passed_since p c inputs i x.0 marked q in
      let before = d.before in
      record { at = d.at; by = omega arith; passing = subst (λ (w : ℕ). IsPassing p c inputs d.at w) x.2 d.came })
      (λ q. absurd (no_both marked q.unpassed))
      (hold_back p stamp v tag h x.0 x.1))
      (cases_Bool (must_pass held v))

-- who was reached got a stop
pub stop_in : (p : Params) (lives : Lives) {c v b : ℕ} (g : ReachedAt p lives c v b) → IsStop p c (lives.input c) g.took.at v
stop_in p lives g =
    record { stamp = _; link = g.took.link; instance = g.instance; tag = g.tag; is = g.took.is; same = g.same }

-- of all
module _ (p : Params) (lives : Lives) where
  -- a stop that came by an input reached its cub
  took_stop : (c i v : ℕ) → c < p.cubs → i < lives.count c → (s : IsStop p c (lives.input c) i v)
      → TookMessage p lives c (msg.Deschedule s.instance s.tag) (beat_at (lives.input c) i)
  took_stop c i v small low s = got_message p lives c i s.stamp s.link (msg.Deschedule s.instance s.tag) small low s.is

  pub reached_at : (c i v : ℕ) → c < p.cubs → i < lives.count c → IsStop p c (lives.input c) i v
      → ReachedAt p lives c v (beat_at (lives.input c) i)
  reached_at c i v small low s =
      record { instance = s.instance; tag = s.tag; same = s.same; took = took_stop c i v small low s }

  -- with a tag or without one
  pub got_stop : (c i v : ℕ) → c < p.cubs → i < lives.count c → (s : IsStop p c (lives.input c) i v)
      → ((s.tag ≡ None) × GotBareAt p lives c v (beat_at (lives.input c) i))
      ⊎ ((tag : Tag) × (s.tag ≡ Some tag) × GotTagAt p lives c v tag.slot.0 tag.visit (beat_at (lives.input c) i))
  got_stop c i v small low s = by_tag s.tag refl
    where
      took : (o : Option Tag) → s.tag ≡ o → TookMessage p lives c (msg.Deschedule s.instance o) (beat_at (lives.input c) i)
      took o e =
          subst (λ (tag : Option Tag). TookMessage p lives c (msg.Deschedule s.instance tag) (beat_at (lives.input c) i)) e
          (took_stop c i v small low s)

      by_tag : (o : Option Tag) → s.tag ≡ o
          → ((s.tag ≡ None) × GotBareAt p lives c v (beat_at (lives.input c) i))
          ⊎ ((tag : Tag) × (s.tag ≡ Some tag) × GotTagAt p lives c v tag.slot.0 tag.visit (beat_at (lives.input c) i))
      by_tag None e = inl (e, record { instance = s.instance; same = s.same; took = took None e })
      by_tag (Some tag) e =
          inr (tag, e, record { instance = s.instance; same = s.same; tag = tag; slot = refl; visit = refl; took = took (Some tag) e })

module _ (p : Params) (plan : IsPlan p) (lives : Lives) (are : AreLives p lives) (formed : (c : ℕ) → c < p.cubs → IsFormed p (lives.count c) (lives.input c)) (beyond : Beyond) where
  -- a hold that was over at a tick was over in true time
  pub released_by : (c i j v b : ℕ) → c < p.cubs → i < lives.count c → beat_at (lives.input c) i ≤ b → IsReleased p c (lives.input c) j i v → IsReleasedBy p (facts_by p lives beyond) c v b
  released_by c i j v b small low le k =
      let before = k.before in
      let after = k.from in
      let by = k.is.by in
      let over = k.is.over in
      let inputs : ℕ → Input Msg = lives.input c in
      let life = are c small in
      let at_tick : reading_at inputs k.at ≡ k.is.stamp.reading = ap (λ (x : Input Msg). (stamp_of x).reading) k.is.is in
      let at_stop : reading_at inputs k.is.at ≡ k.is.stop.stamp.reading = ap (λ (x : Input Msg). (stamp_of x).reading) k.is.stop.is in
      let high = (life.reads k.at (omega arith)).1 in
      let early = (life.reads k.is.at (omega arith)).0 in
      let rise = beats_rise p (lives.count c) inputs life k.at i (omega arith) low in
      let tm = time_mono p (beat_at inputs k.at) b (omega arith) in
      let c12 = plan.c12 in
      record { beat = beat_at inputs k.is.at; reached = reached_at p lives c k.is.at v small (omega arith) k.is.stop; over = omega arith }

  pub passing_at : {c v s q b : ℕ} → (a : PassedAt p lives c v s q b) → IsPassing p c (lives.input c) a.at v
  passing_at a = record { stamp = _; link = a.link; message = a.message; is = a.is; instance = a.instance; same = a.same; key = a.key; passes = a.passes }

  pub beat_of : {c v s q b : ℕ} → (a : PassedAt p lives c v s q b) → beat_at (lives.input c) a.at ≡ b
  beat_of a = ap (λ (k : Input Msg). (stamp_of k).beat) a.is

  -- once while the instance is held
  pub passes_apart : {c v s q y u m z : ℕ} (a : PassedAt p lives c v s q y) (b : PassedAt p lives c v u m z) → a.at < b.at → IsReleasedBy p (facts_by p lives beyond) c v z
  passes_apart {c} {v} a b l =
      let r = twice_released p c (lives.count c) (lives.input c) (formed c a.small) b.at a.at v l b.done (passing_at a) (passing_at b) in
      let e = beat_of b in
      released_by c b.at r.0 v _ a.small b.done (omega arith) r.1

  pub pass_once : {c v s q y u m z : ℕ} → PassedAt p lives c v s q y → PassedAt p lives c v u m z → y ≤ z → ((m ≡ q) × (z ≡ y)) ⊎ IsReleasedBy p (facts_by p lives beyond) c v z
  unfolding passing_at
  pass_once {c} {v} {s} {q} {y} {u} {m} {z} a b le =
      let ya = beat_of a in
      let zb = beat_of b in
      let inputs : ℕ → Input Msg = lives.input c in
      ⊎_elim
      (λ (l : a.at < b.at). inr (passes_apart a b l))
      (λ (g : b.at ≤ a.at). ⊎_elim
      (λ (same : b.at ≡ a.at). inl (
        sym b.visit ∙ ap (λ (k : Key). k.1) (keys_same p c inputs b.at a.at v same (passing_at b) (passing_at a)) ∙ a.visit,
        sym zb ∙ ap (λ i. beat_at inputs i) same ∙ ya,
      ))
      (λ (l : b.at < a.at).
      let rise = beats_rise p (lives.count c) inputs (are c a.small) b.at a.at g a.done in
      inr (subst (λ w. IsReleasedBy p (facts_by p lives beyond) c v w) (let e : y ≡ z = omega arith in e) (passes_apart b a l)))
      (eq-or-lt_of_le g))
      (cases_lt a.at b.at)

  -- a passing is a pass in its beat
  pub passed_at : (c i v b : ℕ) → c < p.cubs → i < lives.count c → beat_at (lives.input c) i ≡ b → (a : IsPassing p c (lives.input c) i v) → PassedAt p lives c v a.key.0.0 a.key.1 b
  passed_at c i v b small low eb a =
      let beats : beat_at (lives.input c) i ≡ a.stamp.beat = ap (λ (k : Input Msg). (stamp_of k).beat) a.is in
      let made : a.stamp ≡ record { beat = b; reading = a.stamp.reading } = stamp_made a.stamp b (sym beats ∙ eb) in
      record {
        small = small;
        at = i;
        done = low;
        reading = a.stamp.reading;
        link = a.link;
        message = a.message;
        is = a.is ∙ ap (λ (x : Stamp). Take x a.link a.message) made;
        formed = formed c small i a.stamp a.link a.message low a.is;
        instance = a.instance;
        same = a.same;
        key = a.key;
        slot = refl;
        visit = refl;
        passes = subst (λ (x : Stamp). PassesOn p c x a.message (store_at p c (lives.input c) i) a.instance a.key) made a.passes;
      }

  -- and who has passed on by an input has by its beat
  pub passed_by : {c i v y : ℕ} (small : c < p.cubs) → i < lives.count c → beat_at (lives.input c) i ≡ y → PassingBy p c (lives.count c) (lives.input c) (formed c small) i v
      → PassedBy (facts_by p lives beyond) c v y
  passed_by {c} {i} {v} {y} small low eb a =
      let inputs : ℕ → Input Msg = lives.input c in
      let by = a.by in
      let rise = beats_rise p (lives.count c) inputs (are c small) a.at i by low in
      record { slot = a.passing.key.0.0; visit = a.passing.key.1; beat = beat_at inputs a.at; passed = passed_at c a.at v (beat_at inputs a.at) small (omega arith) refl a.passing; by = omega arith }

  -- who gets a tag that gives a position passes it on, or did
  pub tag_passes : {c v s q y : ℕ} → GotTagAt p lives c v s q y → IsBeside p c q → PassedBy (facts_by p lives beyond) c v y
  tag_passes {c} {v} {s} {q} {y} g to =
      let t = g.took in
      let inputs : ℕ → Input Msg = lives.input c in
      let k = beside_position p c g.tag.slot g.tag.visit (⊎_elim (λ e. inl (e ∙ ap (λ n. cub_of p n) (sym g.visit))) (λ e. inr (e ∙ ap (λ n. cub_of p (n + 1)) (sym g.visit))) to) in
      subst (λ w. PassedBy (facts_by p lives beyond) c w y) g.same
      (passed_by t.small t.done (ap (λ (x : Input Msg). (stamp_of x).beat) t.is)
      (stop_passing p c (lives.count c) inputs (formed c t.small) t.at (record { beat = y; reading = t.reading }) t.link g.instance (Some g.tag) k.0 t.is k.1))

  -- no record is taken of an instance that is held
  pub took : {c n x b : ℕ} {t : Tenancy} → TookAt p lives c t n x → ReachedAt p lives c t.instance.0 b → b < x → IsReleasedBy p (facts_by p lives beyond) c t.instance.0 x
  took {c} {n} {x} {b} {t} w g l =
      let d = w.done in
      let r = g.took in
      let inputs : ℕ → Input Msg = lives.input c in
      let low = d.done in
      let beats : beat_at inputs r.at ≡ b = ap (λ (k : Input Msg). (stamp_of k).beat) r.is in
      let eb = d.in_beat in
      let before : r.at < d.at = ⊎_elim
      (λ (q : r.at < d.at). q)
      (λ (q : d.at ≤ r.at). let rise = beats_rise p (lives.count c) inputs (are c d.small) d.at r.at q r.done in absurd (omega arith))
      (cases_lt r.at d.at) in
      let q : Rec = record { tenancy = t; visit = n; kind = w.kind } in
      let did = was_put_out p lives c d.at (taken_out q) d.did in
      let free = input_free p c (inputs d.at) (store_at p c inputs d.at) q w.message did in
      released_by c d.at r.at t.instance.0 x d.small low (omega arith)
      (unheld_released p c inputs (lives.count c) (formed c d.small) d.at r.at t.instance.0 before (omega arith) (stop_in p lives g) t.instance refl free)
