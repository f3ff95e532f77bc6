-- Mirror states and kills on their way: whence they come, that they arrive, and that none overtakes another on a link.
use Rattle.std.proofs.Common.{◌≡◌, ℕ, ◌+◌, ◌-◌, ◌%◌, ◌<◌, ◌≤◌, max, true, false, Option, None, refl, sym, ap, subst, ◌∙◌, arith, ⊎_elim, inl, inr}
use Rattle.std.specs.Prelude.{◌⊎◌}
use Rattle.std.proofs.lemmas.Nat.{mod_below}
use Rattle.std.proofs.lemmas.Bool.{cases_Bool, cases_lt}
use Rattle.tiger_base.specs.declared.number.Instance.{Instance}
use Rattle.tiger_base.specs.declared.number.LinkNo.{LinkNo}
use Rattle.tiger_base.specs.declared.number.SlotNo.{SlotNo}
use Rattle.tiger_base.specs.declared.number.Stamp.{Stamp}
use Rattle.tiger_base.specs.declared.tenancy.PieceState.{PieceState}
use Rattle.tiger_base.specs.declared.tenancy.Tag.{Tag}
use Rattle.tiger_base.specs.declared.tenancy.Tenancy.{Tenancy}
use Rattle.tiger_base.specs.declared.message.Msg.{Msg}
use Rattle.tiger_base.specs.declared.message.Msg.TheVariants as msg
use Rattle.slot_plan.specs.declared.params.Params.{Params}
use Rattle.slot_plan.specs.Conditions.{IsPlan}
use Rattle.slot_plan.specs.Times.{time_of, cub_of}
use Rattle.slot_plan.proofs.Times.{cub_below, same_cub}
use Rattle.deschedule.specs.Holds.{is_held}
use Rattle.mirror_schedule.specs.Pieces.{is_in, leaving_of}
use Rattle.node_kit.specs.declared.outbox.Out.TheVariants as out
use Rattle.node_kit.specs.Links.{links_of}
use Rattle.node_kit.specs.Steps.{Input, stamp_of}
use Rattle.node_kit.specs.Steps.Input.{Take, Tick}
use Rattle.node_kit.specs.Ways.{way_ahead}
use Rattle.node_kit.proofs.Ring.{ends_between}
use Rattle.node_kit.proofs.Ways.{links_sound}
use Rattle.cub_rules.specs.declared.store.Store.{Store}
use Rattle.cub_changes.specs.Changes.{Change}
use Rattle.cub_changes.specs.Changes.Change.{KillSplits}
use Rattle.cub_changes.specs.Causes.{Stage, IsStageOf, IsDeschedule, Cause}
use Rattle.cub_changes.specs.Causes.Stage.{OnMessage}
use Rattle.cub_changes.specs.Laws.{HasCause}
use Rattle.cub_changes.specs.Outputs.{Output, output, ComesOf}
use Rattle.cub_changes.specs.Outputs.Output.{KillSent}
use Rattle.cub_changes.proofs.Causing.{have_causes}
use Rattle.proof_lives.specs.Lives.{Lives, AreLives, cut_in, store_at, deed_of, beat_at}
use Rattle.run_facts.specs.Events.{is_tick_input}
use Rattle.lists.specs.Elements.{In}
use Rattle.proof_lives.specs.Facts.{TickAt, ReachedAt}
use Rattle.proof_lives.proofs.Carrying.{steps_made}
use Rattle.proof_lives.proofs.Cuts.{was_put_out, whole_before}
use Rattle.proof_lives.proofs.Keeping.{held_stopped}
use Rattle.lists.proofs.Each.{all_in}
use Rattle.proof_lives.proofs.Order.{beats_rise}
use Rattle.proof_lives.proofs.Inputs.{message_before}
use Rattle.proof_lives.specs.HoldsHere.{AreAllFormed}
use Rattle.proof_lives.proofs.HoldLaws.{reached_at}
use Rattle.proof_lives.proofs.Begun.{IsStop}
use Rattle.proof_schedule.specs.Facts.{ReachedBy, IsSameLife, enters_from}
use Rattle.proof_pieces.specs.PieceFacts.{PieceFacts, Arises, Uses, leave}
use Rattle.proof_pieces.specs.PieceLaws.{IsMirror, WasMirrored, MirrorSince}
use Rattle.proof_service.specs.ServiceFacts.{ArisesBy, LetsIn}
use Rattle.proof_facts.specs.Blocks.{KilledAt}
use Rattle.proof_facts.specs.Carried.{Leads, CubsAreTold, TookInOrder, WasSentBy}
use Rattle.proof_facts.specs.Laws.{KillBefore}
use Rattle.proof_lives.specs.FactsBy.{Beyond, CameToTick, IsInOneLife, facts_by}
use Rattle.proof_facts.specs.Pieces.{piece, stamp_of as made_stamp, MirrorSentAt, MirroredAt, KillSentAt, SplitAt, AsksAt, ServesAt, pieces_by}
use Rattle.cub_rules.specs.Comebacks.{lets_in}
use Rattle.proof_lives.proofs.Fitting.{Fits}
use Rattle.proof_lives.proofs.SameLife.{back_in_life, let_in_late, returned, same_life}
use Rattle.proof_splits.proofs.Among.{IsKillSend, SendsAreKnown}
use Rattle.proof_splits.proofs.Returning.{leave_is, lets_in_now, whole_first}
use Rattle.proof_splits.specs.PieceRecords.{IsSplitOff, Enters, CutsOff, StandsSince, KeepsPieces}
use Rattle.proof_splits.proofs.PieceSets.{there_is_in}
use Rattle.proof_splits.proofs.Standing.{keeps_pieces}
use Rattle.proof_splits.proofs.MirrorStates.{of_split, one_way}

-- ---- the links between cubs

-- the link so many steps ahead leads to the cub that stands there
pub ahead_ends : (p : Params) (c k : ℕ) → IsPlan p → c < p.cubs → 1 ≤ k → k ≤ max 2 p.pieces
    → Leads p (way_ahead p c k) c (cub_of p (c + k))
unfolding way_ahead cub_of
ahead_ends p c k plan here low high =
    let links = links_sound p plan in
    let made : ((c + k) % p.cubs + p.cubs - c) % p.cubs ≡ k = steps_made c k p.cubs here
    (omega (arith, plan.c10, plan.ranges.cubs, plan.ranges.pieces)) in
    let to : (c + k) % p.cubs < p.cubs = mod_below (c + k) p.cubs (omega (arith, plan.ranges.cubs)) in
    let e = ends_between (links_of p) c ((c + k) % p.cubs) links here to (rw made low) (rw made (omega arith)) in
    rw made at e

-- of two cubs that stand as many steps before a cub there is one
pub one_before : (p : Params) (a b k : ℕ) → a < p.cubs → b < p.cubs → cub_of p (a + k) ≡ cub_of p (b + k) → a ≡ b
one_before p a b k low high e = ⊎_elim
    (λ (l : a < b). let z = same_cub p (a + k) (b + k) e (omega arith) (omega arith) in omega arith)
    (λ (g : b ≤ a). let z = same_cub p (b + k) (a + k) (sym e) (omega arith) (omega arith) in omega arith)
    (cases_lt a b)

-- ---- a kill goes out at a deschedule

kill_form : (p : Params) (c : ℕ) (stamp : Stamp) (x : Change) (h : Store) (link : LinkNo) (v : Instance) (s : SlotNo)
    (n : ℕ) (o : Output)
    → ComesOf p c stamp x h o → out.Send link (msg.Kill v s n) ≡ output p c stamp o → x ≡ KillSplits v
kill_form p c stamp x h link v s n (KillSent steps y) comes e =
    let same : v ≡ y.0 = cc in
    comes.0 ∙ ap (λ (w : Instance). KillSplits w) (sym same)
kill_form p c stamp x h link v s n other comes e = absurd (cc)

-- An input is a deschedule of an instance.
record IsStopInput (k : Input Msg) (v : Instance) : Type 0 where
  stamp : Stamp
  link : LinkNo
  tag : Option Tag
  is : k ≡ Take stamp link (msg.Deschedule v tag)

stop_stage : (stamp : Stamp) (link : LinkNo) (m : Msg) (v : Instance) → IsDeschedule (OnMessage link m) v
    → IsStopInput (Take stamp link m) v
stop_stage stamp link (msg.Deschedule w tag) v d =
    record {
      stamp = stamp;
      link = link;
      tag = tag;
      is = ap (λ (x : Instance). Take stamp link (msg.Deschedule x tag))
          (sym d);
    }
stop_stage stamp link other v d = absurd d

stop_input : (k : Input Msg) (old : Store) (g : Stage) (from : Store) (v : Instance) → IsStageOf k old g from
    → IsDeschedule g v → IsStopInput k v
stop_input (Take stamp link m) old g from v of d = stop_stage stamp link m v
    (subst (λ (x : Stage). IsDeschedule x v) of.0 d)
stop_input (Tick stamp) old (OnMessage link m) from v of d = absurd of
stop_input (Tick stamp) old other from v of d = absurd d

kill_cause : (p : Params) (c : ℕ) (k : Input Msg) (h : Store) (link : LinkNo) (v : Instance) (s : SlotNo) (n : ℕ)
    → HasCause p c k h (out.Send link (msg.Kill v s n)) → IsStopInput k v
kill_cause p c k h link v s n w =
    let x = kill_form p c (stamp_of k) w.change w.before link v s n w.form w.comes w.is in
    stop_input k h w.stage w.from v w.of_event
    (subst (λ (y : Change). Cause p c (stamp_of k) w.stage w.from y w.before) x w.cause)

kill_stops : (p : Params) (c : ℕ) (k : Input Msg) (h : Store) (link : LinkNo) (v : Instance) (s : SlotNo) (n : ℕ)
    → In (out.Send link (msg.Kill v s n)) (deed_of p c k h).outs → IsStopInput k v
kill_stops p c (Take stamp way m) h link v s n i =
    kill_cause p c (Take stamp way m) h link v s n
    (all_in (HasCause p c (Take stamp way m) h) (out.Send link (msg.Kill v s n)) (deed_of p c (Take stamp way m) h).outs
    (have_causes p c (Take stamp way m) h) i)
kill_stops p c (Tick stamp) h link v s n i =
    kill_cause p c (Tick stamp) h link v s n
    (all_in (HasCause p c (Tick stamp) h) (out.Send link (msg.Kill v s n)) (deed_of p c (Tick stamp) h).outs
    (have_causes p c (Tick stamp) h) i)

-- ---- of one life

-- In its life a cub has never split off a piece.
abbrev pub SplitsOffNone : Params → Lives → ℕ → PieceState → Type 0
SplitsOffNone p lives c x = (i : ℕ) (stamp : Stamp) → i < lives.count c → lives.input c i ≡ Tick stamp
    → IsSplitOff p c stamp (store_at p c (lives.input c) i) x → ⊥

-- So it is if it never splits a visit, and no death cuts it off.
pub splits_off_none : (p : Params) (lives : Lives) (c : ℕ) (x : PieceState) → c < p.cubs
    → ((t : Tenancy) (n b : ℕ) → SplitAt p lives c t n b → ⊥) → ((i : ℕ) → i < lives.count c → cut_in lives c i ≡ None)
    → SplitsOffNone p lives c x
splits_off_none p lives c x small none whole i stamp low is w = none x.tenancy x.visit stamp.beat (record {
  reading = stamp.reading;
  tick = record { small = small; at = i; done = low; is = is };
  believes = w.believes;
  line = w.line;
  there = w.there;
  must = w.must;
  left = w.left;
  number = 0;
  goes = inl (whole i low);
})

module _ (p : Params) (lives : Lives) (are : AreLives p lives) where
  -- a mirror state is of a split of its beat
  pub mirrors : {a k : ℕ} {t : Tenancy} {n j b : ℕ} → MirrorSentAt p lives a k t n j b
      → IsMirror p (pieces_by p lives) a k t n j b
  mirrors {a} {k} {t} {n} {j} {b} w =
      let s = of_split p lives a w.did in
      let low = s.low in
      let some = w.some in
      let steps = one_way p a k (j - 1) w.some (omega arith) s.way in
      record { split = s.split; piece = omega arith; some = w.some }

  -- who sends a kill was reached by a deschedule in that beat
  pub kill_reached : {a k v s n b : ℕ} → KillSentAt p lives a k v s n b → ReachedAt p lives a v b
  kill_reached {a} {k} {v} {s} {n} {b} w =
      let d = w.did in
      let instance : Instance = record { 0 = v } in
      let slot : SlotNo = record { 0 = s } in
      let q = kill_stops p a (lives.input a d.at) (store_at p a (lives.input a) d.at) (way_ahead p a k) instance slot n
      (was_put_out p lives a d.at (out.Send (way_ahead p a k) (msg.Kill instance slot n)) d.did) in
      let stop : IsStop p a (lives.input a) d.at v =
      record { stamp = q.stamp; link = q.link; instance = instance; tag = q.tag; is = q.is; same = refl } in
      subst (λ (x : ℕ). ReachedAt p lives a v x) d.in_beat (reached_at p lives a d.at v d.small d.done stop)

-- ---- between lives

module _ (p : Params) (plan : IsPlan p) (lives : Lives) (are : AreLives p lives) (formed : AreAllFormed p lives)
    (beyond : Beyond) (fits : Fits p lives beyond) (told : CubsAreTold p lives beyond)
    (among : PieceFacts) (known : SendsAreKnown p beyond among) where
  life : (c : ℕ) → c < p.cubs → KeepsPieces p c (lives.count c) (lives.input c)
  life c small = keeps_pieces p c plan.ranges.pieces.0 (lives.count c) (lives.input c) (formed c small)

  -- a mirror state that was got was sent
  pub mirrored : {c : ℕ} {t : Tenancy} {n j y : ℕ} → MirroredAt p lives c t n j y → WasMirrored p among c t n j y
  mirrored {c} {t} {n} {j} {y} w =
      let a = told.mirrors c w.at (made_stamp y w.reading) w.link (piece t n j) w.small w.done w.is in
      let x : PieceState = piece t n j in
      record {
        from = a.from;
        ahead = a.ahead;
        beat = a.sent.beat;
        sent = known.mirror a.from a.ahead t n j a.sent.beat a.small a.some
            (subst (λ (l : LinkNo). beyond.Sends a.from l (msg.MirrorState x) a.sent.beat) a.way a.sent.sent);
        to = a.to;
        later = a.sent.later;
        soon = a.sent.soon;
      }

  -- what enters after a return leaves late enough after it
  pub late : {c : ℕ} {t : Tenancy} {n j y w : ℕ} → MirroredAt p lives c t n j y → beyond.Returned c w → w ≤ y
      → enters_from p (time_of p w) ≤ leave p t n j
  late {c} {t} {n} {j} {y} {w} m back le =
      let s = known.mirror_sent (mirrored m).sent in
      let some = s.some in
      let low : 1 ≤ j = ⊎_elim (λ q. omega arith) (λ q. omega arith) s.number in
      let eb : beat_at (lives.input c) m.at ≡ y = ap (λ (k : Input Msg). (stamp_of k).beat) m.is in
      let enters = let_in_late p lives beyond are fits c m.at m.at (leaving_of p (piece t n j)) w m.small m.done m.lets back
      (omega arith) in
      let is = leave_is p t n j low in
      omega arith

  -- who is told to drop pieces was told so by a kill
  pub dropped : {c v n y : ℕ} → KilledAt p lives c v n y → KillBefore among v n y
  dropped {c} {v} {n} {y} w =
      let t = w.took in
      let a = told.kills c t.at (made_stamp y t.reading) t.link w.instance w.slot n t.small t.done t.is in
      let sends = subst (λ (l : LinkNo). beyond.Sends a.from l (msg.Kill w.instance w.slot n) a.sent.beat) a.way a.sent.sent in
      record {
        from = a.from;
        ahead = a.ahead;
        slot = w.slot.0;
        beat = a.sent.beat;
        sent = subst (λ (u : ℕ). among.KillSent a.from a.ahead u w.slot.0 n a.sent.beat) w.same
            (known.kill a.from a.ahead w.instance w.slot n a.sent.beat a.small a.some sends);
        before = a.sent.later;
      }

  -- a piece record entered at a whole input as the facts say
  arises : (c i : ℕ) (k : Input Msg) (x : PieceState) → (small : c < p.cubs) → i < lives.count c
      → cut_in lives c i ≡ None → lives.input c i ≡ k
      → Enters p c k (store_at p c (lives.input c) i) x → is_in x (store_at p c (lives.input c) i).pieces.items ≡ false
      → Arises (facts_by p lives beyond) (pieces_by p lives) c x.tenancy x.visit x.piece (stamp_of k).beat
  arises c i (Take stamp link m) x small low whole e w new = inr (inr (record {
    small = small;
    at = i;
    done = low;
    reading = stamp.reading;
    link = link;
    is = e ∙ ap (λ (o : Msg). Take stamp link o) w.is;
    formed = formed c small i stamp link (msg.MirrorState x) low (e ∙ ap (λ (o : Msg). Take stamp link o) w.is);
    free = w.free;
    here = w.here;
    lets = w.lets;
    new = new;
  }))
  arises c i (Tick stamp) x small low whole e w new = inr (inl (
    w.first,
    record {
      reading = stamp.reading;
      tick = record { small = small; at = i; done = low; is = e };
      believes = w.believes;
      line = w.line;
      there = w.there;
      must = w.must;
      left = w.left;
      number = 0;
      goes = inl whole;
    },
  ))

  -- the beat of an input is of the life of a later tick, and so of each beat in between
  life_until : (c i y b : ℕ) → c < p.cubs → i < lives.count c → y ≤ b → CameToTick p lives c b
      → IsSameLife (facts_by p lives beyond) c (beat_at (lives.input c) i) y
  life_until c i y b small low le up w back by =
      let eb : beat_at (lives.input c) up.tick.at ≡ b = ap (λ (k : Input Msg). (stamp_of k).beat) up.tick.is in
      same_life p lives beyond are fits c i up.tick.at small low up.tick.done w back (omega arith)

  -- a mirror state arrives, and its record enters then, or stands already, unless the instance is held there
  pub mirror_arrives : {a k : ℕ} {t : Tenancy} {n j x : ℕ} (c b : ℕ) → among.MirrorSent a k t n j x
      → c ≡ cub_of p (a + k) → c ≡ cub_of p (n + j)
      → CameToTick p lives c b → IsInOneLife beyond c x b → LetsIn p (facts_by p lives beyond) c (leave p t n j) b
      → x + p.delay ≤ b
      → ArisesBy (facts_by p lives beyond) (pieces_by p lives) c t n j (x + p.delay)
      ⊎ ReachedBy (facts_by p lives beyond) c t.instance.0 (x + p.delay)
  mirror_arrives {a} {k} {t} {n} {j} {x} c b w to here up one_life lets late =
      let m = known.mirror_sent w in
      let some = m.some in
      let few = m.few in
      let low : 1 ≤ j = ⊎_elim (λ q. omega arith) (λ q. omega arith) m.number in
      let near : k ≤ j = ⊎_elim (λ q. omega arith) (λ q. omega arith) m.number in
      let small : c < p.cubs = subst (λ (d : ℕ). d < p.cubs) (sym to) (cub_below p (a + k) plan.ranges) in
      let leads : Leads p (way_ahead p a k) a c = subst (λ (d : ℕ). Leads p (way_ahead p a k) a d) (sym to)
      (ahead_ends p a k plan m.small m.some (omega arith)) in
      let g = told.to a c x b (way_ahead p a k) (msg.MirrorState (piece t n j)) m.sends leads small up one_life late in
      of_taken g small low
    where
      of_taken : TookInOrder p lives beyond a c (way_ahead p a k) (msg.MirrorState (piece t n j)) x → c < p.cubs → 1 ≤ j
          → ArisesBy (facts_by p lives beyond) (pieces_by p lives) c t n j (x + p.delay)
          ⊎ ReachedBy (facts_by p lives beyond) c t.instance.0 (x + p.delay)
      of_taken g small some =
          let inputs : ℕ → Input Msg = lives.input c in
          let h : Store = store_at p c inputs g.at in
          let y : PieceState = piece t n j in
          let stamp : Stamp = made_stamp g.beat g.reading in
          let soon = g.soon in
          let eb : beat_at inputs g.at ≡ g.beat = ap (λ (q : Input Msg). (stamp_of q).beat) g.is in
          let may_enter : lets_in h.comeback (leaving_of p y) ≡ true =
          subst (λ (time : ℕ). lets_in h.comeback time ≡ true) (leave_is p t n j some)
          (lets_in_now p lives beyond are fits c g.at g.at (leave p t n j) b small g.done
          (λ l. whole_first p lives are c g.at small g.done (ap is_tick_input g.is) l) (omega arith) lets) in
          let held_or : ReachedBy (facts_by p lives beyond) c t.instance.0 (x + p.delay)
          ⊎ (is_held h.held t.instance ≡ false) = ⊎_elim
          (λ (e : is_held h.held t.instance ≡ true).
          let z = held_stopped p c inputs g.at t.instance e in
          let before = z.before in
          let low = g.done in
          let rise = beats_rise p (lives.count c) inputs (are c small) z.at g.at (omega arith) g.done in
          inl (record {
            beat = beat_at inputs z.at;
            reached = reached_at p lives c z.at t.instance.0 small (omega arith)
                (record {
                  stamp = z.stamp;
                  link = z.link;
                  instance = z.instance;
                  tag = z.tag;
                  is = z.is;
                  same =
                      z.same;
                });
            by = omega arith;
          }))
          (λ (e : is_held h.held t.instance ≡ false). inr e)
          (cases_Bool (is_held h.held t.instance)) in
          ⊎_elim
          (λ q. inr q)
          (λ (free : is_held h.held t.instance ≡ false). inl (⊎_elim
          (λ (e : is_in y h.pieces.items ≡ true).
          let d = (life c small).entered g.at y (let low = g.done in omega arith) (there_is_in y h.pieces.items e) in
          let before = d.before in
          let low : d.at < lives.count c = (let q = g.done in omega arith) in
          let rise = beats_rise p (lives.count c) inputs (are c small) d.at g.at (omega arith) g.done in
          record {
            beat = beat_at inputs d.at;
            arises = arises c d.at
                (inputs d.at) y small low (whole_before lives c d.at g.at before g.done) refl d.enters d.new;
            by = omega arith;
            life = life_until c d.at (x + p.delay) b small low late up;
          })
          (λ (e : is_in y h.pieces.items ≡ false).
          record {
            beat = g.beat;
            arises = inr (inr (record {
              small = small;
              at = g.at;
              done = g.done;
              reading = g.reading;
              link = way_ahead p a k;
              is = g.is;
              formed = formed c small g.at stamp (way_ahead p a k) (msg.MirrorState y) g.done g.is;
              free = free;
              here = sym here;
              lets = may_enter;
              new = e;
            }));
            by = soon;
            life = λ v back by. let one = life_until c g.at (x + p.delay) b small g.done late up v back by in omega arith;
          })
          (cases_Bool (is_in y h.pieces.items))))
          held_or

  -- ---- a kill

  -- a kill that was taken by the beat of a tick cuts off what stands at the tick: so that entered behind it
  cut_before : (a c y i : ℕ) (stamp : Stamp) (link : LinkNo) (v : Instance) (s : SlotNo) (n : ℕ) (x : PieceState)
      → (g : TookInOrder p lives beyond a c link (msg.Kill v s n) y) → (d : StandsSince p c (lives.input c) x i)
      → c < p.cubs → i < lives.count c → lives.input c i ≡ Tick stamp → g.beat ≤ stamp.beat
      → v.0 ≡ x.tenancy.instance.0 → n ≡ x.visit → g.at < d.at
  cut_before a c y i stamp link v s n x g d small low tick le same visit =
      let gb : beat_at (lives.input c) g.at ≡ g.beat = ap (λ (k : Input Msg). (stamp_of k).beat) g.is in
      let ib : beat_at (lives.input c) i ≡ stamp.beat = ap (λ (k : Input Msg). (stamp_of k).beat) tick in
      let first = message_before p lives are c i g.at small low g.done (ap is_tick_input tick) (ap is_tick_input g.is)
      (omega arith) in
      d.behind g.at first (subst (λ (k : Input Msg). CutsOff k x) (sym g.is) (same, visit))

  -- What is known of all mirror states: how much the number of a piece is above the steps that it goes.
  abbrev pub AllGo : ℕ → Type 0
  AllGo gap = (a k : ℕ) (t : Tenancy) (n j b : ℕ) → among.MirrorSent a k t n j b → j ≡ k + gap

  -- a mirror state that came on whatever link was sent by the cub as many steps before as its piece says
  record CameFrom (gap c : ℕ) (x : PieceState) (link : LinkNo) (y : ℕ) : Type 0 where
    from : ℕ
    ahead : ℕ
    small : from < p.cubs
    few : x.piece ≤ p.pieces
    number : x.piece ≡ ahead + gap
    way : link ≡ way_ahead p from ahead
    to : c ≡ cub_of p (from + ahead)
    sent : WasSentBy p beyond from c link (msg.MirrorState x) y

  came_from : (gap : ℕ) → AllGo gap → (c i : ℕ) (stamp : Stamp) (link : LinkNo) (x : PieceState) → c < p.cubs → i < lives.count c
      → lives.input c i ≡ Take stamp link (msg.MirrorState x)
      → CameFrom gap c x link stamp.beat
  came_from gap go c i stamp link x small low e =
      let a = told.mirrors c i stamp link x small low e in
      let sends = subst (λ (l : LinkNo). beyond.Sends a.from l (msg.MirrorState x) a.sent.beat) a.way a.sent.sent in
      let m = known.mirror a.from a.ahead x.tenancy x.visit x.piece a.sent.beat a.small a.some sends in
      record {
        from = a.from;
        ahead = a.ahead;
        small = a.small;
        few = (known.mirror_sent m).few;
        number = go a.from a.ahead x.tenancy x.visit x.piece a.sent.beat m;
        way = a.way;
        to = a.to;
        sent = a.sent;
      }

  -- from a beat of the life on a cub has not come back by its tick of a later one
  since_life : (c i y b : ℕ) → c < p.cubs → i < lives.count c → beat_at (lives.input c) i ≡ b → beat_at (lives.input c) 0 ≤ y
      → IsInOneLife beyond c y b
  since_life c i y b small low eb le w back by =
      let began = back_in_life p lives beyond are fits c i w small low back (omega arith) in
      let eb0 = began.in_beat in
      omega arith

  -- what stands at a tick that a kill must have come before entered by a mirror state that was sent behind it: behind it on the
  -- link, or since the cub came back
  behind_kill : (gap : ℕ) → AllGo gap → (a k c : ℕ) (t : Tenancy) (n j y b i : ℕ) (stamp : Stamp)
      → IsKillSend p beyond a k t.instance.0 t.slot.0 n y → c ≡ cub_of p (a + k) → j ≡ k + gap
      → SplitsOffNone p lives c (piece t n j)
      → y + p.delay ≤ b → c < p.cubs → i < lives.count c → lives.input c i ≡ Tick stamp → stamp.beat ≡ b
      → CameToTick p lives c b
      → In (piece t n j) (store_at p c (lives.input c) i).pieces.items → MirrorSince among a k t n j y
  behind_kill gap go a k c t n j y b i stamp kill to number none late small low tick eb up there =
      let d = (life c small).entered i (piece t n j) (omega arith) there in
      of_entry d (lives.input c d.at) refl d.enters
    where
      inputs : ℕ → Input Msg
      inputs = lives.input c

      of_entry : (d : StandsSince p c (lives.input c) (piece t n j) i) → (q : Input Msg) → lives.input c d.at ≡ q
          → Enters p c q (store_at p c (lives.input c) d.at) (piece t n j)
          → MirrorSince among a k t n j y
      of_entry d (Tick at) e w = let before = d.before in absurd (none d.at at (omega arith) e w)
      of_entry d (Take at link m) e w =
          let x : PieceState = piece t n j in
          let before = d.before in
          let done : d.at < lives.count c = omega arith in
          let is : lives.input c d.at ≡ Take at link (msg.MirrorState x) = e
          ∙ ap (λ (o : Msg). Take at link o) w.is in
          let f = came_from gap go c d.at at link x small done is in
          let some = kill.some in
          let most = f.few in
          let above = f.number in
          let steps : f.ahead ≡ k = omega arith in
          let from : f.from ≡ a = one_before p f.from a k f.small kill.small
          (ap (λ (s : ℕ). cub_of p (f.from + s)) (sym steps) ∙ sym f.to ∙ to) in
          let way : link ≡ way_ahead p a k = f.way ∙ ap (λ (s : ℕ). way_ahead p f.from s) steps
          ∙ ap (λ (s : ℕ). way_ahead p s k) from in
          let ib : beat_at (lives.input c) i ≡ stamp.beat = ap (λ (q : Input Msg). (stamp_of q).beat) tick in
          let db : beat_at (lives.input c) d.at ≡ at.beat = ap (λ (q : Input Msg). (stamp_of q).beat) e in
          ⊎_elim
          (λ (l : y < beat_at (lives.input c) 0).
          let rise = beats_rise p (lives.count c) (lives.input c) (are c small) 0 d.at (omega arith) done in
          let back = returned p lives beyond are fits c small (omega arith) (omega arith) in
          let since = f.sent.life (beat_at (lives.input c) 0) back (omega arith) in
          let by_a = subst (λ (s : ℕ). beyond.Sends s link (msg.MirrorState x) f.sent.beat) from f.sent.sent in
          let on_way = subst (λ (q : LinkNo). beyond.Sends a q (msg.MirrorState x) f.sent.beat) way by_a in
          record {
            beat = f.sent.beat;
            sent = known.mirror a k t n j f.sent.beat kill.small kill.some on_way;
            after = omega arith;
          })
          (λ (l : beat_at (lives.input c) 0 ≤ y).
          let leads : Leads p (way_ahead p a k) a c = subst (λ (s : ℕ). Leads p (way_ahead p a k) a s) (sym to)
          (ahead_ends p a k plan kill.small kill.some (omega arith)) in
          let g = told.to a c y b (way_ahead p a k)
          (msg.Kill (record { 0 = t.instance.0 }) (record { 0 = t.slot.0 }) n) kill.sends leads small up
          (since_life c i y b small low (omega arith) l) late in
          let soon = g.soon in
          let later = cut_before a c y i stamp (way_ahead p a k) (record { 0 = t.instance.0 })
          (record { 0 = t.slot.0 }) n x g d small low tick (omega arith) refl refl in
          let s = g.behind d.at at (msg.MirrorState x) later done
          (is ∙ ap (λ (q : LinkNo). Take at q (msg.MirrorState x)) way) in
          record {
            beat = s.beat;
            sent = known.mirror a k t n j s.beat kill.small kill.some s.sent;
            after = s.since;
          })
          (cases_lt y (beat_at (lives.input c) 0))

  -- What is used when a kill must have come was sent behind it, if all mirror states go with one gap, and the cub has not split
  -- the piece off itself.
  pub killed_by_link : (gap : ℕ) → AllGo gap → {a k c : ℕ} {t : Tenancy} {n j y b : ℕ}
      → IsKillSend p beyond a k t.instance.0 t.slot.0 n y → c ≡ cub_of p (a + k) → j ≡ k + gap
      → SplitsOffNone p lives c (piece t n j)
      → Uses (pieces_by p lives) c t n j b → y + p.delay ≤ b → MirrorSince among a k t n j y
  killed_by_link gap go {a} {k} {c} {t} {n} {j} {y} {b} kill to number none uses late =
      let some = kill.some in
      ⊎_elim
      (λ (w : AsksAt p lives c t n j b).
      let tick = w.tick in
      let stamp : Stamp = made_stamp b w.reading in
      let inner = (life c tick.small).in_tick tick.at stamp (piece t n j) in
      of_use tick (⊎_elim
      (λ q. let zero = q.0 in absurd (omega arith))
      (λ q. ⊎_elim (λ u. inl ((life c tick.small).within tick.at (piece t n j) u)) (λ u. inr u) (inner.unasked q.1))
      w.asks))
      (λ (w : ServesAt p lives c t n j b).
      let tick = w.sends.tick in
      let stamp : Stamp = made_stamp b w.sends.reading in
      let inner = (life c tick.small).in_tick tick.at stamp (piece t n j) in
      of_use tick (⊎_elim
      (λ q. let zero = q.0 in absurd (omega arith))
      (λ q. inner.at_serving q.1)
      w.sends.serves))
      uses
    where
      of_use : {l : ℕ} → (tick : TickAt p lives c b l)
          → In (piece t n j) (store_at p c (lives.input c) tick.at).pieces.items
          ⊎ IsSplitOff p c (made_stamp b l) (store_at p c (lives.input c) tick.at) (piece t n j)
          → MirrorSince among a k t n j y
      of_use {l} tick how = ⊎_elim
          (λ u. behind_kill gap go a k c t n j y b tick.at
          (made_stamp b l) kill to number none late tick.small tick.done tick.is refl (record { reading = l; tick = tick }) u)
          (λ u. absurd (none tick.at (made_stamp b l) tick.done tick.is u))
          how

  -- So it is by the rules: a piece that is killed is not the first one.
  pub killed : {a k c : ℕ} {t : Tenancy} {n j x y b : ℕ} → among.Split a t n x → among.KillSent a k t.instance.0 t.slot.0 n y
      → c ≡ cub_of p (a + k) → j ≡ k + 1
      → Uses (pieces_by p lives) c t n j b → y + p.delay ≤ b → MirrorSince among a k t n j y
  killed {a} {k} {c} {t} {n} {j} {x} {y} {b} split sent to number uses late =
      let kill = known.kill_sent sent in
      let some = kill.some in
      killed_by_link 1 (λ d i u m q z w. known.by_rules split w) kill to number
      (λ i stamp low is u. let first = u.first in omega arith) uses late
