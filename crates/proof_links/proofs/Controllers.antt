-- Whom the controller stops, how and where, and that whoever it stops was begun.
use Rattle.std.proofs.Common.{◌≡◌, ℕ, suc, ◌+◌, ◌%◌, ◌<◌, ◌≤◌, List, Bool, true, false, cond, Option, Some, None, refl, sym, ap, subst, ◌∙◌, arith, ⊎_elim, inl, inr, eq-or-lt_of_le}
use Rattle.std.specs.Prelude.{◌⊎◌}
use Rattle.std.proofs.lemmas.Bool.{cases_lt}
use Rattle.tiger_base.specs.declared.number.Instance.{Instance}
use Rattle.tiger_base.specs.declared.number.LinkNo.{LinkNo}
use Rattle.tiger_base.specs.declared.number.SlotNo.{SlotNo}
use Rattle.tiger_base.specs.declared.number.Stamp.{Stamp}
use Rattle.tiger_base.specs.declared.tenancy.Ask.{Ask}
use Rattle.tiger_base.specs.declared.tenancy.Tag.{Tag}
use Rattle.tiger_base.specs.declared.tenancy.Tenancy.{Tenancy}
use Rattle.tiger_base.specs.declared.message.Msg.{Msg}
use Rattle.tiger_base.specs.declared.message.Msg.TheVariants as msg
use Rattle.slot_plan.specs.declared.params.Params.{Params}
use Rattle.slot_plan.specs.Conditions.{IsPlan}
use Rattle.slot_plan.specs.Times.{time_of, due, cub_of}
use Rattle.node_kit.specs.declared.course.Order.{Order}
use Rattle.node_kit.specs.declared.course.OrderKind.TheVariants.{Begin}
use Rattle.node_kit.specs.declared.journal.What.TheVariants as what
use Rattle.node_kit.specs.declared.outbox.Out.{Out}
use Rattle.node_kit.specs.declared.outbox.Out.TheVariants as out
use Rattle.node_kit.specs.Steps.{Deed, Input, stamp_of}
use Rattle.node_kit.specs.Steps.Input.{Take, Tick}
use Rattle.node_kit.specs.Ways.{way_to_cub}
use Rattle.run_facts.specs.Events.{stamp_at, is_tick, is_tick_input}
use Rattle.run_facts.specs.Histories.{History, beat, open_beat, reading, ticks}
use Rattle.run_facts.proofs.Counts.{count-numbered}
use Rattle.disk_core.specs.State.{DiskState}
use Rattle.controller_core.specs.Orders.{start_of}
use Rattle.controller_core.specs.State.{tenancy_of}
use Rattle.controller_core.specs.Rules.{starts, visit_due}
use Rattle.proof_lives.specs.Lives.{Lives, cut_in, store_at, beat_at}
use Rattle.lists.specs.Elements.{In}
use Rattle.proof_lives.specs.Facts.{DidAt}
use Rattle.proof_lives.specs.Histories.{acting}
use Rattle.proof_lives.specs.TwoLifeRun.{WhichLife, life_in}
use Rattle.proof_lives.specs.TwoLifeRun.WhichLife.{First, Later}
use Rattle.proof_lives.proofs.Carrying.{stamp_same}
use Rattle.proof_lives.proofs.Inserting.{put_out}
use Rattle.proof_lives.proofs.Lines.{kept_at}
use Rattle.proof_lives.proofs.Order.{tick_of}
use Rattle.proof_lives.proofs.Returns.{opens_by, opens_rise}
use Rattle.proof_lives.proofs.TwoLives.{beat_in}
use Rattle.proof_controller.specs.Controllers.{controller, command, commands_at, known_at, GoneAt, Stops, StoppedAt, StoppedWaiting}
use Rattle.proof_controller.specs.Stops.{tag_at, IsStopOf}
use Rattle.proof_controller.proofs.CommandedOnce.{StoppedIn, stopped_there, same_event, one_stop}
use Rattle.proof_controller.proofs.Controllers.{same_instance, same_visit, tag_sent}
use Rattle.proof_controller.proofs.Knowing.{start_from, told_before}
use Rattle.proof_controller.proofs.Placings.{BringsFirst, first_put, told_of}
use Rattle.proof_controller.proofs.PutFirst.{first_state}
use Rattle.proof_controller.proofs.Visits.{IsLastDue, last_due}
use Rattle.proof_schedule.specs.Facts.{Facts}
use Rattle.proof_schedule.specs.StopLaws.{IsStopAt, IsStopWaiting}
use Rattle.proof_facts.specs.Beside.{Additions}
use Rattle.proof_facts.specs.Facts.{BegunAt, facts_of}
use Rattle.proof_facts.specs.Lives.{lives_of}
use Rattle.proof_facts.specs.Rings.{IsRingWith}
use Rattle.proof_links.proofs.Carrying.{came_from, did_before, from_cub}
use Rattle.proof_links.proofs.Nodes.{after_tick, clock, controller_inside, cub_inside, lived, lives_on, rises, ticks_at}
use Rattle.proof_links.proofs.Ordering.{both_start, finished_by, ordered_before}

module _ {S : Type 0} {step : S → Input Msg → Deed Msg S} {p : Params} {orders : List Order} {disk_at : ℕ → DiskState}
    {added : Additions} {h : History Msg S} (plan : IsPlan p) (ring : IsRingWith step p orders disk_at added h) where
  -- the lives, the controller's number and its inputs, and the facts
  abbrev pub lives : Lives
  lives = lives_of h

  abbrev pub ctrl : ℕ
  ctrl = controller p

  abbrev pub inputs : ℕ → Input Msg
  inputs = lives.input (controller p)

  abbrev pub facts : Facts
  facts = facts_of p orders h

  -- ---- the controller's events

  -- The controller does not die.
  pub whole : acting h (controller p) ≡ h.count (controller p)
  whole = lives_on plan ring (controller p) (controller_inside plan ring) (omega arith)

  pub done_of : (i : ℕ) → i < acting h (controller p) → i < h.count (controller p)
  done_of i low = let w = whole in omega arith

  pub beat_of : (i : ℕ) → beat h ctrl i ≡ beat_at inputs i
  beat_of i = beat_in h First ctrl i

  -- A tick ends its beat: a message that is taken in that beat or a lower one is taken before the tick.
  pub tick_ends : (i : ℕ) (stamp : Stamp) → i < acting h ctrl → inputs i ≡ Tick stamp
      → open_beat h ctrl (suc i) ≡ beat h ctrl i + 1
  tick_ends i stamp low e = after_tick plan ring ctrl i (controller_inside plan ring) (done_of i low)
      (ticks_at plan ring First ctrl i (controller_inside plan ring) low ∙ ap is_tick_input e)

  pub before_tick : (i j : ℕ) (stamp other : Stamp) (link : LinkNo) (m : Msg) → i < acting h ctrl → j < acting h ctrl
      → inputs i ≡ Tick stamp → inputs j ≡ Take other link m
      → beat h ctrl j ≤ beat h ctrl i → j < i
  before_tick i j stamp other link m low upper e f by = ⊎_elim
      (λ (l : j < i). l)
      (λ (g : i ≤ j). ⊎_elim
      (λ (same : i ≡ j). let z : ◌≡◌ {A = Input Msg} (Tick stamp) (Take other link m) = sym e
      ∙ (ap inputs same ∙ f) in absurd (cc))
      (λ (less : i < j).
      let t = tick_ends i stamp low e in
      let done = done_of j upper in
      let r = opens_rise ring.run ctrl (controller_inside plan ring) (suc i) j less (omega arith) in
      let b = opens_by ring.run ctrl (controller_inside plan ring) j done in
      absurd (omega arith))
      (eq-or-lt_of_le g))
      (cases_lt j i)

  -- A stop among the facts is a stop in the event.
  pub stop_in : (v : Instance) (tag : Option Tag) (n b : ℕ) (s : Stops p orders lives v tag n b)
      → StoppedIn p orders (inputs s.at) (known_at p orders inputs s.at) v
      (out.Send (way_to_cub p (cub_of p n)) (msg.Deschedule v tag))
  stop_in v tag n b s =
      stopped_there p orders inputs s.at v (out.Send (way_to_cub p (cub_of p n)) (msg.Deschedule v tag)) refl s.near

  -- It has the tag of its place.
  pub stop_is : (v : Instance) (tag : Option Tag) (n b : ℕ) (s : Stops p orders lives v tag n b)
      → (m : ℕ) × IsStopOf p orders (stop_in v tag n b s).stamp.reading (known_at p orders inputs s.at).placed v tag m
  stop_is v tag n b s =
      let i = stop_in v tag n b s in
      let t = (tag_sent p (way_to_cub p (cub_of p n)) v v tag i.stopped.tag i.stopped.number i.stopped.which).0 in (
        i.stopped.number,
        subst (λ (x : Option Tag). IsStopOf p orders i.stamp.reading
            (known_at p orders inputs s.at).placed v x i.stopped.number) (sym t) i.stopped.is,
      )

  -- What is stopped is gone.
  pub gone_of : (v : Instance) (tag : Option Tag) (n b w : ℕ) → v.0 ≡ w → Stops p orders lives v tag n b
      → GoneAt p orders lives w b
  gone_of v tag n b w same s =
      record { at = s.at; done = s.done; in_beat = s.in_beat; instance = v; same = same; gone = s.gone }

  -- An output that speaks of a stop is one of the facts.
  pub stops_here : (i : ℕ) (v : Instance) (o : Out Msg) (b : ℕ) → i < acting h ctrl → beat_at inputs i ≡ b
      → (s : StoppedIn p orders (inputs i) (known_at p orders inputs i) v o)
      → Stops p orders lives v s.stopped.tag s.stopped.number b
  unfolding cub_of
  stops_here i v o b low at s = record {
    at = i;
    done = low;
    in_beat = at;
    gone = s.stopped.all (out.Act (what.Gone v)) (inl refl);
    near = s.stopped.all (out.Send (way_to_cub p (s.stopped.number % p.cubs)) (msg.Deschedule v s.stopped.tag))
        (inr (inl refl));
    far = s.stopped.all (out.Send (way_to_cub p ((s.stopped.number + 1) % p.cubs)) (msg.Deschedule v s.stopped.tag))
        (inr (inr (inl refl)));
  }

  -- A stop with the tag of a visit is a stop at it.
  pub stopped_at : (v b n : ℕ) (w : Instance) (tag : Option Tag) (t : Tenancy) → w.0 ≡ v
      → tag ≡ Some (tag_at t.slot n) → Stops p orders lives w tag n b → StoppedAt p orders lives v t.slot.0 n b
  stopped_at v b n w tag t same e s =
      record {
        instance = w;
        same = same;
        slot = t.slot;
        number = refl;
        stops = subst (λ (x : Option Tag). Stops p orders lives w x n b) e s;
      }

  -- A stop without a tag is a stop at the disk of the start.
  pub stopped_waiting : (v b n : ℕ) (w : Instance) (tag : Option Tag) (ask : Ask) → w.0 ≡ v
      → start_of orders w ≡ Some ask → n ≡ ask.disk.0 → tag ≡ None → Stops p orders lives w tag n b
      → StoppedWaiting p orders lives v n b
  stopped_waiting v b n w tag ask same start e f s =
      let from = start_from orders w ask start in
      record {
        ask = ask;
        ordered = from.0;
        same = from.1 ∙ same;
        disk = sym e;
        stops = subst (λ (x : Option Tag). Stops p orders lives ask.instance x n b) f
            (subst (λ (x : Instance). Stops p orders lives x tag n b) (sym (same_instance ask.instance w from.1)) s);
      }

  pub how : {v z : ℕ} → GoneAt p orders lives v z
      → ((s n : ℕ) × StoppedAt p orders lives v s n z) ⊎ ((d : ℕ) × StoppedWaiting p orders lives v d z)
  how {v} {z} g =
      let i = stopped_there p orders inputs g.at g.instance (out.Act (what.Gone g.instance)) refl g.gone in
      let s = stops_here g.at g.instance (out.Act (what.Gone g.instance)) z g.done g.in_beat i in
      let n : ℕ = i.stopped.number in
      ⊎_elim
      (λ q. let at = stopped_at v z n g.instance i.stopped.tag q.0 g.same q.4 s in inl (q.0.slot.0, n, at))
      (λ q. inr (n, stopped_waiting v z n g.instance i.stopped.tag q.0 g.same q.2 q.3 q.4 s))
      i.stopped.is

  -- An instance is stopped in one event, and so in one beat.
  pub one_event : (v w : Instance) (a b : Option Tag) (n m y z : ℕ) → v ≡ w
      → (s : Stops p orders lives v a n y) (t : Stops p orders lives w b m z) → s.at ≡ t.at
  one_event v w a b n m y z e s t =
      let one = stop_in v a n y s in
      let two = stop_in w b m z t in
      same_event p orders inputs s.at t.at w (out.Send (way_to_cub p (cub_of p n)) (msg.Deschedule v a))
      (out.Send (way_to_cub p (cub_of p m)) (msg.Deschedule w b))
      (subst (λ (x : Instance). StoppedIn p orders (inputs s.at) (known_at p orders inputs s.at) x
      (out.Send (way_to_cub p (cub_of p n)) (msg.Deschedule v a))) e one) two

  one_beat : (i j b c : ℕ) → i ≡ j → beat_at inputs i ≡ b → beat_at inputs j ≡ c → c ≡ b
  one_beat i j b c e f g = sym g ∙ (ap (λ n. beat_at inputs n) (sym e) ∙ f)

  pub gone_once : {v y z : ℕ} → GoneAt p orders lives v y → GoneAt p orders lives v z → z ≡ y
  gone_once {v} {y} {z} g k =
      let one = stopped_there p orders inputs g.at g.instance (out.Act (what.Gone g.instance)) refl g.gone in
      let two = stopped_there p orders inputs k.at k.instance (out.Act (what.Gone k.instance)) refl k.gone in
      let e = same_instance g.instance k.instance (g.same ∙ sym k.same) in
      one_beat g.at k.at y z
      (same_event p orders inputs g.at k.at k.instance (out.Act (what.Gone g.instance)) (out.Act (what.Gone k.instance))
      (subst (λ (x : Instance). StoppedIn p orders (inputs g.at) (known_at p orders inputs g.at) x
      (out.Act (what.Gone g.instance))) e one) two)
      g.in_beat k.in_beat

  -- It is stopped with one tag.
  one_tag : (v w : Instance) (a b : Option Tag) (n m y z : ℕ) → v ≡ w
      → (s : Stops p orders lives v a n y) (t : Stops p orders lives w b m z) → a ≡ b
  one_tag v w a b n m y z e s t =
      let one = stop_is v a n y s in
      let two = stop_is w b m z t in
      let at = one_event v w a b n m y z e s t in
      let stamps : (stop_in v a n y s).stamp ≡ (stop_in w b m z t).stamp =
      ap stamp_of (sym (stop_in v a n y s).tick ∙ (ap inputs at ∙ (stop_in w b m z t).tick)) in
      let moved =
      subst (λ (x : Stamp). IsStopOf p orders x.reading (known_at p orders inputs t.at).placed w a one.0) stamps
      (subst (λ (i : ℕ). IsStopOf p orders (stop_in v a n y s).stamp.reading
      (known_at p orders inputs i).placed w a one.0) at
      (subst (λ (x : Instance). IsStopOf p orders (stop_in v a n y s).stamp.reading
      (known_at p orders inputs s.at).placed x a one.0) e one.1)) in
      (one_stop p orders (stop_in w b m z t).stamp.reading
      (known_at p orders inputs t.at).placed w a b one.0 two.0 moved two.1).0

  pub one_place : {v s n y u m z : ℕ} → StoppedAt p orders lives v s n y → StoppedAt p orders lives v u m z
      → (u ≡ s) × (m ≡ n)
  one_place {v} {s} {n} {y} {u} {m} {z} a b =
      let e = same_instance a.instance b.instance (a.same ∙ sym b.same) in
      let t =
      one_tag a.instance b.instance (Some (tag_at a.slot n)) (Some (tag_at b.slot m)) n m y z e a.stops b.stops in
      let q = same_visit a.slot b.slot n m t in
      (sym b.number ∙ (ap (λ (x : SlotNo). x.0) (sym q.0) ∙ a.number), sym q.1)

  pub one_way : {v s n y d z : ℕ} → StoppedAt p orders lives v s n y → StoppedWaiting p orders lives v d z → ⊥
  one_way {v} {s} {n} {y} {d} {z} a b =
      let e = same_instance a.instance b.ask.instance (a.same ∙ sym b.same) in
      let t = one_tag a.instance b.ask.instance (Some (tag_at a.slot n)) None n d y z e a.stops b.stops in
      absurd (cc)

  -- The reading of a stop is that of its beat.
  read_at : (i b : ℕ) (stamp : Stamp) → i < acting h ctrl → inputs i ≡ Tick stamp → beat_at inputs i ≡ b
      → (time_of p b ≤ stamp.reading) × (stamp.reading ≤ time_of p b + p.skew)
  read_at i b stamp low e f =
      let r = ring.run.reads ctrl i (controller_inside plan ring) (done_of i low) in
      let same : stamp_at (h.event ctrl i) ≡ stamp = stamp_same (h.event ctrl i) ∙ ap stamp_of e in
      let reads : reading h ctrl i ≡ stamp.reading = ap (λ (s : Stamp). s.reading) same in
      let beats : time_of p (beat h ctrl i) ≡ time_of p b = ap (λ n. time_of p n) (beat_of i ∙ f) in
      let r0 = r.0 in
      let r1 = r.1 in
      (omega arith, omega arith)

  -- A tenancy that the controller knows was put in a lower beat.
  record PutBefore (t : Tenancy) (z : ℕ) : Type 0 where
    which : WhichLife
    cub : ℕ
    beat : ℕ
    put : DidAt p (life_in h which) cub (put_out t) beat
    before : beat < z

  -- So was one whose place a cub tells: it was put just then, or its first state had come, which was sent at the Put.
  put_told : (w : WhichLife) (a b : ℕ) (link : LinkNo) (t : Tenancy)
      → DidAt p (life_in h w) a (out.Send link (msg.Placed t)) b → PutBefore t (suc b)
  put_told w a b link t d =
      let ls : Lives = life_in h w in
      ⊎_elim
      (λ put. record {
        which = w;
        cub = a;
        beat = b;
        put = record { small = d.small; at = d.at; done = d.done; in_beat = d.in_beat; did = put };
        before = omega arith;
      })
      (λ (s : BringsFirst (ls.input a d.at) t).
      let f = came_from plan ring w a d.at s.stamp s.link (msg.ViewerState (first_state t))
      (cub_inside plan ring a d.small) d.done s.is in
      let small = from_cub plan ring f (λ q. q) (λ q. q) in
      let g = (did_before plan ring f small (λ q. q)).0 in
      let sender : Lives = life_in h g.which in
      let did = g.did in
      let done = did.done in
      let life = lived plan ring g.which f.from small in
      let kept = kept_at p f.from plan small (sender.input f.from) did.at (λ k l. life.short k (omega arith)) in
      let put = first_put p f.from plan small (cut_in sender f.from did.at) (sender.input f.from did.at)
      (store_at p f.from (sender.input f.from) did.at) s.link t kept (life.short did.at done) did.did in
      let got : s.stamp.beat ≡ b = sym (ap (λ (k : Input Msg). (stamp_of k).beat) s.is) ∙ d.in_beat in
      let later = g.later in
      record {
        which = g.which;
        cub = f.from;
        beat = g.beat;
        put = record { small = small; at = did.at; done = done; in_beat = did.in_beat; did = put };
        before = omega arith;
      })
      (told_of p a plan d.small (cut_in ls a d.at) (ls.input a d.at) (store_at p a (ls.input a) d.at) link t d.did)

  put_before : (i : ℕ) (v : Instance) (t : Tenancy) → i < acting h ctrl
      → tenancy_of (known_at p orders inputs i).placed v ≡ Some t → PutBefore t (beat h ctrl i)
  put_before i v t low e =
      let told = told_before p orders inputs i v t e in
      let before = told.before in
      let done : told.at < acting h ctrl = omega arith in
      let f = came_from plan ring First ctrl told.at told.stamp told.link (msg.Placed t)
      (controller_inside plan ring) done told.is in
      let small = from_cub plan ring f (λ q. q) (λ q. q) in
      let d = (did_before plan ring f small (λ q. q)).0 in
      let put = put_told d.which f.from d.beat told.link t d.did in
      let by = put.before in
      let taken : beat h ctrl told.at ≡ told.stamp.beat =
      beat_of told.at ∙ ap (λ (k : Input Msg). (stamp_of k).beat) told.is in
      let rise = rises plan ring ctrl told.at i (controller_inside plan ring) (omega arith) (done_of i low) in
      let later = d.later in
      record { which = put.which; cub = put.cub; beat = put.beat; put = put.put; before = omega arith }

  -- A Put of either life is one of the facts.
  joined_put : (w : WhichLife) {c b : ℕ} {t : Tenancy} → DidAt p (life_in h w) c (put_out t) b → facts.Put c t b
  joined_put First d = inl d
  joined_put Later d = inr d

  pub place : {v s n z : ℕ} → StoppedAt p orders lives v s n z → IsStopAt p facts v s n z
  place {v} {s} {n} {z} a =
      let tag : Option Tag = Some (tag_at a.slot n) in
      let i = stop_in a.instance tag n z a.stops in
      let is = stop_is a.instance tag n z a.stops in
      let reads = read_at a.stops.at z i.stamp a.stops.done i.tick a.stops.in_beat in
      let reads0 = reads.0 in
      let reads1 = reads.1 in
      ⊎_elim
      (λ q.
      let t : Tenancy = q.0 in
      let same = same_visit a.slot t.slot n is.0 q.4 in
      let at : n ≡ visit_due p t i.stamp.reading = same.1 ∙ q.2 in
      let slot : t.slot.0 ≡ s = ap (λ (x : SlotNo). x.0) (sym same.0) ∙ a.number in
      let by = last_due p t (time_of p z) i.stamp.reading plan.ranges reads0 in
      let by2 = subst (λ m. IsLastDue p t (time_of p z) i.stamp.reading m) (sym at) by in
      let put = put_before a.stops.at a.instance t a.stops.done q.1 in
      let told = told_before p orders inputs a.stops.at a.instance t q.1 in
      let zb : beat h ctrl a.stops.at ≡ z = beat_of a.stops.at ∙ a.stops.in_beat in
      let before = put.before in
      let high = q.3 in
      let number = same.1 in
      record {
        cub = put.cub;
        tenancy = t;
        beat = put.beat;
        put = joined_put put.which put.put;
        before = omega arith;
        same = told.same ∙ a.same;
        slot = slot;
        low = by2.low;
        high = omega arith;
        last = subst (λ x. ((due p x n ≤ time_of p z + p.skew) × (time_of p z < due p x (n + 1))) ⊎
            ((n ≡ t.first) × (time_of p z < due p x n))) slot
            (⊎_elim (λ w. let w0 = w.0 in inl (omega arith, w.1)) (λ w. inr w) by2.last);
      })
      (λ q. let e = q.4 in absurd (cc))
      is.1

  -- A tick counts as one.
  takes_one : (i : ℕ) → is_tick (h.event ctrl i) ≡ true → ticks h ctrl (suc i) ≡ ticks h ctrl i + 1
  takes_one i t =
      let q : ticks h ctrl (suc i) ≡ suc (ticks h ctrl i) =
      ap (λ (b : Bool). cond b (suc (ticks h ctrl i)) (ticks h ctrl i)) t in
      omega arith

  -- An order of a beat that the controller has ended was begun in it.
  pub begun_by : (ask : Ask) (o i : ℕ) (stamp : Stamp) → In (record { beat = o; what = Begin ask }) orders
      → i < acting h ctrl → inputs i ≡ Tick stamp → o ≤ stamp.beat → BegunAt p orders lives ask o
  unfolding cub_of starts
  begun_by ask o i stamp ordered low e le =
      let after = tick_ends i stamp low e in
      let bi : beat h ctrl i ≡ stamp.beat = beat_of i ∙ ap (λ (k : Input Msg). (stamp_of k).beat) e in
      let done = done_of i low in
      let ticked = clock plan ring ctrl (suc i) (controller_inside plan ring) (omega arith) (omega arith) in
      let t = count-numbered is_tick h ctrl (suc i) o (omega arith) in
      let tb = t.before in
      let lt : t.at < acting h ctrl = omega arith in
      let at_done = done_of t.at lt in
      let now = clock plan ring ctrl t.at (controller_inside plan ring) (omega arith) (omega arith) in
      let next = clock plan ring ctrl (suc t.at) (controller_inside plan ring) (omega arith) (omega arith) in
      let one = takes_one t.at t.passes in
      let ends = after_tick plan ring ctrl t.at (controller_inside plan ring) at_done t.passes in
      let number = t.number in
      let b : beat h ctrl t.at ≡ o = omega arith in
      let s = tick_of (inputs t.at) (sym (ticks_at plan ring First ctrl t.at (controller_inside plan ring) lt) ∙ t.passes) in
      let ib : beat_at inputs t.at ≡ o = sym (beat_of t.at) ∙ b in
      let sb : o ≡ s.0.beat = sym ib ∙ ap (λ (k : Input Msg). (stamp_of k).beat) s.1 in
      let here : In (record { beat = s.0.beat; what = Begin ask }) orders =
      subst (λ n. In (record { beat = n; what = Begin ask }) orders) sb ordered in
      let put : (q : Out Msg) → In q (starts p ask) → In q (commands_at p orders inputs t.at) = λ q k.
      subst (λ (x : Input Msg). In q (command p orders x (known_at p orders inputs t.at)).outs) (sym s.1)
      (both_start p orders s.0 (known_at p orders inputs t.at) ask q here k) in
      record {
        at = t.at;
        done = lt;
        in_beat = ib;
        near = put
            (out.Send (way_to_cub p (cub_of p ask.disk.0)) (msg.Start false ask)) (inl refl);
        far =
            put (out.Send (way_to_cub p (cub_of p (ask.disk.0 + 1))) (msg.Start true ask)) (inr (inl refl));
      }

  -- An instance that is stopped was begun before or in the same beat.
  pub waiting : {v d z : ℕ} → StoppedWaiting p orders lives v d z → IsStopWaiting facts v d
  waiting {v} {d} {z} s =
      let f =
      finished_by p orders (inputs s.stops.at) (known_at p orders inputs s.stops.at) s.ask.instance s.stops.gone in
      let le = ordered_before ring.counted s.ask s.ask.instance s.ordered.0 f.stamp.beat s.ordered.1 f.ordered refl in
      record {
        ask = s.ask;
        beat = s.ordered.0;
        begun = begun_by s.ask s.ordered.0 s.stops.at f.stamp s.ordered.1 s.stops.done f.tick le;
        same = s.same;
        disk = s.disk;
      }
