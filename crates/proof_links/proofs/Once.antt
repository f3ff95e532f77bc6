-- A cub gets one start of an instance, and a deschedule without a tag behind it, as the controller sends them.
use Rattle.std.proofs.Common.{◌≡◌, ℕ, suc, ◌+◌, ◌%◌, ◌<◌, ◌≤◌, ◌==◌, List, Bool, true, false, Some, None, refl, sym, ap, subst, ◌∙◌, arith, ⊎_elim, inl, inr}
use Rattle.std.specs.Prelude.{◌⊎◌, slice_get}
use Rattle.std.proofs.lemmas.Bool.{cases_lt, cases_order, eq-eqb, lt-ltb}
use Rattle.tiger_base.specs.declared.number.Instance.{Instance}
use Rattle.tiger_base.specs.declared.number.LinkNo.{LinkNo}
use Rattle.tiger_base.specs.declared.number.Stamp.{Stamp}
use Rattle.tiger_base.specs.declared.tenancy.Ask.{Ask}
use Rattle.tiger_base.specs.declared.message.Msg.{Msg}
use Rattle.tiger_base.specs.declared.message.Msg.TheVariants as msg
use Rattle.tiger_base.specs.Notes.{noted}
use Rattle.slot_plan.specs.declared.params.Params.{Params}
use Rattle.slot_plan.specs.Conditions.{IsPlan}
use Rattle.node_kit.specs.declared.course.Order.{Order}
use Rattle.node_kit.specs.declared.course.OrderKind.TheVariants.{Begin, Finish}
use Rattle.node_kit.specs.declared.journal.What.TheVariants as what
use Rattle.node_kit.specs.declared.outbox.Out.{Out}
use Rattle.node_kit.specs.declared.outbox.Out.TheVariants as out
use Rattle.node_kit.specs.Links.{links_of, ends_of}
use Rattle.node_kit.specs.Steps.{Deed, Input, stamp_of}
use Rattle.node_kit.specs.Steps.Input.{Take, Tick}
use Rattle.node_kit.specs.Ways.{way_to_cub}
use Rattle.run_facts.specs.Events.{is_take_on, is_tick_input, sends_of}
use Rattle.run_facts.specs.Histories.{History, beat, outs, place}
use Rattle.disk_core.specs.State.{DiskState}
use Rattle.controller_core.specs.declared.known.Known.{Known}
use Rattle.controller_core.specs.Orders.{orders_in}
use Rattle.controller_core.specs.Rules.{starts, commanding}
use Rattle.proof_lives.specs.Histories.{acting}
use Rattle.proof_lives.specs.Lives.{Lives}
use Rattle.lists.specs.Elements.{In}
use Rattle.proof_lives.specs.Facts.{AreStarts}
use Rattle.proof_lives.specs.TwoLifeRun.{WhichLife, event_in, life_in}
use Rattle.proof_lives.specs.TwoLifeRun.WhichLife.{First, Later}
use Rattle.proof_lives.proofs.Carrying.{same_ends}
use Rattle.proof_lives.proofs.Numbers.{places_rise, takes_next}
use Rattle.proof_lives.proofs.Returns.{opens_by, opens_rise}
use Rattle.proof_lives.proofs.TwoLives.{beat_in, events_rise}
use Rattle.proof_controller.specs.Controllers.{controller, command, known_at, IsOrdered}
use Rattle.proof_controller.specs.Stops.{tag_at}
use Rattle.proof_controller.proofs.CommandedOnce.{stopped_there}
use Rattle.proof_controller.proofs.Controllers.{tag_sent}
use Rattle.proof_controller.proofs.Knowing.{start_from}
use Rattle.proof_controller.proofs.Behind.{each_behind, kept}
use Rattle.proof_controller.proofs.Places.{place_in}
use Rattle.proof_controller.proofs.StartsOnce.{once_nothing}
use Rattle.proof_controller.specs.Orders.{IsOnce, StartAt, AreCounted}
use Rattle.proof_controller.proofs.Commands.{commanding_once, way_low}
use Rattle.proof_facts.specs.Beside.{Additions}
use Rattle.proof_facts.specs.Lives.{lives_of}
use Rattle.proof_facts.specs.Rings.{IsRingWith}
use Rattle.proof_links.proofs.Carrying.{Came, SentAs, came_from, commanded_before, from_controller, from_either, number_of, numbers_rise, dated, sent_in_life}
use Rattle.proof_links.proofs.Deschedules.{by_cub}
use Rattle.proof_links.proofs.Nodes.{after_tick, before, controller_inside, cub_inside, stays, takes_at, ticks_at}
use Rattle.proof_links.proofs.Ordering.{FinishedBy, StartedBy, at_beat, finished_by, ordered_before, ordered_once, place_of, started_by}

-- In an event the controller sends on a link each start once.
command_once : {p : Params} {orders : List Order} (plan : IsPlan p) (counted : AreCounted p orders) (i : Input Msg)
    (known : Known) (l b : ℕ) → IsOnce (sends_of l b (command p orders i known).outs)
command_once {p} {orders} plan counted (Take stamp link m) known l b = once_nothing
command_once {p} {orders} plan counted (Tick stamp) known l b =
    commanding_once p orders stamp known l b plan counted

-- The link from the controller to a cub has the cub's number.
low_link : (p : Params) (l from c : ℕ) → l < p.cubs → ends_of (links_of p) l ≡ Some (from, c) → l ≡ c
low_link p l from c low ends =
    let here : ends_of (links_of p) l ≡ Some (controller p, l) = rw (lt-ltb l p.cubs low) refl in
    (same_ends (controller p) l from c (sym here ∙ ends)).1

-- A stop at the disk of an ask goes to cubs to which its starts go.
start_near : (p : Params) (ask : Ask) (way : LinkNo) (n : ℕ) → n ≡ ask.disk.0
    → (way ≡ way_to_cub p (n % p.cubs)) ⊎ (way ≡ way_to_cub p ((n + 1) % p.cubs))
    → (x : Bool) × In (out.Send way (msg.Start x ask)) (starts p ask)
unfolding starts
start_near p ask way n same w = ⊎_elim
    (λ e. (
      false,
      inl (ap (λ (l : LinkNo). out.Send l (msg.Start false ask))
          (e ∙ ap (λ k. way_to_cub p (k % p.cubs)) same)),
    ))
    (λ e. (
      true,
      inr (inl (ap (λ (l : LinkNo). out.Send l (msg.Start true ask))
          (e ∙ ap (λ k. way_to_cub p ((k + 1) % p.cubs)) same))),
    ))
    w

-- A deschedule among what a tick puts out on a link stands behind the start of its instance, if that is ordered in
-- the same
-- beat.
start_ahead : (p : Params) (orders : List Order) (stamp : Stamp) (known : Known) (way : LinkNo) (b place : ℕ)
    (v : Instance) (a : Ask) (x : Bool) → AreCounted p orders
    → slice_get (sends_of way.0 b (command p orders (Tick stamp) known).outs) place
    ≡ Some (dated b (msg.Deschedule v None))
    → In (at_beat stamp.beat (Begin a)) orders → a.instance.0 ≡ v.0 → In (out.Send way (msg.Start x a)) (starts p a)
    → (k : ℕ) × (k < place)
    × (slice_get (sends_of way.0 b (command p orders (Tick stamp) known).outs) k ≡ Some (dated b (msg.Start x a)))
unfolding commanding orders_in
start_ahead p orders stamp known way b place v a x counted seen ordered same start =
    let test : Order → Bool = λ o. o.beat == stamp.beat in
    let g = each_behind p orders stamp.reading (orders_in stamp.beat orders) known way.0 b place v None seen in
    let k = kept test orders g.at g.order g.is in
    let order_is : g.order ≡ at_beat g.order.beat (Finish v) = ap (λ w. at_beat g.order.beat w) g.what in
    let s = counted.given.after_start k.at v (g.order.beat, k.is ∙ ap (λ (o : Order). Some o) order_is) in
    let first = s.3 in
    let one = ordered_once counted a s.1 stamp.beat first.0 ordered
    (place_in (at_beat first.0 (Begin s.1)) orders s.0 first.1) (same ∙ sym s.4) in
    let begins : slice_get orders s.0 ≡ Some (at_beat stamp.beat (Begin a)) = first.1
    ∙ ap (λ (q : Ask). Some (at_beat first.0 (Begin q))) one.0 ∙ ap (λ n. Some (at_beat n (Begin a))) one.1 in
    let q = k.before s.0 (at_beat stamp.beat (Begin a)) s.2 begins (eq-eqb _ _ refl) in
    g.ahead q.0 (at_beat stamp.beat (Begin a)) a way x q.1 q.2 refl start refl

module _ {S : Type 0} {step : S → Input Msg → Deed Msg S} {p : Params} {orders : List Order} {disk_at : ℕ → DiskState}
    {added : Additions} {h : History Msg S} (plan : IsPlan p) (ring : IsRingWith step p orders disk_at added h) where
  abbrev lives : Lives
  lives = lives_of h

  abbrev ctrl : ℕ
  ctrl = controller p

  abbrev inputs : ℕ → Input Msg
  inputs = lives.input (controller p)

  abbrev known : ℕ → Known
  known i = known_at p orders inputs i

  -- the link from the controller to a cub
  abbrev way : ℕ → LinkNo
  way c = record { 0 = c }

  -- What cub c took in its event of number i the controller sent it in one of its own, at a place on that link.
  record IsFrom (c i : ℕ) (m : Msg) (at there : ℕ) : Type 0 where
    note : SentAs plan ring ctrl at there (way c) m
    number : place c h c i ≡ number_of plan ring ctrl at there (way c)
    alive : at < acting h ctrl

  is_from : {c i b : ℕ} {link : LinkNo} {m : Msg} (f : Came plan ring c i b link m) → f.from ≡ ctrl → link.0 < p.cubs
      → IsFrom c i m f.at f.place_there
  is_from {c} {i} {b} {link} {m} f e low =
      let d = commanded_before plan ring f e in
      let link_is : link ≡ way c = ap way (low_link p link.0 f.from c low f.ends) in
      record {
        note = subst (λ (w : LinkNo). SentAs plan ring ctrl f.at f.place_there w m) link_is
            (subst (λ n. SentAs plan ring n f.at f.place_there link m) e f.note);
        number = subst (λ (w : LinkNo). place w.0 h c i ≡ number_of plan ring ctrl f.at f.place_there w) link_is
            (subst (λ n. place link.0 h c i ≡ number_of plan ring n f.at f.place_there link) e f.number);
        alive = d.done;
      }

  -- A start that a cub took came on the link from the controller.
  record StartCame (c i : ℕ) (link : LinkNo) (ask : Ask) (redundant : Bool) : Type 0 where
    at : ℕ
    there : ℕ
    own : link.0 ≡ c
    sent : IsFrom c i (msg.Start redundant ask) at there
    started : StartedBy p orders (inputs at) (way c) ask

  start_came : (w : WhichLife) (c i : ℕ) (stamp : Stamp) (link : LinkNo) (ask : Ask) (x : Bool) → c < p.cubs
      → i < (life_in h w).count c
      → (life_in h w).input c i ≡ Take stamp link (msg.Start x ask) → StartCame c (event_in h w c i) link ask x
  start_came w c i stamp link ask x small low e =
      let f = came_from plan ring w c i stamp link (msg.Start x ask) (cub_inside plan ring c small) low e in
      let k = from_controller plan ring f (λ q. q) (λ q. q) (λ q. q) in
      let d = commanded_before plan ring f k in
      let s = started_by p orders (inputs f.at) (known f.at) link ask x plan d.did in
      let own = low_link p link.0 f.from c s.low f.ends in
      record {
        at = f.at;
        there = f.place_there;
        own = own;
        sent = is_from f k s.low;
        started = subst (λ (w : LinkNo). StartedBy p orders (inputs f.at) w ask) (ap way own) s;
      }

  -- A deschedule without a tag that a cub took stops an instance one of whose starts goes out on the same link.
  record StopCame (c i : ℕ) (v : Instance) : Type 0 where
    at : ℕ
    there : ℕ
    sent : IsFrom c i (msg.Deschedule v None) at there
    finished : FinishedBy orders (inputs at) v
    ask : Ask
    ordered : IsOrdered orders ask
    same : ask.instance.0 ≡ v.0
    redundant : Bool
    start : In (out.Send (way c) (msg.Start redundant ask)) (starts p ask)

  stop_came : (w : WhichLife) (c i : ℕ) (stamp : Stamp) (link : LinkNo) (v : Instance) → c < p.cubs
      → i < (life_in h w).count c
      → (life_in h w).input c i ≡ Take stamp link (msg.Deschedule v None) → StopCame c (event_in h w c i) v
  stop_came w c i stamp link v small low e =
      let f = came_from plan ring w c i stamp link (msg.Deschedule v None) (cub_inside plan ring c small) low e in
      let one = sent_in_life plan ring w small low (ap (λ (q : Input Msg). (stamp_of q).beat) e) f in
      ⊎_elim
      (λ q. let b = by_cub plan ring f q.0 one in let t = b.tagged.1 in absurd (cc))
      (λ q. by_controller f q.0)
      (from_either plan ring f (λ q. q))
    where
      by_controller : (f : Came plan ring c (event_in h w c i) stamp.beat link (msg.Deschedule v None)) → f.from ≡ ctrl
          → StopCame c (event_in h w c i) v
      by_controller f e =
          let d = commanded_before plan ring f e in
          let s = stopped_there p orders inputs f.at v (out.Send link (msg.Deschedule v None)) refl d.did in
          let t = tag_sent p link v v None s.stopped.tag s.stopped.number s.stopped.which in
          let link_low : link.0 < p.cubs = ⊎_elim
          (λ q. subst (λ (x : LinkNo). x.0 < p.cubs) (sym q) (way_low p s.stopped.number plan))
          (λ q. subst (λ (x : LinkNo). x.0 < p.cubs) (sym q) (way_low p (s.stopped.number + 1) plan))
          t.1 in
          let link_is : link ≡ way c = ap way (low_link p link.0 f.from c link_low f.ends) in
          ⊎_elim
          (λ k. let z : None ≡ Some (tag_at k.0.slot s.stopped.number) = t.0 ∙ k.4 in absurd (cc))
          (λ k.
          let from = start_from orders v k.0 k.2 in
          let near = start_near p k.0 link s.stopped.number k.3 t.1 in
          record {
            at = f.at;
            there = f.place_there;
            sent = is_from f e link_low;
            finished =
                finished_by p orders (inputs f.at) (known f.at) v (s.stopped.all (out.Act (what.Gone v)) (inl refl));
            ask = k.0;
            ordered = from.0;
            same = from.1;
            redundant = near.0;
            start = subst (λ (x : LinkNo). In (out.Send x (msg.Start near.0 k.0)) (starts p k.0)) link_is near.1;
          })
          s.stopped.is

  -- ---- events of the controller

  -- The controller's event of number i is a tick.
  record TicksAt (i : ℕ) (stamp : Stamp) : Type 0 where
    alive : i < acting h ctrl
    is : inputs i ≡ Tick stamp

  tick_of_start : {c i : ℕ} {link : LinkNo} {ask : Ask} {x : Bool} (s : StartCame c i link ask x)
      → TicksAt s.at s.started.stamp
  tick_of_start s = record { alive = s.sent.alive; is = s.started.tick }

  tick_of_stop : {c i : ℕ} {v : Instance} (s : StopCame c i v) → TicksAt s.at s.finished.stamp
  tick_of_stop s = record { alive = s.sent.alive; is = s.finished.tick }

  -- Of two ticks the earlier one has the lower beat, and the one with the lower beat is earlier.
  ticks_apart : {i j : ℕ} {a b : Stamp} → TicksAt i a → TicksAt j b → i < j → a.beat < b.beat
  ticks_apart {i} {j} {a} {b} s t less =
      let inside = controller_inside plan ring in
      let tick = ticks_at plan ring First ctrl i inside s.alive ∙ ap is_tick_input s.is in
      let bi : beat h ctrl i ≡ a.beat = beat_in h First ctrl i ∙ ap (λ (x : Input Msg). (stamp_of x).beat) s.is in
      let bj : beat h ctrl j ≡ b.beat = beat_in h First ctrl j ∙ ap (λ (x : Input Msg). (stamp_of x).beat) t.is in
      let next = after_tick plan ring ctrl i inside (before plan ring First ctrl i inside s.alive).done tick in
      let done = (before plan ring First ctrl j inside t.alive).done in
      let rise = opens_rise ring.run ctrl inside (suc i) j less (omega arith) in
      let now = opens_by ring.run ctrl inside j done in
      omega arith

  same_tick : {i j : ℕ} {a b : Stamp} → TicksAt i a → TicksAt j b → a.beat ≡ b.beat → i ≡ j
  same_tick {i} {j} s t same = ⊎_elim
      (λ (q : i ≡ j). q)
      (⊎_elim
      (λ (q : i < j). let r = ticks_apart s t q in absurd (omega arith))
      (λ (q : j < i). let r = ticks_apart t s q in absurd (omega arith)))
      (cases_order i j)

  sooner_tick : {i j : ℕ} {a b : Stamp} → TicksAt i a → TicksAt j b → a.beat < b.beat → i < j
  sooner_tick {i} {j} {a} {b} s t less = ⊎_elim
      (λ (q : i ≡ j).
      let same : a.beat ≡ b.beat = ap (λ (x : Input Msg). (stamp_of x).beat) (sym s.is ∙ (ap inputs q ∙ t.is)) in
      absurd (omega arith))
      (⊎_elim (λ (q : i < j). q) (λ (q : j < i). let r = ticks_apart t s q in absurd (omega arith)))
      (cases_order i j)

  -- what the controller puts out at a tick
  outs_at_tick : (i : ℕ) (stamp : Stamp) → i < acting h ctrl → inputs i ≡ Tick stamp
      → outs noted step h ctrl i ≡ (command p orders (Tick stamp) (known i)).outs
  outs_at_tick i stamp low e =
      ring.rules.controls i (before plan ring First ctrl i (controller_inside plan ring) low).done
      ∙ ap (λ (x : Input Msg). (command p orders x (known i)).outs) e

  -- On a link a start of an instance goes out once in an event.
  one_place : (at l v j k : ℕ) → at < h.count ctrl
      → StartAt (sends_of l (beat h ctrl at) (outs noted step h ctrl at)) j v
      → StartAt (sends_of l (beat h ctrl at) (outs noted step h ctrl at)) k v → j ≡ k
  one_place at l v j k done s t =
      subst (λ (os : List (Out Msg)). IsOnce (sends_of l (beat h ctrl at) os)) (sym (ring.rules.controls at done))
      (command_once plan ring.counted (inputs at) (known at) l (beat h ctrl at)) v j k s t

  start_at : {c i at there : ℕ} {ask : Ask} {x : Bool} → IsFrom c i (msg.Start x ask) at there
      → StartAt (sends_of c (beat h ctrl at) (outs noted step h ctrl at)) there ask.instance.0
  start_at {c} {i} {at} {there} {ask} {x} s =
      record { beat = beat h ctrl at; ask = ask; redundant = x; at = s.note.sends; same = refl }

  -- ---- starts and deschedules of one instance

  -- An event in which a cub takes a message on a link counts as one more.
  pub counts : (w : WhichLife) (c i l : ℕ) (stamp : Stamp) (link : LinkNo) (m : Msg) → c < p.cubs
      → i < (life_in h w).count c → (life_in h w).input c i ≡ Take stamp link m → link.0 ≡ l
      → place l h c (suc (event_in h w c i)) ≡ place l h c (event_in h w c i) + 1
  counts w c i l stamp link m small low e same =
      let t : is_take_on l (h.event c (event_in h w c i)) ≡ true = ⊎_elim
      (λ q. ap (is_take_on l) q ∙ eq-eqb _ _ same)
      (λ q. ap (is_take_on l) q.1 ∙ eq-eqb _ _ same)
      (takes_at plan ring w c i stamp link m (cub_inside plan ring c small) low e) in
      takes_next l h c (event_in h w c i) t

  -- Within a life the numbers never fall.
  pub numbers_stay : (w : WhichLife) (c l from j : ℕ) → c < p.cubs → j < (life_in h w).count c → event_in h w c 0 ≤ from
      → from ≤ event_in h w c j → place l h c from ≤ place l h c (event_in h w c j)
  numbers_stay w c l from j small low above le =
      let inside = cub_inside plan ring c small in
      let first = before plan ring w c 0 inside (omega arith) in
      let opens = first.from in
      let last = before plan ring w c j inside low in
      let closes = last.low in
      places_rise l h c from (event_in h w c j) (λ k x y. stays plan ring w c k inside (omega arith) (omega arith)) le

  by_number : (w : WhichLife) (c j k l : ℕ) → c < p.cubs → j < (life_in h w).count c
      → place l h c (event_in h w c j) < place l h c (event_in h w c k) → j < k
  by_number w c j k l small low less = ⊎_elim
      (λ (q : j < k). q)
      (λ (q : k ≤ j).
      let r = numbers_stay w c l (event_in h w c k) j small low (events_rise h w c 0 k (omega arith))
      (events_rise h w c k j q) in
      absurd (omega arith))
      (cases_lt j k)

  -- the next event of a life stands behind one
  pub next_event : (w : WhichLife) (c j k : ℕ) → j < k → suc (event_in h w c j) ≤ event_in h w c k
  next_event First c j k less = less
  next_event Later c j k less = omega arith

  pub behind_it : (w : WhichLife) (c j k l : ℕ) (s : Stamp) (x : LinkNo) (m : Msg) → c < p.cubs → j < k
      → k < (life_in h w).count c → (life_in h w).input c j ≡ Take s x m → x.0 ≡ l
      → place l h c (event_in h w c j) < place l h c (event_in h w c k)
  behind_it w c j k l s x m small less high e on =
      let one = counts w c j l s x m small (omega arith) e on in
      let from = events_rise h w c 0 j (omega arith) in
      let r = numbers_stay w c l (suc (event_in h w c j)) k small high (omega arith) (next_event w c j k less) in
      omega arith

  same_number : (w : WhichLife) (c j k l : ℕ) (s t : Stamp) (x y : LinkNo) (m n : Msg) → c < p.cubs
      → j < (life_in h w).count c → k < (life_in h w).count c
      → (life_in h w).input c j ≡ Take s x m → (life_in h w).input c k ≡ Take t y n
      → x.0 ≡ l → y.0 ≡ l → place l h c (event_in h w c j) ≡ place l h c (event_in h w c k) → j ≡ k
  same_number w c j k l s t x y m n small low high e f xl yl same = ⊎_elim
      (λ (q : j ≡ k). q)
      (⊎_elim
      (λ (q : j < k). let r = behind_it w c j k l s x m small q high e xl in absurd (omega arith))
      (λ (q : k < j). let r = behind_it w c k j l t y n small q low f yl in absurd (omega arith)))
      (cases_order j k)

  -- A cub gets one start of an instance in a life.
  pub one_start : (w : WhichLife) (c j k : ℕ) (s t : Stamp) (l m : LinkNo) (a b : Ask) (x y : Bool) → c < p.cubs
      → j < (life_in h w).count c → k < (life_in h w).count c
      → (life_in h w).input c j ≡ Take s l (msg.Start x a) → (life_in h w).input c k ≡ Take t m (msg.Start y b)
      → a.instance.0 ≡ b.instance.0 → j ≡ k
  one_start w c j k s t l m a b x y small low high e f same =
      let one = start_came w c j s l a x small low e in
      let two = start_came w c k t m b y small high f in
      let order = ordered_once ring.counted a b one.started.stamp.beat two.started.stamp.beat one.started.ordered
      two.started.ordered same in
      let event : two.at ≡ one.at = same_tick (tick_of_start two) (tick_of_start one) order.1 in
      let there : IsFrom c (event_in h w c k) (msg.Start y b) one.at two.there =
      subst (λ n. IsFrom c (event_in h w c k) (msg.Start y b) n two.there) event two.sent in
      let starts : StartAt (sends_of c (beat h ctrl one.at) (outs noted step h ctrl one.at)) two.there a.instance.0 =
      subst (λ v. StartAt (sends_of c (beat h ctrl one.at) (outs noted step h ctrl one.at)) two.there v) (sym same)
      (start_at there) in
      let places = one_place one.at c a.instance.0 one.there two.there one.sent.note.done (start_at one.sent) starts in
      let numbers : place c h c (event_in h w c j) ≡ place c h c (event_in h w c k) =
      one.sent.number ∙ ap (λ n. number_of plan ring ctrl one.at n (way c)) places ∙ sym there.number in
      same_number w c j k c s t l m (msg.Start x a) (msg.Start y b) small low high e f one.own two.own numbers

  -- The starts that cubs get are those of the orders.
  pub are_starts : (w : WhichLife) → AreStarts p (life_in h w) orders
  are_starts w = record {
    one_start = one_start w;
    ordered = λ c i s l a x small low e.
        let r = start_came w c i s l a x small low e in
        (r.started.stamp.beat, r.started.ordered);
    one_order = λ a b i j same. sym (ordered_once ring.counted a b i.0 j.0 i.1 j.1 same).0;
    counted = λ a i. let k = place_of ring.counted a i.0 i.1 in ring.counted.counted k.0 a k.1;
  }

  -- A deschedule without a tag comes behind the start of its instance.
  pub start_behind : (w : WhichLife) (c j k : ℕ) (s t : Stamp) (l m : LinkNo) (v : Instance) (a : Ask) (x : Bool)
      → c < p.cubs → j < (life_in h w).count c → k < (life_in h w).count c
      → (life_in h w).input c j ≡ Take s l (msg.Deschedule v None) → (life_in h w).input c k ≡ Take t m (msg.Start x a)
      → a.instance.0 ≡ v.0 → k < j
  start_behind w c j k s t l m v a x small low high e f same =
      let stop = stop_came w c j s l v small low e in
      let start = start_came w c k t m a x small high f in
      let z : ℕ = stop.finished.stamp.beat in
      let o : ℕ = start.started.stamp.beat in
      let le = ordered_before ring.counted a v o z start.started.ordered stop.finished.ordered same in
      let later = stop.sent.number in
      let sooner = start.sent.number in
      ⊎_elim
      (λ (less : o < z).
      let event = sooner_tick (tick_of_start start) (tick_of_stop stop) less in
      let numbers = numbers_rise plan ring stop.at stop.there start.sent.note event in
      by_number w c k j c small high (omega arith))
      (λ (more : z ≤ o).
      let beats : o ≡ z = omega arith in
      let event : start.at ≡ stop.at = same_tick (tick_of_start start) (tick_of_stop stop) beats in
      let there : IsFrom c (event_in h w c k) (msg.Start x a) stop.at start.there =
      subst (λ n. IsFrom c (event_in h w c k) (msg.Start x a) n start.there) event start.sent in
      let places = in_one_event c (event_in h w c j) (event_in h w c k) v a x stop there
      (subst (λ n. In (at_beat n (Begin a)) orders) beats start.started.ordered) same in
      let number = there.number in
      by_number w c k j c small high (omega arith))
      (cases_lt o z)
    where
      in_one_event : (c j k : ℕ) (v : Instance) (a : Ask) (x : Bool) (stop : StopCame c j v) {place_there : ℕ}
          → IsFrom c k (msg.Start x a) stop.at place_there
          → In (at_beat stop.finished.stamp.beat (Begin a)) orders → a.instance.0 ≡ v.0 → place_there < stop.there
      in_one_event c j k v a x stop {place_there} there ordered same =
          let b : ℕ = beat h ctrl stop.at in
          let os : List (Out Msg) = outs noted step h ctrl stop.at in
          let stamp : Stamp = stop.finished.stamp in
          let ticked = outs_at_tick stop.at stamp stop.sent.alive stop.finished.tick in
          let seen = subst (λ (ys : List (Out Msg)). slice_get
          (sends_of c b ys) stop.there ≡ Some (dated b (msg.Deschedule v None))) ticked stop.sent.note.sends in
          let ask : a ≡ stop.ask =
          (ordered_once ring.counted stop.ask a stop.ordered.0 stamp.beat stop.ordered.1 ordered
          (stop.same ∙ sym same)).0 in
          let start : In (out.Send (way c) (msg.Start stop.redundant a))
          (starts p a) = subst (λ (q : Ask). In (out.Send (way c) (msg.Start stop.redundant q)) (starts p q))
          (sym ask) stop.start in
          let r = start_ahead p orders stamp (known stop.at)
          (way c) b stop.there v a stop.redundant ring.counted seen ordered same start in
          let first : StartAt (sends_of c b os) r.0 a.instance.0 = record {
            beat = b;
            ask = a;
            redundant = stop.redundant;
            at = subst (λ (ys : List (Out Msg)). slice_get
                (sends_of c b ys) r.0 ≡ Some (dated b (msg.Start stop.redundant a))) (sym ticked) r.2;
            same = refl;
          } in
          let one = one_place stop.at c a.instance.0 place_there r.0 stop.sent.note.done (start_at there) first in
          let less = r.1 in
          omega arith
