-- What the record of a run gives of nodes: the events of their lives, and who puts out what.
use Rattle.std.proofs.Common.{◌≡◌, ℕ, zero, suc, ◌+◌, ◌-◌, ◌<◌, ◌≤◌, List, true, false, None, refl, sym, ap, subst, ◌∙◌, arith, ⊎_elim, inl, inr, eq-or-lt_of_le}
use Rattle.std.specs.Prelude.{◌⊎◌}
use Rattle.std.proofs.lemmas.Bool.{cases_Bool, cases_lt}
use Rattle.tiger_base.specs.declared.number.LinkNo.{LinkNo}
use Rattle.tiger_base.specs.declared.number.Stamp.{Stamp}
use Rattle.tiger_base.specs.declared.message.Msg.{Msg}
use Rattle.tiger_base.specs.declared.message.Msg.TheVariants as msg
use Rattle.tiger_base.specs.Notes.{noted}
use Rattle.slot_plan.specs.declared.params.Params.{Params}
use Rattle.slot_plan.specs.Conditions.{IsPlan}
use Rattle.slot_plan.specs.Times.{disk_count}
use Rattle.node_kit.specs.declared.course.Order.{Order}
use Rattle.node_kit.specs.declared.journal.What.TheVariants as what
use Rattle.node_kit.specs.declared.outbox.Out.{Out}
use Rattle.node_kit.specs.declared.outbox.Out.TheVariants as out
use Rattle.node_kit.specs.Form.{is_in_form}
use Rattle.node_kit.specs.Steps.{Deed, Input, IsAllowed}
use Rattle.node_kit.specs.Steps.Input.{Take}
use Rattle.node_kit.specs.Ways.{way_ahead}
use Rattle.run_facts.specs.Events.{NodeEvent, is_tick, is_death, is_return, outs_of, is_tick_input}
use Rattle.run_facts.specs.Events.NodeEvent.{Does, Ends, Dies, Returns}
use Rattle.run_facts.specs.Histories.{History, IsUp, TakesAt, open_beat, outs, beat, ticks, past}
use Rattle.disk_core.specs.State.{DiskState}
use Rattle.proof_lives.specs.Histories.{acting, first_events, has_input, later_from, later_lives_of}
use Rattle.proof_lives.specs.Lives.{BeganLate, Lives, AreLives, store_at, outs_in, cut_in, beat_at, reading_at}
use Rattle.lists.specs.Elements.{In}
use Rattle.lists.proofs.Elements.{in_cases, in_left, in_right}
use Rattle.proof_lives.specs.Facts.{DidAt}
use Rattle.proof_lives.specs.TwoLifeRun.{WhichLife, closes_before, event_in, life_in, opens_with}
use Rattle.proof_lives.specs.TwoLifeRun.WhichLife.{First, Later}
use Rattle.proof_lives.proofs.Acting.{acts_at, alive_acts, alive_whole, among_acting}
use Rattle.proof_lives.proofs.Carrying.{tick_same, takes_it}
use Rattle.proof_lives.proofs.Cuts.{was_put_out}
use Rattle.proof_lives.proofs.Returns.{beats_never_fall, died, ends_beat, first_ended, first_here, first_low, later_here, open_first}
use Rattle.proof_lives.proofs.TwoLives.{beat_in, begins_anew, cut_in_run, has_acted, input_in, lived_in, of_life, within_run}
use Rattle.lists.proofs.Each.{all_in}
use Rattle.proof_service.specs.ServiceFacts.{serves_from}
use Rattle.proof_controller.specs.Controllers.{controller, known_at}
use Rattle.proof_facts.specs.Beside.{AddedAt, Additions, IsAddition}
use Rattle.proof_facts.specs.Facts.{ToldBack}
use Rattle.proof_facts.specs.Lives.{lives_of, DiedAt}
use Rattle.proof_facts.specs.Rings.{IsRingWith, node_count, node_of_disk, return_outs, viewers}
use Rattle.proof_links.proofs.Lives.{EndsInDeath, LivesOn, lives_or_dies}
use Rattle.proof_links.proofs.Sending.{IsBack, IsOfCub, IsOfController, IsAnswer, cub_sends, disk_sends, command_sends, is_added, of_added}

module _ {S : Type 0} {step : S → Input Msg → Deed Msg S} {p : Params} {orders : List Order} {disk_at : ℕ → DiskState}
    {added : Additions} {h : History Msg S} (plan : IsPlan p) (ring : IsRingWith step p orders disk_at added h) where
  abbrev lives : Lives
  lives = lives_of h

  -- ---- nodes

  -- Cubs, disks and the controller are nodes of the ring.
  pub cub_inside : (c : ℕ) → c < p.cubs → c < node_count p
  cub_inside c small = omega arith

  pub disk_inside : (d : ℕ) → d < disk_count p → node_of_disk p d < node_count p
  disk_inside d low = omega arith

  pub controller_inside : controller p < node_count p
  controller_inside = omega arith

  -- ---- the events of a node's life

  -- A node lives on, or dies in the last event of its first life.
  pub how : (n : ℕ) → n < node_count p → LivesOn h n ⊎ EndsInDeath h n
  how n inside = lives_or_dies ring.run n inside

  -- Input i of a life of node n is an event that has an input, perhaps with its death.
  pub record IsBefore (w : WhichLife) (n i : ℕ) : Type 0 where
    pub done : event_in h w n i < h.count n
    pub low : event_in h w n i < closes_before h w n
    pub from : opens_with h w n ≤ event_in h w n i
    pub acts : has_input (h.event n (event_in h w n i)) ≡ true

  pub before : (w : WhichLife) (n i : ℕ) → n < node_count p → i < (life_in h w).count n → IsBefore w n i
  before First n i inside low = record {
    done = within_run ring.run n inside First i low;
    low = (acts_at h n (first_here ring.run n inside) (first_ended ring.run n inside) i low).done;
    from = omega arith;
    acts = has_acted ring.run n inside First i low;
  }
  before Later n i inside low = record {
    done = within_run ring.run n inside Later i low;
    low = within_run ring.run n inside Later i low;
    from = omega arith;
    acts = has_acted ring.run n inside Later i low;
  }

  -- An event of a life that has an input is an input of it.
  pub record IsInput (w : WhichLife) (n e : ℕ) : Type 0 where
    pub at : ℕ
    pub done : at < (life_in h w).count n
    pub is : e ≡ event_in h w n at

  pub input_there : (w : WhichLife) (n e : ℕ) → n < node_count p → opens_with h w n ≤ e → e < closes_before h w n
      → has_input (h.event n e) ≡ true → IsInput w n e
  input_there First n e inside from low acts = record {
    at = e;
    done = among_acting h n (first_here ring.run n inside) (first_ended ring.run n inside) e low acts;
    is = refl;
  }
  input_there Later n e inside from low acts =
      record { at = e - later_from h n; done = omega arith; is = omega arith }

  -- No event of a life is a return.
  pub stays : (w : WhichLife) (n e : ℕ) → n < node_count p → opens_with h w n ≤ e → e < closes_before h w n
      → is_return (h.event n e) ≡ false
  stays First n e inside from low = first_here ring.run n inside e low
  stays Later n e inside from low = later_here ring.run n inside e (omega arith) low

  pub closes_low : (w : WhichLife) (n : ℕ) → n < node_count p → closes_before h w n ≤ h.count n
  closes_low First n inside = first_low ring.run n inside
  closes_low Later n inside = omega arith

  -- A node that lives on does not return, and all its events are of its first life.
  pub one_life : (n : ℕ) → n < node_count p → LivesOn h n → first_events h n ≡ h.count n
  one_life n inside lives = ⊎_elim
      (λ (e : first_events h n ≡ h.count n). e)
      (λ (less : first_events h n < h.count n).
      let d = died ring.run n inside less in
      let next = d.next in
      let z : true ≡ false = sym d.death ∙ lives.none d.at (omega arith) in absurd (cc))
      (eq-or-lt_of_le (first_low ring.run n inside))

  pub all_act : (n : ℕ) → n < node_count p → LivesOn h n → acting h n ≡ h.count n
  all_act n inside lives =
      let one = one_life n inside lives in
      ⊎_elim
      (λ (l : acting h n < h.count n).
      let z = alive_acts h n (first_here ring.run n inside) (first_ended ring.run n inside) (acting h n) (omega arith)
      (lives.none (acting h n) l) in absurd (omega arith))
      (λ (g : h.count n ≤ acting h n). ⊎_elim
      (λ (l : h.count n < acting h n). let z = (before First n (h.count n) inside l).done in absurd (omega arith))
      (λ (le : acting h n ≤ h.count n). omega arith)
      (cases_lt (h.count n) (acting h n)))
      (cases_lt (acting h n) (h.count n))

  -- A node that is no cub lives on.
  pub immortal : (n : ℕ) → n < node_count p → p.cubs ≤ n → LivesOn h n
  immortal n inside other = record { none = λ i low. ring.deaths.mortal n i inside other low }

  pub lives_on : (n : ℕ) → n < node_count p → p.cubs ≤ n → acting h n ≡ h.count n
  lives_on n inside other = all_act n inside (immortal n inside other)

  -- So it is up, and its clock is the number of its ticks.
  pub is_up : (n : ℕ) → LivesOn h n → IsUp h n
  is_up n lives i low died = let z : true ≡ false = sym died ∙ lives.none i low in absurd (cc)

  pub clock : (n i : ℕ) → n < node_count p → p.cubs ≤ n → i ≤ h.count n → open_beat h n i ≡ ticks h n i
  clock n i inside other low =
      let one = one_life n inside (immortal n inside other) in open_first ring.run n inside i (omega arith)

  -- No death cuts off an event that is none.
  pub whole_alive : (w : WhichLife) (n i : ℕ) → n < node_count p → i < (life_in h w).count n
      → is_death (h.event n (event_in h w n i)) ≡ false → cut_in (life_in h w) n i ≡ None
  whole_alive w n i inside low alive =
      cut_in_run ring.run n inside w i low ∙ alive_whole (h.event n (event_in h w n i)) alive

  -- What a cub put out went out whole, or its death came in that event.
  pub whole_or_died : (w : WhichLife) (c i : ℕ) → c < p.cubs → i < (life_in h w).count c
      → (cut_in (life_in h w) c i ≡ None) ⊎ DiedAt p h c (beat h c (event_in h w c i))
  whole_or_died w c i small low =
      let b = before w c i (cub_inside c small) low in
      ⊎_elim
      (λ (t : is_death (h.event c (event_in h w c i)) ≡ true).
      inr (record { small = small; at = event_in h w c i; done = b.done; death = t; in_beat = refl }))
      (λ (f : is_death (h.event c (event_in h w c i)) ≡ false). inl (whole_alive w c i (cub_inside c small) low f))
      (cases_Bool (is_death (h.event c (event_in h w c i))))

  -- ---- stamps

  -- An event of a life takes the message that is its input, or ticks if that is a tick.
  pub takes_at : (w : WhichLife) (n i : ℕ) (stamp : Stamp) (link : LinkNo) (m : Msg) → n < node_count p
      → i < (life_in h w).count n → (life_in h w).input n i ≡ Take stamp link m
      → TakesAt (h.event n (event_in h w n i)) stamp link m
  takes_at w n i stamp link m inside low e =
      takes_it (h.event n (event_in h w n i)) stamp link m (before w n i inside low).acts (sym (input_in h w n i) ∙ e)

  pub ticks_at : (w : WhichLife) (n i : ℕ) → n < node_count p → i < (life_in h w).count n
      → is_tick (h.event n (event_in h w n i)) ≡ is_tick_input ((life_in h w).input n i)
  ticks_at w n i inside low =
      tick_same (h.event n (event_in h w n i)) (before w n i inside low).acts
      ∙ ap is_tick_input (sym (input_in h w n i))

  -- Beats never fall.
  pub rises : (n i j : ℕ) → n < node_count p → i ≤ j → j < h.count n → beat h n i ≤ beat h n j
  rises n i j inside le low = beats_never_fall ring.run n inside i j le low

  -- A tick ends its beat.
  pub after_tick : (n i : ℕ) → n < node_count p → i < h.count n → is_tick (h.event n i) ≡ true
      → open_beat h n (suc i) ≡ beat h n i + 1
  after_tick n i inside low t = ends_beat ring.run n inside i low t

  -- Each cub has such lives.
  pub lived : (w : WhichLife) → AreLives p (life_in h w)
  lived w c small =
      lived_in ring.run c (cub_inside c small) w (λ i low. ring.short c i (cub_inside c small) low)

  -- A later life began with a return.
  pub began_late : (c : ℕ) → c < p.cubs → 0 < (later_lives_of h).count c
      → BeganLate p (later_lives_of h) c (beat h c (first_events h c))
  began_late c small some =
      let inside = cub_inside c small in
      let a = begins_anew ring.run c inside some in
      let d = died ring.run c inside (omega arith) in
      let apart = d.apart in
      record { small = small; done = some; in_beat = a.in_beat; later = omega arith }

  -- ---- what nodes put out

  -- An event that puts something out has an input.
  pub outs_act : (n i : ℕ) (o : Out Msg) → In o (outs noted step h n i) → has_input (h.event n i) ≡ true
  outs_act n i o k = by_event (h.event n i) refl
    where
      by_event : (e : NodeEvent Msg) → h.event n i ≡ e → has_input (h.event n i) ≡ true
      by_event (Does x) q = ap has_input q
      by_event (Ends x sends) q = ap has_input q
      by_event (Returns stamp) q = absurd (subst (λ (e : NodeEvent Msg). In o (outs_of step e (past noted step h n i))) q k)
      by_event (Dies stamp) q = absurd (subst (λ (e : NodeEvent Msg). In o (outs_of step e (past noted step h n i))) q k)

  -- A cub put something out in its event of number e, as an event of a life, or at its return.
  pub record PutOut (w : WhichLife) (c e : ℕ) (o : Out Msg) : Type 0 where
    pub at : ℕ
    pub done : at < (life_in h w).count c
    pub is : e ≡ event_in h w c at
    pub did : In o (outs_in p (life_in h w) c at)

  pub record PutOutBack (c e : ℕ) (o : Out Msg) : Type 0 where
    pub some : 0 < (later_lives_of h).count c
    pub is : e ≡ event_in h Later c 0
    pub did : In o (return_outs p c ((later_lives_of h).input c) 0)

  -- Else it was added there.
  pub by_rules : (c e : ℕ) (o : Out Msg) → c < p.cubs → e < h.count c → In o (outs noted step h c e)
      → ((w : WhichLife) × PutOut w c e o) ⊎ (PutOutBack c e o ⊎ AddedAt p lives added c o (beat h c e))
  by_rules c e o small low k =
      let q = of_life ring.run c (cub_inside c small) e low (outs_act c e o k) in
      by_life q.which q.at q.done q.is
    where
      behind : (at : ℕ) → at < (later_lives_of h).count c → e ≡ event_in h Later c at
          → In o (return_outs p c ((later_lives_of h).input c) at) → PutOutBack c e o
      behind zero done is i = record { some = done; is = is; did = i }
      behind (suc at) done is i = absurd i

      by_life : (w : WhichLife) (at : ℕ) → at < (life_in h w).count c → e ≡ event_in h w c at
          → ((w : WhichLife) × PutOut w c e o) ⊎ (PutOutBack c e o ⊎ AddedAt p lives added c o (beat h c e))
      by_life First at done is =
          let both = subst (λ (os : List (Out Msg)). In o os) (ring.rules.cubs c at small done)
          (subst (λ n. In o (outs noted step h c n)) is k) in
          let same : beat h c e ≡ beat_at (lives.input c) at = ap (beat h c) is ∙ beat_in h First c at in
          ⊎_elim
          (λ i. inl (First, record { at = at; done = done; is = is; did = i }))
          (λ i. inr (inr (record { small = small; at = at; done = done; in_beat = sym same; did = i })))
          (in_cases o (outs_in p lives c at) (added c at) both)
      by_life Later at done is =
          let both = subst (λ (os : List (Out Msg)). In o os) (ring.rules.back c at small done)
          (subst (λ n. In o (outs noted step h c n)) is k) in
          ⊎_elim
          (λ i. inr (inl (behind at done is i)))
          (λ i. inl (Later, record { at = at; done = done; is = is; did = i }))
          (in_cases o (return_outs p c ((later_lives_of h).input c) at) (outs_in p (later_lives_of h) c at) both)

  -- What a cub did is among what it put out in that event, which is in the beat.
  pub did_it : (w : WhichLife) {c x : ℕ} {o : Out Msg} (d : DidAt p (life_in h w) c o x)
      → In o (outs noted step h c (event_in h w c d.at))
  did_it First {c} {x} {o} d =
      subst (λ (os : List (Out Msg)). In o os) (sym (ring.rules.cubs c d.at d.small d.done))
      (in_left o (outs_in p lives c d.at) (added c d.at) d.did)
  did_it Later {c} {x} {o} d =
      subst (λ (os : List (Out Msg)). In o os) (sym (ring.rules.back c d.at d.small d.done))
      (in_right o (return_outs p c ((later_lives_of h).input c) d.at) (outs_in p (later_lives_of h) c d.at) d.did)

  pub did_in : (w : WhichLife) {c x : ℕ} {o : Out Msg} (d : DidAt p (life_in h w) c o x)
      → (event_in h w c d.at < h.count c) × (beat h c (event_in h w c d.at) ≡ x)
  did_in w {c} d = ((before w c d.at (cub_inside c d.small) d.done).done, beat_in h w c d.at ∙ d.in_beat)

  -- So is what was added, which is a mirror state or a kill that goes ahead.
  pub added_is : {c x : ℕ} {o : Out Msg} → AddedAt p lives added c o x → IsAddition p c o
  added_is {c} {x} {o} a =
      all_in (IsAddition p c) o (added c a.at) (ring.rules.few c a.at a.small a.done) a.did

  pub added_out : {c x : ℕ} {o : Out Msg} (a : AddedAt p lives added c o x)
      → (event_in h First c a.at < h.count c) × (beat h c (event_in h First c a.at) ≡ x)
      × In o (outs noted step h c (event_in h First c a.at))
  added_out {c} {x} {o} a = (
    (before First c a.at (cub_inside c a.small) a.done).done,
    beat_in h First c a.at ∙ a.in_beat,
    subst (λ (os : List (Out Msg)). In o os) (sym (ring.rules.cubs c a.at a.small a.done))
        (in_right o (outs_in p lives c a.at) (added c a.at) a.did),
  )

  -- What it puts out at a return tells its successor of that.
  pub told_back : (c e : ℕ) (link : LinkNo) (m : Msg) → c < p.cubs → PutOutBack c e (out.Send link m)
      → ToldBack p (later_lives_of h) c link m (beat h c e)
  told_back c e link m small b =
      let when : beat h c e ≡ beat_at ((later_lives_of h).input c) 0 = ap (beat h c) b.is ∙ beat_in h Later c 0 in
      let late = began_late c small b.some in
      let is = by_out b.did in
      record {
        late = subst (λ x. BeganLate p (later_lives_of h) c x) (sym late.in_beat ∙ sym when) late;
        way = is.0;
        is = is.1;
      }
    where
      by_out : In (out.Send link m) (return_outs p c ((later_lives_of h).input c) 0)
          → (link ≡ way_ahead p c 1) × (m ≡ msg.Back (serves_from p (reading_at ((later_lives_of h).input c) 0)))
      by_out i = ⊎_elim
          (λ (e : out.Send link m ≡ out.Act what.Returned). absurd (cc))
          (⊎_elim
          (λ (e : out.Send link m ≡ out.Send (way_ahead p c 1) (msg.Back (serves_from p (reading_at ((later_lives_of h).input c) 0)))).
          let q : link ≡ way_ahead p c 1 = cc in
          let r : m ≡ msg.Back (serves_from p (reading_at ((later_lives_of h).input c) 0)) = cc in (q, r))
          (λ none. absurd none))
          i

  pub back_out : {c x : ℕ} {link : LinkNo} {m : Msg} (b : ToldBack p (later_lives_of h) c link m x)
      → (event_in h Later c 0 < h.count c) × (beat h c (event_in h Later c 0) ≡ x)
      × In (out.Send link m) (outs noted step h c (event_in h Later c 0))
  back_out {c} {x} {link} {m} b =
      let l = b.late in
      let told : out.Send link m ≡ out.Send (way_ahead p c 1) (msg.Back (serves_from p (reading_at ((later_lives_of h).input c) 0))) =
      ap (λ (w : LinkNo). out.Send w m) b.way ∙ ap (λ (k : Msg). out.Send (way_ahead p c 1) k) b.is in (
        (before Later c 0 (cub_inside c l.small) l.done).done,
        beat_in h Later c 0 ∙ l.in_beat,
        subst (λ (os : List (Out Msg)). In (out.Send link m) os) (sym (ring.rules.back c 0 l.small l.done))
            (in_left (out.Send link m) (return_outs p c ((later_lives_of h).input c) 0) (outs_in p (later_lives_of h) c 0)
            (inr (inl told))),
      )

  -- What nodes send is in form.
  pub formed_at : (n i : ℕ) (link : LinkNo) (m : Msg) → n < node_count p → i < h.count n
      → In (out.Send link m) (outs noted step h n i) → is_in_form p (noted m) ≡ true
  formed_at n i link m inside low k =
      (all_in (IsAllowed noted p n) (out.Send link m) (outs noted step h n i) (ring.run.fair n i inside low) k).1

  -- Node n is a disk, which answers an ask in its event of number i.
  pub record SentByDisk (n i : ℕ) (way : LinkNo) (m : Msg) : Type 0 where
    pub disk : ℕ
    pub low : disk < disk_count p
    pub node : n ≡ node_of_disk p disk
    pub answer : IsAnswer (disk_at disk) (lives.input n i) way m

  -- A message is sent by a cub, by a disk or by the controller, and may be sent by such a node.
  abbrev pub Sender : ℕ → ℕ → LinkNo → Msg → Type 0
  Sender n i way m =
      ((n < p.cubs) × (IsOfCub m ⊎ IsBack m)) ⊎ (SentByDisk n i way m ⊎ ((n ≡ controller p) × IsOfController m))

  -- Whatever a cub sends is such a message.
  cub_may : (n i : ℕ) (way : LinkNo) (m : Msg) → n < p.cubs → i < h.count n
      → In (out.Send way m) (outs noted step h n i) → IsOfCub m ⊎ IsBack m
  cub_may n i way m small low k = ⊎_elim
      (λ (q : (w : WhichLife) × PutOut w n i (out.Send way m)).
      let ls : Lives = life_in h q.0 in
      let x = q.1 in
      inl (cub_sends p n (ls.input n x.at) (store_at p n (ls.input n) x.at) way m
      (was_put_out p ls n x.at (out.Send way m) x.did)))
      (λ q. ⊎_elim
      (λ (b : PutOutBack n i (out.Send way m)).
      inr (subst IsBack (sym (told_back n i way m small b).is) tt))
      (λ (a : AddedAt p lives added n (out.Send way m) (beat h n i)).
      inl (of_added m (is_added p n way m (added_is a))).0)
      q)
      (by_rules n i (out.Send way m) small low k)

  -- Each message that a node sends is sent so.
  pub sender : (n i : ℕ) (way : LinkNo) (m : Msg) → n < node_count p → i < h.count n
      → In (out.Send way m) (outs noted step h n i) → Sender n i way m
  sender n i way m inside low k = ⊎_elim
      (λ (small : n < p.cubs).
      inl (small, cub_may n i way m small low k))
      (λ (past : p.cubs ≤ n). inr (⊎_elim
      (λ (disk : n < controller p). inl (by_disk (omega arith) past disk))
      (λ (high : controller p ≤ n). inr (⊎_elim
      (λ (e : controller p ≡ n). by_controller (sym e))
      (λ (g : controller p < n). absurd (by_viewers (omega arith)))
      (eq-or-lt_of_le high)))
      (cases_lt n (controller p))))
      (cases_lt n p.cubs)
    where
      by_disk : n < node_count p → p.cubs ≤ n → n < controller p → SentByDisk n i way m
      by_disk inside past low_n =
          let d : ℕ = n - p.cubs in
          let node : n ≡ node_of_disk p d = omega arith in
          let disk : d < disk_count p = omega arith in
          let there : In (out.Send way m) (outs noted step h (node_of_disk p d) i) =
          subst (λ x. In (out.Send way m) (outs noted step h x i)) node k in
          let said = subst (λ (os : List (Out Msg)). In (out.Send way m) os)
          (ring.rules.disks d i disk (subst (λ x. i < h.count x) node low)) there in
          record {
            disk = d;
            low = disk;
            node = node;
            answer = subst (λ x. IsAnswer (disk_at d) (lives.input x i) way m) (sym node)
                (disk_sends (disk_at d) (lives.input (node_of_disk p d) i) way m said);
          }

      by_controller : n ≡ controller p → (n ≡ controller p) × IsOfController m
      by_controller e =
          let inputs : ℕ → Input Msg = lives.input (controller p) in
          let there : In (out.Send way m) (outs noted step h (controller p) i) =
          subst (λ x. In (out.Send way m) (outs noted step h x i)) e k in
          let said = subst (λ (os : List (Out Msg)). In (out.Send way m) os)
          (ring.rules.controls i (subst (λ x. i < h.count x) e low)) there in
          (e, command_sends p orders (inputs i) (known_at p orders inputs i) way m plan said)

      by_viewers : n ≡ viewers p → ⊥
      by_viewers e =
          let there : In (out.Send way m) (outs noted step h (viewers p) i) =
          subst (λ x. In (out.Send way m) (outs noted step h x i)) e k in
          subst (λ (os : List (Out Msg)). In (out.Send way m) os)
          (ring.rules.views i (subst (λ x. i < h.count x) e low)) there
