-- In which event of its node each entry of a ring's journals was written, and what its node put out then.
use Rattle.std.proofs.Common.{◌≡◌, ℕ, suc, ◌+◌, ◌*◌, ◌-◌, ◌<◌, ◌≤◌, List, [], ◌++◌, true, false, Some, refl, sym, ap, subst, ◌∙◌, arith, ⊎_elim, inl, inr, append-nil}
use Rattle.std.specs.Prelude.{◌⊎◌, Option, unwrap_or, slice_get}
use Rattle.std.proofs.lemmas.Bool.{cases_lt, cases_eq, true≢false}
use Rattle.tiger_base.specs.declared.number.Instance.{Instance}
use Rattle.tiger_base.specs.declared.number.LinkNo.{LinkNo}
use Rattle.tiger_base.specs.declared.number.Stamp.{Stamp}
use Rattle.tiger_base.specs.declared.tenancy.State.{State}
use Rattle.tiger_base.specs.declared.message.Msg.{Msg}
use Rattle.tiger_base.specs.declared.message.Msg.TheVariants as msg
use Rattle.tiger_base.specs.Notes.{noted}
use Rattle.slot_plan.specs.declared.params.Params.{Params}
use Rattle.slot_plan.specs.Conditions.{IsPlan}
use Rattle.node_kit.specs.declared.course.Order.{Order}
use Rattle.node_kit.specs.declared.journal.Entry.{Entry}
use Rattle.node_kit.specs.declared.journal.What.{What}
use Rattle.node_kit.specs.declared.journal.What.TheVariants as what
use Rattle.node_kit.specs.declared.outbox.Out.{Out}
use Rattle.node_kit.specs.declared.outbox.Out.TheVariants as out
use Rattle.std.specs.List.{AllByRecursion}
use Rattle.node_kit.specs.Steps.{Deed, Input, IsAllowed, IsOwnEntry, entry_of, stamp_of}
use Rattle.run_facts.specs.Events.{NodeEvent, Past, is_death, is_tick, is_tick_input, outs_of, stamp_at}
use Rattle.run_facts.specs.Events.NodeEvent.{Does, Ends, Dies, Returns}
use Rattle.node_kit.specs.Steps.Input.{Tick}
use Rattle.run_facts.specs.Histories.{History, outs, past, last_of, beat}
use Rattle.disk_core.specs.State.{DiskState}
use Rattle.disk_core.specs.Rules.{disk_step}
use Rattle.proof_lives.specs.Histories.{input_of, has_input, cut_of_event, first_events}
use Rattle.proof_lives.specs.Lives.{IsLife, cut_in, outs_in}
use Rattle.proof_lives.specs.Facts.{DidAt}
use Rattle.lists.specs.Elements.{In}
use Rattle.lists.proofs.Elements.{in_left, in_right, in_cases}
use Rattle.proof_lives.proofs.Carrying.{stamp_same, tick_same}
use Rattle.proof_journals.proofs.Cuts.{numbered_below}
use Rattle.proof_journals.proofs.Written.{WrittenAt, event_wrote, written_at, out_written}
use Rattle.proof_journals.proofs.Journals.{inputs_of}
use Rattle.proof_controller.specs.Controllers.{controller, commands_at}
use Rattle.proof_moments.specs.Ties.{StandsIn}
use Rattle.proof_facts.specs.Beside.{Additions, IsAddition}
use Rattle.proof_facts.specs.Rings.{IsRingWith, node_count, node_of_disk, viewers}
use Rattle.proof_journals.specs.Journals.{AreJournalsOf}
use Rattle.proof_journals.proofs.BothLives.{IsByRules, before_it, beside_it, not_added, not_returning}
use Rattle.proof_lives.specs.TwoLifeRun.{WhichLife, IsOfLife, life_in, event_in}
use Rattle.proof_lives.specs.TwoLifeRun.WhichLife.{First, Later}
use Rattle.proof_lives.proofs.Returns.{beats_never_fall, died, ends_beat, first_ended, first_here, opens_by, opens_rise}
use Rattle.proof_lives.proofs.Acting.{alive_acts}
use Rattle.proof_facts.specs.Lives.{acting, later_lives_of}
use Rattle.proof_lives.proofs.TwoLives.{cut_in_run, has_acted, input_in, lived_in, of_life, within_run}
use Rattle.proof_journals.proofs.Others.{act_gone, disk_no_act, disk_no_state}
use Rattle.proof_journals.proofs.Lists.{moved}

-- A plan, a history of its ring, and the ring's journals: the setting of all that follows.
pub record AreKept {S : Type 0} (step : S → Input Msg → Deed Msg S) (p : Params) (orders : List Order)
    (disk_at : ℕ → DiskState) (added : Additions) (h : History Msg S) (journals : List (List Entry)) : Type 0 where
  pub plan : IsPlan p
  pub ring : IsRingWith step p orders disk_at added h
  pub are : AreJournalsOf step p h journals

module _ {S : Type 0} {step : S → Input Msg → Deed Msg S} {p : Params} {orders : List Order}
    {disk_at : ℕ → DiskState} {added : Additions} {h : History Msg S} {journals : List (List Entry)}
    (kept : AreKept step p orders disk_at added h journals) where
  -- A cub is one of the nodes.
  pub cub_inside : (c : ℕ) → c < p.cubs → c < node_count p
  cub_inside c small = omega arith

  -- ---- lives

  -- An event of a node that has an input is one of one of its lives.
  pub input_of_life : (n i : ℕ) → n < node_count p → i < h.count n → has_input (h.event n i) ≡ true → IsOfLife h n i
  input_of_life n i known low acts = of_life kept.ring.run n known i low acts

  -- And an input of one of its lives is such an event.
  pub event_of_life : (w : WhichLife) (n i : ℕ) → n < node_count p → i < (life_in h w).count n
      → (event_in h w n i < h.count n) × (has_input (h.event n (event_in h w n i)) ≡ true)
  event_of_life w n i known low =
      (within_run kept.ring.run n known w i low, has_acted kept.ring.run n known w i low)

  -- An input is cut off where its event is.
  pub cut_of_input : (w : WhichLife) (n i : ℕ) → n < node_count p → i < (life_in h w).count n
      → cut_in (life_in h w) n i ≡ cut_of_event (h.event n (event_in h w n i))
  cut_of_input w n i known low = cut_in_run kept.ring.run n known w i low

  -- An input that is a tick of a beat is the tick of an event of that beat.
  pub tick_event : (w : WhichLife) (n i b l : ℕ) → n < node_count p → i < (life_in h w).count n
      → (life_in h w).input n i ≡ Tick (record { beat = b; reading = l })
      → (is_tick (h.event n (event_in h w n i)) ≡ true) × (beat h n (event_in h w n i) ≡ b)
  tick_event w n i b l known low is =
      let at : ℕ = event_in h w n i in
      let input : input_of (h.event n at) ≡ Tick (record { beat = b; reading = l }) =
      sym (input_in h w n i) ∙ is in (
        tick_same (h.event n at) (event_of_life w n i known low).1 ∙ ap is_tick_input input,
        ap (λ (s : Stamp). s.beat) (stamp_same (h.event n at) ∙ ap (λ (x : Input Msg). stamp_of x) input),
      )

  -- A node that is no cub has one life, of all its events.
  pub acts_alone : (n i : ℕ) → n < node_count p → p.cubs ≤ n → i < h.count n → i < acting h n
  acts_alone n i known other low =
      let alive : (j : ℕ) → j < h.count n → is_death (h.event n j) ≡ false =
      λ j less. kept.ring.deaths.mortal n j known other less in
      let all : h.count n ≤ first_events h n = ⊎_elim
      (λ (l : first_events h n < h.count n).
      let d = died kept.ring.run n known l in
      let next = d.next in
      absurd (true≢false (sym d.death ∙ alive d.at (omega arith))))
      (λ (g : h.count n ≤ first_events h n). g)
      (cases_lt (first_events h n) (h.count n)) in
      alive_acts h n (first_here kept.ring.run n known) (first_ended kept.ring.run n known) i (omega arith) (alive i low)

  -- Each life of a node is one.
  pub life_of : (w : WhichLife) (n : ℕ) → n < node_count p → IsLife p ((life_in h w).count n) ((life_in h w).input n)
  life_of w n known =
      lived_in kept.ring.run n known w (λ i low. kept.ring.short n i known low)

  -- Who puts something out has an input.
  pub acts_if_out : (n i : ℕ) (o : Out Msg) → In o (outs noted step h n i) → has_input (h.event n i) ≡ true
  acts_if_out n i o k = has_one (h.event n i) (past noted step h n i) k
    where
      has_one : (e : NodeEvent Msg) (before : Past S) → In o (outs_of step e before) → has_input e ≡ true
      has_one (Does x) before j = refl
      has_one (Ends x sends) before j = refl
      has_one (Dies stamp) before j = absurd j
      has_one (Returns stamp) before j = absurd j

  -- What a node puts out it may put out.
  pub fair : (n i : ℕ) → n < node_count p → i < h.count n → AllByRecursion (IsAllowed noted p n) (outs noted step h n i)
  fair n i known low = kept.ring.run.fair n i known low

  -- The beats of a node's events never fall, and are later behind a tick.
  pub beats_rise : (n i j : ℕ) → n < node_count p → i ≤ j → j < h.count n → beat h n i ≤ beat h n j
  beats_rise n i j known le low = beats_never_fall kept.ring.run n known i j le low

  pub behind_tick : (n i j : ℕ) → n < node_count p → i < j → j < h.count n → is_tick (h.event n i) ≡ true
      → beat h n i < beat h n j
  behind_tick n i j known less low tick =
      let ends = ends_beat kept.ring.run n known i (omega arith) tick in
      let rise = opens_rise kept.ring.run n known (suc i) j less (omega arith) in
      let by = opens_by kept.ring.run n known j low in
      omega arith

  -- ---- entries of a node's own

  -- Each journal is its node's.
  pub journal_is : (n : ℕ) (j : List Entry) → slice_get journals n ≡ Some j
      → (n < node_count p) × (j ≡ (last_of noted step h n).journal)
  journal_is n j at =
      let low = numbered_below journals n j at in
      let count = kept.are.count in
      let known : n < node_count p = omega arith in
      let both : Some j ≡ Some (last_of noted step h n).journal = sym at ∙ kept.are.writes n known in
      (known, ap (λ (o : Option (List Entry)). unwrap_or o j) both)

  -- An entry was written in an event of its node.
  pub written_in : (n : ℕ) (e : Entry) → StandsIn journals n e → (n < node_count p) × WrittenAt step h n (h.count n) e
  written_in n e s =
      let j = journal_is n s.journal s.at in
      (j.0, written_at step h n (h.count n) e (subst (λ (es : List Entry). In e es) j.1 s.there))

  -- A node put an entry of its own out, in an event of that stamp.
  pub record DidOwn (n : ℕ) (w : What) (stamp : Stamp) : Type 0 where
    pub known : n < node_count p
    pub at : ℕ
    pub done : at < h.count n
    pub did : In (out.Act w) (outs noted step h n at)
    pub when : stamp ≡ stamp_at (h.event n at)

  -- An entry of a node's own tells what the node put out.
  pub own_entry : (n : ℕ) (e : Entry) (w : What) → StandsIn journals n e → IsOwnEntry w → e.what ≡ w
      → DidOwn n w e.stamp
  own_entry n e w s own is =
      let x = written_in n e s in
      let i : ℕ = x.1.at in
      let r = event_wrote step p n (h.event n i) (past noted step h n i) e w
      (fair n i x.0 x.1.before) own x.1.there is in
      record { known = x.0; at = i; done = x.1.before; did = r.0; when = r.1 }

  -- And what a node put out has its entry.
  pub out_logged : (n i : ℕ) (o : Out Msg) → n < node_count p → i < h.count n → In o (outs noted step h n i)
      → StandsIn journals n (entry_of noted (stamp_at (h.event n i)) o)
  out_logged n i o known low k = record {
    journal = (last_of noted step h n).journal;
    at = kept.are.writes n known;
    there = out_written step p h n i o low (fair n i known low) k;
  }

  -- ---- what cubs put out

  -- At an input of one of its lives a cub puts out what its rules say, behind what tells of a return and before what is
  -- added.
  pub outs_at_input : (w : WhichLife) (c i : ℕ) → c < p.cubs → i < (life_in h w).count c
      → outs noted step h c (event_in h w c i)
      ≡ before_it h p w c i ++ (outs_in p (life_in h w) c i ++ beside_it added w c i)
  outs_at_input First c i small low = kept.ring.rules.cubs c i small low
  outs_at_input Later c i small low =
      kept.ring.rules.back c i small low
      ∙ ap (λ (os : List (Out Msg)). before_it h p Later c i ++ os) (sym (append-nil (outs_in p (later_lives_of h) c i)))

  -- What is added is as an addition may be.
  pub adds_few : (w : WhichLife) (c i : ℕ) → c < p.cubs → i < (life_in h w).count c
      → AllByRecursion (IsAddition p c) (beside_it added w c i)
  adds_few First c i small low = kept.ring.rules.few c i small low
  adds_few Later c i small low = tt

  -- So it is nothing that is by the rules alone.
  pub adds_none : (w : WhichLife) (c i : ℕ) (o : Out Msg) → c < p.cubs → i < (life_in h w).count c → IsByRules o
      → In o (beside_it added w c i) → ⊥
  adds_none w c i o small low by k = not_added p c (beside_it added w c i) o (adds_few w c i small low) by k

  pub outs_of_input : (c at : ℕ) (k : IsOfLife h c at) → c < p.cubs
      → outs noted step h c at
      ≡ before_it h p k.which c k.at ++ (outs_in p (life_in h k.which) c k.at ++ beside_it added k.which c k.at)
  outs_of_input c at k small =
      ap (λ (i : ℕ). outs noted step h c i) k.is ∙ outs_at_input k.which c k.at small k.done

  -- What goes out at an input of one of a cub's lives goes out in the event.
  pub goes_in_event : (w : WhichLife) (c i : ℕ) (o : Out Msg) → c < p.cubs → i < (life_in h w).count c
      → In o (outs_in p (life_in h w) c i) → In o (outs noted step h c (event_in h w c i))
  goes_in_event w c i o small low k =
      moved o (sym (outs_at_input w c i small low)) (in_right o (before_it h p w c i) _
      (in_left o (outs_in p (life_in h w) c i) (beside_it added w c i) k))

  -- A cub's rules put an output out at an input of one of its lives, of that stamp.
  pub record DidInLife (c : ℕ) (o : Out Msg) (stamp : Stamp) : Type 0 where
    pub small : c < p.cubs
    pub which : WhichLife
    pub input : ℕ
    pub done : input < (life_in h which).count c
    pub did : In o (outs_in p (life_in h which) c input)
    pub when : stamp ≡ stamp_of ((life_in h which).input c input)

  -- At an input, each output but those that tell of a return or may be added is one of the rules.
  pub rules_did : (c at : ℕ) (o : Out Msg) (k : IsOfLife h c at) → c < p.cubs → IsByRules o
      → In o (outs noted step h c at) → In o (outs_in p (life_in h k.which) c k.at)
  rules_did c at o k small other there = ⊎_elim
      (λ b. absurd (not_returning h p k.which c k.at o other b))
      (λ r. ⊎_elim
      (λ q. q)
      (λ q. absurd (adds_none k.which c k.at o small k.done other q))
      (in_cases o (outs_in p (life_in h k.which) c k.at) (beside_it added k.which c k.at) r))
      (in_cases o (before_it h p k.which c k.at) _ (moved o (outs_of_input c at k small) there))

  -- So each output of a cub but those is put out in one of its lives.
  pub did_in_life : (c at : ℕ) (o : Out Msg) → c < p.cubs → at < h.count c → IsByRules o
      → In o (outs noted step h c at) → DidInLife c o (stamp_at (h.event c at))
  did_in_life c at o small low other k =
      let i = input_of_life c at (cub_inside c small) low (acts_if_out c at o k) in
      record {
        small = small;
        which = i.which;
        input = i.at;
        done = i.done;
        did = rules_did c at o i small other k;
        when = stamp_same (h.event c at)
            ∙ ap (λ (x : Input Msg). stamp_of x)
            (ap (λ (j : ℕ). input_of (h.event c j)) i.is ∙ sym (input_in h i.which c i.at));
      }

  -- It is a fact of its beat, in that life.
  pub did_at : {c : ℕ} {o : Out Msg} {stamp : Stamp} (d : DidInLife c o stamp)
      → DidAt p (life_in h d.which) c o stamp.beat
  did_at d = record {
    small = d.small;
    at = d.input;
    done = d.done;
    in_beat = ap (λ (s : Stamp). s.beat) (sym d.when);
    did = d.did;
  }

  -- ---- which node puts out what

  -- A node that is no cub is the controller, or it tells nothing and sends no state.
  pub record IsOther (n i : ℕ) : Type 0 where
    pub no_act : (w : What) → In (out.Act w) (outs noted step h n i) → ⊥
    pub no_state : (link : LinkNo) (s : State) → In (out.Send link (msg.ViewerState s)) (outs noted step h n i) → ⊥

  pub other_node : (n i : ℕ) → n < node_count p → p.cubs ≤ n → i < h.count n → (n ≡ controller p) ⊎ IsOther n i
  other_node n i known high low = ⊎_elim
      (λ (disk : n < p.cubs + p.cubs * p.disks).
      let d : ℕ = n - p.cubs in
      let small : d < p.cubs * p.disks = omega arith in
      let place : n ≡ node_of_disk p d = omega arith in
      let rule = kept.ring.rules.disks d i small (subst (λ m. i < h.count m) place low) in
      let same : outs noted step h n i ≡ (disk_step (disk_at d) (inputs_of h (node_of_disk p d) i)).outs =
      ap (λ m. outs noted step h m i) place ∙ rule in
      inr (record {
        no_act = λ w k. disk_no_act (disk_at d) (inputs_of h (node_of_disk p d) i) w (moved (out.Act w) same k);
        no_state = λ link s k. disk_no_state (disk_at d) (inputs_of h (node_of_disk p d) i) link s
            (moved (out.Send link (msg.ViewerState s)) same k);
      }))
      (λ (more : p.cubs + p.cubs * p.disks ≤ n). ⊎_elim
      (λ (e : n ≡ p.cubs + p.cubs * p.disks). inl e)
      (λ (ne : n ≡ p.cubs + p.cubs * p.disks → ⊥).
      let last : n ≡ viewers p = omega (arith, ne) in
      let same : outs noted step h n i ≡ [] =
      ap (λ m. outs noted step h m i) last ∙ kept.ring.rules.views i (subst (λ m. i < h.count m) last low) in
      inr (record {
        no_act = λ w k. moved (out.Act w) same k;
        no_state = λ link s k. moved (out.Send link (msg.ViewerState s)) same k;
      }))
      (cases_eq n (p.cubs + p.cubs * p.disks)))
      (cases_lt n (p.cubs + p.cubs * p.disks))

  -- An entry of its own is a cub's, or it is the controller's and tells of a stop.
  pub who_acts : (n i : ℕ) (w : What) → n < node_count p → i < h.count n → In (out.Act w) (outs noted step h n i)
      → (n < p.cubs)
      ⊎ ((n ≡ controller p) × In (out.Act w) (commands_at p orders (inputs_of h (controller p)) i)
      × (v : Instance) × (w ≡ what.Gone v))
  who_acts n i w known low k = ⊎_elim
      (λ (small : n < p.cubs). inl small)
      (λ (high : p.cubs ≤ n). ⊎_elim
      (λ (e : n ≡ controller p).
      let there = subst (λ m. In (out.Act w) (outs noted step h m i)) e k in
      let command = moved (out.Act w) (kept.ring.rules.controls i (subst (λ m. i < h.count m) e low)) there in
      let gone = act_gone p orders (inputs_of h (controller p)) i w command in
      inr (e, command, gone.0, gone.1))
      (λ o. absurd (o.no_act w k))
      (other_node n i known high low))
      (cases_lt n p.cubs)

  -- So what is no stop is a cub's.
  pub cub_acts : (n : ℕ) (w : What) (stamp : Stamp) → ((v : Instance) → w ≡ what.Gone v → ⊥) → (d : DidOwn n w stamp)
      → n < p.cubs
  cub_acts n w stamp no_stop d = ⊎_elim (λ c. c) (λ o. absurd (no_stop o.2 o.3))
      (who_acts n d.at w d.known d.done d.did)

  -- Its rules put it out in one of its lives, if it tells of no return either.
  pub cub_entry : (n : ℕ) (e : Entry) (w : What) → StandsIn journals n e → IsOwnEntry w → IsByRules (out.Act w)
      → ((v : Instance) → w ≡ what.Gone v → ⊥) → e.what ≡ w → DidInLife n (out.Act w) e.stamp
  cub_entry n e w s own other no_stop is =
      let d = own_entry n e w s own is in
      subst (λ (x : Stamp). DidInLife n (out.Act w) x) (sym d.when)
      (did_in_life n d.at (out.Act w) (cub_acts n w e.stamp no_stop d) d.done other d.did)
