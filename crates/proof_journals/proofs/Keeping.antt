-- The entries of each journal of a ring are in their order.
use Rattle.std.proofs.Common.{◌≡◌, ℕ, suc, ◌<◌, List, [], ◌∷◌, ◌++◌, map, true, false, Option, Some, refl, sym, ap, subst, ◌∙◌, arith, ⊎_elim, inl, inr, append_assoc}
use Rattle.std.specs.Prelude.{◌⊎◌, slice_get}
use Rattle.std.proofs.lemmas.Bool.{cases_Bool, eq-eqb}
use Rattle.std.proofs.lemmas.List.{map-append}
use Rattle.tiger_base.specs.declared.number.CubNo.{CubNo}
use Rattle.tiger_base.specs.declared.number.Stamp.{Stamp}
use Rattle.tiger_base.specs.declared.tenancy.Ask.{Ask}
use Rattle.tiger_base.specs.declared.tenancy.Rec.{Rec}
use Rattle.tiger_base.specs.declared.tenancy.Tenancy.{Tenancy}
use Rattle.tiger_base.specs.declared.message.Msg.{Msg}
use Rattle.tiger_base.specs.Notes.{noted}
use Rattle.slot_plan.specs.declared.params.Params.{Params}
use Rattle.node_kit.specs.declared.course.Order.{Order}
use Rattle.node_kit.specs.declared.course.OrderKind.{OrderKind}
use Rattle.node_kit.specs.declared.course.OrderKind.TheVariants.{Begin}
use Rattle.node_kit.specs.declared.journal.Entry.{Entry}
use Rattle.node_kit.specs.declared.journal.What.{What}
use Rattle.node_kit.specs.declared.journal.What.TheVariants as what
use Rattle.node_kit.specs.declared.outbox.Out.{Out}
use Rattle.node_kit.specs.declared.outbox.Out.TheVariants as out
use Rattle.std.specs.List.{AllByRecursion}
use Rattle.node_kit.specs.Steps.{Deed, Input, IsAllowed, IsOwnEntry, entry_of, stamp_of}
use Rattle.node_kit.specs.Steps.Input.{Take, Tick}
use Rattle.cub_rules.specs.declared.store.Store.{Store}
use Rattle.run_facts.specs.Accounts.{Rising}
use Rattle.run_facts.specs.Events.{NodeEvent, Past, entries_at, outs_of, stamp_at, is_tick, is_tick_input}
use Rattle.run_facts.specs.Histories.{History, outs, past, beat}
use Rattle.run_model.specs.Moments.{is_put_of}
use Rattle.run_model.specs.Orders as ordering
use Rattle.disk_core.specs.State.{DiskState}
use Rattle.controller_core.specs.Orders.{Starts}
use Rattle.proof_lives.specs.Lives.{Lives, cut_in, deed_of, store_at, outs_at, outs_in}
use Rattle.proof_lives.specs.TwoLifeRun.{WhichLife, IsOfLife, life_in, event_in}
use Rattle.proof_lives.proofs.TwoLives.{input_in}
use Rattle.proof_lives.proofs.Carrying.{tick_same}
use Rattle.proof_lives.proofs.Cuts.{was_put_out}
use Rattle.proof_lives.proofs.Going.{front_of_outs}
use Rattle.lists.specs.Elements.{In}
use Rattle.proof_lives.specs.Facts.{TookAt}
use Rattle.proof_lives.specs.Histories.{input_of}
use Rattle.lists.proofs.Elements.{in_left, in_right, in_cases, from_map, in_map}
use Rattle.lists.proofs.Each.{all_in}
use Rattle.proof_lives.proofs.Inserting.{put_out}
use Rattle.proof_lives.proofs.Order.{tick_of}
use Rattle.proof_lives.proofs.States.{put_at_tick}
use Rattle.proof_lives.proofs.Waiting.{once_at}
use Rattle.proof_lives.proofs.KeepingRecords.{keeps_records}
use Rattle.proof_journals.proofs.Singles.{entries_one, puts, put_found, deed_single}
use Rattle.proof_journals.proofs.Ones.{IsNone, IsOne, none_one, one_append, one_front}
use Rattle.proof_journals.proofs.Written.{acted, event_wrote}
use Rattle.proof_journals.proofs.Journals.{got_at, so_far, wrote, beat_is, rising_so_far}
use Rattle.proof_schedule.specs.Facts.{Ended}
use Rattle.proof_schedule.specs.Laws.{Laws}
use Rattle.proof_schedule.proofs.Origins.{took_held}
use Rattle.proof_moments.specs.Ties.{StandsIn, IsDeadIn, Keeps}
use Rattle.proof_facts.specs.Beside.{Additions}
use Rattle.proof_facts.specs.Facts.{facts_of}
use Rattle.proof_facts.specs.Rings.{node_count}
use Rattle.proof_journals.specs.Journals.{JournalsKeepOrder}
use Rattle.proof_journals.proofs.Wrote.{sent_in, died_in, entries_are, died_not_own}
use Rattle.proof_journals.proofs.Outputs.{OfPut, IsNoBelief, believes_first}
use Rattle.proof_journals.proofs.BothLives.{IsByRules, before_it, beside_it, not_returning, in_life}
use Rattle.proof_journals.proofs.Living.{tick_is}
use Rattle.proof_journals.proofs.Events.{AreKept, acts_if_out, adds_none, fair, journal_is, cub_entry, input_of_life, outs_of_input, rules_did, beats_rise, behind_tick, who_acts, written_in}
use Rattle.proof_journals.proofs.Cutting.{IsCutIn, cut_at_entry, own_output}
use Rattle.proof_journals.proofs.Ending.{ended_or_dead}
use Rattle.proof_journals.proofs.Since.{since}
use Rattle.proof_journals.proofs.Views.{shows, shown}
use Rattle.proof_journals.proofs.Lists.{moved, in_front, one_behind, none_behind}

-- ---- events

-- A tick writes its outputs, and its node's death if that comes then.
tick_wrote : {S : Type 0} (step : S → Input Msg → Deed Msg S) (n : ℕ) (p : Params) (e : NodeEvent Msg) (before : Past S)
    → is_tick_input (input_of e) ≡ true → AllByRecursion (IsAllowed noted p n) (outs_of step e before)
    → entries_at noted step e before ≡ map (entry_of noted (stamp_at e)) (outs_of step e before) ++ died_in e
tick_wrote step n p e before t fair =
    entries_are step p n e before fair ∙ ap (λ (es : List Entry). es ++ (sent_in step e before ++ died_in e)) (got_none (input_of e) t)
  where
    got_none : (i : Input Msg) → is_tick_input i ≡ true → got_at i ≡ []
    got_none (Tick stamp) q = refl
    got_none (Take stamp link m) q = absurd (cc)

-- A tick's input is one.
tick_input : (e : NodeEvent Msg) → is_tick e ≡ true → is_tick_input (input_of e) ≡ true
tick_input e t = ap is_tick_input (tick_is e t).0

-- ---- one order

order_at : (orders : List Order) (ask : Ask) → ordering.IsOrdered orders ask → (k : ℕ) × Starts orders k ask
order_at [] ask i = absurd i
order_at (o ∷ os) ask i = ⊎_elim
    (λ e. (0, (o.beat, ap (λ (w : OrderKind). Some (record { beat = o.beat; what = w })) e)))
    (λ k. let r = order_at os ask k in (suc r.0, r.1))
    i

same_start : (b c : ℕ) (x y : Ask)
    → ◌≡◌ {A = Option Order} (Some (record { beat = b; what = Begin x })) (Some (record { beat = c; what = Begin y }))
    → x ≡ y
same_start b c x y e =
    let z : ◌≡◌ {A = Order} (record { beat = b; what = Begin x }) (record { beat = c; what = Begin y }) = cc in
    let w : Begin x ≡ Begin y = ap (λ (o : Order). o.what) z in
    cc

module _ {S : Type 0} {step : S → Input Msg → Deed Msg S} {p : Params} {orders : List Order}
    {disk_at : ℕ → DiskState} {added : Additions} {h : History Msg S} {journals : List (List Entry)}
    (kept : AreKept step p orders disk_at added h journals) where
  rising : (n : ℕ) (j : List Entry) → slice_get journals n ≡ Some j → Rising (λ (e : Entry). e.stamp.beat) j
  rising n j at =
      let k = journal_is kept n j at in
      subst (Rising (λ (e : Entry). e.stamp.beat)) (sym k.1)
      (rising_so_far step h n (λ i m le low. beats_rise kept n i m k.0 le low) (h.count n) (omega arith))

  one_order : (a b : Ask) → ordering.IsOrdered orders a → ordering.IsOrdered orders b → a.instance.0 ≡ b.instance.0
      → a ≡ b
  one_order a b x y e =
      let i = order_at orders a x in
      let j = order_at orders b y in
      let same : i.0 ≡ j.0 = kept.ring.counted.given.once i.0 j.0 a b i.1 j.1 e in
      same_start i.1.0 j.1.0 a b (sym i.1.1 ∙ ap (λ k. slice_get orders k) same ∙ j.1.1)

  -- ---- a Put

  -- The event of a Put is a tick of a cub.
  record IsPutIn (n i : ℕ) (t : Tenancy) : Type 0 where
    small : n < p.cubs
    place : IsOfLife h n i
    tick : is_tick (h.event n i) ≡ true

  put_in : (n i : ℕ) (e : Entry) (t : Tenancy) → n < node_count p → i < h.count n → In e (wrote step h n i)
      → e.what ≡ what.Put t → IsPutIn n i t
  put_in n i e t known low k is =
      let r = event_wrote step p n (h.event n i) (past noted step h n i) e (what.Put t)
      (fair kept n i known low) tt k is in
      let acts = acts_if_out kept n i (put_out t) r.0 in
      let l = input_of_life kept n i known low acts in
      ⊎_elim
      (λ small.
      let inputs : ℕ → Input Msg = (life_in h l.which).input n in
      let did = was_put_out p (life_in h l.which) n l.at (put_out t) (rules_did kept n i (put_out t) l small tt r.0) in
      let tick = put_at_tick p n kept.plan small (inputs l.at) (store_at p n inputs l.at) t did in
      let same : input_of (h.event n i) ≡ inputs l.at =
      ap (λ (j : ℕ). input_of (h.event n j)) l.is ∙ sym (input_in h l.which n l.at) in
      record { small = small; place = l; tick = tick_same (h.event n i) acts ∙ ap is_tick_input same ∙ tick })
      (λ o. let stop : what.Put t ≡ what.Gone o.2 = o.3 in absurd (cc))
      (who_acts kept n i (what.Put t) known low r.0)

  event_there : (n : ℕ) (xs : List Entry) (e : Entry) (ys : List Entry) → (c : IsCutIn kept n xs e ys)
      → In e (wrote step h n c.at)
  event_there n xs e ys c = moved e c.event_is (in_right e c.part (e ∷ c.rest) (inl refl))

  -- What is written behind a Put in a later event is of a later beat.
  later : (n : ℕ) (xs : List Entry) (e : Entry) (ys : List Entry) (f : Entry) (t : Tenancy)
      → (c : IsCutIn kept n xs e ys) → e.what ≡ what.Put t → In f ys
      → (In f c.rest → ⊥) → e.stamp.beat < f.stamp.beat
  later n xs e ys f t c is i same = ⊎_elim
      (λ k. absurd (same k))
      (λ k.
      let put = put_in n c.at e t c.known c.done (event_there n xs e ys c) is in
      let one = beat_is step h n c.at e (event_there n xs e ys c) in
      let two = beat_is step h n k.0 f k.3 in
      let l = behind_tick kept n c.at k.0 c.known k.1 k.2 put.tick in
      omega arith)
      (c.behind f i)

  -- What goes out at an input of a cub before what is added,
  abbrev ahead_of_added : (w : WhichLife) (n i : ℕ) → List (Out Msg)
  ahead_of_added w n i = before_it h p w n i ++ outs_in p (life_in h w) n i

  outs_are : (n i : ℕ) → n < p.cubs → (l : IsOfLife h n i)
      → outs noted step h n i ≡ ahead_of_added l.which n l.at ++ beside_it added l.which n l.at
  outs_are n i small l =
      outs_of_input kept n i l small
      ∙ sym (append_assoc (before_it h p l.which n l.at) (outs_in p (life_in h l.which) n l.at)
      (beside_it added l.which n l.at))

  -- is a front of what its rules put out, behind what tells of a return.
  front_of_rules : (w : WhichLife) (n i : ℕ)
      → (rest : List (Out Msg)) × (ahead_of_added w n i ++ rest
      ≡ before_it h p w n i ++ outs_at p n ((life_in h w).input n) i)
  front_of_rules w n i =
      let lives : Lives = life_in h w in
      let before : List (Out Msg) = before_it h p w n i in
      let front = front_of_outs (cut_in lives n i) (outs_at p n (lives.input n) i) in (
        front.0,
        append_assoc before (outs_in p lives n i) front.0 ∙ ap (λ (os : List (Out Msg)). before ++ os) front.1,
      )

  -- Nothing that is added is a Put.
  added_no_put : (n i v : ℕ) → n < p.cubs → (l : IsOfLife h n i) → IsNone (puts v) (beside_it added l.which n l.at)
  added_no_put n i v small l o k e =
      let f = put_found v o e in
      adds_none kept l.which n l.at (put_out f.0) small l.done tt
      (subst (λ (x : Out Msg). In x (beside_it added l.which n l.at)) f.1 k)

  -- What tells of a return is no Put.
  return_no_put : (w : WhichLife) (n i v : ℕ) → IsNone (puts v) (before_it h p w n i)
  return_no_put w n i v o k e =
      let f = put_found v o e in
      not_returning h p w n i (put_out f.0) tt (subst (λ (x : Out Msg). In x (before_it h p w n i)) f.1 k)

  outs_single : (w : WhichLife) (n i v : ℕ)
      → IsOne (puts v) (before_it h p w n i ++ outs_at p n ((life_in h w).input n) i)
  outs_single w n i v =
      let inputs : ℕ → Input Msg = (life_in h w).input n in
      let none = return_no_put w n i v in
      one_append (puts v) (before_it h p w n i) (outs_at p n inputs i)
      (none_one (puts v) (before_it h p w n i) none)
      (deed_single p n v (inputs i) (store_at p n inputs i) (once_at p n inputs i))
      (λ x y k l s u. none x k s)

  one_put : (n : ℕ) (xs ys : List Entry) (e f : Entry) (t u : Tenancy) → slice_get journals n ≡ Some (xs ++ e ∷ ys)
      → e.what ≡ what.Put t → In f ys → f.what ≡ what.Put u
      → u.instance.0 ≡ t.instance.0 → e.stamp.beat < f.stamp.beat
  one_put n xs ys e f t u at is i puts_too same =
      let c = cut_at_entry kept n xs e ys at in
      let put = put_in n c.at e t c.known c.done (event_there n xs e ys c) is in
      let v : ℕ = t.instance.0 in
      let w : WhichLife = put.place.which in
      let front = front_of_rules w n put.place.at in
      let ahead : List (Out Msg) = ahead_of_added w n put.place.at in
      let behind : List (Out Msg) = beside_it added w n put.place.at in
      let none = added_no_put n c.at v put.small put.place in
      let outs_one : IsOne (puts v) (outs noted step h n c.at) =
      subst (λ (os : List (Out Msg)). IsOne (puts v) os) (sym (outs_are n c.at put.small put.place))
      (one_append (puts v) ahead behind
      (one_front (puts v) ahead front.0
      (subst (λ (os : List (Out Msg)). IsOne (puts v) os) (sym front.1) (outs_single w n put.place.at v)))
      (none_one (puts v) behind none)
      (λ x y j k s u. none y k u)) in
      let one : IsOne (λ (x : Entry). is_put_of v x.what) (c.part ++ e ∷ c.rest) =
      subst (λ (es : List Entry). IsOne (λ (x : Entry). is_put_of v x.what) es) (sym c.event_is)
      (entries_one step p n v (h.event n c.at) (past noted step h n c.at) (fair kept n c.at c.known c.done) outs_one) in
      later n xs e ys f t c is i
      (λ k. one_behind (λ (x : Entry). is_put_of v x.what) c.part e c.rest f one
      (ap (is_put_of v) is ∙ eq-eqb _ _ refl) k (ap (is_put_of v) puts_too ∙ eq-eqb _ _ same))

  -- What is written behind what the rules put out, of what is added and of a death, is no entry of the cub's own.
  last_not_own : (n i : ℕ) {t : Tenancy} (put : IsPutIn n i t) (e : Entry) (w : What) → IsOwnEntry w → IsByRules (out.Act w)
      → In e (map (entry_of noted (stamp_at (h.event n i))) (beside_it added put.place.which n put.place.at)
      ++ died_in (h.event n i)) → e.what ≡ w → ⊥
  last_not_own n i put e w own by k is =
      let extra : List (Out Msg) = beside_it added put.place.which n put.place.at in
      ⊎_elim
      (λ j.
      let m = from_map (entry_of noted (stamp_at (h.event n i))) e extra j in
      let o : m.0 ≡ out.Act w = acted m.0 w own (ap (λ (y : Entry). y.what) (sym m.2) ∙ is) in
      adds_none kept put.place.which n put.place.at (out.Act w) put.small put.place.done by
      (subst (λ (y : Out Msg). In y extra) o m.1))
      (λ j. died_not_own (h.event n i) e w j is own)
      (in_cases e (map (entry_of noted (stamp_at (h.event n i))) extra) (died_in (h.event n i)) k)

  -- In the tick of a Put no belief is written behind it.
  no_belief : (n i : ℕ) (part : List Entry) (e : Entry) (rest : List Entry) (f : Entry) (t : Tenancy) (d : CubNo)
      → IsPutIn n i t → n < node_count p → i < h.count n → part ++ e ∷ rest ≡ wrote step h n i
      → e.what ≡ what.Put t → In f rest → f.what ≡ what.Believed d → ⊥
  no_belief n i part e rest f t d put known done event is k told =
      let w : WhichLife = put.place.which in
      let at : ℕ = put.place.at in
      let inputs : ℕ → Input Msg = (life_in h w).input n in
      let stamp : Stamp = stamp_at (h.event n i) in
      let same : input_of (h.event n i) ≡ inputs at =
      ap (λ (j : ℕ). input_of (h.event n j)) put.place.is ∙ sym (input_in h w n at) in
      let ticks : is_tick_input (input_of (h.event n i)) ≡ true = tick_input (h.event n i) put.tick in
      let input = tick_of (inputs at) (ap is_tick_input (sym same) ∙ ticks) in
      let store : Store = store_at p n inputs at in
      let b = believes_first p n input.0 store in
      let back : List (Out Msg) = before_it h p w n at in
      let first : List (Out Msg) = back ++ b.first in
      let front = front_of_rules w n at in
      let event_outs : List (Out Msg) = ahead_of_added w n at in
      let last : List Entry = map (entry_of noted stamp) (beside_it added w n at) ++ died_in (h.event n i) in
      let wrote_is : wrote step h n i ≡ map (entry_of noted stamp) event_outs ++ last =
      tick_wrote step n p (h.event n i) (past noted step h n i) ticks (fair kept n i known done)
      ∙ ap (λ (os : List (Out Msg)). map (entry_of noted stamp) os ++ died_in (h.event n i)) (outs_are n i put.small put.place)
      ∙ ap (λ (es : List Entry). es ++ died_in (h.event n i))
      (map-append (entry_of noted stamp) event_outs (beside_it added w n at))
      ∙ append_assoc (map (entry_of noted stamp) event_outs) _ (died_in (h.event n i)) in
      let inside = in_front (map (entry_of noted stamp) event_outs) last part e rest (event ∙ wrote_is)
      (λ k. last_not_own n i put e (what.Put t) tt tt k is) in
      let more : List Entry = map (entry_of noted stamp) front.0 in
      let outs_is : event_outs ++ front.0 ≡ first ++ b.rest =
      front.1
      ∙ ap (λ (q : Input Msg). back ++ (deed_of p n q store).outs) input.1
      ∙ ap (λ (os : List (Out Msg)). back ++ os) b.is
      ∙ sym (append_assoc back b.first b.rest) in
      let all : part ++ e ∷ (inside.0 ++ more) ≡ map (entry_of noted stamp) first ++ map (entry_of noted stamp) b.rest =
      sym (append_assoc part (e ∷ inside.0) more)
      ∙ ap (λ (es : List Entry). es ++ more) inside.1
      ∙ sym (map-append (entry_of noted stamp) event_outs front.0)
      ∙ ap (λ (os : List (Out Msg)). map (entry_of noted stamp) os) outs_is
      ∙ map-append (entry_of noted stamp) first b.rest in
      let behind_it : In f (inside.0 ++ more) = ⊎_elim
      (λ j. in_left f inside.0 more j)
      (λ j. absurd (last_not_own n i put f (what.Believed d) tt tt j told))
      (in_cases f inside.0 last (moved f (sym inside.2) k)) in
      none_behind (λ (x : Entry). x.what ≡ what.Put t) (λ (x : Entry). x.what ≡ what.Believed d)
      (map (entry_of noted stamp) first) (map (entry_of noted stamp) b.rest) part e (inside.0 ++ more) f
      (λ x j q.
      let m = from_map (entry_of noted stamp) x first j in
      let o : m.0 ≡ put_out t = acted m.0 (what.Put t) tt (ap (λ (y : Entry). y.what) (sym m.2) ∙ q) in
      ⊎_elim
      (λ y. not_returning h p w n at (put_out t) tt y)
      (λ y. all_in (OfPut (λ u. ⊥)) (put_out t) b.first b.puts_none y)
      (in_cases (put_out t) back b.first (subst (λ (y : Out Msg). In y first) o m.1)))
      (λ x j q.
      let m = from_map (entry_of noted stamp) x b.rest j in
      let o : m.0 ≡ out.Act (what.Believed d) =
      acted m.0 (what.Believed d) tt (ap (λ (y : Entry). y.what) (sym m.2) ∙ q) in
      all_in IsNoBelief (out.Act (what.Believed d)) b.rest b.believes_none (subst (λ (y : Out Msg). In y b.rest) o m.1))
      all is behind_it told

  belief_first : (n : ℕ) (xs ys : List Entry) (e f : Entry) (t : Tenancy) (d : CubNo)
      → slice_get journals n ≡ Some (xs ++ e ∷ ys) → e.what ≡ what.Put t → In f ys → f.what ≡ what.Believed d
      → e.stamp.beat < f.stamp.beat
  belief_first n xs ys e f t d at is i told =
      let c = cut_at_entry kept n xs e ys at in
      let put = put_in n c.at e t c.known c.done (event_there n xs e ys c) is in
      later n xs e ys f t c is i
      (λ k. no_belief n c.at c.part e c.rest f t d put c.known c.done c.event_is is k told)

  -- ---- a record that is taken

  module _ (law : Laws p (facts_of p orders h)) where
    put_first : (n : ℕ) (xs ys : List Entry) (e : Entry) (q : Rec) → slice_get journals n ≡ Some (xs ++ e ∷ ys)
        → e.what ≡ what.Took q
        → ((f : Entry) × In f xs × (f.what ≡ what.Put q.tenancy))
        ⊎ ((c x : ℕ) × (facts_of p orders h).Put c q.tenancy x × (x < e.stamp.beat))
    put_first n xs ys e q at is =
        let s : StandsIn journals n e = record {
          journal = xs ++ e ∷ ys;
          at = at;
          there = in_right e xs (e ∷ ys) (inl refl);
        } in
        let small = (cub_entry kept n e (what.Took q) s tt tt (λ v k. absurd (cc)) is).small in
        let o = own_output kept n small xs e ys (what.Took q) tt tt refl refl at is in
        let lives : Lives = life_in h o.which in
        let inputs : ℕ → Input Msg = lives.input n in
        let back : List (Out Msg) = before_it h p o.which n o.input in
        let stamp : Stamp = stamp_of (inputs o.input) in
        ⊎_elim
        (λ (t : is_tick_input (inputs o.input) ≡ true).
        let tick = tick_of (inputs o.input) t in
        let put = ((keeps_records p n inputs o.input kept.plan small).put q tick.0 o.earlier o.later tick.1
        o.outs_are).0 in
        let f : Entry = entry_of noted stamp (put_out q.tenancy) in
        let inside : In f xs = moved f (sym o.front_is)
        (in_right f (so_far step h n (event_in h o.which n o.input)) _
        (in_right f (got_at (inputs o.input)) _
        (in_map (entry_of noted stamp) (put_out q.tenancy) (back ++ o.earlier)
        (in_right (put_out q.tenancy) back o.earlier put)))) in
        inl (f, inside, refl))
        (λ (f : is_tick_input (inputs o.input) ≡ false).
        let took : TookAt p lives n q.tenancy q.visit e.stamp.beat = record {
          kind = q.kind;
          done = record {
            small = small;
            at = o.input;
            done = o.done;
            in_beat = ap (λ (x : Stamp). x.beat) (sym o.stamp_is);
            did = o.goes;
          };
          message = f;
        } in
        let k = took_held p (facts_of p orders h) law {c = n} {n = q.visit} {y = e.stamp.beat} {t = q.tenancy}
        (in_life h (λ l. TookAt p l n q.tenancy q.visit e.stamp.beat) o.which took) in
        inr (k.cub, k.beat, k.put, k.before))
        (cases_Bool (is_tick_input (inputs o.input)))

    ended : (n c b : ℕ) (e : Entry) → StandsIn journals n e → b < e.stamp.beat → c < p.cubs
        → Ended (facts_of p orders h) c b ⊎ IsDeadIn (facts_of p orders h) c b
    ended n c b e s l small =
        let x = written_in kept n e s in
        let when : e.stamp.beat ≡ beat h n x.1.at = beat_is step h n x.1.at e x.1.there in
        ended_or_dead kept.ring n x.1.at c b x.0 x.1.before (omega arith) small

    pub keeps : Keeps p (facts_of p orders h) orders journals
    keeps = record {
      rising = rising;
      one_put = one_put;
      belief_first = belief_first;
      put_first = put_first;
      ended = ended;
      since = λ n xs ys e f small at is i. since kept n xs ys e f small at is i;
      shows = λ c b l upper lower q cut w i. shows kept c b l upper lower q cut w i;
      shown = λ c b l n t upper lower cut w s. shown kept c b n t upper lower cut s;
      one_order = one_order;
    }

pub journals_keep_order : (S : Type 0) → JournalsKeepOrder S
journals_keep_order S step p orders disk_at added h journals plan ring are law =
    keeps (record { plan = plan; ring = ring; are = are }) law
