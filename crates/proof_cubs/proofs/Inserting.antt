-- A Put as the laws of records speak of it: by the cub of its first visit, or for a predecessor that is believed dead. It inserts
-- what it gives, and its visit is free. This holds even if the tick is cut off, since a Put goes out with all that belongs to it.
use Rattle.std.proofs.Common.{◌≡◌, ℕ, ◌+◌, ◌<◌, ◌≤◌, List, [], true, false, Option, None, refl, sym, ap, subst, ◌∙◌, arith, ⊎_elim, inl, inr, eq-or-lt_of_le}
use Rattle.std.specs.Prelude.{◌⊎◌}
use Rattle.std.proofs.lemmas.Bool.{cases_Bool}
use Rattle.tiger_base.specs.declared.number.Stamp.{Stamp}
use Rattle.tiger_base.specs.declared.tenancy.Rec.{Rec}
use Rattle.tiger_base.specs.declared.tenancy.Tenancy.{Tenancy}
use Rattle.tiger_base.specs.declared.message.Msg.{Msg}
use Rattle.slot_plan.specs.declared.params.Params.{Params}
use Rattle.slot_plan.specs.Times.{due}
use Rattle.slot_plan.proofs.Times.{cub_apart, seven_cubs}
use Rattle.node_kit.specs.declared.outbox.Out.{Out}
use Rattle.node_kit.specs.Steps.{Input, stamp_of}
use Rattle.node_kit.specs.Steps.Input.{Tick}
use Rattle.node_kit.specs.Ways.{predecessor}
use Rattle.partial_view.specs.declared.line.Line.{Line}
use Rattle.cub_rules.specs.declared.store.Store.{Store}
use Rattle.cub_rules.specs.Ticks.{number, inserting, ticking}
use Rattle.cub_changes.specs.Laws.{believed_out}
use Rattle.proof_schedule.specs.Facts.{Facts, BelievedBy, ReachedBy, Entered, IsGiven}
use Rattle.proof_schedule.specs.StateLaws.{Inserts, Stands}
use Rattle.proof_lives.specs.Facts.{TickAt, DidAt, InsertedAt}
use Rattle.proof_lives.specs.Lives.{Lives, cut_in, cut_outs, store_at, outs_at, outs_in, beat_at, reading_at}
use Rattle.run_facts.specs.Events.{is_tick_input}
use Rattle.lists.specs.Elements.{In}
use Rattle.proof_lives.proofs.Beside.{goes_at, belief_goes, tick_outs}
use Rattle.proof_lives.proofs.Cuts.{was_put_out, whole_before, goes_whole}
use Rattle.proof_lives.proofs.Fitting.{whole_or_died}
use Rattle.proof_lives.proofs.Inputs.{tick_there, entered_did}
use Rattle.proof_lives.proofs.Moves.{taken_out}
use Rattle.proof_lives.proofs.Inserting.{put_out, state_out, IsAt}
use Rattle.proof_lives.proofs.Leaving.{stays_or_stopped}
use Rattle.proof_lives.proofs.TakingOver.{inserting_puts}
use Rattle.proof_lives.proofs.Order.{beats_rise, not_behind}
use Rattle.proof_lives.proofs.Seats.{AreSeated, seated_at, ticking_seats}
use Rattle.proof_lives.proofs.States.{put_at_tick, put_inserted, took_inserted, at_tick, at_tick_same, from_tick}
use Rattle.proof_lives.proofs.Ticking.{before_inserting, same_before, inserted_out}
use Rattle.proof_lives.specs.FactsBy.{Beyond, facts_by}
use Rattle.proof_lives.proofs.SameLife.{put_in_first}
use Rattle.proof_cubs.specs.Grounds.{StandsSecond}
use Rattle.proof_cubs.proofs.Setting.{Setting}
use Rattle.proof_cubs.proofs.Believing.{written}
use Rattle.proof_cubs.proofs.Standing.{HasCome, come_now, come_before, stands, is_tick}
use Rattle.proof_cubs.proofs.Together.{puts_go_whole}

module _ (p : Params) (lives : Lives) (beyond : Beyond) (set : Setting p lives beyond) where
  abbrev R : Facts
  R = facts_by p lives beyond

  -- A cub that believes its predecessor dead when insertion begins wrote so by that tick's beat, even if the tick is cut off.
  pub believed_by : (c i : ℕ) (stamp : Stamp) → c < p.cubs → i < lives.count c → lives.input c i ≡ Tick stamp
      → (before_inserting p c stamp (store_at p c (lives.input c) i)).believes ≡ true
      → BelievedBy R c (beat_at (lives.input c) i)
  believed_by c i stamp small low is believes =
      let inputs : ℕ → Input Msg = lives.input c in
      let h : Store = store_at p c inputs i in
      let o : Out Msg = believed_out p c in
      let who = number (predecessor p c) in
      ⊎_elim
      (λ (e : h.believes ≡ true).
      let w = written p c inputs i e in
      let wb = w.before in
      let goes = goes_whole p lives c w.at o (whole_before lives c w.at i wb low) w.wrote in
      record {
        beat = beat_at inputs w.at;
        believed = record {
          cub = who;
          did = record { small = small; at = w.at; done = omega arith; in_beat = refl; did = goes };
        };
        by = beats_rise p (lives.count c) inputs (set.lived c small) w.at i (omega arith) low;
      })
      (λ (e : h.believes ≡ false).
      let goes : In o (outs_in p lives c i) = subst (λ (os : List (Out Msg)). In o os) (sym (tick_outs p lives c i stamp is))
      (belief_goes p c stamp h (cut_in lives c i) e believes) in
      record {
        beat = beat_at inputs i;
        believed = record {
          cub = who;
          did = record { small = small; at = i; done = low; in_beat = refl; did = goes };
        };
        by = omega arith;
      })
      (cases_Bool h.believes)

  -- A line that stands at a visit when the insertion of a whole tick ends was there before, or was taken in this tick.
  pub line_stands : (c i x s n : ℕ) (stamp : Stamp) (y : Line) → c < p.cubs → i < lives.count c
      → lives.input c i ≡ Tick stamp → cut_in lives c i ≡ None → beat_at (lives.input c) i ≡ x
      → In y (inserting p c stamp (before_inserting p c stamp (store_at p c (lives.input c) i))).state.view.lines
      → IsAt s n y → Stands p R c s n x
  line_stands c i x s n stamp y small low is whole eb there at =
      let inputs : ℕ → Input Msg = lives.input c in
      let h : Store = store_at p c inputs i in
      let tick : is_tick_input (inputs i) ≡ true = ap is_tick_input is in
      ⊎_elim
      (λ w.
      let before = subst (λ (ls : List Line). In w.line ls) (same_before p c stamp h) w.there in
      stands p lives beyond set c i x s n w.line.rec small low tick eb
      (ap (λ (r : Rec). r.tenancy.slot.0) (sym w.same) ∙ at.0) (ap (λ (r : Rec). r.visit) (sym w.same) ∙ at.1)
      (come_before p lives beyond set c i w.line small low before))
      (λ w. stands p lives beyond set c i x s n y.rec small low tick eb at.0 at.1
      (come_now p lives beyond set c i y.rec small low
      (goes_whole p lives c i (taken_out y.rec) whole
      (from_tick p c inputs i stamp (taken_out y.rec) is (inserted_out p c stamp h (taken_out y.rec) w.taken)))))
      ((inserting_puts p c stamp set.plan small (before_inserting p c stamp h)).moves.back y there)

  -- What stands at the second visit of a Put for a dead cub stands there as the laws have it.
  second_stands : (c i x : ℕ) (t : Tenancy) → c < p.cubs → i < lives.count c → is_tick_input (lives.input c i) ≡ true
      → beat_at (lives.input c) i ≡ x → StandsSecond t (store_at p c (lives.input c) i) (outs_in p lives c i)
      → Stands p R c t.slot.0 (t.first + 1) x
  second_stands c i x t small low tick eb s =
      stands p lives beyond set c i x t.slot.0 (t.first + 1) s.rec small low tick eb s.slot s.visit
      (⊎_elim
      (λ y. subst (λ (r : Rec). HasCome p lives beyond set c i r) y.2 (come_before p lives beyond set c i y.0 small low y.1))
      (λ k. come_now p lives beyond set c i s.rec small low k)
      s.how)

  -- A record is inserted by a Put, which gives it. The Put stands before it, and so went out too.
  pub inserted : {c n x : ℕ} {t : Tenancy} → InsertedAt p lives c t n x → DidAt p lives c (put_out t) x × IsGiven p c t t.first n
  inserted {c} {n} {x} {t} w =
      let d = w.done in
      let inputs : ℕ → Input Msg = lives.input c in
      let h : Store = store_at p c inputs d.at in
      let cut : Option ℕ = cut_in lives c d.at in
      let q : Rec = record { tenancy = t; visit = n; kind = w.kind } in
      let a = at_tick p c inputs d.at (taken_out q) w.tick (was_put_out p lives c d.at (taken_out q) d.did) in
      let k = took_inserted p c set.plan d.small a.stamp h q a.did in
      let told = (inserting_puts p c a.stamp set.plan d.small (before_inserting p c a.stamp h)).told q k in
      let all = tick_outs p lives c d.at a.stamp a.is in
      let left : List (Out Msg) = cut_outs cut (ticking p c a.stamp h).outs in
      let g = goes_at cut (ticking p c a.stamp h).outs (taken_out q) (subst (λ (os : List (Out Msg)). In (taken_out q) os) all d.did) in
      let seats = subst (λ (os : List (Out Msg)). AreSeated p c [] os) (sym g.is) (ticking_seats p c a.stamp set.plan d.small h).seated in
      let put : In (put_out t) left = ⊎_elim
      (λ i. absurd i)
      (λ i. g.before (put_out t) i)
      (seated_at p c [] g.front g.back q seats).0 in
      let did = subst (λ (os : List (Out Msg)). In (put_out t) os) (sym all) put in
      (record { small = d.small; at = d.at; done = d.done; in_beat = d.in_beat; did = did }, told.1)

  -- The visit of a Put is free: if a record of it came before, that is of the same instance, or was descheduled.
  pub free : {c x y : ℕ} {t u : Tenancy} → DidAt p lives c (put_out t) x → Entered R c u t.first y → y ≤ x
      → u.slot.0 ≡ t.slot.0 → (u.instance.0 ≡ t.instance.0) ⊎ ReachedBy R c u.instance.0 x
  free {c} {x} {y} {t} {u} d entered le slot =
      let inputs : ℕ → Input Msg = lives.input c in
      let g : Store = store_at p c inputs d.at in
      let e = (entered_did p lives entered).1 in
      let q : Rec = record { tenancy = u; visit = t.first; kind = (entered_did p lives entered).0 } in
      let did = was_put_out p lives c d.at (put_out t) d.did in
      let took = was_put_out p lives c e.at (taken_out q) e.did in
      let tick = put_at_tick p c set.plan d.small (inputs d.at) g t did in
      let a = at_tick p c inputs d.at (put_out t) tick did in
      let k = put_inserted p c set.plan d.small a.stamp g t a.did in
      let puts = inserting_puts p c a.stamp set.plan d.small (before_inserting p c a.stamp g) in
      let db = d.in_beat in
      let eb = e.in_beat in
      let low = not_behind p (lives.count c) inputs (set.lived c d.small) e.at d.at d.done e.done tick (omega arith) in
      let same : due p u.slot.0 t.first ≡ due p t.slot.0 t.first = ap (λ s. due p s t.first) slot in
      let read : reading_at inputs d.at ≡ a.stamp.reading = ap (λ (i : Input Msg). (stamp_of i).reading) a.is in
      let above = (puts.put t k).above in
      ⊎_elim
      (λ (now : e.at ≡ d.at).
      let i = subst (λ m. In (taken_out q) (outs_at p c inputs m)) now took in
      let j = took_inserted p c set.plan d.small a.stamp g q (at_tick_same p c inputs d.at a.stamp (taken_out q) a.is i) in
      inl (ap (λ (z : Tenancy). z.instance.0) (puts.one t q k j slot refl)))
      (λ (before : e.at < d.at). ⊎_elim
      (λ s. absurd (puts.free t s.line k
      (subst (λ (ls : List Line). In s.line ls) (sym (same_before p c a.stamp g)) s.there)
      (ap (λ (z : Rec). z.tenancy.slot.0) s.same ∙ slot, ap (λ (z : Rec). z.visit) s.same)))
      (λ m. let by = m.2 in inr (record { beat = m.0; reached = m.1; by = omega arith }))
      (stays_or_stopped p set.plan lives set.lived c e.at d.at d.at q d.small before (omega arith) d.done (omega arith)
      took))
      (eq-or-lt_of_le low)

  -- A Put is as the law of insertion has it.
  pub inserts : {c : ℕ} {t : Tenancy} {x : ℕ} → DidAt p lives c (put_out t) x → Inserts p R c t x
  inserts {c} {t} {x} d =
      let inputs : ℕ → Input Msg = lives.input c in
      let h : Store = store_at p c inputs d.at in
      let cut : Option ℕ = cut_in lives c d.at in
      let was = was_put_out p lives c d.at (put_out t) d.did in
      let tick = put_at_tick p c set.plan d.small (inputs d.at) h t was in
      let a = at_tick p c inputs d.at (put_out t) tick was in
      let k = put_inserted p c set.plan d.small a.stamp h t a.did in
      let g : Store = before_inserting p c a.stamp h in
      let w = (inserting_puts p c a.stamp set.plan d.small g).put t k in
      let eb = d.in_beat in
      let here = subst (λ n. TickAt p lives c n a.stamp.reading) eb
      (tick_there p lives c d.at a.stamp d.small d.done a.is) in
      let left : List (Out Msg) = cut_outs cut (ticking p c a.stamp h).outs in
      let all : outs_in p lives c d.at ≡ left = tick_outs p lives c d.at a.stamp a.is in
      let goes = puts_go_whole p c a.stamp h cut t set.plan d.small (subst (λ (os : List (Out Msg)). In (put_out t) os) all d.did) in
      let also : (o : Out Msg) → In o left → DidAt p lives c o x =
      λ o i. record {
        small = d.small;
        at = d.at;
        done = d.done;
        in_beat = d.in_beat;
        did = subst (λ (os : List (Out Msg)). In o os) (sym all) i;
      } in
      record {
        reading = a.stamp.reading;
        tick = is_tick p lives beyond set here;
        whole = ⊎_elim (λ z. inl z) (λ z. inr (set.fits.died c x z)) (whole_or_died here);
        above = w.above;
        below = w.below;
        within = w.within;
        entered = record { kind = goes.kind; done = also _ goes.taken; tick = tick };
        first = put_in_first p lives beyond set.lived set.fits d;
        who = ⊎_elim
            (λ q. inl (record { own = q.0; sent = record { ahead = inl refl; did = also (state_out p c t) q.1 } }))
            (λ q.
            let seven = seven_cubs p set.plan in
            let believes : g.believes ≡ true = ⊎_elim
            (λ o. absurd (cub_apart p t.first 1 (omega arith) (omega arith) (sym o.0 ∙ q.0)))
            (λ b. b.1)
            w.who in
            inr (record {
              next = q.0;
              believed = subst (λ n. BelievedBy R c n) eb (believed_by c d.at a.stamp d.small d.done a.is believes);
              second = λ more. inr (second_stands c d.at x t d.small d.done tick eb
                  (subst (λ (os : List (Out Msg)). StandsSecond t h os) (sym all) (q.1 more)));
            }))
            goes.who;
      }
