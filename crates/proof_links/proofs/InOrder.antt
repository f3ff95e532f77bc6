-- What cubs take is in form, and a state comes behind the deschedules that its sender sent before it.
use Rattle.std.proofs.Common.{◌≡◌, ℕ, suc, ◌<◌, ◌≤◌, List, true, Some, sym, ap, subst, ◌∙◌, arith, ⊎_elim, inl, inr, eq-or-lt_of_le}
use Rattle.std.proofs.lemmas.Bool.{cases_lt}
use Rattle.tiger_base.specs.declared.number.LinkNo.{LinkNo}
use Rattle.tiger_base.specs.declared.number.Stamp.{Stamp}
use Rattle.tiger_base.specs.declared.tenancy.State.{State}
use Rattle.tiger_base.specs.declared.tenancy.Tenancy.{Tenancy}
use Rattle.tiger_base.specs.declared.message.Msg.{Msg}
use Rattle.tiger_base.specs.declared.message.Msg.TheVariants as msg
use Rattle.slot_plan.specs.declared.params.Params.{Params}
use Rattle.slot_plan.specs.Conditions.{IsPlan}
use Rattle.node_kit.specs.declared.course.Order.{Order}
use Rattle.node_kit.specs.declared.outbox.Out.TheVariants as out
use Rattle.node_kit.specs.Links.{links_of, ends_of}
use Rattle.node_kit.specs.Steps.{Deed, Input, stamp_of}
use Rattle.node_kit.specs.Steps.Input.{Take}
use Rattle.node_kit.specs.Ways.{way_ahead}
use Rattle.run_facts.specs.Histories.{History, beat, place}
use Rattle.disk_core.specs.State.{DiskState}
use Rattle.proof_lives.specs.Lives.{store_at, beat_at, Lives}
use Rattle.run_facts.specs.Events.{is_tick, is_tick_input}
use Rattle.proof_lives.proofs.Cuts.{was_put_out}
use Rattle.proof_lives.specs.Facts.{DidAt, SentAt}
use Rattle.proof_lives.specs.FactsBy.{IsInOneLife}
use Rattle.proof_lives.specs.TwoLifeRun.{WhichLife, event_in, life_in}
use Rattle.proof_lives.specs.TwoLifeRun.WhichLife.{First, Later}
use Rattle.proof_lives.proofs.Returns.{opens_by, opens_rise}
use Rattle.proof_lives.proofs.States.{state_at_tick, state_way}
use Rattle.proof_lives.specs.HoldsHere.{AreAllFormed}
use Rattle.proof_lives.specs.StopFactsOf.{ToldAt}
use Rattle.proof_lives.specs.InOrder.{AreInOrder, CameInOrder, GotTagBefore}
use Rattle.proof_lives.proofs.NoStops.{no_input_stop}
use Rattle.proof_facts.specs.Beside.{Additions}
use Rattle.proof_facts.specs.Facts.{beyond_with}
use Rattle.proof_facts.specs.Rings.{IsRingWith}
use Rattle.proof_links.proofs.Carrying.{Came, came_from, did_as, did_before, did_there, from_cub, is_out, number_of, numbers_rise, opens_below, taken_as}
use Rattle.proof_links.proofs.Nodes.{after_tick, before, cub_inside, formed_at, lived, ticks_at}
use Rattle.proof_links.proofs.Once.{are_starts, start_behind}
use Rattle.proof_links.proofs.States.{sent_near}

module _ {S : Type 0} {step : S → Input Msg → Deed Msg S} {p : Params} {orders : List Order} {disk_at : ℕ → DiskState}
    {added : Additions} {h : History Msg S} (plan : IsPlan p) (ring : IsRingWith step p orders disk_at added h) where
  pub formed : (w : WhichLife) → AreAllFormed p (life_in h w)
  formed w c small i stamp link m low e =
      let f = came_from plan ring w c i stamp link m (cub_inside plan ring c small) low e in
      formed_at plan ring f.from f.at link m f.known f.note.done f.sent

  -- Of two events of a life the one with the lower number is the earlier input.
  earlier_input : (w : WhichLife) (c j i : ℕ) → event_in h w c j < event_in h w c i → j < i
  earlier_input First c j i less = less
  earlier_input Later c j i less = omega arith

  -- A deschedule that a cub sent by the beat of a tick of it was sent before the tick.
  sent_earlier : (u : WhichLife) {a k v s q x : ℕ} (e : ℕ) (told : ToldAt p (life_in h u) a k v s q x) → e < h.count a
      → is_tick (h.event a e) ≡ true → x ≤ beat h a e → (did_as plan ring u told.did).at < e
  sent_earlier u {a} {k} {v} {s} {q} {x} e told low tick le =
      let sent = did_as plan ring u told.did in
      let small = told.did.small in
      let inside = cub_inside plan ring a small in
      let when = sent.in_beat in
      let done = sent.note.done in
      ⊎_elim
      (λ (l : sent.at < e). l)
      (λ (l : e ≤ sent.at). ⊎_elim
      (λ (same : e ≡ sent.at).
      let d = did_there plan ring a sent.at (way_ahead p a k) (msg.Deschedule told.instance (Some told.tag)) small done
      (is_out plan ring sent.note) (λ z. z) in
      let ls : Lives = life_in h d.which in
      let ticks : is_tick_input (ls.input a d.did.at) ≡ true =
      sym (ticks_at plan ring d.which a d.did.at inside d.did.done)
      ∙ ap (λ n. is_tick (h.event a n)) (sym (same ∙ d.is)) ∙ tick in
      absurd (no_input_stop p a plan small (ls.input a d.did.at) (store_at p a (ls.input a) d.did.at) (way_ahead p a k)
      told.instance (Some told.tag) ticks
      (was_put_out p ls a d.did.at (out.Send (way_ahead p a k) (msg.Deschedule told.instance (Some told.tag))) d.did.did)))
      (λ (less : e < sent.at).
      let ends = after_tick plan ring a e inside low tick in
      let rise = opens_rise ring.run a inside (suc e) sent.at less (omega arith) in
      let by = opens_by ring.run a inside sent.at done in
      absurd (omega arith))
      (eq-or-lt_of_le l))
      (cases_lt sent.at e)

  -- A deschedule that the sender of a state sent before it on the same link was taken before the state, in the life in which
  -- both were sent.
  told_before : (w u : WhichLife) {c i b k v s q x : ℕ} {link : LinkNo} {t : State}
      (f : Came plan ring c (event_in h w c i) b link (msg.ViewerState t))
      → c < p.cubs → i < (life_in h w).count c → link ≡ way_ahead p f.from k → is_tick (h.event f.from f.at) ≡ true
      → ToldAt p (life_in h u) f.from k v s q x → x ≤ beat h f.from f.at
      → IsInOneLife (beyond_with p orders added h) c x (beat_at ((life_in h w).input c) i)
      → GotTagBefore (life_in h w) c i v s q
  told_before w u {c} {i} {b} {k} {v} {s} {q} {x} {link} {t} f small low way tick told le one =
      let a : ℕ = f.from in
      let sent = did_as plan ring u told.did in
      let earlier = sent_earlier u f.at told f.note.done tick le in
      let less = numbers_rise plan ring f.at f.place_there sent.note earlier in
      let number =
      subst (λ (x : LinkNo). place x.0 h c (event_in h w c i) ≡ number_of plan ring a f.at f.place_there x) way f.number in
      let ends = subst (λ (x : LinkNo). ends_of (links_of p) x.0 ≡ Some (a, c)) way f.ends in
      let inside = cub_inside plan ring c small in
      let here = before plan ring w c i inside low in
      let high = here.low in
      let opens = opens_below plan ring w c i sent.note f.known ends small low
      (subst (λ y. IsInOneLife (beyond_with p orders added h) c y (beat_at ((life_in h w).input c) i)) (sym sent.in_beat) one) in
      let r = taken_as plan ring w c (event_in h w c i) sent.note inside here.from (omega arith) ends opens (omega arith) in
      record {
        at = r.when;
        before = earlier_input w c r.when i r.before_it;
        stamp = r.stamp;
        link = way_ahead p a k;
        instance = told.instance;
        same = told.same;
        tag = told.tag;
        slot = told.slot;
        visit = told.visit;
        is = r.is;
      }

  joined_sent : (w : WhichLife) {a k m x : ℕ} {t : Tenancy} → SentAt p (life_in h w) a k t m x
      → (beyond_with p orders added h).Sent a k t m x
  joined_sent First s = inl s
  joined_sent Later s = inr s

  states : (w : WhichLife) (c i : ℕ) (stamp : Stamp) (link : LinkNo) (t : Tenancy) (m : ℕ) → c < p.cubs
      → i < (life_in h w).count c
      → (life_in h w).input c i ≡ Take stamp link (msg.ViewerState (record { tenancy = t; visit = m }))
      → CameInOrder p (life_in h w) (beyond_with p orders added h) c i t m stamp.beat
  states w c i stamp link t m small low e =
      let s : State = record { tenancy = t; visit = m } in
      let f = came_from plan ring w c i stamp link (msg.ViewerState s) (cub_inside plan ring c small) low e in
      let own = from_cub plan ring f (λ q. q) (λ q. q) in
      let b = did_before plan ring f own (λ q. q) in
      let d = b.0 in
      let ls : Lives = life_in h d.which in
      let inputs : ℕ → Input Msg = ls.input f.from in
      let was = was_put_out p ls f.from d.did.at (out.Send link (msg.ViewerState s)) d.did.did in
      let tick = state_at_tick p f.from plan own (inputs d.did.at) (store_at p f.from inputs d.did.at) link s was in
      let ticks : is_tick (h.event f.from f.at) ≡ true =
      ap (λ n. is_tick (h.event f.from n)) b.2
      ∙ ticks_at plan ring d.which f.from d.did.at (cub_inside plan ring f.from own) d.did.done ∙ tick in
      let n = sent_near plan ring f.from c link own f.ends
      (state_way p f.from plan own (inputs d.did.at) (store_at p f.from inputs d.did.at) link s was) in
      let now : beat_at ((life_in h w).input c) i ≡ stamp.beat = ap (λ (k : Input Msg). (stamp_of k).beat) e in
      record {
        from = f.from;
        ahead = n.steps;
        beat = beat h f.from f.at;
        sent = joined_sent d.which (record {
          ahead = n.near;
          did = subst (λ (x : LinkNo). DidAt p ls f.from (out.Send x (msg.ViewerState s)) (beat h f.from f.at)) n.way
              (subst (λ y. DidAt p ls f.from (out.Send link (msg.ViewerState s)) y) b.1 d.did);
        });
        to = n.to;
        later = f.later;
        soon = f.soon;
        behind = λ v s q x told le one.
            let here = subst (λ y. IsInOneLife (beyond_with p orders added h) c x y) (sym now) one in
            ⊎_elim
            (λ k. told_before w First f small low n.way ticks k le here)
            (λ k. told_before w Later f small low n.way ticks k le here)
            told;
      }

  -- What cubs take is in form and in order.
  pub in_order : (w : WhichLife) → AreInOrder p (life_in h w) (beyond_with p orders added h) orders
  in_order w = record {
    lived = lived plan ring w;
    started = are_starts plan ring w;
    formed = formed w;
    states = states w;
    starts = start_behind plan ring w;
  }
