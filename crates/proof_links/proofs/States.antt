-- Viewer states and heartbeats on the links between cubs: what came was sent, and what is sent comes in time.
use Rattle.std.proofs.Common.{◌≡◌, ℕ, ◌+◌, ◌<◌, ◌≤◌, List, Some, refl, sym, ap, subst, ◌∙◌, arith, ⊎_elim, inl, inr}
use Rattle.std.specs.Prelude.{◌⊎◌}
use Rattle.tiger_base.specs.declared.number.LinkNo.{LinkNo}
use Rattle.tiger_base.specs.declared.tenancy.State.{State}
use Rattle.tiger_base.specs.declared.tenancy.Tenancy.{Tenancy}
use Rattle.tiger_base.specs.declared.message.Msg.{Msg}
use Rattle.tiger_base.specs.declared.message.Msg.TheVariants as msg
use Rattle.slot_plan.specs.declared.params.Params.{Params}
use Rattle.slot_plan.specs.Conditions.{IsPlan}
use Rattle.slot_plan.specs.Times.{cub_of}
use Rattle.node_kit.specs.declared.course.Order.{Order}
use Rattle.node_kit.specs.declared.outbox.Out.TheVariants as out
use Rattle.node_kit.specs.Links.{links_of, ends_of}
use Rattle.node_kit.specs.Steps.{Deed, Input, stamp_of}
use Rattle.node_kit.specs.Ways.{way_ahead}
use Rattle.run_facts.specs.Histories.{History, beat}
use Rattle.disk_core.specs.State.{DiskState}
use Rattle.proof_lives.specs.Lives.{store_at, Lives}
use Rattle.proof_lives.specs.FactsBy.{CameToTick, IsInOneLife}
use Rattle.proof_lives.specs.TwoLifeRun.{WhichLife, event_in, life_in}
use Rattle.proof_lives.specs.TwoLifeRun.WhichLife.{First, Later}
use Rattle.proof_lives.specs.Facts.{DidAt, SentAt, TookMessage, HeardAt}
use Rattle.proof_lives.proofs.Carrying.{before_next, same_ends, way_ends, way_of}
use Rattle.proof_lives.proofs.Cuts.{was_put_out}
use Rattle.proof_lives.proofs.SameLife.{first_by_store}
use Rattle.proof_lives.proofs.States.{state_way}
use Rattle.proof_schedule.specs.Facts.{GotBy, IsFirstLife}
use Rattle.proof_schedule.specs.LinkLaws.{WasSent, HeardIn}
use Rattle.proof_service.specs.ServiceLaws.{WasUp}
use Rattle.proof_facts.specs.Beside.{Additions}
use Rattle.proof_facts.specs.Facts.{beyond_with, facts_of}
use Rattle.proof_facts.specs.Lives.{CameAt}
use Rattle.proof_facts.specs.Rings.{IsRingWith}
use Rattle.proof_lives.proofs.TwoLives.{beat_in}
use Rattle.proof_links.proofs.Beating.{beats_first}
use Rattle.proof_links.proofs.Sending.{beat_at_tick}
use Rattle.proof_links.proofs.Carrying.{did_as, did_before, from_cub, link_no, reaches_near, sent_in_life, tick_in, took_from}
use Rattle.proof_links.proofs.Nodes.{before, cub_inside, lived, ticks_at}
use Rattle.proof_links.proofs.Fitting.{fits}

module _ {S : Type 0} {step : S → Input Msg → Deed Msg S} {p : Params} {orders : List Order} {disk_at : ℕ → DiskState}
    {added : Additions} {h : History Msg S} (plan : IsPlan p) (ring : IsRingWith step p orders disk_at added h) where
  -- What a cub sent on the link to one of the next two cubs came to that cub.
  pub record SentNear (a c : ℕ) (link : LinkNo) : Type 0 where
    pub steps : ℕ
    pub near : (steps ≡ 1) ⊎ (steps ≡ 2)
    pub way : link ≡ way_ahead p a steps
    pub to : c ≡ cub_of p (a + steps)

  pub sent_near : (a c : ℕ) (link : LinkNo) → a < p.cubs → ends_of (links_of p) link.0 ≡ Some (a, c)
      → (link ≡ way_ahead p a 1) ⊎ (link ≡ way_ahead p a 2) → SentNear a c link
  sent_near a c link small ends way =
      let w = way_of p a link way in
      let lead : ends_of (links_of p) link.0 ≡ Some (a, cub_of p (a + w.0)) =
      ap (λ (x : LinkNo). ends_of (links_of p) x.0) w.4 ∙ way_ends p a w.0 plan small w.1 w.2 in
      record { steps = w.0; near = w.3; way = w.4; to = (same_ends a c a (cub_of p (a + w.0)) (sym ends ∙ lead)).1 }

  -- What a cub took in a beat of a life was sent in that life of it.
  pub in_life : (w : WhichLife) {c y : ℕ} {m : Msg} (g : TookMessage p (life_in h w) c m y)
      → IsInOneLife (beyond_with p orders added h) c (beat h (took_from plan ring w g).from (took_from plan ring w g).at) y
  in_life w {c} {y} {m} g =
      sent_in_life plan ring w g.small g.done (ap (λ (i : Input Msg). (stamp_of i).beat) g.is) (took_from plan ring w g)

  -- A state of either life is one of the facts.
  joined_sent : (w : WhichLife) {a k m x : ℕ} {t : Tenancy} → SentAt p (life_in h w) a k t m x
      → (facts_of p orders h).Sent a k t m x
  joined_sent First s = inl s
  joined_sent Later s = inr s

  -- A state that came was sent by a cub.
  carried_in : (w : WhichLife) {c : ℕ} {t : Tenancy} {m y : ℕ}
      → TookMessage p (life_in h w) c (msg.ViewerState (record { tenancy = t; visit = m })) y
      → WasSent p (facts_of p orders h) c t m y
  carried_in w {c} {t} {m} {y} g =
      let s : State = record { tenancy = t; visit = m } in
      let f = took_from plan ring w g in
      let small = from_cub plan ring f (λ q. q) (λ q. q) in
      let b = did_before plan ring f small (λ q. q) in
      let d = b.0 in
      let inputs : ℕ → Input Msg = (life_in h d.which).input f.from in
      let n = sent_near f.from c g.link small f.ends
      (state_way p f.from plan small (inputs d.did.at) (store_at p f.from inputs d.did.at) g.link s
      (was_put_out p (life_in h d.which) f.from d.did.at (out.Send g.link (msg.ViewerState s)) d.did.did)) in
      record {
        from = f.from;
        ahead = n.steps;
        beat = d.beat;
        sent = joined_sent d.which (record {
          ahead = n.near;
          did = subst (λ (x : LinkNo). DidAt p (life_in h d.which) f.from (out.Send x (msg.ViewerState s)) d.beat) n.way d.did;
        });
        to = n.to;
        later = d.later;
        soon = d.soon;
        life = subst (λ x. IsInOneLife (beyond_with p orders added h) c x y) (sym b.1) (in_life w g);
      }

  pub carried : {c : ℕ} {t : Tenancy} {m y : ℕ} → (facts_of p orders h).Got c t m y → WasSent p (facts_of p orders h) c t m y
  carried g = ⊎_elim (λ q. carried_in First q) (λ q. carried_in Later q) g

  -- A state that is sent comes in time.
  arrives_in : (v w : WhichLife) {a k : ℕ} {t : Tenancy} {m x : ℕ} (c b : ℕ) → SentAt p (life_in h v) a k t m x
      → c ≡ cub_of p (a + k) → CameToTick p (life_in h w) c b → IsInOneLife (beyond_with p orders added h) c x b → x + p.delay ≤ b
      → GotBy (facts_of p orders h) c t m (x + p.delay)
  arrives_in v w {a} {k} {t} {m} {x} c b s to tick one late =
      let r = reaches_near plan ring w c b (did_as plan ring v s.did) s.did.small s.ahead to tick one late in
      record { beat = r.beat; got = joined_got w r.took; by = r.soon }
    where
      joined_got : (w : WhichLife) {y : ℕ}
          → TookMessage p (life_in h w) c (msg.ViewerState (record { tenancy = t; visit = m })) y
          → (facts_of p orders h).Got c t m y
      joined_got First g = inl g
      joined_got Later g = inr g

  pub arrives : {a k : ℕ} {t : Tenancy} {m x : ℕ} (c b : ℕ) → (facts_of p orders h).Sent a k t m x → c ≡ cub_of p (a + k)
      → CameAt p h c b → IsInOneLife (beyond_with p orders added h) c x b → x + p.delay ≤ b
      → GotBy (facts_of p orders h) c t m (x + p.delay)
  arrives c b s to came one late =
      let t = tick_in plan ring came in
      ⊎_elim
      (λ q. arrives_in First t.which c b q to t.tick one late)
      (λ q. arrives_in Later t.which c b q to t.tick one late)
      s

  -- A heartbeat that is sent comes in time.
  heard_in : (v w : WhichLife) {a x : ℕ} (c b : ℕ) → DidAt p (life_in h v) a (out.Send (way_ahead p a 1) msg.Heartbeat) x
      → c ≡ cub_of p (a + 1) → CameToTick p (life_in h w) c b → IsInOneLife (beyond_with p orders added h) c x b → x + p.delay ≤ b
      → HeardIn (facts_of p orders h) c x (x + p.delay)
  heard_in v w {a} {x} c b d to tick one late =
      let r = reaches_near plan ring w c b (did_as plan ring v d) d.small (inl refl) to tick one late in
      record {
        beat = r.beat;
        heard = joined_heard w (record {
          took = r.took;
          link = ap (λ (l : LinkNo). l.0) r.way ∙ ap (λ n. (way_ahead p n 1).0)
              (sym (before_next p a c d.small to));
        });
        after = r.later;
        by = r.soon;
      }
    where
      joined_heard : (w : WhichLife) {y : ℕ} → HeardAt p (life_in h w) c y → (facts_of p orders h).Heard c y
      joined_heard First g = inl g
      joined_heard Later g = inr g

  pub heard : {a x : ℕ} (c b : ℕ) → (facts_of p orders h).Beat a x → c ≡ cub_of p (a + 1) → CameAt p h c b
      → IsInOneLife (beyond_with p orders added h) c x b → x + p.delay ≤ b
      → HeardIn (facts_of p orders h) c x (x + p.delay)
  heard c b d to came one late =
      let t = tick_in plan ring came in
      ⊎_elim
      (λ q. heard_in First t.which c b q to t.tick one late)
      (λ q. heard_in Later t.which c b q to t.tick one late)
      d

  -- A cub sends a heartbeat when it comes to a tick, in its first life.
  pub beats_came : (w : WhichLife) {c b : ℕ} {link : LinkNo} → DidAt p (life_in h w) c (out.Send link msg.Heartbeat) b
      → CameAt p h c b × IsFirstLife (facts_of p orders h) c b
  beats_came w {c} {b} {link} d =
      let inside = cub_inside plan ring c d.small in
      let inputs : ℕ → Input Msg = (life_in h w).input c in
      let sent = was_put_out p (life_in h w) c d.at (out.Send link msg.Heartbeat) d.did in
      let none = beats_first p c (inputs d.at) (store_at p c inputs d.at) link sent in
      let first = first_by_store p (life_in h w) (beyond_with p orders added h) (lived plan ring w) (fits plan ring w) c d.at d.at d.small
      d.done none in (
        record {
          small = d.small;
          at = event_in h w c d.at;
          done = (before plan ring w c d.at inside d.done).done;
          tick = ticks_at plan ring w c d.at inside d.done
              ∙ beat_at_tick p c (inputs d.at) (store_at p c inputs d.at) link sent;
          in_beat = beat_in h w c d.at ∙ d.in_beat;
        },
        λ v back. let low = first v back in let db = d.in_beat in omega arith,
      )

  -- A cub sent its successor a heartbeat in its first life, at least one beat before beat y, and at most the greatest
  -- delay.
  pub record BeatBefore (d y : ℕ) : Type 0 where
    pub which : WhichLife
    pub beat : ℕ
    pub sent : DidAt p (life_in h which) d (out.Send (way_ahead p d 1) msg.Heartbeat) beat
    pub later : beat < y
    pub soon : y ≤ beat + p.delay

  -- What a cub hears its predecessor sent.
  pub heartbeat_from : (w : WhichLife) {c d y : ℕ} → HeardAt p (life_in h w) c y → d < p.cubs → c ≡ cub_of p (d + 1)
      → BeatBefore d y
  heartbeat_from w {c} {d} {y} g small to =
      let f = took_from plan ring w g.took in
      let own = from_cub plan ring f (λ q. q) (λ q. q) in
      let b = (did_before plan ring f own (λ q. q)).0 in
      let ls : Lives = life_in h b.which in
      let link : g.took.link.0 ≡ (way_ahead p d 1).0 =
      g.link ∙ ap (λ n. (way_ahead p n 1).0) (before_next p d c small to) in
      let ends = sym (way_ends p d 1 plan small (omega arith) (omega arith)) ∙ ap (λ n. ends_of (links_of p) n)
      (sym link) ∙ f.ends in
      let from : d ≡ f.from = (same_ends d (cub_of p (d + 1)) f.from c ends).0 in
      let sent : DidAt p ls d (out.Send g.took.link msg.Heartbeat) b.beat =
      subst (λ n. DidAt p ls n (out.Send g.took.link msg.Heartbeat) b.beat) (sym from) b.did in
      record {
        which = b.which;
        beat = b.beat;
        sent = subst (λ (x : LinkNo). DidAt p ls d (out.Send x msg.Heartbeat) b.beat)
            (link_no g.took.link (way_ahead p d 1) link) sent;
        later = b.later;
        soon = b.soon;
      }

  -- It did so at a tick.
  heard_from_in : (w : WhichLife) {c d y : ℕ} → HeardAt p (life_in h w) c y → d < p.cubs → c ≡ cub_of p (d + 1)
      → WasUp p (facts_of p orders h) d y
  heard_from_in w {c} {d} {y} g small to =
      let b = heartbeat_from w g small to in
      let came = beats_came b.which b.sent in
      record { beat = b.beat; came = came.0; first = came.1; before = b.later; soon = b.soon }

  pub heard_from : {c d y : ℕ} → (facts_of p orders h).Heard c y → d < p.cubs → c ≡ cub_of p (d + 1)
      → WasUp p (facts_of p orders h) d y
  heard_from g small to =
      ⊎_elim (λ q. heard_from_in First q small to) (λ q. heard_from_in Later q small to) g
