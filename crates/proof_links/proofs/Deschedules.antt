-- Deschedules on their links: who sent one that comes, and that each that is sent comes in time.
use Rattle.std.proofs.Common.{◌≡◌, ℕ, ◌+◌, ◌<◌, ◌≤◌, List, Option, Some, None, refl, sym, ap, subst, ◌∙◌, ⊎_elim, inl, inr}
use Rattle.std.specs.Prelude.{◌⊎◌}
use Rattle.tiger_base.specs.declared.number.Instance.{Instance}
use Rattle.tiger_base.specs.declared.number.LinkNo.{LinkNo}
use Rattle.tiger_base.specs.declared.tenancy.Tag.{Tag}
use Rattle.tiger_base.specs.declared.message.Msg.{Msg}
use Rattle.tiger_base.specs.declared.message.Msg.TheVariants as msg
use Rattle.slot_plan.specs.declared.params.Params.{Params}
use Rattle.slot_plan.specs.Conditions.{IsPlan}
use Rattle.slot_plan.specs.Times.{cub_of}
use Rattle.node_kit.specs.declared.course.Order.{Order}
use Rattle.node_kit.specs.declared.outbox.Out.{Out}
use Rattle.node_kit.specs.declared.outbox.Out.TheVariants as out
use Rattle.node_kit.specs.Steps.{Deed, Input}
use Rattle.node_kit.specs.Ways.{way_ahead, way_to_cub}
use Rattle.run_facts.specs.Histories.{History, beat}
use Rattle.disk_core.specs.State.{DiskState}
use Rattle.proof_lives.specs.Histories.{acting}
use Rattle.proof_lives.specs.Lives.{Lives, store_at, beat_at}
use Rattle.proof_lives.proofs.Cuts.{was_put_out}
use Rattle.lists.specs.Elements.{In}
use Rattle.proof_lives.specs.Facts.{DidAt, TookMessage}
use Rattle.proof_lives.specs.FactsBy.{CameToTick, IsInOneLife}
use Rattle.proof_lives.specs.TwoLifeRun.{WhichLife, life_in}
use Rattle.proof_lives.specs.TwoLifeRun.WhichLife.{First, Later}
use Rattle.proof_lives.proofs.TwoLives.{beat_in}
use Rattle.proof_lives.specs.StopFactsOf.{ToldAt, GotTagAt, GotBareAt}
use Rattle.proof_controller.specs.Controllers.{controller, known_at, commands_at, Stops, StoppedAt, StoppedWaiting}
use Rattle.proof_controller.specs.Stops.{tag_at}
use Rattle.proof_controller.proofs.CommandedOnce.{StoppedIn, stopped_there}
use Rattle.proof_controller.proofs.Controllers.{tag_sent}
use Rattle.proof_controller.proofs.Deschedules.{deschedule_out}
use Rattle.proof_controller.proofs.Ends.{ends_cub}
use Rattle.proof_controller.proofs.Knowing.{some_same}
use Rattle.proof_controller.proofs.Ways.{led}
use Rattle.proof_schedule.specs.Facts.{Facts, IsBeside, GotTagBy, GotBareBy}
use Rattle.proof_schedule.specs.LinkLaws.{TagFromController, TagFromCub, BareFrom}
use Rattle.proof_facts.specs.Beside.{Additions}
use Rattle.proof_facts.specs.Facts.{beyond_with, facts_of}
use Rattle.proof_facts.specs.Lives.{lives_of, CameAt}
use Rattle.proof_facts.specs.Rings.{IsRingWith}
use Rattle.proof_links.proofs.Carrying.{Came, SentIn, TakenThere, commanded_before, did_as, did_before, from_either, reaches, reaches_near, sent_out, tick_in, took_from}
use Rattle.proof_links.proofs.Nodes.{controller_inside}
use Rattle.proof_links.proofs.Controllers.{done_of, stops_here, stopped_waiting}
use Rattle.proof_links.proofs.States.{in_life, sent_near}

module _ {S : Type 0} {step : S → Input Msg → Deed Msg S} {p : Params} {orders : List Order} {disk_at : ℕ → DiskState}
    {added : Additions} {h : History Msg S} (plan : IsPlan p) (ring : IsRingWith step p orders disk_at added h) where
  abbrev lives : Lives
  lives = lives_of h

  abbrev ctrl : ℕ
  ctrl = controller p

  abbrev inputs : ℕ → Input Msg
  inputs = lives.input (controller p)

  abbrev ring_facts : Facts
  ring_facts = facts_of p orders h

  -- ---- what is sent comes in time

  -- Whether beats of cub c are of one life.
  abbrev One : ℕ → ℕ → ℕ → Type 0
  One = IsInOneLife (beyond_with p orders added h)

  joined_tag : (w : WhichLife) {c v s q b : ℕ} → GotTagAt p (life_in h w) c v s q b → ring_facts.GotTag c v s q b
  joined_tag First g = inl g
  joined_tag Later g = inr g

  joined_bare : (w : WhichLife) {c v b : ℕ} → GotBareAt p (life_in h w) c v b → ring_facts.GotBare c v b
  joined_bare First g = inl g
  joined_bare Later g = inr g

  joined_told : (w : WhichLife) {a k v s q b : ℕ} → ToldAt p (life_in h w) a k v s q b → ring_facts.Told a k v s q b
  joined_told First t = inl t
  joined_told Later t = inr t

  -- A deschedule that a cub sends another.
  told_arrives_in : (u w : WhichLife) {a k v s q x : ℕ} (c b : ℕ) → ToldAt p (life_in h u) a k v s q x → c ≡ cub_of p (a + k)
      → CameToTick p (life_in h w) c b → One c x b → x + p.delay ≤ b
      → GotTagBy ring_facts c v s q (x + p.delay)
  told_arrives_in u w {a} {k} {v} {s} {q} {x} c b t to tick one late =
      let r = reaches_near plan ring w c b (did_as plan ring u t.did) t.did.small t.ahead to tick one late in
      record {
        beat = r.beat;
        got = joined_tag w (record {
          instance = t.instance;
          same = t.same;
          tag = t.tag;
          slot = t.slot;
          visit = t.visit;
          took = r.took;
        });
        by = r.soon;
      }

  pub told_arrives : {a k v s q x : ℕ} (c b : ℕ) → ring_facts.Told a k v s q x → c ≡ cub_of p (a + k) → CameAt p h c b
      → One c x b → x + p.delay ≤ b
      → GotTagBy ring_facts c v s q (x + p.delay)
  told_arrives c b t to came one late =
      let k = tick_in plan ring came in
      ⊎_elim
      (λ q. told_arrives_in First k.which c b q to k.tick one late)
      (λ q. told_arrives_in Later k.which c b q to k.tick one late)
      t

  -- A deschedule that the controller sends to one of two cubs.
  stop_out : (v : Instance) (tag : Option Tag) (n x c : ℕ) (s : Stops p orders lives v tag n x) → IsBeside p c n
      → SentIn plan ring ctrl (way_to_cub p c) (msg.Deschedule v tag) x
  stop_out v tag n x c s beside =
      let o : ℕ → Out Msg = λ k. out.Send (way_to_cub p k) (msg.Deschedule v tag) in
      let said : In (o c) (commands_at p orders inputs s.at) = ⊎_elim
      (λ e. subst (λ k. In (o k) (commands_at p orders inputs s.at)) (sym e) s.near)
      (λ e. subst (λ k. In (o k) (commands_at p orders inputs s.at)) (sym e) s.far)
      beside in
      let done = done_of plan ring s.at s.done in
      let there = subst (λ (os : List (Out Msg)). In (o c) os) (sym (ring.rules.controls s.at done)) said in
      sent_out plan ring ctrl s.at (way_to_cub p c) (msg.Deschedule v tag) x (controller_inside plan ring) done
      (beat_in h First ctrl s.at ∙ s.in_beat) there

  stop_arrives : (w : WhichLife) (v : Instance) (tag : Option Tag) (n x c b : ℕ) (s : Stops p orders lives v tag n x)
      → (beside : IsBeside p c n) → CameToTick p (life_in h w) c b → One c x b → x + p.delay ≤ b
      → TakenThere plan ring w ctrl (stop_out v tag n x c s beside).at (stop_out v tag n x c s beside).place_there c x
      (way_to_cub p c) (msg.Deschedule v tag)
  stop_arrives w v tag n x c b s beside tick one late =
      reaches plan ring w c b (stop_out v tag n x c s beside) (ends_cub p c tick.tick.small) tick one late

  -- With a tag it comes to the cub of its visit and to the next one.
  pub tag_arrives : {v s n x : ℕ} (c b : ℕ) → StoppedAt p orders lives v s n x → IsBeside p c n → CameAt p h c b
      → One c x b → x + p.delay ≤ b
      → GotTagBy ring_facts c v s n (x + p.delay)
  tag_arrives {v} {s} {n} {x} c b a beside came one late =
      let tag : Tag = record { slot = a.slot; visit = n } in
      let k = tick_in plan ring came in
      let r = stop_arrives k.which a.instance (Some tag) n x c b a.stops beside k.tick one late in
      record {
        beat = r.beat;
        got = joined_tag k.which
            (record { instance = a.instance; same = a.same; tag = tag; slot = a.number; visit = refl; took = r.took });
        by = r.soon;
      }

  -- Without a tag it comes to the cub of the disk and to the next one.
  pub bare_arrives : {v d x : ℕ} (c b : ℕ) → StoppedWaiting p orders lives v d x → IsBeside p c d → CameAt p h c b
      → One c x b → x + p.delay ≤ b
      → GotBareBy ring_facts c v (x + p.delay)
  bare_arrives {v} {d} {x} c b a beside came one late =
      let k = tick_in plan ring came in
      let r = stop_arrives k.which a.ask.instance None d x c b a.stops beside k.tick one late in
      record {
        beat = r.beat;
        got = joined_bare k.which (record { instance = a.ask.instance; same = a.same; took = r.took });
        by = r.soon;
      }

  -- ---- what came was sent

  -- A deschedule came from a cub, and it has a tag.
  pub record FromCub (c y : ℕ) (v : Instance) (tag : Option Tag) : Type 0 where
    pub which : WhichLife
    pub from : ℕ
    pub ahead : ℕ
    pub near : (ahead ≡ 1) ⊎ (ahead ≡ 2)
    pub tagged : (t : Tag) × (tag ≡ Some t)
    pub beat : ℕ
    pub did : DidAt p (life_in h which) from (out.Send (way_ahead p from ahead) (msg.Deschedule v tag)) beat
    pub to : c ≡ cub_of p (from + ahead)
    pub later : beat < y
    pub soon : y ≤ beat + p.delay
    pub life : One c beat y

  -- A deschedule came from the controller, which stopped the instance in its event of number at.
  pub record FromController (c y : ℕ) (v : Instance) (tag : Option Tag) : Type 0 where
    pub at : ℕ
    pub done : at < acting h ctrl
    pub output : Out Msg
    pub stops : StoppedIn p orders (inputs at) (known_at p orders inputs at) v output
    pub tagged : tag ≡ stops.stopped.tag
    pub to : IsBeside p c stops.stopped.number
    pub later : beat_at inputs at < y
    pub soon : y ≤ beat_at inputs at + p.delay
    pub life : One c (beat_at inputs at) y

  pub by_cub : {c i y : ℕ} {link : LinkNo} {v : Instance} {tag : Option Tag}
      (f : Came plan ring c i y link (msg.Deschedule v tag)) → f.from < p.cubs → One c (beat h f.from f.at) y
      → FromCub c y v tag
  by_cub {c} {i} {y} {link} {v} {tag} f small one =
      let b = did_before plan ring f small (λ q. q) in
      let d = b.0 in
      let ls : Lives = life_in h d.which in
      let pass = deschedule_out p f.from plan small (ls.input f.from d.did.at)
      (store_at p f.from (ls.input f.from) d.did.at) link v tag
      (was_put_out p ls f.from d.did.at (out.Send link (msg.Deschedule v tag)) d.did.did) in
      let n = sent_near plan ring f.from c link small f.ends pass.0 in
      record {
        which = d.which;
        from = f.from;
        ahead = n.steps;
        near = n.near;
        tagged = (pass.1, pass.2);
        beat = d.beat;
        did = subst (λ (x : LinkNo). DidAt p ls f.from (out.Send x (msg.Deschedule v tag)) d.beat) n.way d.did;
        to = n.to;
        later = d.later;
        soon = d.soon;
        life = subst (λ x. One c x y) (sym b.1) one;
      }

  by_controller : {c i y : ℕ} {link : LinkNo} {v : Instance} {tag : Option Tag}
      (f : Came plan ring c i y link (msg.Deschedule v tag)) → f.from ≡ ctrl → One c (beat h f.from f.at) y
      → FromController c y v tag
  by_controller {c} {i} {y} {link} {v} {tag} f e one =
      let d = commanded_before plan ring f e in
      let o : Out Msg = out.Send link (msg.Deschedule v tag) in
      let s = stopped_there p orders inputs f.at v o refl d.did in
      let t = tag_sent p link v v tag s.stopped.tag s.stopped.number s.stopped.which in
      record {
        at = f.at;
        done = d.done;
        output = o;
        stops = s;
        tagged = t.0;
        to = ⊎_elim (λ q. inl (led p s.stopped.number c f.from link plan q f.ends))
            (λ q. inr (led p (s.stopped.number + 1) c f.from link plan q f.ends)) t.1;
        later = d.later;
        soon = d.soon;
        life = subst (λ x. One c x y) (ap (λ k. beat h k f.at) e ∙ sym d.same) one;
      }

  -- Each deschedule that a cub took came from the controller or from a cub.
  pub stop_from : (w : WhichLife) {c y : ℕ} {v : Instance} {tag : Option Tag}
      → TookMessage p (life_in h w) c (msg.Deschedule v tag) y
      → FromController c y v tag ⊎ FromCub c y v tag
  stop_from w g =
      let f = took_from plan ring w g in
      let one = in_life plan ring w g in
      ⊎_elim (λ q. inr (by_cub f q.0 one)) (λ q. inl (by_controller f q.0 one)) (from_either plan ring f (λ q. q))

  tag_controller : (w : WhichLife) {c v s q y : ℕ} (g : GotTagAt p (life_in h w) c v s q y)
      → FromController c y g.instance (Some g.tag) → TagFromController p ring_facts c v s q y
  tag_controller w {c} {v} {s} {q} {y} g f =
      let b : ℕ = beat_at inputs f.at in
      let stops = stops_here plan ring f.at g.instance f.output b f.done refl f.stops in
      let number : f.stops.stopped.number ≡ q = ⊎_elim
      (λ k.
      let z : g.tag ≡ tag_at k.0.slot f.stops.stopped.number =
      some_same g.tag (tag_at k.0.slot f.stops.stopped.number) (f.tagged ∙ k.4) in
      sym (ap (λ (x : Tag). x.visit) z) ∙ g.visit)
      (λ k. let e : Some g.tag ≡ None = f.tagged ∙ k.4 in absurd (cc))
      f.stops.stopped.is in
      let tag : Some g.tag ≡ Some (tag_at g.tag.slot q) = ap (λ (n : ℕ). Some (tag_at g.tag.slot n)) g.visit in
      let moved =
      subst (λ (x : Option Tag). Stops p orders lives g.instance x q b) (sym f.tagged ∙ tag)
      (subst (λ n. Stops p orders lives g.instance f.stops.stopped.tag n b) number stops) in
      record {
        beat = b;
        stopped = record { instance = g.instance; same = g.same; slot = g.tag.slot; number = g.slot; stops = moved };
        to = subst (λ n. IsBeside p c n) number f.to;
        later = f.later;
        soon = f.soon;
        life = f.life;
      }

  -- So did each one with a tag.
  tag_from_in : (w : WhichLife) {c v s q y : ℕ} → GotTagAt p (life_in h w) c v s q y
      → TagFromController p ring_facts c v s q y ⊎ TagFromCub p ring_facts c v s q y
  tag_from_in w {c} {v} {s} {q} {y} g = ⊎_elim
      (λ f. inl (tag_controller w g f))
      (λ f. inr (record {
        from = f.from;
        ahead = f.ahead;
        beat = f.beat;
        told = joined_told f.which (record {
          ahead = f.near;
          instance = g.instance;
          same = g.same;
          tag = g.tag;
          slot = g.slot;
          visit = g.visit;
          did = f.did;
        });
        to = f.to;
        later = f.later;
        soon = f.soon;
        life = f.life;
      }))
      (stop_from w g.took)

  pub tag_from : {c v s q y : ℕ} → ring_facts.GotTag c v s q y
      → TagFromController p ring_facts c v s q y ⊎ TagFromCub p ring_facts c v s q y
  tag_from g = ⊎_elim (λ k. tag_from_in First k) (λ k. tag_from_in Later k) g

  -- Each one without a tag came from the controller.
  bare_from_in : (w : WhichLife) {c v y : ℕ} → GotBareAt p (life_in h w) c v y → BareFrom p ring_facts c v y
  bare_from_in w {c} {v} {y} g = ⊎_elim
      (λ f.
      let b : ℕ = beat_at inputs f.at in
      let stops = stops_here plan ring f.at g.instance f.output b f.done refl f.stops in
      ⊎_elim
      (λ k. let e : None ≡ Some (tag_at k.0.slot f.stops.stopped.number) = f.tagged ∙ k.4 in absurd (cc))
      (λ k. record {
        disk = f.stops.stopped.number;
        beat = b;
        stopped = stopped_waiting plan ring v b f.stops.stopped.number g.instance f.stops.stopped.tag k.0 g.same k.2
            k.3 k.4 stops;
        to = f.to;
        later = f.later;
        soon = f.soon;
        life = f.life;
      })
      f.stops.stopped.is)
      (λ f. let e = f.tagged.1 in absurd (cc))
      (stop_from w g.took)

  pub bare_from : {c v y : ℕ} → ring_facts.GotBare c v y → BareFrom p ring_facts c v y
  bare_from g = ⊎_elim (λ k. bare_from_in First k) (λ k. bare_from_in Later k) g
