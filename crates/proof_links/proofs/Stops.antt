-- The controller meets the laws of stops: it knows of a Put in time, from the cub that put or from the next one.
use Rattle.std.proofs.Common.{◌≡◌, ℕ, suc, ◌+◌, ◌<◌, ◌≤◌, List, None, Some, refl, sym, ap, subst, ◌∙◌, arith, ⊎_elim, inl, inr}
use Rattle.std.specs.Prelude.{◌⊎◌}
use Rattle.std.proofs.lemmas.Bool.{cases_lt}
use Rattle.tiger_base.specs.declared.number.Instance.{Instance}
use Rattle.tiger_base.specs.declared.number.LinkNo.{LinkNo}
use Rattle.tiger_base.specs.declared.tenancy.Kind.{Kind}
use Rattle.tiger_base.specs.declared.tenancy.Kind.TheVariants.{Own, Backup}
use Rattle.tiger_base.specs.declared.tenancy.Rec.{Rec}
use Rattle.tiger_base.specs.declared.tenancy.Tenancy.{Tenancy}
use Rattle.tiger_base.specs.declared.message.Msg.{Msg}
use Rattle.tiger_base.specs.declared.message.Msg.TheVariants as msg
use Rattle.slot_plan.specs.declared.params.Params.{Params}
use Rattle.slot_plan.specs.Conditions.{IsPlan}
use Rattle.slot_plan.specs.Times.{cub_of}
use Rattle.slot_plan.proofs.Times.{cub_apart}
use Rattle.node_kit.specs.declared.course.Order.{Order}
use Rattle.node_kit.specs.Steps.{Deed, Input, stamp_of}
use Rattle.node_kit.specs.Ways.{way_to_controller}
use Rattle.run_facts.specs.Histories.{History, beat}
use Rattle.run_model.specs.Parts.{IsForCub}
use Rattle.cub_rules.specs.Ticks.{told_placed}
use Rattle.disk_core.specs.State.{DiskState}
use Rattle.controller_core.specs.State.{tenancy_of}
use Rattle.lists.specs.Elements.{In}
use Rattle.proof_lives.specs.Lives.{Lives, beat_at, deed_of, outs_at, store_at}
use Rattle.proof_lives.specs.Facts.{DidAt, TookAt}
use Rattle.proof_lives.specs.TwoLifeRun.{WhichLife, event_in, life_in}
use Rattle.proof_lives.specs.TwoLifeRun.WhichLife.{First, Later}
use Rattle.proof_lives.proofs.Returns.{opens_rise}
use Rattle.proof_lives.proofs.TwoLives.{beat_in}
use Rattle.proof_lives.proofs.Cuts.{goes_whole, was_put_out}
use Rattle.proof_lives.proofs.Inputs.{take_of}
use Rattle.proof_lives.proofs.Inserting.{put_out}
use Rattle.proof_lives.proofs.KeepingRecords.{keeps_records}
use Rattle.proof_lives.proofs.Moves.{taken_out}
use Rattle.proof_lives.proofs.News.{news_told}
use Rattle.proof_controller.specs.Controllers.{controller, known_at, StoppedWaiting}
use Rattle.proof_controller.proofs.Controllers.{same_instance}
use Rattle.proof_controller.proofs.Ends.{ends_controller}
use Rattle.proof_controller.proofs.Knowing.{known_told}
use Rattle.proof_controller.proofs.Placings.{put_tells}
use Rattle.proof_schedule.specs.Facts.{DiedBy, LivedTo}
use Rattle.proof_schedule.specs.StopLaws.{StopLaws}
use Rattle.proof_facts.specs.Beside.{Additions}
use Rattle.proof_facts.specs.Facts.{facts_of}
use Rattle.proof_facts.specs.Lives.{lives_of, DiedAt}
use Rattle.proof_facts.specs.Rings.{IsRingWith}
use Rattle.proof_links.proofs.Carrying.{delivered, did_as}
use Rattle.proof_links.proofs.Controllers.{beat_of, before_tick, done_of, gone_of, gone_once, how, one_place, one_way, place, stop_in, stop_is, tick_ends, waiting}
use Rattle.proof_links.proofs.Nodes.{controller_inside, cub_inside, did_in, did_it, formed_at, immortal, is_up, whole_or_died}
use Rattle.proof_links.proofs.Running.{lived_or_died}

-- The backup record of a visit is that of a cub which is not the visit's own.
is_backup : (p : Params) (c : ℕ) (kind : Kind) (n : ℕ) → IsPlan p → IsForCub p c kind n → c ≡ cub_of p (n + 1) → kind ≡ Backup
is_backup p c Own n plan mine next =
    absurd (cub_apart p n 1 (omega arith) (omega (arith, plan.ranges.cubs)) (mine ∙ next))
is_backup p c Backup n plan mine next = refl

module _ {S : Type 0} {step : S → Input Msg → Deed Msg S} {p : Params} {orders : List Order} {disk_at : ℕ → DiskState}
    {added : Additions} {h : History Msg S} (plan : IsPlan p) (ring : IsRingWith step p orders disk_at added h) where
  abbrev lives : Lives
  lives = lives_of h

  abbrev ctrl : ℕ
  ctrl = controller p

  abbrev inputs : ℕ → Input Msg
  inputs = lives.input (controller p)

  -- Of an instance whose place a cub tells it in beat x the controller knows a greatest delay later, so it stops it at a
  -- disk before that.
  told_early : (u : WhichLife) {c v d x z : ℕ} {t : Tenancy} → StoppedWaiting p orders lives v d z
      → DidAt p (life_in h u) c (told_placed p c t) x → t.instance.0 ≡ v → z < x + p.delay
  told_early u {c} {v} {d} {x} {z} {t} w told same = ⊎_elim
      (λ (l : z < x + p.delay). l)
      (λ (g : x + p.delay ≤ z).
      let inside = cub_inside plan ring c told.small in
      let way : LinkNo = way_to_controller p c in
      let at = did_in plan ring u told in
      let sent = did_as plan ring u told in
      let xb = sent.in_beat in
      let i = stop_in plan ring w.ask.instance None d z w.stops in
      let is = stop_is plan ring w.ask.instance None d z w.stops in
      let zb : beat h ctrl w.stops.at ≡ z = beat_of plan ring w.stops.at ∙ w.stops.in_beat in
      let next = tick_ends plan ring w.stops.at i.stamp w.stops.done i.tick in
      let rise = opens_rise ring.run ctrl (controller_inside plan ring) (suc w.stops.at) (h.count ctrl)
      (done_of plan ring w.stops.at w.stops.done) (omega arith) in
      let r = delivered plan ring ctrl sent.note inside (controller_inside plan ring)
      (immortal plan ring ctrl (controller_inside plan ring) (omega arith)) (ends_controller p c told.small) (omega arith) in
      let rb : beat h ctrl r.when ≡ r.stamp.beat = beat_of plan ring r.when ∙ ap (λ (k : Input Msg). (stamp_of k).beat) r.is in
      let soon = r.soon in
      let earlier = before_tick plan ring w.stops.at r.when i.stamp r.stamp way (msg.Placed t) w.stops.done r.done i.tick r.is
      (omega arith) in
      let form = formed_at plan ring c (event_in h u c told.at) way (msg.Placed t) inside at.0 (did_it plan ring u told) in
      let known = known_told p orders inputs r.when w.stops.at r.stamp way t earlier r.is form in
      let one : t.instance ≡ w.ask.instance = same_instance t.instance w.ask.instance (same ∙ sym w.same) in
      let known2 : tenancy_of (known_at p orders inputs w.stops.at).placed w.ask.instance ≡ Some known.0 =
      ap (λ (k : Instance). tenancy_of (known_at p orders inputs w.stops.at).placed k) (sym one) ∙ known.1 in
      ⊎_elim
      (λ q. let e = q.4 in absurd (cc))
      (λ q. let e : None ≡ Some known.0 = sym q.1 ∙ known2 in absurd (cc))
      is.1)
      (cases_lt z (x + p.delay))

  -- What a cub puts out in an event goes out, or it died in that beat.
  all_or_died : (u : WhichLife) {c x : ℕ} (at : ℕ) → c < p.cubs → at < (life_in h u).count c
      → beat_at ((life_in h u).input c) at ≡ x
      → (t : Tenancy) → In (told_placed p c t) (outs_at p c ((life_in h u).input c) at)
      → DidAt p (life_in h u) c (told_placed p c t) x ⊎ DiedAt p h c x
  all_or_died u {c} {x} at small done in_beat t told = ⊎_elim
      (λ whole. inl (record {
        small = small;
        at = at;
        done = done;
        in_beat = in_beat;
        did = goes_whole p (life_in h u) c at (told_placed p c t) whole told;
      }))
      (λ died. inr (subst (λ b. DiedAt p h c b) (beat_in h u c at ∙ in_beat) died))
      (whole_or_died plan ring u c at small done)

  -- The cub that puts tells it so, unless it dies in that tick.
  unplaced : (u : WhichLife) {c v d x z : ℕ} {t : Tenancy} → StoppedWaiting p orders lives v d z
      → DidAt p (life_in h u) c (put_out t) x → t.instance.0 ≡ v → (z < x + p.delay) ⊎ DiedAt p h c x
  unplaced u {c} {v} {d} {x} {z} {t} w put same =
      let own : ℕ → Input Msg = (life_in h u).input c in
      let was = was_put_out p (life_in h u) c put.at (put_out t) put.did in
      let told = put_tells p c plan put.small (own put.at) (store_at p c own put.at) t was in
      ⊎_elim
      (λ did. inl (told_early u w did same))
      (λ died. inr died)
      (all_or_died u put.at put.small put.done put.in_beat t told)

  -- The next cub tells it of a first visit of which it takes the backup record, unless it dies then.
  next_tells : (u : WhichLife) {c y : ℕ} {t : Tenancy} (took : TookAt p (life_in h u) c t t.first y)
      → c ≡ cub_of p (t.first + 1) → In (told_placed p c t) (outs_at p c ((life_in h u).input c) took.done.at)
  next_tells u {c} {y} {t} took next =
      let own : ℕ → Input Msg = (life_in h u).input c in
      let k = took.done in
      let i : ℕ = k.at in
      let g = store_at p c own i in
      let r : Rec = record { tenancy = t; visit = t.first; kind = took.kind } in
      let was = was_put_out p (life_in h u) c i (taken_out r) k.did in
      let mine = (keeps_records p c own i plan k.small).for_cub r was in
      let backup = is_backup p c took.kind t.first plan mine next in
      let there : In (taken_out (record { tenancy = t; visit = t.first; kind = Backup })) (outs_at p c own i) =
      subst (λ (q : Kind). In (taken_out (record { tenancy = t; visit = t.first; kind = q })) (outs_at p c own i)) backup was in
      let m = take_of (own i) took.message in
      subst (λ (q : Input Msg). In (told_placed p c t) (deed_of p c q g).outs) (sym m.3)
      (news_told p c m.0 m.1 g m.2 t
      (subst (λ (q : Input Msg). In (taken_out (record { tenancy = t; visit = t.first; kind = Backup })) (deed_of p c q g).outs) m.3 there))

  unheard : (u : WhichLife) {c v d y z : ℕ} {t : Tenancy} → StoppedWaiting p orders lives v d z
      → TookAt p (life_in h u) c t t.first y → c ≡ cub_of p (t.first + 1) → t.instance.0 ≡ v
      → (z < y + p.delay) ⊎ DiedAt p h c y
  unheard u {c} {v} {d} {y} {z} {t} w took next same =
      let k = took.done in
      ⊎_elim
      (λ did. inl (told_early u w did same))
      (λ died. inr died)
      (all_or_died u k.at k.small k.done k.in_beat t (next_tells u took next))

  -- Before the controller stops an instance, each cub has ended each lower beat, or died.
  up : {v d z c a : ℕ} → StoppedWaiting p orders lives v d z → a < z → c < p.cubs
      → LivedTo (facts_of p orders h) c a ⊎ DiedBy (facts_of p orders h) c a
  up {v} {d} {z} {c} {a} w low small =
      let zb : beat h ctrl w.stops.at ≡ z = beat_of plan ring w.stops.at ∙ w.stops.in_beat in
      lived_or_died plan ring c a z small low
      (λ lives.
      let level = ring.run.level ctrl c w.stops.at (controller_inside plan ring) (cub_inside plan ring c small)
      (done_of plan ring w.stops.at w.stops.done) (is_up plan ring c lives) in
      omega arith)

  -- The laws of stops.
  pub stop_laws : StopLaws p (facts_of p orders h)
  stop_laws = record {
    how = how plan ring;
    gone_at = λ s. gone_of plan ring s.instance _ _ _ _ s.same s.stops;
    gone_waiting = λ s. gone_of plan ring s.ask.instance _ _ _ _ s.same s.stops;
    gone_once = gone_once plan ring;
    one_place = one_place plan ring;
    one_way = one_way plan ring;
    place = place plan ring;
    waiting = λ s. waiting plan ring s;
    unplaced = λ w put same. ⊎_elim (λ q. unplaced First w q same) (λ q. unplaced Later w q same) put;
    unheard = λ w took next same.
        ⊎_elim (λ q. unheard First w q next same) (λ q. unheard Later w q next same) took;
    up = λ w low small. up w low small;
  }
