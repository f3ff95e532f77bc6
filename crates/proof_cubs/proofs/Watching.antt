-- Heartbeats and belief along a cub's life: what its watch shows was heard, or is what it showed when the life began, and whom
-- the cub believes dead was silent.
use Rattle.std.proofs.Common.{◌≡◌, ℕ, zero, suc, ◌+◌, ◌<◌, ◌≤◌, true, refl, sym, ap, subst, ◌∙◌, arith, ⊎_elim, inl, inr}
use Rattle.std.specs.Prelude.{◌⊎◌}
use Rattle.std.proofs.lemmas.Bool.{cases_lt, lt-ltb, ltb-true}
use Rattle.tiger_base.specs.declared.number.CubNo.{CubNo}
use Rattle.tiger_base.specs.declared.number.LinkNo.{LinkNo}
use Rattle.tiger_base.specs.declared.number.Stamp.{Stamp}
use Rattle.tiger_base.specs.declared.message.Msg.{Msg}
use Rattle.tiger_base.specs.declared.message.Msg.TheVariants as msg
use Rattle.slot_plan.specs.declared.params.Params.{Params}
use Rattle.node_kit.specs.declared.journal.What.TheVariants as what
use Rattle.node_kit.specs.declared.outbox.Out.TheVariants as out
use Rattle.node_kit.specs.Steps.{Deed, Input, stamp_of}
use Rattle.node_kit.specs.Steps.Input.{Take, Tick}
use Rattle.node_kit.specs.Ways.{way_ahead, predecessor}
use Rattle.deadman.specs.Silence.{Silence, is_silent}
use Rattle.cub_rules.specs.declared.store.Store.{Store}
use Rattle.cub_rules.specs.Messages.{taking}
use Rattle.cub_changes.specs.Changes.{Change, did}
use Rattle.cub_changes.specs.Changes.Change.{HearBeat}
use Rattle.cub_changes.specs.Causes.{Cause}
use Rattle.cub_changes.specs.Causes.Stage.{OnMessage}
use Rattle.cub_changes.proofs.Closed.{IsClosed}
use Rattle.cub_changes.proofs.Messages.{taking_by}
use Rattle.proof_schedule.specs.Facts.{Facts, BelievedBy, IsFirstLife}
use Rattle.proof_schedule.specs.WatchLaws.{IsSilence, WatchLaws}
use Rattle.proof_service.specs.ServiceLaws.{HeardTill}
use Rattle.proof_lives.specs.Facts.{TickedAt}
use Rattle.proof_lives.specs.Lives.{Lives, heard_first, deed_of, store_at, beat_at}
use Rattle.lists.specs.Elements.{In}
use Rattle.proof_lives.proofs.Order.{beats_rise}
use Rattle.proof_lives.proofs.SameLife.{begins_first}
use Rattle.proof_lives.proofs.Queuing.{ticking_watch, is_beat}
use Rattle.proof_lives.proofs.Cuts.{was_put_out}
use Rattle.proof_lives.proofs.Inputs.{got_message, tick_there}
use Rattle.proof_lives.proofs.Watching.{IsBeat, heard_now, timeout_at, beats, since, back_before}
use Rattle.proof_lives.specs.FactsBy.{Beyond, WroteBelief, facts_by}
use Rattle.proof_cubs.specs.Grounds.{HasHeard}
use Rattle.proof_cubs.proofs.Setting.{Setting}
use Rattle.proof_cubs.proofs.Believing.{silent_believes}
use Rattle.proof_cubs.proofs.Inserting.{believed_by}
use Rattle.proof_cubs.proofs.Standing.{is_tick}
use Rattle.cub_changes.proofs.Beliefs.{keep_belief}

-- ---- the watch changes at a heartbeat of the predecessor alone
module _ (p : Params) (c : ℕ) (stamp : Stamp) (link : LinkNo) (m : Msg) where
  -- A message leaves the watch as it is, or is a heartbeat of the predecessor.
  abbrev Hears : Store → Deed Msg Store → Type 0
  Hears h d = (d.state.watch ≡ h.watch) ⊎ ((m ≡ msg.Heartbeat) × (link.0 ≡ (way_ahead p (predecessor p c) 1).0))

  hears_closed : IsClosed Hears
  hears_closed = record {
    none = λ h. inl refl;
    both = λ h d e one two. ⊎_elim (λ a. ⊎_elim (λ b. inl (b ∙ a)) (λ b. inr b) two) (λ a. inr a) one;
  }

  hears_each : (from : Store) (x : Change) (h : Store) → Cause p c stamp (OnMessage link m) from x h
      → Hears h (did p c stamp x h)
  hears_each from HearBeat h cause = inr (is_beat p c stamp link m m cause)
  hears_each from other h cause = inl refl

  taking_hears : (h : Store) → Hears h (taking p c stamp link m h)
  taking_hears h = taking_by Hears hears_closed p c stamp link m h (λ x q cause. hears_each h x q cause)

module _ (p : Params) (c : ℕ) (inputs : ℕ → Input Msg) where
  watch_step : (i : ℕ) (k : Input Msg) → inputs i ≡ k
      → ((deed_of p c k (store_at p c inputs i)).state.watch ≡ (store_at p c inputs i).watch) ⊎ IsBeat p c inputs i
  watch_step i (Take stamp link m) is = ⊎_elim
      (λ e. inl e)
      (λ e. inr (record { stamp = stamp; link = link; is = is ∙ ap (λ (x : Msg). Take stamp link x) e.0; from = e.1 }))
      (taking_hears p c stamp link m (store_at p c inputs i))
  watch_step i (Tick stamp) is = inl (ticking_watch p c stamp (store_at p c inputs i))

  -- What the watch shows before an input is what it showed at first, or the reading of a heartbeat that was taken.
  pub shown : (i : ℕ) → ((store_at p c inputs i).watch.heard ≡ heard_first (stamp_of (inputs 0))) ⊎ HasHeard p c inputs i
  shown zero = inl refl
  shown (suc i) = ⊎_elim
      (λ e.
      let same = ap (λ (w : Silence). w.heard) e in
      ⊎_elim
      (λ z. inl (same ∙ z))
      (λ w.
      let l = w.before in
      inr (record {
        at = w.at;
        before = omega arith;
        stamp = w.stamp;
        link = w.link;
        is = w.is;
        from = w.from;
        reading = same ∙ w.reading;
      }))
      (shown i))
      (λ b. inr (record {
        at = i;
        before = omega arith;
        stamp = b.stamp;
        link = b.link;
        is = b.is;
        from = b.from;
        reading = heard_now p c inputs i b ∙ ap (λ (k : Input Msg). (stamp_of k).reading) b.is;
      }))
      (watch_step i (inputs i) (refl {a = inputs i}))

-- ---- belief is written at a tick, of a predecessor that is silent
record IsWritten (p : Params) (c : ℕ) (h : Store) (k : Input Msg) : Type 0 where
  stamp : Stamp
  is : k ≡ Tick stamp
  silent : is_silent h.watch stamp.reading ≡ true

written_at : (p : Params) (c : ℕ) (h : Store) (k : Input Msg) (who : CubNo)
    → In (out.Act (what.Believed who)) (deed_of p c k h).outs → IsWritten p c h k
written_at p c h (Take stamp link m) who i =
    let k : Input Msg = Take stamp link m in
    absurd (((keep_belief p c k h).entry who i).0)
written_at p c h (Tick stamp) who i = record {
  stamp = stamp;
  is = refl;
  silent =
      let k : Input Msg = Tick stamp in
      ((keep_belief p c k h).entry who i).3;
}

module _ (p : Params) (lives : Lives) (beyond : Beyond) (set : Setting p lives beyond) where
  abbrev R : Facts
  R = facts_by p lives beyond

  -- A cub that wrote its belief found its predecessor silent.
  silent : {c b : ℕ} → WroteBelief p lives c b → IsSilence p R c b
  silent {c} {b} w =
      let d = w.did in
      let h : Store = store_at p c (lives.input c) d.at in
      let was = was_put_out p lives c d.at (out.Act (what.Believed w.cub)) d.did in
      let k = written_at p c h (lives.input c d.at) w.cub was in
      let ticked = tick_there p lives c d.at k.stamp d.small d.done k.is in
      let timeout = timeout_at p c (lives.input c) d.at in
      let long = ltb-true _ _ k.silent in
      subst (λ n. IsSilence p R c n) d.in_beat (record {
        reading = k.stamp.reading;
        tick = is_tick p lives beyond set ticked;
        long = omega arith;
        since = λ y heard le.
            since p lives set.lived c (beat_at (lives.input c) d.at) k.stamp.reading y ticked k.silent heard le;
        back = λ y back le.
            back_before p lives set.lived beyond set.fits c (beat_at (lives.input c) d.at) k.stamp.reading y ticked k.silent back le;
      })

  -- The first life of a cub began in beat 0.
  began_first : {c b l : ℕ} (w : TickedAt p lives c b l) → IsFirstLife R c b → beat_at (lives.input c) 0 ≡ 0
  began_first {c} {b} {l} w first =
      let wb : beat_at (lives.input c) w.at ≡ b = ap (λ (i : Input Msg). (stamp_of i).beat) w.is in
      begins_first p lives beyond set.lived set.fits c w.at w.small w.done (subst (λ n. IsFirstLife R c n) (sym wb) first)

  -- The laws of heartbeats and belief.
  pub watch_laws : WatchLaws p R
  watch_laws = record {
    beats = λ w first e. beats p lives set.lived beyond set.fits w first e;
    silent = λ w. silent w;
  }

  -- In a first life a cub whose watch is not silent has heard its predecessor, or the run has just begun.
  heard_till : {c b l : ℕ} (w : TickedAt p lives c b l) → beat_at (lives.input c) 0 ≡ 0
      → l ≤ (store_at p c (lives.input c) w.at).watch.heard + (store_at p c (lives.input c) w.at).watch.timeout
      → HeardTill p R c b l ⊎ (l ≤ p.deadman)
  heard_till {c} {b} {l} w first late =
      let inputs : ℕ → Input Msg = lives.input c in
      let life = set.lived c w.small in
      let timeout = timeout_at p c inputs w.at in
      ⊎_elim
      (λ z. let none : heard_first (stamp_of (inputs 0)) ≡ 0 = rw first refl in inr (omega arith))
      (λ q.
      let before = q.before in
      let done = w.done in
      let shows = q.reading in
      let read = ap (λ (k : Input Msg). (stamp_of k).reading) q.is in
      let high = (life.reads q.at (omega arith)).1 in
      let wb : beat_at inputs w.at ≡ b = ap (λ (i : Input Msg). (stamp_of i).beat) w.is in
      let rise = beats_rise p (lives.count c) inputs life q.at w.at (omega arith) w.done in
      let took = got_message p lives c q.at q.stamp q.link msg.Heartbeat w.small (omega arith) q.is in
      inl (record {
        beat = beat_at inputs q.at;
        heard = record { took = took; link = q.from };
        by = omega arith;
        till = omega arith;
      }))
      (shown p c inputs w.at)

  -- So has a cub in its first life that does not believe its predecessor dead.
  pub watches : {c b l : ℕ} → TickedAt p lives c b l → IsFirstLife R c b → BelievedBy R c b ⊎ (HeardTill p R c b l ⊎ (l ≤ p.deadman))
  watches {c} {b} {l} w first =
      let inputs : ℕ → Input Msg = lives.input c in
      let stamp : Stamp = record { beat = b; reading = l } in
      let h : Store = store_at p c inputs w.at in
      ⊎_elim
      (λ (s : h.watch.heard + h.watch.timeout < l).
      let believes = silent_believes p c stamp h (lt-ltb _ _ s) in
      inl (subst (λ n. BelievedBy R c n) (ap (λ (i : Input Msg). (stamp_of i).beat) w.is)
      (believed_by p lives beyond set c w.at stamp w.small w.done w.is believes)))
      (λ (g : l ≤ h.watch.heard + h.watch.timeout). inr (heard_till w (began_first w first) g))
      (cases_lt (h.watch.heard + h.watch.timeout) l)
