-- Belief along a life: who believes wrote it down at a tick, and from then on believes whenever it splits.
use Rattle.std.proofs.Common.{◌≡◌, ℕ, suc, ◌<◌, ◌≤◌, List, [], ◌∷◌, true, false, refl, sym, ap, subst, ◌∙◌, arith, ⊎_elim, inl, inr}
use Rattle.std.proofs.lemmas.Bool.{cases_Bool}
use Rattle.tiger_base.specs.declared.number.Stamp.{Stamp}
use Rattle.tiger_base.specs.declared.message.Msg.{Msg}
use Rattle.slot_plan.specs.declared.params.Params.{Params}
use Rattle.node_kit.specs.declared.journal.What.TheVariants as what
use Rattle.node_kit.specs.declared.outbox.Out.{Out}
use Rattle.node_kit.specs.declared.outbox.Out.TheVariants as out
use Rattle.node_kit.specs.Steps.{Deed, Input}
use Rattle.node_kit.specs.Steps.Input.{Take, Tick}
use Rattle.node_kit.specs.Ways.{predecessor}
use Rattle.cub_rules.specs.declared.store.Store.{Store}
use Rattle.cub_rules.specs.Ticks.{number, ticking}
use Rattle.cub_changes.specs.Changes.{Change, did}
use Rattle.cub_changes.specs.Changes.Change.{Believe}
use Rattle.lists.specs.Elements.{In}
use Rattle.cub_changes.specs.Causes.{Cause}
use Rattle.cub_changes.specs.Causes.Stage.{OnInsertion}
use Rattle.cub_changes.specs.Laws.{believed_out, KeepsBelief}
use Rattle.cub_changes.proofs.Beliefs.{belief_lasts, keep_belief}
use Rattle.cub_changes.proofs.Closed.{IsClosed}
use Rattle.cub_changes.proofs.Puts.{inserting_by}
use Rattle.cub_changes.proofs.Ticks.{before_inserting}
use Rattle.proof_lives.specs.Lives.{Lives, AreLives, cut_in, store_at, deed_of, outs_at, outs_in, beat_at}
use Rattle.run_facts.specs.Events.{is_tick_input}
use Rattle.proof_lives.proofs.Beside.{belief_goes, tick_outs}
use Rattle.proof_lives.proofs.Cuts.{was_put_out, whole_before, goes_whole}
use Rattle.proof_lives.proofs.Order.{beats_rise, not_behind}
use Rattle.proof_lives.proofs.Trails.{Since, came_since, held_until}
use Rattle.proof_schedule.specs.Facts.{BelievedBy}
use Rattle.proof_lives.specs.FactsBy.{Beyond, facts_by}
use Rattle.proof_facts.specs.Pieces.{before_splitting}

same_in : {X : Type 0} (x : X) (xs : List X) → In x xs → In x xs
same_in x [] i = absurd i
same_in x (y ∷ ys) i = ⊎_elim (λ e. inl e) (λ k. inr (same_in x ys k)) i

-- ---- a tick: from where a cub splits on belief stays as it is

module _ (p : Params) (c : ℕ) (stamp : Stamp) where
  abbrev Same : Store → Deed Msg Store → Type 0
  Same h d = d.state.believes ≡ h.believes

  same_closed : IsClosed Same
  same_closed = record { none = λ h. refl; both = λ h d e one two. two ∙ one }

  same_put : (from : Store) (x : Change) (h : Store) → Cause p c stamp OnInsertion from x h → Same h (did p c stamp x h)
  same_put from Believe h cause = absurd cause.0
  same_put from other h cause = refl

  -- and insertion leaves it as it is
  belief_inserts : (h : Store) → (before_splitting p c stamp h).believes ≡ (before_inserting p c stamp h).believes
  belief_inserts h =
      let h2 : Store = before_inserting p c stamp h in
      inserting_by Same same_closed p c stamp h2 (λ x q cause. same_put h2 x q cause)

  belief_splits : (h : Store) → (ticking p c stamp h).state.believes ≡ (before_splitting p c stamp h).believes
  belief_splits h = belief_lasts p c stamp h ∙ sym (belief_inserts h)

-- ---- a life

-- The law of belief, of one input of a life.
belief_of : (p : Params) (c : ℕ) (i : Input Msg) (h : Store) → KeepsBelief p c i h (deed_of p c i h)
belief_of p c (Take stamp link m) h = keep_belief p c (Take stamp link m) h
belief_of p c (Tick stamp) h = keep_belief p c (Tick stamp) h

module _ (p : Params) (c : ℕ) (inputs : ℕ → Input Msg) where
  abbrev Believes : ℕ → Type 0
  Believes i = (store_at p c inputs i).believes ≡ true

  -- a cub that believes its predecessor dead wrote so, and believes it since
  wrote_before : (i : ℕ) → Believes i → Since Believes (λ k. In (believed_out p c) (outs_at p c inputs k)) i
  wrote_before i e =
      came_since Believes (λ k. In (believed_out p c) (outs_at p c inputs k)) (λ e. absurd (cc)) i
      (λ k _ e. ⊎_elim
      (λ q. inl q)
      (λ q. inr q)
      ((belief_of p c (inputs k) (store_at p c inputs k)).written e))
      e

  believes_on : (j i : ℕ) → j ≤ i → Believes j → Believes i
  believes_on j i le e = ⊎_elim
      (λ q. q)
      (λ u. absurd u.may)
      (held_until Believes (λ k. ⊥) i j le (λ k _ _ q. inl ((belief_of p c (inputs k) (store_at p c inputs k)).stays q)) e)

module _ (p : Params) (lives : Lives) (are : AreLives p lives) (beyond : Beyond) where
  -- who believes when it splits has written it down by that beat
  pub believed_by : (c i : ℕ) (stamp : Stamp) → c < p.cubs → i < lives.count c → lives.input c i ≡ Tick stamp
      → (before_splitting p c stamp (store_at p c (lives.input c) i)).believes ≡ true
      → BelievedBy (facts_by p lives beyond) c (beat_at (lives.input c) i)
  believed_by c i stamp small low tick believes =
      let inputs : ℕ → Input Msg = lives.input c in
      let h : Store = store_at p c inputs i in
      let o : Out Msg = believed_out p c in
      ⊎_elim
      (λ (e : h.believes ≡ true).
      let w = wrote_before p c inputs i e in
      let b = w.before in
      let goes = goes_whole p lives c w.at o (whole_before lives c w.at i b low) w.came in
      record {
        beat = beat_at inputs w.at;
        believed = record {
          cub = number (predecessor p c);
          did = record { small = small; at = w.at; done = omega arith; in_beat = refl; did = goes };
        };
        by = beats_rise p (lives.count c) inputs (are c small) w.at i (omega arith) low;
      })
      (λ (e : h.believes ≡ false).
      let goes : In o (outs_in p lives c i) = subst (λ (os : List (Out Msg)). In o os) (sym (tick_outs p lives c i stamp tick))
      (belief_goes p c stamp h (cut_in lives c i) e (sym (belief_inserts p c stamp h) ∙ believes)) in
      record {
        beat = beat_at inputs i;
        believed = record {
          cub = number (predecessor p c);
          did = record { small = small; at = i; done = low; in_beat = refl; did = goes };
        };
        by = omega arith;
      })
      (cases_Bool h.believes)

  -- and who has written it down by the beat of a tick believes then
  pub believes_then : (c i b : ℕ) (stamp : Stamp) → i < lives.count c → lives.input c i ≡ Tick stamp
      → beat_at (lives.input c) i ≡ b → BelievedBy (facts_by p lives beyond) c b
      → (before_splitting p c stamp (store_at p c (lives.input c) i)).believes ≡ true
  believes_then c i b stamp low tick eb w =
      let inputs : ℕ → Input Msg = lives.input c in
      let d = w.believed.did in
      let by = w.by in
      let in_beat = d.in_beat in
      let entry = (belief_of p c (inputs d.at) (store_at p c inputs d.at)).entry w.believed.cub
      (same_in (out.Act (what.Believed w.believed.cub)) _
      (was_put_out p lives c d.at (out.Act (what.Believed w.believed.cub)) d.did)) in
      let first = not_behind p (lives.count c) inputs (are c d.small) d.at i low d.done (ap is_tick_input tick)
      (omega arith) in
      let now = believes_on p c inputs (suc d.at) (suc i) (omega arith) entry.4 in
      sym (belief_splits p c stamp (store_at p c inputs i))
      ∙ subst (λ (k : Input Msg). (deed_of p c k (store_at p c inputs i)).state.believes ≡ true) tick now
