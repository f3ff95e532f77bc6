-- What stands in a cub's view: it entered, and after the hold of its instance if a deschedule of that came.
use Rattle.std.proofs.Common.{◌≡◌, ℕ, suc, ◌<◌, ◌≤◌, true, None, ap, subst, arith}
use Rattle.tiger_base.specs.declared.tenancy.Rec.{Rec}
use Rattle.tiger_base.specs.declared.message.Msg.{Msg}
use Rattle.slot_plan.specs.declared.params.Params.{Params}
use Rattle.slot_plan.specs.Times.{time_of}
use Rattle.node_kit.specs.Steps.{Input, stamp_of}
use Rattle.partial_view.specs.declared.line.Line.{Line}
use Rattle.proof_schedule.specs.Facts.{Facts, IsReleasedBy, IsSameLife, Entered}
use Rattle.proof_schedule.specs.RunLaws.{IsTick}
use Rattle.proof_schedule.specs.StateLaws.{Stands}
use Rattle.proof_lives.specs.Facts.{TickAt}
use Rattle.proof_lives.specs.Lives.{Lives, cut_in, store_at, outs_in, beat_at}
use Rattle.run_facts.specs.Events.{is_tick_input}
use Rattle.lists.specs.Elements.{In}
use Rattle.proof_lives.proofs.Inputs.{entered_at}
use Rattle.proof_lives.proofs.Beside.{whole_to}
use Rattle.proof_lives.proofs.Cuts.{was_put_out, whole_before, goes_whole}
use Rattle.proof_lives.proofs.Moves.{taken_out}
use Rattle.proof_lives.proofs.Order.{beats_rise}
use Rattle.proof_lives.proofs.Begun.{IsStop}
use Rattle.proof_lives.proofs.Reaching.{stop_by_tick, let_go}
use Rattle.proof_lives.proofs.Standing.{standing}
use Rattle.proof_lives.specs.FactsBy.{Beyond, facts_by}
use Rattle.proof_lives.proofs.SameLife.{same_life}
use Rattle.proof_cubs.proofs.Setting.{Setting}

module _ (p : Params) (lives : Lives) (beyond : Beyond) (set : Setting p lives beyond) where
  abbrev R : Facts
  R = facts_by p lives beyond

  -- A cub came to each tick of its life, at a reading within the skew.
  pub is_tick : {c b l : ℕ} → TickAt p lives c b l → IsTick p R c b l
  is_tick {c} {b} {l} w =
      let inputs : ℕ → Input Msg = lives.input c in
      let reads = (set.lived c w.small).reads w.at w.done in
      let eb : beat_at inputs w.at ≡ b = ap (λ (i : Input Msg). (stamp_of i).beat) w.is in
      let el : (stamp_of (inputs w.at)).reading ≡ l = ap (λ (i : Input Msg). (stamp_of i).reading) w.is in
      let same = ap (λ n. time_of p n) eb in
      let low = reads.0 in
      let high = reads.1 in
      record { came = set.fits.came c b l w; low = omega arith; high = omega arith }

  -- A record was taken at input i or before it, behind each deschedule of its instance that came until then.
  pub record HasCome (c i : ℕ) (r : Rec) : Type 0 where
    pub beat : ℕ
    pub entered : Entered R c r.tenancy r.visit beat
    pub by : beat ≤ beat_at (lives.input c) i
    pub since : (j : ℕ) → j < i → IsStop p c (lives.input c) j r.tenancy.instance.0
        → IsReleasedBy p R c r.tenancy.instance.0 beat
    pub life : IsSameLife R c beat (beat_at (lives.input c) i)

  abbrev come_at : (c i at : ℕ) (r : Rec) → c < p.cubs → i < lives.count c → at ≤ i
      → In (taken_out r) (outs_in p lives c at)
      → ((j : ℕ) → j < i → IsStop p c (lives.input c) j r.tenancy.instance.0 → j < at) → HasCome c i r
  come_at c i at r small low le k since =
      let inputs : ℕ → Input Msg = lives.input c in
      record {
        beat = beat_at inputs at;
        entered = entered_at p lives c at r small (omega arith) k;
        by = beats_rise p (lives.count c) inputs (set.lived c small) at i le low;
        since = λ j l s.
            let_go p set.plan lives set.lived set.formed beyond c at j r small (omega arith) (since j l s)
            (was_put_out p lives c at (taken_out r) k) s;
        life = same_life p lives beyond set.lived set.fits c at i small (omega arith) low;
      }

  -- What is taken at an input has come, if that goes out.
  pub come_now : (c i : ℕ) (r : Rec) → c < p.cubs → i < lives.count c
      → In (taken_out r) (outs_in p lives c i) → HasCome c i r
  come_now c i r small low k = come_at c i i r small low (omega arith) k (λ j l s. l)

  -- What stands in the view before an input has come.
  pub come_before : (c i : ℕ) (y : Line) → c < p.cubs → i < lives.count c
      → In y (store_at p c (lives.input c) i).view.lines → HasCome c i y.rec
  come_before c i y small low k =
      let d = standing p c set.plan small (lives.count c) (lives.input c) (set.formed c small) i (omega arith) y k in
      let before = d.before in
      come_at c i d.at y.rec small low (omega arith)
      (goes_whole p lives c d.at (taken_out y.rec) (whole_before lives c d.at i before low) d.taken) d.since

  -- And so has what stands there after it, if it is whole.
  pub come_after : (c i : ℕ) (y : Line) → c < p.cubs → i < lives.count c → cut_in lives c i ≡ None
      → In y (store_at p c (lives.input c) (suc i)).view.lines → HasCome c i y.rec
  come_after c i y small low whole k =
      let d = standing p c set.plan small (lives.count c) (lives.input c) (set.formed c small) (suc i) (omega arith) y k in
      let before = d.before in
      come_at c i d.at y.rec small low (omega arith)
      (goes_whole p lives c d.at (taken_out y.rec) (whole_to lives c d.at i (omega arith) low whole) d.taken)
      (λ j l s. d.since j (omega arith) s)

  -- What has come by a tick stands there, as the laws have it.
  pub stands : (c i b s n : ℕ) (r : Rec) → c < p.cubs → i < lives.count c → is_tick_input (lives.input c i) ≡ true
      → beat_at (lives.input c) i ≡ b → r.tenancy.slot.0 ≡ s → r.visit ≡ n → HasCome c i r
      → Stands p R c s n b
  stands c i b s n r small low tick eb slot visit h =
      let by = h.by in
      record {
        holder = r.tenancy;
        slot = slot;
        beat = h.beat;
        entered = subst (λ m. Entered R c r.tenancy m h.beat) visit h.entered;
        by = omega arith;
        since = λ y g le life.
            let k = stop_by_tick p lives set.lived c i r.tenancy.instance.0 y low tick g (omega arith) in
            h.since k.at k.before k.stop;
        life = subst (λ m. IsSameLife R c h.beat m) eb h.life;
      }
