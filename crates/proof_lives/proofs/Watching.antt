-- The watch along a cub's life: it shows the last heartbeat heard, and who is believed dead was silent.
use Rattle.std.proofs.Common.{◌≡◌, ℕ, zero, suc, ◌+◌, ◌<◌, ◌≤◌, ◌%◌, cond, Bool, true, false, refl, sym, ap, subst, ◌∙◌, arith, ⊎_elim, inl, inr, eq-or-lt_of_le}
use Rattle.std.specs.Prelude.{◌⊎◌, ◌==◌}
use Rattle.std.proofs.lemmas.Bool.{cases_Bool, ltb-true, eq-eqb}
use Rattle.tiger_base.specs.declared.number.LinkNo.{LinkNo}
use Rattle.tiger_base.specs.declared.number.Stamp.{Stamp}
use Rattle.tiger_base.specs.declared.message.Msg.{Msg}
use Rattle.tiger_base.specs.declared.message.Msg.TheVariants as msg
use Rattle.slot_plan.specs.declared.params.Params.{Params}
use Rattle.slot_plan.specs.Times.{time_of}
use Rattle.node_kit.specs.declared.outbox.Out.TheVariants as out
use Rattle.node_kit.specs.Steps.{Deed, Input, stamp_of}
use Rattle.node_kit.specs.Steps.Input.{Take, Tick}
use Rattle.deadman.specs.Silence.{Silence, is_silent}
use Rattle.node_kit.specs.Ways.{way_ahead, predecessor}
use Rattle.cub_rules.specs.declared.store.Store.{Store}
use Rattle.cub_rules.specs.Ticks.{reading}
use Rattle.proof_lives.specs.Lives.{Lives, IsLife, AreLives, heard_first, deed_of, store_at, beat_at, reading_at}
use Rattle.run_facts.specs.Events.{is_tick_input}
use Rattle.proof_lives.specs.Facts.{TickAt, TickedAt, DidAt, HeardAt}
use Rattle.proof_lives.proofs.Cuts.{goes_whole}
use Rattle.proof_lives.proofs.Queuing.{taking_watch, ticking_watch}
use Rattle.proof_lives.proofs.Order.{not_behind}
use Rattle.proof_lives.proofs.States.{from_tick, tick_true}
use Rattle.proof_lives.proofs.FirstLife.{some_beat}
use Rattle.proof_lives.proofs.Fitting.{Fits}
use Rattle.proof_lives.proofs.SameLife.{back_in_life, not_back}
use Rattle.proof_lives.specs.FactsBy.{Beyond, facts_by}
use Rattle.proof_schedule.specs.Facts.{IsFirstLife}
use Rattle.cub_changes.proofs.Coming.{beat_out}
use Rattle.cub_changes.proofs.Chains.{hears_beat}

-- the watch after an input
pub watch_after : (p : Params) (c : ℕ) (i : Input Msg) (h : Store) → ((deed_of p c i h).state.watch ≡ h.watch) ⊎ ((deed_of p c i h).state.watch ≡ record h.watch { heard = (stamp_of i).reading })
watch_after p c (Take stamp link m) h = ⊎_elim (λ e. inl e) (λ e. inr e.2) (taking_watch p c stamp link m h)
watch_after p c (Tick stamp) h = inl (ticking_watch p c stamp h)

-- its timeout stays
pub timeout_at : (p : Params) (c : ℕ) (inputs : ℕ → Input Msg) (i : ℕ) → (store_at p c inputs i).watch.timeout ≡ p.deadman
timeout_at p c inputs zero = refl
timeout_at p c inputs (suc i) =
    ⊎_elim (λ e. ap (λ (w : Silence). w.timeout) e) (λ e. ap (λ (w : Silence). w.timeout) e) (watch_after p c (inputs i) (store_at p c inputs i)) ∙ timeout_at p c inputs i

-- a heartbeat of the predecessor
pub record IsBeat (p : Params) (c : ℕ) (inputs : ℕ → Input Msg) (j : ℕ) : Type 0 where
  pub stamp : Stamp
  pub link : LinkNo
  pub is : inputs j ≡ Take stamp link msg.Heartbeat
  pub from : link.0 ≡ (way_ahead p (predecessor p c) 1).0

pub heard_now : (p : Params) (c : ℕ) (inputs : ℕ → Input Msg) (j : ℕ) → IsBeat p c inputs j → (store_at p c inputs (suc j)).watch.heard ≡ reading_at inputs j
heard_now p c inputs j b =
    let h : Store = store_at p c inputs j in
    let e : (deed_of p c (inputs j) h).state.watch ≡ record h.watch { heard = b.stamp.reading } =
    ap (λ (i : Input Msg). (deed_of p c i h).state.watch) b.is ∙ ap (λ (d : Deed Msg Store). d.state.watch) (hears_beat p c b.stamp b.link h b.from) in
    ap (λ (w : Silence). w.heard) e ∙ sym (ap (λ (i : Input Msg). (stamp_of i).reading) b.is)

-- what was heard before is not later than what the watch shows
pub heard_by : (p : Params) (c count : ℕ) (inputs : ℕ → Input Msg) → IsLife p count inputs → (i j : ℕ) → i ≤ count → j < i → IsBeat p c inputs j → reading_at inputs j ≤ (store_at p c inputs i).watch.heard
heard_by p c count inputs life zero j low h b = absurd (omega arith)
heard_by p c count inputs life (suc i) j low h b = ⊎_elim
    (λ (e : j ≡ i). let n = subst (λ k. (store_at p c inputs (suc k)).watch.heard ≡ reading_at inputs j) e (heard_now p c inputs j b) in omega arith)
    (λ (l : j < i).
    let before = heard_by p c count inputs life i j (omega arith) l b in
    let rise = life.rising j i (omega arith) low in
    ⊎_elim
    (λ e. let q = ap (λ (w : Silence). w.heard) e in omega arith)
    (λ e. let q = ap (λ (w : Silence). w.heard) e in omega arith)
    (watch_after p c (inputs i) (store_at p c inputs i)))
    (eq-or-lt_of_le (let z : j ≤ i = omega arith in z))

not_above : (stamp : Stamp) → heard_first stamp ≤ stamp.reading
not_above stamp = ⊎_elim
    (λ (e : (stamp.beat == 0) ≡ true). rw e (omega arith))
    (λ (e : (stamp.beat == 0) ≡ false). rw e (omega arith))
    (cases_Bool (stamp.beat == 0))

heard_late : (stamp : Stamp) → 0 < stamp.beat → heard_first stamp ≡ stamp.reading
heard_late stamp l = ap (λ (t : Bool). cond t 0 stamp.reading) (some_beat stamp.beat l)

-- When its life begins a cub that comes back heard its predecessor, as far as its watch shows, and what the watch shows rises.
pub heard_from : (p : Params) (c count : ℕ) (inputs : ℕ → Input Msg) → IsLife p count inputs → (i : ℕ) → i ≤ count
    → heard_first (stamp_of (inputs 0)) ≤ (store_at p c inputs i).watch.heard
heard_from p c count inputs life zero low = omega arith
heard_from p c count inputs life (suc i) low =
    let before = heard_from p c count inputs life i (omega arith) in
    let rise = life.rising 0 i (omega arith) low in
    let first = not_above (stamp_of (inputs 0)) in
    ⊎_elim
    (λ e. let q = ap (λ (w : Silence). w.heard) e in omega arith)
    (λ e. let q = ap (λ (w : Silence). w.heard) e in omega arith)
    (watch_after p c (inputs i) (store_at p c inputs i))

module _ (p : Params) (lives : Lives) (are : AreLives p lives) where
  -- in its first life it sends one
  pub beats : (beyond : Beyond) → Fits p lives beyond → {c b l : ℕ} → TickedAt p lives c b l
      → IsFirstLife (facts_by p lives beyond) c b → b % p.heart ≡ 0 → DidAt p lives c (out.Send (way_ahead p c 1) msg.Heartbeat) b
  beats beyond fits {c} {b} {l} w life e =
      let inputs : ℕ → Input Msg = lives.input c in
      let stamp : Stamp = record { beat = b; reading = l } in
      let wb : beat_at inputs w.at ≡ b = ap (λ (i : Input Msg). (stamp_of i).beat) w.is in
      let first = not_back p lives beyond are fits c w.at w.at w.small w.done
      (subst (λ n. IsFirstLife (facts_by p lives beyond) c n) (sym wb) life) in
      record {
        small = w.small;
        at = w.at;
        done = w.done;
        in_beat = ap (λ (i : Input Msg). (stamp_of i).beat) w.is;
        did = goes_whole p lives c w.at (out.Send (way_ahead p c 1) msg.Heartbeat) w.whole
            (from_tick p c inputs w.at stamp (out.Send (way_ahead p c 1) msg.Heartbeat) w.is (beat_out p c stamp (store_at p c inputs w.at) first (eq-eqb _ _ e)));
      }

  pub since : (c b l y : ℕ) (w : TickAt p lives c b l) → is_silent (store_at p c (lives.input c) w.at).watch l ≡ true → HeardAt p lives c y → y ≤ b → time_of p y + p.deadman < l
  since c b l y w silent heard h =
      let inputs : ℕ → Input Msg = lives.input c in
      let life = are c w.small in
      let t = heard.took in
      let wb : beat_at inputs w.at ≡ b = ap (λ (i : Input Msg). (stamp_of i).beat) w.is in
      let tb : beat_at inputs t.at ≡ y = ap (λ (i : Input Msg). (stamp_of i).beat) t.is in
      let low = not_behind p (lives.count c) inputs life t.at w.at w.done t.done (tick_true inputs w.at (record { beat = b; reading = l }) w.is) (omega arith) in
      let reads = (life.reads t.at t.done).0 in
      let tt1 : time_of p (beat_at inputs t.at) ≡ time_of p y = ap (λ n. time_of p n) tb in
      let timeout = timeout_at p c inputs w.at in
      let long = ltb-true _ _ silent in
      ⊎_elim
      (λ (e : t.at ≡ w.at).
      let z : true ≡ false = sym (tick_true inputs w.at (record { beat = b; reading = l }) w.is) ∙ ap (λ k. is_tick_input (inputs k)) (sym e) ∙ ap is_tick_input t.is in
      absurd (cc))
      (λ (l : t.at < w.at).
      let wd = w.done in
      let known = heard_by p c (lives.count c) inputs life w.at t.at (omega arith) l (record { stamp = record { beat = y; reading = t.reading }; link = t.link; is = t.is; from = heard.link }) in
      omega arith)
      (eq-or-lt_of_le low)

  -- And a cub that came back and finds silence came back before that.
  pub back_before : (beyond : Beyond) → Fits p lives beyond → (c b l w : ℕ) (k : TickAt p lives c b l)
      → is_silent (store_at p c (lives.input c) k.at).watch l ≡ true → beyond.Returned c w → w ≤ b → time_of p w + p.deadman < l
  back_before beyond fits c b l w k silent returned le =
      let inputs : ℕ → Input Msg = lives.input c in
      let kd = k.done in
      let kb : beat_at inputs k.at ≡ b = ap (λ (i : Input Msg). (stamp_of i).beat) k.is in
      let late = back_in_life p lives beyond are fits c k.at w k.small k.done returned (omega arith) in
      let later = late.later in
      let e = late.in_beat in
      let reads = ((are c k.small).reads 0 late.done).0 in
      let tm : time_of p (beat_at inputs 0) ≡ time_of p w = ap (λ n. time_of p n) e in
      let first = heard_late (stamp_of (inputs 0)) (omega arith) in
      let shown = heard_from p c (lives.count c) inputs (are c k.small) k.at (omega arith) in
      let timeout = timeout_at p c inputs k.at in
      let long = ltb-true _ _ silent in
      omega arith
