-- While a start waits in a first life, a line stands at each visit of its disk in the window when insertion ends, and is
-- shown after the tick.
use Rattle.std.proofs.Common.{◌≡◌, ℕ, suc, ◌<◌, ◌≤◌, List, true, false, refl, sym, ap, subst, ◌∙◌, arith, ⊎_elim, inl, inr, None}
use Rattle.std.specs.Prelude.{◌⊎◌}
use Rattle.tiger_base.specs.declared.number.Stamp.{Stamp}
use Rattle.tiger_base.specs.declared.tenancy.Ask.{Ask}
use Rattle.tiger_base.specs.declared.tenancy.Rec.{Rec}
use Rattle.tiger_base.specs.declared.message.Msg.{Msg}
use Rattle.tiger_base.specs.declared.message.Msg.TheVariants as msg
use Rattle.slot_plan.specs.declared.params.Params.{Params}
use Rattle.slot_plan.specs.Times.{due, disk_of}
use Rattle.node_kit.specs.declared.course.Order.{Order}
use Rattle.node_kit.specs.declared.journal.What.TheVariants as what
use Rattle.node_kit.specs.declared.outbox.Out.TheVariants as out
use Rattle.node_kit.specs.Steps.{Input, stamp_of, Deed}
use Rattle.partial_view.specs.declared.line.Line.{Line}
use Rattle.cub_rules.specs.declared.store.Store.{Store}
use Rattle.cub_rules.specs.Ticks.{inserting}
use Rattle.proof_schedule.specs.Facts.{Facts, BelievedBy, IsFirstLife}
use Rattle.proof_schedule.specs.StateLaws.{Stands}
use Rattle.proof_schedule.specs.StartLaws.{IsInWindow, Waits}
use Rattle.proof_lives.specs.Facts.{TickedAt, TookMessage}
use Rattle.proof_lives.specs.Lives.{Lives, deed_of, store_at, beat_at}
use Rattle.run_facts.specs.Events.{is_tick_input}
use Rattle.lists.specs.Elements.{In}
use Rattle.lists.proofs.Elements.{in_left, in_right}
use Rattle.proof_lives.proofs.Cuts.{was_put_out}
use Rattle.proof_lives.proofs.Inputs.{message_before}
use Rattle.proof_lives.proofs.Inserting.{put_out, IsAt}
use Rattle.proof_lives.proofs.Ticking.{before_inserting, inserted_out, after_insertion_stays}
use Rattle.proof_lives.proofs.Order.{not_behind}
use Rattle.proof_lives.proofs.States.{tick_true, from_tick}
use Rattle.proof_lives.proofs.Seating.{PutOf, IsFull}
use Rattle.proof_lives.proofs.Filling.{inserting_full}
use Rattle.proof_lives.proofs.Waiting.{IsQueued, before_forth}
use Rattle.proof_lives.specs.InOrder.{AreInOrder}
use Rattle.proof_lives.specs.FactsBy.{Beyond, facts_by}
use Rattle.proof_facts.specs.Laws.{ShowsSlot}
use Rattle.proof_cubs.proofs.Setting.{Setting}
use Rattle.proof_cubs.proofs.Believing.{none_apart, apart_at, believes_after, believes_when}
use Rattle.proof_cubs.proofs.Filling.{inserting_full_apart}
use Rattle.proof_cubs.proofs.Inserting.{line_stands}
use Rattle.proof_cubs.proofs.Listing.{IsOut, put_out_by, queued_on, waits_on, start_joins}
use Rattle.proof_lives.proofs.FirstLife.{inserting_first}
use Rattle.proof_lives.proofs.SameLife.{not_back}
use Rattle.cub_changes.proofs.Chains.{deadman_of}

-- A start that stands in a list when a tick begins stands in one when insertion begins.
before_queued : (p : Params) (c : ℕ) (stamp : Stamp) (h : Store) (a : Ask) → IsQueued a h.starts
    → IsQueued a (before_inserting p c stamp h).starts
before_queued p c stamp h a k =
    deadman_of p c stamp (λ (d : Deed Msg Store). IsQueued a d.state.starts) h
    (λ _. inl (⊎_elim (λ w. in_left a h.starts.waiting h.starts.redundant w) (λ w. in_right a h.starts.waiting h.starts.redundant w) k))
    (λ _. k)

module _ (p : Params) (lives : Lives) (beyond : Beyond) (set : Setting p lives beyond)
    (orders : List Order) (order : AreInOrder p lives beyond orders) where
  abbrev R : Facts
  R = facts_by p lives beyond

  abbrev Out : ℕ → ℕ → ℕ → Type 0
  Out c v b = IsOut p lives beyond set orders order c v b

  -- What the cub keeps when insertion begins at a tick.
  abbrev ready : {c b l : ℕ} → TickedAt p lives c b l → Store
  ready {c} {b} {l} w = before_inserting p c (record { beat = b; reading = l }) (store_at p c (lives.input c) w.at)

  -- The lines when insertion ends.
  abbrev filled : {c b l : ℕ} → TickedAt p lives c b l → List Line
  filled {c} {b} {l} w = (inserting p c (record { beat = b; reading = l }) (ready w)).state.view.lines

  in_beat : {c b l : ℕ} (w : TickedAt p lives c b l) → beat_at (lives.input c) w.at ≡ b
  in_beat w = ap (λ (i : Input Msg). (stamp_of i).beat) w.is

  -- A message came before each tick of its beat, or of a higher one.
  start_before : {c b l y : ℕ} {m : Msg} (w : TickedAt p lives c b l) (g : TookMessage p lives c m y) → y ≤ b
      → g.at < w.at
  start_before {c} {b} {l} {y} w g le =
      let wb = in_beat w in
      let gb : beat_at (lives.input c) g.at ≡ y = ap (λ (i : Input Msg). (stamp_of i).beat) g.is in
      let tick = tick_true (lives.input c) w.at (record { beat = b; reading = l }) w.is in
      message_before p lives set.lived c w.at g.at w.small w.done g.done tick (ap is_tick_input g.is) (omega arith)

  -- A cub that is in its first life at a tick had not come back before any input.
  first_at : {c b l : ℕ} (w : TickedAt p lives c b l) → IsFirstLife R c b → (k : ℕ)
      → (store_at p c (lives.input c) k).comeback ≡ None
  first_at {c} {b} {l} w first k =
      not_back p lives beyond set.lived set.fits c w.at k w.small w.done (subst (λ n. IsFirstLife R c n) (sym (in_beat w)) first)

  -- A plain start waits when insertion begins, or its instance is out.
  plain_waits : {c b l y : ℕ} {ask : Ask} (w : TickedAt p lives c b l) → IsFirstLife R c b
      → TookMessage p lives c (msg.Start false ask) y
      → y ≤ b → In ask (ready w).starts.waiting ⊎ Out c ask.instance.0 b
  plain_waits {c} {b} {l} {y} {ask} w first g le =
      let stamp : Stamp = record { beat = b; reading = l } in
      let wb = in_beat w in
      let gb : beat_at (lives.input c) g.at ≡ y = ap (λ (i : Input Msg). (stamp_of i).beat) g.is in
      let before = start_before w g le in
      ⊎_elim
      (λ q. ⊎_elim
      (λ v. ⊎_elim
      (λ k. inl (before_forth p c stamp (store_at p c (lives.input c) w.at) ask k))
      (λ k. inr k)
      (waits_on p lives beyond set orders order c b w.at ask w.small w.done (omega arith) w.at (suc g.at) (omega arith)
      (omega arith) v))
      (λ v. let apart : false ≡ true = v.0 in absurd (cc))
      q)
      (λ q. inr q)
      (start_joins p lives beyond set orders order c g.at b ask (record { beat = y; reading = g.reading }) g.link
      false w.small g.done (omega arith) g.is (first_at w first g.at))

  -- In a first life the cub has not come back when insertion begins.
  ready_first : {c b l : ℕ} (w : TickedAt p lives c b l) → IsFirstLife R c b → (ready w).comeback ≡ None
  ready_first {c} {b} {l} w first =
      inserting_first p c (record { beat = b; reading = l }) (store_at p c (lives.input c) w.at) (first_at w first w.at)

  -- Belief that was written by a tick is there when insertion begins.
  believes_at : {c b l : ℕ} (w : TickedAt p lives c b l) → BelievedBy R c b → (ready w).believes ≡ true
  believes_at {c} {b} {l} w k =
      let inputs : ℕ → Input Msg = lives.input c in
      let stamp : Stamp = record { beat = b; reading = l } in
      let d = k.believed.did in
      let by = k.by in
      let db = d.in_beat in
      let wb = in_beat w in
      let tick = tick_true inputs w.at stamp w.is in
      let low = not_behind p (lives.count c) inputs (set.lived c w.small) d.at w.at w.done d.done tick (omega arith) in
      believes_when p c inputs w.at stamp w.is
      (believes_after p c inputs (suc w.at) d.at k.believed.cub (omega arith)
      (was_put_out p lives c d.at (out.Act (what.Believed k.believed.cub)) d.did))

  -- A redundant start waits then too if the cub believes its predecessor dead, or its instance is out.
  redundant_waits : {c b l y : ℕ} {ask : Ask} (w : TickedAt p lives c b l) → IsFirstLife R c b
      → TookMessage p lives c (msg.Start true ask) y → y ≤ b → (ready w).believes ≡ true
      → In ask (ready w).starts.waiting ⊎ Out c ask.instance.0 b
  redundant_waits {c} {b} {l} {y} {ask} w first g le believes =
      let inputs : ℕ → Input Msg = lives.input c in
      let stamp : Stamp = record { beat = b; reading = l } in
      let store : Store = store_at p c inputs w.at in
      let wb = in_beat w in
      let gb : beat_at (lives.input c) g.at ≡ y = ap (λ (i : Input Msg). (stamp_of i).beat) g.is in
      let before = start_before w g le in
      let none = none_apart p c stamp store (apart_at p c inputs w.at) believes in
      ⊎_elim
      (λ q. ⊎_elim
      (λ k. inl (⊎_elim
      (λ v. v)
      (λ v. absurd (subst (λ (xs : List Ask). In ask xs) none v))
      (before_queued p c stamp store ask k)))
      (λ k. inr k)
      (queued_on p lives beyond set orders order c b w.at ask w.small w.done (omega arith) w.at (suc g.at)
      (omega arith) (omega arith) (⊎_elim (λ v. inl v) (λ v. inr v.1) q)))
      (λ q. inr q)
      (start_joins p lives beyond set orders order c g.at b ask (record { beat = y; reading = g.reading }) g.link
      true w.small g.done (omega arith) g.is (first_at w first g.at))

  -- A line stands at visit n of slot s when insertion ends.
  abbrev HasLine : {c b l : ℕ} → TickedAt p lives c b l → ℕ → ℕ → Type 0
  HasLine w s n = (x : Line) × In x (filled w) × IsAt s n x

  -- Of a visit in the window that is so if its disk is full, and else the start was put.
  line_or_out : {c b l : ℕ} (ask : Ask) (s n : ℕ) (w : TickedAt p lives c b l) → s < p.slots → IsInWindow p l s n
      → PutOf ask (inserting p c (record { beat = b; reading = l }) (ready w)).outs
      ⊎ IsFull p l (disk_of p n) (filled w)
      → HasLine w s n ⊎ Out c ask.instance.0 b
  line_or_out {c} {b} {l} ask s n w slot window k = ⊎_elim
      (λ v.
      let stamp : Stamp = record { beat = b; reading = l } in
      let wb = in_beat w in
      let o = inserted_out p c stamp (store_at p c (lives.input c) w.at) (put_out v.0) v.1 in
      inr (put_out_by p lives beyond set orders order c w.at b ask w.small w.done w.whole (omega arith)
      (v.0, from_tick p c (lives.input c) w.at stamp (put_out v.0) w.is o, v.2)))
      (λ v. inl (v s n slot refl window.0 window.1))
      k

  -- While a start waits a line stands at each visit of its disk in the window, or the instance is out.
  has_line : {c : ℕ} {ask : Ask} {y b l : ℕ} (s n : ℕ) (w : TickedAt p lives c b l) → Waits p R c ask n y b → y ≤ b
      → IsFirstLife R c b → s < p.slots → IsInWindow p l s n → HasLine w s n ⊎ Out c ask.instance.0 b
  has_line {c} {ask} {y} {b} {l} s n w k le first slot window =
      let stamp : Stamp = record { beat = b; reading = l } in
      ⊎_elim
      (λ q. ⊎_elim
      (λ v. line_or_out ask s n w slot window
      (inserting_full p c stamp set.plan n ask (ready w) (ready_first w first) q.1 v k.disk))
      (λ v. inr v)
      (plain_waits w first q.0 le))
      (λ q.
      let believes = believes_at w q.2 in
      ⊎_elim
      (λ v. line_or_out ask s n w slot window
      (inserting_full_apart p c stamp set.plan n ask (ready w) (ready_first w first) q.1 believes v k.disk))
      (λ v. inr v)
      (redundant_waits w first q.0 le believes))
      k.how

  -- The record of that line stands there, as the laws have it.
  pub waits : {c : ℕ} {ask : Ask} {y b l : ℕ} (s n : ℕ) → Waits p R c ask n y b → y ≤ b → TickedAt p lives c b l
      → IsFirstLife R c b → s < p.slots → IsInWindow p l s n → Stands p R c s n b ⊎ Out c ask.instance.0 b
  waits {c} {ask} {y} {b} {l} s n k le w first slot window = ⊎_elim
      (λ x. inl (line_stands p lives beyond set c w.at b s n (record { beat = b; reading = l }) x.0 w.small w.done w.is
      w.whole (in_beat w) x.1 x.2))
      (λ o. inr o)
      (has_line s n w k le first slot window)

  -- Since a visit in the window is not due yet, its line is shown after the tick.
  line_shown : {c b l : ℕ} (s n : ℕ) (w : TickedAt p lives c b l) → IsInWindow p l s n → HasLine w s n
      → ShowsSlot R c s n b
  line_shown {c} {b} {l} s n w window x =
      let inputs : ℕ → Input Msg = lives.input c in
      let stamp : Stamp = record { beat = b; reading = l } in
      let h : Store = store_at p c inputs w.at in
      let late = window.1 in
      let same : due p x.0.rec.tenancy.slot.0 x.0.rec.visit ≡ due p s n =
      ap (λ k. due p k x.0.rec.visit) x.2.0 ∙ ap (λ k. due p s k) x.2.1 in
      ⊎_elim
      (λ v. record {
        holder = v.line.rec.tenancy;
        slot = ap (λ (r : Rec). r.tenancy.slot.0) v.same ∙ x.2.0;
        shows = record {
          reading = l;
          ticked = w;
          line = v.line;
          there = subst (λ (k : Input Msg). In v.line (deed_of p c k h).state.view.lines) (sym w.is) v.there;
          tenancy = refl;
          visit = ap (λ (r : Rec). r.visit) v.same ∙ x.2.1;
        };
      })
      (λ d. absurd (omega arith))
      (after_insertion_stays p c stamp h x.0 x.1)

  -- So the cub's view shows such a record.
  pub waits_shown : {c : ℕ} {ask : Ask} {y b l : ℕ} (s n : ℕ) → Waits p R c ask n y b → y ≤ b
      → TickedAt p lives c b l → IsFirstLife R c b → s < p.slots → IsInWindow p l s n → ShowsSlot R c s n b ⊎ Out c ask.instance.0 b
  waits_shown s n k le w first slot window = ⊎_elim
      (λ x. inl (line_shown s n w window x))
      (λ o. inr o)
      (has_line s n w k le first slot window)
